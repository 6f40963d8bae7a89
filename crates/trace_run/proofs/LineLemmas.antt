-- A caller's line over the shared cache, by what its read came to.
use Rattle.std.proofs.Common.{◌≡◌, ◌≢◌, ℕ, ◌==◌, nat_lt, Bool, if◌then◌else◌, List, [], ◌∷◌, ◌++◌, map, Option, Some, None, Result, Ok, Err, inl, inr, refl, sym, ap, ◌∙◌, subst, arith, append-nil, eq-eqb, ne_eqb}
use Rattle.std.specs.Prelude.{IfOk, IfSome, slice_get}
use Rattle.std.specs.Option.{option_map_or}
use Rattle.std.proofs.lemmas.Bool.{eqb-true}
use Rattle.std.proofs.lemmas.List.{map-append}
use mathlib.Core.Logic.{dite}
use native.Mathlib.Decide.{ℕ_discrete}
use Rattle.arc_lists.proofs.Tables.{cases_true}
use Rattle.blk_ptr.specs.declared.key.Key.{Key}
use Rattle.blk_ptr.specs.declared.ptr.Ptr.{Ptr}
use Rattle.blk_ptr.specs.Hash.{shard_of}
use Rattle.blk_ptr.specs.declared.memory.NoMemory.{NoMemory}
use Rattle.vdev_io.specs.declared.pool.Pool.{Ghosts}
use Rattle.arc_core.specs.Config.{IsConfig}
use Rattle.arc_core.specs.declared.config.Config.{Config}
use Rattle.arc_core.specs.declared.event.Event.{Event}
use Rattle.arc_core.specs.declared.event.Event.TheVariants.{Drop}
use Rattle.arc_core.specs.declared.served.ReadFault.{ReadFault}
use Rattle.arc_core.specs.declared.served.ReadFault.TheVariants as fault
use Rattle.arc_core.specs.declared.served.Served.{Served}
use Rattle.arc_core.specs.declared.served.Served.TheVariants as served
use Rattle.arc_core.specs.Operations.{Act, Fails, IsHonest, IsServed, Keeps, Moment, Reads, act_key, actor_of}
use Rattle.dbuf_cells.specs.declared.kept.Kept.{Kept}
use Rattle.dbuf_cells.specs.declared.kept.Kept.TheVariants.{Held, Loose}
use Rattle.dbuf_state.specs.declared.window.Window.{Window}
use Rattle.arc_core.specs.PlainShard.{PlainShard}
use Rattle.turn_table.specs.Places.{Place}
use Rattle.arc_table.specs.declared.view.Known.{Known}
use Rattle.arc_table.specs.Both.{Does}
use Rattle.arc_table.specs.Items.{Meanings}
use Rattle.vdev_io.specs.Calls.{KeepsPool, MakesCalls, Call}
use Rattle.trace_text.specs.Grammar.{block_of}
use Rattle.trace_text.specs.declared.op.Op.{Op}
use Rattle.trace_text.specs.declared.op.Op.TheVariants as ops
use Rattle.trace_text.specs.declared.reply.Refusal.{Refusal}
use Rattle.trace_text.specs.declared.reply.Refusal.TheVariants as refusals
use Rattle.trace_text.specs.declared.reply.Reply.{Reply}
use Rattle.trace_text.specs.declared.reply.Reply.TheVariants.{Dropped, Refused}
use Rattle.trace_run.specs.KeptReads.{KeptRead}
use Rattle.trace_run.specs.one_caller.Access as access
use Rattle.trace_run.specs.one_caller.Access.{Access, MayComeFrom, events_of_answered, events_of_drop, held_by_access as access_key}
use Rattle.trace_run.specs.Acts.{acts_of, acts_of_drop, acts_of_dropping, acts_of_hold, acts_of_read}
use Rattle.trace_run.specs.Answering.{KeepsImage, ReadsImage}
use Rattle.trace_run.specs.Answers.{AnswersDrop, AnswersHold, AnswersRead}
use Rattle.trace_run.specs.Effects.{Effect, Answered, GivenBack, PoolRefused, NoEffect, calls_of, effect_of}
use Rattle.trace_run.specs.callers.CallerLines.{DidLine, DidThere, at}
use Rattle.trace_run.specs.KeptBlocks.{Drops, GivesKeptBack, IsOwnedBy, held_key}
use Rattle.trace_run.specs.Lines.{is_in_shard, shard_of_block}
use Rattle.trace_run.specs.one_caller.OneCaller.{NamesSource, events_of_op, events_of_dropping, events_of_hold, events_of_read, events_of_op_in, is_of_block, kept_after, kept_after_drop, kept_after_hold, key_held_by, oldest_key, without_oldest}
use Rattle.trace_run.specs.one_caller.OverShards.{AreNamed, IsNamed}
use Rattle.trace_run.specs.Reads.{CameFromPool, DidAct, DidActs, DidAnswer, DidRead, IsRefused, access_now, now_of}
use Rattle.arc_table.specs.Seen.{AddsAll, HasAll, seen_of}
use Rattle.trace_run.specs.Tally.{kept_of_block}
use Rattle.trace_run.specs.Deeds.{HasToldAll}
use Rattle.trace_run.specs.Making.{HasSeenItsEvents}
use Rattle.trace_run.proofs.deeds.DeedLemmas.{told-own}
use Rattle.trace_run.proofs.deeds.MakesLemmas.{keeps-none, same-then}
use Rattle.trace_run.proofs.GetLemmas.{all-last}
use Rattle.trace_run.proofs.MoveLemmas.{Moves, one-moves}
use Rattle.arc_table.proofs.reads.ReadMoments.{moment}
use Rattle.trace_run.proofs.RunLemmas.{told-all}
use Rattle.arc_table.proofs.ToldLemmas.{adds-all-then, adds-own-then, told-more}

module _ {C : Type 0} (g : Config) (p q : Place (Known C)) where
  -- nothing was done
  pub acts-none : (shard : ℕ) → q ≡ p → DidActs g shard [] [] p q
  acts-none shard is = subst (DidActs g shard [] [] p) (sym is) (record {
    number = refl;
    told = λ before noted told. subst (λ (l : List Act). HasToldAll g l noted p) (sym (append-nil before)) told;
    keeps = keeps-none g p;
    cells = λ i in_range. refl;
    alone = λ a. record { number = refl; here = sym (append-nil (seen_of g shard p)); others = λ j differs. refl };
    all = λ all. all;
    joined = refl;
  })

  -- one act was done
  pub acts-one : (act : Act) (es : List Event) → actor_of act ≡ p.number → DidAct g act es p q → DidActs g (shard_of g.shards (act_key act)) (act ∷ []) es p q
  acts-one act es his did = record {
    number = did.own.number;
    told = λ before noted told. told-own g before (act ∷ []) noted p q (his, tt) (told-more g before act did.made p q his told.acts did.own did.act_is) did.same told;
    keeps = did.same.keeps;
    cells = did.cells;
    alone = did.alone;
    all = did.all;
    joined = did.joined;
  }

  module _ (t : ℕ) (ptr : Ptr) where
    abbrev shard : ℕ
    shard = shard_of g.shards ptr.key

    -- a read that was kept, and one that was refused
    pub hold-did : (from : Served) → DidAnswer g t ptr from p q → DidActs g shard (Keeps p.number t ptr from ∷ []) (events_of_answered p.number t ptr from (access_now g ptr p)) p q
    hold-did from did = acts-one (Keeps p.number t ptr from) _ refl did.act

    pub hold-refused : (why : ReadFault) (refusal : Refusal) → IsRefused why refusal → DidRead g t ptr p q (Err why)
        → DidActs g shard (acts_of_hold p.number t ptr (effect_of (Refused refusal))) (events_of_hold p.number t (now_of g shard p) ptr (effect_of (Refused refusal))) p q
    hold-refused (fault.PoolFault) refusal is did = subst (λ (r : Refusal). DidActs g shard (acts_of_hold p.number t ptr (effect_of (Refused r))) (events_of_hold p.number t (now_of g shard p) ptr (effect_of (Refused r))) p q) (sym is) (acts-one (Fails p.number t ptr) _ refl did.act)
    hold-refused (fault.Mismatch found) refusal is did = subst (λ (r : Refusal). DidActs g shard (acts_of_hold p.number t ptr (effect_of (Refused r))) (events_of_hold p.number t (now_of g shard p) ptr (effect_of (Refused r))) p q) (sym is) (acts-one (Fails p.number t ptr) _ refl did.act)
    hold-refused (fault.Key why) refusal is did = subst (λ (r : Refusal). DidActs g shard (acts_of_hold p.number t ptr (effect_of (Refused r))) (events_of_hold p.number t (now_of g shard p) ptr (effect_of (Refused r))) p q) (sym is) (acts-none shard did)
    hold-refused (fault.NoMemory) refusal is did = absurd is

    pub read-refused : (why : ReadFault) (refusal : Refusal) → IsRefused why refusal → DidRead g t ptr p q (Err why)
        → DidActs g shard (acts_of_read p.number t ptr (effect_of (Refused refusal))) (events_of_read p.number t (now_of g shard p) ptr (effect_of (Refused refusal))) p q
    read-refused (fault.PoolFault) refusal is did = subst (λ (r : Refusal). DidActs g shard (acts_of_read p.number t ptr (effect_of (Refused r))) (events_of_read p.number t (now_of g shard p) ptr (effect_of (Refused r))) p q) (sym is) (acts-one (Fails p.number t ptr) _ refl did.act)
    read-refused (fault.Mismatch found) refusal is did = subst (λ (r : Refusal). DidActs g shard (acts_of_read p.number t ptr (effect_of (Refused r))) (events_of_read p.number t (now_of g shard p) ptr (effect_of (Refused r))) p q) (sym is) (acts-one (Fails p.number t ptr) _ refl did.act)
    read-refused (fault.Key why) refusal is did = subst (λ (r : Refusal). DidActs g shard (acts_of_read p.number t ptr (effect_of (Refused r))) (events_of_read p.number t (now_of g shard p) ptr (effect_of (Refused r))) p q) (sym is) (acts-none shard did)
    read-refused (fault.NoMemory) refusal is did = absurd is

-- ---- a read whose hold is given back at once

-- what a read holds that is alone
source-key : (ptr : Ptr) (a : Access) (from : Served) → MayComeFrom a from → key_held_by ptr from ≡ access_key ptr a
source-key ptr access.Hit from is = ap (key_held_by ptr) is
source-key ptr (access.Past kept) from is = ap (key_held_by ptr) is
source-key ptr access.Miss from is = elim is [
  | inl pool ↦ ap (key_held_by ptr) pool
  | inr l2 ↦ ap (key_held_by ptr) l2
]

-- what holds no entry was read past the cache
loose-past : (ptr : Ptr) (from : Served) → None ≡ key_held_by ptr from → from ≡ served.Past
loose-past ptr served.Hit none = cc
loose-past ptr served.Pool none = cc
loose-past ptr served.L2 none = cc
loose-past ptr served.Past none = refl

module _ {C : Type 0} (m : Meanings C) (g : Config) (valid : IsConfig g) (t : ℕ) (ptr : Ptr) (p r q : Place (Known C)) (config : r.own.about.config ≡ g) (seen : HasSeenItsEvents g r) where
  abbrev here : ℕ
  here = shard_of g.shards ptr.key

  abbrev events : Served → List Event
  events from = events_of_answered p.number t ptr from (access_now g ptr p) ++ events_of_drop p.number (access_key ptr (access_now g ptr p))

  -- a block that nothing holds is let go: it was read past the cache
  past-act : DidAnswer g t ptr served.Past p r → DidAct g (Reads p.number t ptr served.Past) (events served.Past) p r
  past-act did = record {
    made = did.act.made;
    own = did.act.own;
    act_is = record { events = did.act.act_is.events; digests = did.act.act_is.digests };
    alone = λ a. subst (λ (es : List Event). AddsAll g here es p r)
        (sym (ap (λ (o : Option Key). events_of_answered p.number t ptr served.Past (access_now g ptr p) ++ events_of_drop p.number o) (sym (source-key ptr (access_now g ptr p) served.Past (did.source a)))
        ∙ append-nil (events_of_answered p.number t ptr served.Past (access_now g ptr p))))
        (did.act.alone a);
    all = did.act.all;
    joined = did.act.joined;
    same = did.act.same;
    cells = did.act.cells;
  }

  read-loose : (from : Served) → None ≡ key_held_by ptr from → DidAnswer g t ptr from p r → q ≡ r → DidAct g (Reads p.number t ptr from) (events from) p q
  read-loose from none did is =
      let past : from ≡ served.Past = loose-past ptr from none in
      subst (λ (x : Served). DidAct g (Reads p.number t ptr x) (events x) p q) (sym past)
      (subst (λ (x : Place (Known C)). DidAct g (Reads p.number t ptr served.Past) (events served.Past) p x) (sym is)
      (past-act (subst (λ (x : Served). DidAnswer g t ptr x p r) past did)))

  -- an access that was served, and then its drop
  served-drop : (from : Served) → Some ptr.key ≡ key_held_by ptr from → (ms : List Moment) (s : PlainShard) → IsServed p.number t ptr from [] (map (λ (x : Moment). x.event) ms)
      → IsServed p.number t ptr from (Drop p.number ptr.key ∷ []) (map (λ (x : Moment). x.event) (ms ++ moment s (Drop p.number ptr.key) ∷ []))
  served-drop served.Hit is ms s h = map-append (λ (x : Moment). x.event) ms _ ∙ ap (λ (l : List Event). l ++ Drop p.number ptr.key ∷ []) h
  served-drop served.Pool is ms s h = map-append (λ (x : Moment). x.event) ms _ ∙ ap (λ (l : List Event). l ++ Drop p.number ptr.key ∷ []) h
  served-drop served.L2 is ms s h = map-append (λ (x : Moment). x.event) ms _ ∙ ap (λ (l : List Event). l ++ Drop p.number ptr.key ∷ []) h
  served-drop served.Past is ms s h = cc

  read-held : (from : Served) → Some ptr.key ≡ key_held_by ptr from → DidAnswer g t ptr from p r → Does m g ptr.key (Drop p.number ptr.key ∷ []) r q → DidAct g (Reads p.number t ptr from) (events from) p q
  read-held from key did d =
      let number : r.number ≡ p.number = did.act.own.number in
      let drop : Moves g here (moment d.before.now (Drop p.number ptr.key) ∷ []) (Drop p.number ptr.key ∷ []) r q = one-moves m g valid ptr.key r q config seen (Drop p.number ptr.key) (sym number) refl d in
      record {
        made = did.act.made ++ moment d.before.now (Drop p.number ptr.key) ∷ [];
        own = adds-own-then g here did.act.made (moment d.before.now (Drop p.number ptr.key) ∷ []) p r q did.act.own drop.own;
        act_is = record {
          events = served-drop from key did.act.made d.before.now did.act.act_is.events;
          digests = all-last (IsHonest (Some ptr.digest)) did.act.made (moment d.before.now (Drop p.number ptr.key)) did.act.act_is.digests tt;
        };
        alone = λ a.
            let held : access_key ptr (access_now g ptr p) ≡ Some ptr.key = sym (source-key ptr (access_now g ptr p) from (did.source a)) ∙ sym key in
            subst (λ (o : Option Key). AddsAll g here (events_of_answered p.number t ptr from (access_now g ptr p) ++ events_of_drop p.number o) p q) (sym held)
            (adds-all-then g here (events_of_answered p.number t ptr from (access_now g ptr p)) (Drop p.number ptr.key ∷ []) p r q (did.act.alone a) (drop.alone (did.act.all a)));
        all = λ all. drop.all (did.act.all all);
        joined = drop.joined ∙ did.act.joined;
        same = same-then g p r q did.act.same drop.same;
        cells = λ i in_range. drop.cells i in_range ∙ did.act.cells i in_range;
      }

  -- what is kept of it is given back
  pub read-given : (from : Served) (kept : Kept) → IsOwnedBy r.number kept → held_key kept ≡ key_held_by ptr from → DidAnswer g t ptr from p r → GivesKeptBack m g kept r q
      → DidActs g here (Reads p.number t ptr from ∷ []) (events from) p q
  read-given from (Loose key block) owned is did gives = acts-one g p q (Reads p.number t ptr from) (events from) refl (read-loose from is did gives)
  read-given from (Held hold) owned is did gives =
      let key : hold.key ≡ ptr.key = held-same ptr hold.key from is in
      let owner : hold.owner ≡ p.number = owned ∙ did.act.own.number in
      acts-one g p q (Reads p.number t ptr from) (events from) refl
      (read-held from (sym (ap (λ (k : Key). Some k) key) ∙ is) did (subst (λ (x : ℕ × Key). Does m g x.1 (Drop x.0 x.1 ∷ []) r q) (λ i. (owner i, key i)) gives))
    where
      held-same : (ptr : Ptr) (k : Key) (from : Served) → Some k ≡ key_held_by ptr from → k ≡ ptr.key
      held-same ptr k served.Hit is = cc
      held-same ptr k served.Pool is = cc
      held-same ptr k served.L2 is = cc
      held-same ptr k served.Past is = cc

-- ---- a kept read holds the entry of its own block

named-without : (blocks : List Ptr) (x : ℕ) (kept : List KeptRead) → AreNamed blocks kept → AreNamed blocks (without_oldest x kept)
named-without blocks x [] all = tt
named-without blocks x (read ∷ reads) all = elim (cases_true (is_of_block x read)) [
  | inl same ↦ rw same all.1
  | inr other ↦ rw other (all.0, named-without blocks x reads all.1)
]

named-hold : (blocks : List Ptr) (x : ℕ) (ptr : Ptr) (e : Effect) (kept : List KeptRead) → slice_get blocks x ≡ Some ptr → AreNamed blocks kept → AreNamed blocks (kept_after_hold x ptr e kept)
named-hold blocks x ptr (Answered served.Hit) kept there all = all-last (IsNamed blocks) kept _ all (ptr, there, refl)
named-hold blocks x ptr (Answered served.Pool) kept there all = all-last (IsNamed blocks) kept _ all (ptr, there, refl)
named-hold blocks x ptr (Answered served.L2) kept there all = all-last (IsNamed blocks) kept _ all (ptr, there, refl)
named-hold blocks x ptr (Answered served.Past) kept there all = all-last (IsNamed blocks) kept _ all tt
named-hold blocks x ptr GivenBack kept there all = all
named-hold blocks x ptr (PoolRefused call) kept there all = all
named-hold blocks x ptr NoEffect kept there all = all

named-drop : (blocks : List Ptr) (x : ℕ) (e : Effect) (kept : List KeptRead) → AreNamed blocks kept → AreNamed blocks (kept_after_drop x e kept)
named-drop blocks x (Answered from) kept all = all
named-drop blocks x GivenBack kept all = named-without blocks x kept all
named-drop blocks x (PoolRefused call) kept all = all
named-drop blocks x NoEffect kept all = all

-- so it is after a line too
pub named-after : (blocks : List Ptr) (op : Op) (reply : Reply) (kept : List KeptRead) → AreNamed blocks kept → AreNamed blocks (kept_after blocks op reply kept)
named-after blocks (ops.Hold n t x) reply kept all = go (slice_get blocks x) refl
  where
    go : (o : Option Ptr) → slice_get blocks x ≡ o → AreNamed blocks (option_map_or (λ ptr. kept_after_hold x ptr (effect_of reply) kept) o kept)
    go None is = all
    go (Some ptr) is = named-hold blocks x ptr (effect_of reply) kept is all
named-after blocks (ops.Drop n x) reply kept all = named-drop blocks x (effect_of reply) kept all
named-after blocks other reply kept all = all

oldest-named : (blocks : List Ptr) (x : ℕ) (kept : List KeptRead) (k : Key) → AreNamed blocks kept → oldest_key x kept ≡ Some k → (ptr : Ptr) × (slice_get blocks x ≡ Some ptr) × (k ≡ ptr.key)
oldest-named blocks x [] k all is = let never : ◌≡◌ {A = Option Key} None (Some k) = is in cc
oldest-named blocks x (read ∷ reads) k all is = elim (cases_true (is_of_block x read)) [
  | inl same ↦
      let held : read.held ≡ Some k = rw same at is in
      subst (λ (b : ℕ). (ptr : Ptr) × (slice_get blocks b ≡ Some ptr) × (k ≡ ptr.key)) (eqb-true read.block x same)
      (subst (λ (o : Option Key). IfSome o (λ k. (ptr : Ptr) × (slice_get blocks read.block ≡ Some ptr) × (k ≡ ptr.key))) held all.0)
  | inr other ↦ oldest-named blocks x reads k all.1 (rw other at is)
]

-- ---- what a line on a block did, shard by shard

module _ {C : Type 0} (g : Config) (blocks : List Ptr) (kept : List KeptRead) (op : Op) (reply : Reply) (x : ℕ) (on : block_of op ≡ Some x) (p q : Place (Known C)) where
  abbrev its : ℕ
  its = shard_of_block g.shards blocks x

  in-it : (shard : ℕ) → is_in_shard g.shards blocks shard op ≡ (its == shard)
  in-it shard = ap (λ (o : Option ℕ). option_map_or (λ (y : ℕ). shard_of_block g.shards blocks y == shard) o (nat_lt shard g.shards)) on

  pub there-of : (acts : List Act) (es : List Event) → acts ≡ acts_of blocks kept op reply → es ≡ events_of_op blocks (now_of g its p) kept op reply → DidActs g its acts es p q → DidThere g blocks kept op reply p q
  there-of acts es same_acts same_events did = record {
    number = did.number;
    told = λ before noted told. subst (λ (l : List Act). HasToldAll g (before ++ l) noted q) same_acts (did.told before noted told);
    alone = λ alone shard.
        let adds = did.alone alone in
        let there : Bool → List Event = λ b. if b then events_of_op blocks (now_of g shard p) kept op reply else [] in
        dite (ℕ_discrete its shard)
        (λ is.
        subst (λ (n : ℕ). seen_of g n q ≡ seen_of g n p ++ events_of_op_in g.shards blocks n (now_of g n p) kept op reply) is
        (adds.here ∙ ap (λ (l : List Event). seen_of g its p ++ l) (same_events ∙ sym (ap (λ (b : Bool). if b then events_of_op blocks (now_of g its p) kept op reply else []) (in-it its ∙ eq-eqb its its refl)))))
        (λ differs.
        adds.others shard (λ e. differs (sym e))
        ∙ (sym (append-nil (seen_of g shard p)) ∙ ap (λ (l : List Event). seen_of g shard p ++ l) (sym (ap there (in-it shard ∙ ne_eqb its shard differs)))));
    all = did.all;
    joined = λ his. did.joined;
    keeps = λ his. did.keeps;
    cells = λ his. did.cells;
  }

-- ---- the line of each operation

-- what is so of a block's pointer over a pool that tells its bytes is so by the block's number
told-here : (told : Option (List ℕ)) (F : List ℕ → Ptr → Type 0) (there : Option Ptr) {ptr : Ptr} → there ≡ Some ptr → IfSome told (λ image. F image ptr) → IfSome told (λ image. IfSome there (F image))
told-here None F there at had = tt
told-here (Some image) F there at had = rw at had

module _ {C P : Type 0} (g : Config) (pools : Ghosts P) (blocks : List Ptr) (p q : Place (Known C)) (a b : P) where
  pub read-line : (n t x : ℕ) (window : Window) (ptr : Ptr) (kept : List KeptRead) (result : Result Reply NoMemory) → n ≡ p.number → slice_get blocks x ≡ Some ptr
      → IfOk result (AnswersRead (pools.size a) (pools.told a) ptr window)
      → IfOk result (λ reply. DidActs g (shard_of g.shards ptr.key) (acts_of_read p.number t ptr (effect_of reply)) (events_of_read p.number t (now_of g (shard_of g.shards ptr.key) p) ptr (effect_of reply)) p q)
      → IfOk result (λ reply. HasAll p → NamesSource (access_now g ptr p) (effect_of reply)) → IfOk result (λ reply. CameFromPool (effect_of reply) → IfSome (pools.told a) (λ image. ReadsImage image ptr window reply))
      → IfOk result (λ reply. MakesCalls pools (calls_of (effect_of reply)) a b) → KeepsPool pools a b
      → IfOk result (λ reply. DidLine g pools blocks (ops.Read n t x window) reply (at p kept a) (at q kept b))
  read-line n t x window ptr kept (Err e) his there answer did found range calls keeps = tt
  read-line n t x window ptr kept (Ok reply) his there answer did found range calls keeps =
      subst (λ (m : ℕ). DidLine g pools blocks (ops.Read m t x window) reply (at p kept a) (at q kept b)) (sym his) (record {
        answer = (ptr, there, answer);
        kept = refl;
        did = there-of g blocks kept (ops.Read p.number t x window) reply x refl p q (acts_of_read p.number t ptr (effect_of reply))
            (events_of_read p.number t (now_of g (shard_of_block g.shards blocks x) p) ptr (effect_of reply)) (rw there refl) (rw there refl) (rw there did);
        found = λ alone. rw there (found alone);
        range = λ came. told-here (pools.told a) (λ image ptr. ReadsImage image ptr window reply) (slice_get blocks x) there (range came);
        calls = calls;
        keeps = keeps;
      })

  pub hold-line : (n t x : ℕ) (ptr : Ptr) (kept now : List KeptRead) (result : Result Reply NoMemory) → n ≡ p.number → slice_get blocks x ≡ Some ptr
      → IfOk result (AnswersHold (pools.size a) (pools.told a) ptr) → IfOk result (λ reply. now ≡ kept_after_hold x ptr (effect_of reply) kept)
      → IfOk result (λ reply. DidActs g (shard_of g.shards ptr.key) (acts_of_hold p.number t ptr (effect_of reply)) (events_of_hold p.number t (now_of g (shard_of g.shards ptr.key) p) ptr (effect_of reply)) p q)
      → IfOk result (λ reply. HasAll p → NamesSource (access_now g ptr p) (effect_of reply)) → IfOk result (λ reply. CameFromPool (effect_of reply) → IfSome (pools.told a) (λ image. KeepsImage image ptr reply))
      → IfOk result (λ reply. MakesCalls pools (calls_of (effect_of reply)) a b) → KeepsPool pools a b
      → IfOk result (λ reply. DidLine g pools blocks (ops.Hold n t x) reply (at p kept a) (at q now b))
  hold-line n t x ptr kept now (Err e) his there answer is did found range calls keeps = tt
  hold-line n t x ptr kept now (Ok reply) his there answer is did found range calls keeps =
      subst (λ (m : ℕ). DidLine g pools blocks (ops.Hold m t x) reply (at p kept a) (at q now b)) (sym his) (record {
        answer = (ptr, there, answer);
        kept = rw there is;
        did = there-of g blocks kept (ops.Hold p.number t x) reply x refl p q (acts_of_hold p.number t ptr (effect_of reply))
            (events_of_hold p.number t (now_of g (shard_of_block g.shards blocks x) p) ptr (effect_of reply)) (rw there refl) (rw there refl) (rw there did);
        found = λ alone. rw there (found alone);
        range = λ came. told-here (pools.told a) (λ image ptr. KeepsImage image ptr reply) (slice_get blocks x) there (range came);
        calls = calls;
        keeps = keeps;
      })

  -- what is dropped is in the shard of the line's block
  drop-did : (n x : ℕ) (kept : List KeptRead) (o : Option Key) → oldest_key x kept ≡ o → AreNamed blocks kept → Drops g o p q
      → DidActs g (shard_of_block g.shards blocks x) (acts_of_drop p.number o) (events_of_drop p.number o) p q
  drop-did n x kept None is named drops = acts-none g p q (shard_of_block g.shards blocks x) drops
  drop-did n x kept (Some k) is named drops =
      let own = oldest-named blocks x kept k named is in
      let here : shard_of g.shards k ≡ shard_of_block g.shards blocks x =
      ap (shard_of g.shards) own.2 ∙ ap (λ (o : Option Ptr). option_map_or (λ (ptr : Ptr). shard_of g.shards ptr.key) o 0) (sym own.1) in
      subst (λ (shard : ℕ). DidActs g shard (acts_of_drop p.number (Some k)) (events_of_drop p.number (Some k)) p q) here
      (record { number = drops.number; told = drops.told; keeps = drops.keeps; cells = drops.cells; alone = λ alone. drops.alone alone; all = drops.all; joined = drops.joined })

  drop-acts : (n x had gave : ℕ) (kept : List KeptRead) (reply : Reply) → AreNamed blocks kept → AnswersDrop had gave x reply → Drops g (oldest_key x kept) p q → (reply ≢ Dropped → oldest_key x kept ≡ None)
      → DidActs g (shard_of_block g.shards blocks x) (acts_of_dropping p.number x kept (effect_of reply)) (events_of_dropping p.number x kept (effect_of reply)) p q
  drop-acts n x had gave kept Dropped named answer drops none = drop-did n x kept (oldest_key x kept) refl named drops
  drop-acts n x had gave kept (Refused (refusals.NoHold block)) named answer drops none =
      acts-none g p q (shard_of_block g.shards blocks x) (subst (λ (o : Option Key). Drops g o p q) (none (λ is. cc)) drops)
  drop-acts n x had gave kept (Refused other) named answer drops none = absurd answer
  drop-acts n x had gave kept other named answer drops none = absurd answer

  pub drop-line : (n x : ℕ) (kept now : List KeptRead) (reply : Reply) → n ≡ p.number → AreNamed blocks kept → AnswersDrop (kept_of_block x kept) 0 x reply → now ≡ kept_after_drop x (effect_of reply) kept
      → Drops g (oldest_key x kept) p q → (reply ≢ Dropped → oldest_key x kept ≡ None) → calls_of (effect_of reply) ≡ [] → DidLine g pools blocks (ops.Drop n x) reply (at p kept a) (at q now a)
  drop-line n x kept now reply his named answer is drops none calls =
      subst (λ (m : ℕ). DidLine g pools blocks (ops.Drop m x) reply (at p kept a) (at q now a)) (sym his) (record {
        answer = answer;
        kept = is;
        did = there-of g blocks kept (ops.Drop p.number x) reply x refl p q _ _ refl refl (drop-acts p.number x (kept_of_block x kept) 0 kept reply named answer drops none);
        found = λ alone. tt;
        range = λ came. told-all (pools.told a) (λ image. Unit {0}) (λ image. tt);
        calls = subst (λ (cs : List Call). MakesCalls pools cs a a) (sym calls) refl;
        keeps = record { size = refl; told = refl; faults = omega arith; others = refl };
      })
