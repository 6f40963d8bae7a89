-- The run of one caller over the shared cache: what its lines and the drops at the end made of each shard, and that this explains the replies.
use Rattle.std.proofs.Common.{◌≡◌, ◌≢◌, ℕ, zero, suc, ◌+◌, ◌<◌, ◌≤◌, ◌==◌, ◌&&◌, cond, Bool, true, false, IsTrue, IfSome, List, [], ◌∷◌, ◌++◌, length, map, get_or, Option, Some, refl, sym, ap, ◌∙◌, subst, inl, inr, eq-eqb, arith, append_assoc}
use Rattle.std.specs.Prelude.{filter, slice_get, sum_by}
use Rattle.std.specs.List.{AllByRecursion, range_with_len}
use Rattle.std.proofs.lemmas.Bool.{eqb-true}
use Rattle.std.proofs.lemmas.List.{length-map}
use Rattle.std.proofs.lemmas.List.Sums.{sum_by-cons}
use mathlib.Core.Logic.{dite}
use mathlib.Core.Option.{some, some-injective, some-ne-none}
use native.Mathlib.Decide.{ℕ_discrete}
use lib.ListN.{get_elem?}
use Rattle.arc_lists.proofs.Tables.{cases_true}
use Rattle.blk_ptr.specs.declared.ptr.Ptr.{Ptr}
use Rattle.blk_ptr.specs.Hash.{shard_of}
use Rattle.vdev_io.specs.declared.pool.Pool.{Ghosts}
use Rattle.arc_core.specs.declared.config.Config.{Config}
use Rattle.arc_core.specs.declared.event.Event.{Event}
use Rattle.arc_core.specs.declared.served.Restored.{Restored}
use Rattle.arc_core.specs.Operations.{Act, HoldEveryCallOnce, IsAtRest, Moment, Tell, actor_of, acts_in, are_passes_placed, has_its_number, is_pool_read, moments, number_of, own_events, own_moments, pool_reads}
use Rattle.arc_core.specs.PlainShard.{PlainShard}
use Rattle.arc_core.specs.Replay.{is_legal_history, replay}
use Rattle.arc_core.specs.ShardLog.{ShardLog}
use Rattle.turn_table.specs.Places.{Place, SomeHas}
use Rattle.arc_table.specs.declared.view.Known.{Known}
use Rattle.arc_table.specs.Cache.{Cache}
use Rattle.arc_table.specs.Ended.{Ended, Ends}
use Rattle.arc_table.specs.Geometry.{parties_of}
use Rattle.arc_table.specs.Items.{Meanings}
use Rattle.arc_table.proofs.TableLaws.{there}
use Rattle.trace_text.specs.declared.op.Op.{Op}
use Rattle.trace_text.specs.declared.op.Op.TheVariants as ops
use Rattle.trace_text.specs.declared.reply.Reply.{Reply}
use Rattle.trace_text.specs.declared.trace.Trace.{Trace}
use Rattle.trace_text.specs.Grammar.{IsFormed}
use Rattle.arc_check.specs.Judging.{end_of}
use Rattle.trace_run.specs.KeptReads.{KeptRead}
use Rattle.trace_run.specs.declared.kept_blocks.KeptBlock.{KeptBlock}
use Rattle.trace_run.specs.Acts.{acts_of_all, acts_of_caller, acts_of_callers, acts_of_drops, events_of_feeds}
use Rattle.trace_run.specs.one_caller.Alone.{RanAlone, ends_in, histories_of}
use Rattle.trace_run.specs.callers.CallerLines.{At, DidLines, HasFed, at}
use Rattle.trace_run.specs.Effects.{calls_of_all}
use Rattle.trace_run.specs.Ends.{ends_of}
use Rattle.arc_table.specs.Telling.{opening_of}
use Rattle.trace_run.specs.Explaining.{BeginsWithEvents, EndsWith, ExplainReads, drops_at_end}
use Rattle.trace_run.specs.KeptBlocks.{DroppedAlone, GivesAll, Stands, held_in_shard, read_of}
use Rattle.trace_run.specs.Lines.{caller_of, is_in_shard, is_of_caller, replies_where, shard_of_block, shard_of_line}
use Rattle.trace_run.specs.one_caller.OneCaller.{AreFoundAs, IsFoundAs, events_of_drops, kept_after, kept_after_all, one_caller_history, only_feeder}
use Rattle.trace_run.specs.Opened.{HasJoined}
use Rattle.trace_run.specs.one_caller.OverShards.{AllLinesOver, AreNamed, events_over, kept_in_shard, shards_after_op}
use Rattle.trace_run.specs.Reads.{now_of}
use Rattle.trace_run.specs.Restores.{events_by_feeder, restored_shard, restores_in}
use Rattle.arc_table.specs.Seen.{HasAll, seen_of}
use Rattle.trace_run.specs.FeedEvents.{feeds_told, is_fed}
use Rattle.trace_run.specs.Feeds.{is_feed}
use Rattle.trace_run.specs.Tally.{AnswersNow, AreAnswered, IsOfCaller}
use Rattle.arc_table.specs.Told.{IsTold}
use Rattle.trace_run.specs.Deeds.{HasToldAll}
use Rattle.trace_run.specs.Making.{AreNoEntries, MadeItsOwn}
use Rattle.trace_run.proofs.MappedLemmas.{ran-mapped}
use Rattle.trace_run.proofs.callers.CallerActLemmas.{callers-none, own-lines}
use Rattle.trace_run.proofs.deeds.OwnAlone.{own-alone}
use Rattle.trace_run.proofs.feeds.FedLemmas.{lines-unfed}
use Rattle.trace_run.proofs.FeederLemmas.{given-unread, own-restores, restores-given}
use Rattle.trace_run.proofs.GiveLemmas.{all-alone, all-keep, all-number, all-told}
use Rattle.trace_run.proofs.callers.GroupCounts.{caller-reads, reads_by}
use Rattle.trace_run.proofs.callers.GroupLemmas.{lines-answers, lines-number}
use Rattle.trace_run.proofs.theorem.HistoryLemmas.{IsReadEvent, read-number}
use Rattle.trace_run.proofs.LinesLemmas.{lines-all, lines-answered, lines-calls, lines-found, lines-kept, lines-length, lines-named, lines-seen, lines-told}
use Rattle.trace_run.proofs.one_caller.NamedLemmas.{history-over, named-drops}
use Rattle.trace_run.proofs.OpenLemmas.{joined-all, new-seen}
use Rattle.trace_run.proofs.one_caller.OverShardLemmas.{kept-else, kept-here, there-else, there-here}
use Rattle.arc_table.proofs.OwnLemmas.{no-own-moments}
use Rattle.trace_run.proofs.theorem.ReportLemmas.{all-own, one-caller, possible-at}
use Rattle.trace_run.proofs.one_caller.RestAlone.{all-there, alone-history, alone-legal, alone-now, alone-rests, alone-told}
use Rattle.trace_run.proofs.one_caller.SoleLemmas.{own-two, sole-acts, sole-answers, sole-fed, sole-kept}
use Rattle.trace_run.proofs.one_caller.TellLemmas.{IsAloneEvent, IsAloneOp, act-caller, all-append, all-map, alone-events, is_given, no-passes}

-- ---- lists by their places

module _ {A : Type 0} where
  all-then-at : (P : A → Type 0) (l : List A) → AllByRecursion P l → (i : ℕ) (a : A) → get_elem? l i ≡ some a → P a
  all-then-at P [] all i a is = absurd (some-ne-none a (sym is))
  all-then-at P (x ∷ xs) all zero a is = subst P (some-injective x a is) all.0
  all-then-at P (x ∷ xs) all (suc i) a is = all-then-at P xs all.1 i a is

module _ {A B : Type 0} (f : A → B) where
  all-mapped : (P : B → Type 0) (l : List A) → ((i : ℕ) (a : A) → get_elem? l i ≡ some a → P (f a)) → AllByRecursion P (map f l)
  all-mapped P [] each = tt
  all-mapped P (x ∷ xs) each = (each 0 x refl, all-mapped P xs (λ i a is. each (suc i) a is))

  -- a list that is counted off
  counted-off : (h : ℕ → B) (l : List A) (n : ℕ) → ((i : ℕ) (a : A) → get_elem? l i ≡ some a → f a ≡ h (n + i)) → map f l ≡ map h (range_with_len n (length l))
  counted-off h [] n each = refl
  counted-off h (x ∷ xs) n each =
      let first : f x ≡ h n = each 0 x refl ∙ ap h (omega arith) in
      let rest : map f xs ≡ map h (range_with_len (n + 1) (length xs)) = counted-off h xs (n + 1) (λ i a is. each (suc i) a is ∙ ap h (omega arith)) in
      λ i. first i ∷ rest i

  index-mapped : (l : List A) (i : ℕ) (a : A) (d : B) → get_elem? l i ≡ some a → get_or (map f l) i d ≡ f a
  index-mapped [] i a d is = absurd (some-ne-none a (sym is))
  index-mapped (x ∷ xs) zero a d is = ap f (some-injective x a is)
  index-mapped (x ∷ xs) (suc i) a d is = index-mapped xs i a d is

  unmapped : (l : List A) (i : ℕ) (b : B) → get_elem? (map f l) i ≡ some b → (a : A) × (get_elem? l i ≡ some a) × (f a ≡ b)
  unmapped [] i b is = absurd (some-ne-none b (sym is))
  unmapped (x ∷ xs) zero b is = (x, refl, some-injective (f x) b is)
  unmapped (x ∷ xs) (suc i) b is = unmapped xs i b is

all-filtered : {A : Type 0} (P : A → Type 0) (test : A → Bool) (l : List A) → AllByRecursion P l → AllByRecursion P (filter test l)
all-filtered P test [] all = tt
all-filtered P test (x ∷ xs) all = elim (cases_true (test x)) [
  | inl passes ↦ rw passes (all.0, all-filtered P test xs all.1)
  | inr fails ↦ rw fails (all-filtered P test xs all.1)
]

-- what is so of each number is so of those from one on
all-counted : (P : ℕ → Type 0) → ((n : ℕ) → P n) → (a n : ℕ) → AllByRecursion P (range_with_len a n)
all-counted P each a zero = tt
all-counted P each a (suc n) = (each a, all-counted P each (a + 1) n)

-- ---- the operations are those of the one caller

pub alone-ops : (trace : Trace) → IsFormed trace → trace.config.callers ≡ 1 → IsOfCaller 0 trace.ops
alone-ops trace formed one k op at = one-caller trace.config trace.blocks op (omega (arith, one)) (possible-at trace.config trace.blocks trace.ops k op formed.ops at)

-- ---- events of one number

-- each event that stands for a read of the pool is the one caller's
mine-reads : (es : List Event) → AllByRecursion IsAloneEvent es → reads_by 0 es ≡ pool_reads es
mine-reads [] all = refl
mine-reads (e ∷ es) all =
    let his : (is_pool_read e && number_of e == 0) ≡ is_pool_read e = his-read e all.0 in
    let one : ◌≡◌ {A = ℕ} (cond (is_pool_read e && number_of e == 0) 1 0) (cond (is_pool_read e) 1 0) = ap (λ (t : Bool). cond {A = ℕ} t 1 0) his in
    omega (arith, sum_by-cons (λ (x : Event). cond (is_pool_read x && number_of x == 0) 1 0) e es, sum_by-cons (λ (x : Event). cond (is_pool_read x) 1 0) e es, one, mine-reads es all.1)
  where
    with-true : (b t : Bool) → t ≡ true → (b && t) ≡ b
    with-true b t is = rw is (go b)
      where
        go : (b : Bool) → (b && true) ≡ b
        go true = refl
        go false = refl

    his-read : (e : Event) → IsAloneEvent e → (is_pool_read e && number_of e == 0) ≡ is_pool_read e
    his-read e (inl mine) = with-true (is_pool_read e) (number_of e == 0) (eq-eqb (number_of e) 0 mine.0)
    his-read e (inr is) = rw (given-unread e is.1) refl

same-sums : (f h : List Event → ℕ) (l : List ShardLog) → ((i : ℕ) (log : ShardLog) → get_elem? l i ≡ some log → f log.history ≡ h log.history)
    → sum_by f (map (λ (log : ShardLog). log.history) l) ≡ sum_by h (map (λ (log : ShardLog). log.history) l)
same-sums f h [] each = refl
same-sums f h (x ∷ xs) each =
    let rest = map (λ (log : ShardLog). log.history) xs in
    omega (arith, sum_by-cons f x.history rest, sum_by-cons h x.history rest, each 0 x refl, same-sums f h xs (λ i log is. each (suc i) log is))

-- ---- what each line found, shard by shard

module _ (shards : ℕ) (blocks : List Ptr) (i : ℕ) where
  abbrev Fact : PlainShard → List KeptRead → Op → Reply → Type 0
  Fact s kept op reply = IsFoundAs blocks s op reply

  no-lines : (s : PlainShard) (kept : List KeptRead) (l : List Op) → AreFoundAs blocks s kept l []
  no-lines s kept [] = tt
  no-lines s kept (o ∷ l) = tt

  pub found-over : (s : ℕ → PlainShard) (kept : List KeptRead) (os : List Op) (replies : List Reply) → AllLinesOver Fact shards blocks s kept os replies
      → AreFoundAs blocks (s i) (kept_in_shard shards blocks i kept) (filter (is_in_shard shards blocks i) os) (replies_where (is_in_shard shards blocks i) os replies)
  found-over s kept [] replies all = tt
  found-over s kept (op ∷ os) [] all = no-lines (s i) (kept_in_shard shards blocks i kept) (filter (is_in_shard shards blocks i) (op ∷ os))
  found-over s kept (op ∷ os) (reply ∷ replies) all =
      let rest = found-over (shards_after_op shards blocks s kept op reply) (kept_after blocks op reply kept) os replies all.1 in
      let later : PlainShard × List KeptRead → Type 0 = λ x. AreFoundAs blocks x.0 x.1 (filter (is_in_shard shards blocks i) os) (replies_where (is_in_shard shards blocks i) os replies) in
      elim (cases_true (is_in_shard shards blocks i op)) [
        | inl in_it ↦
            rw in_it (
              found-here op s reply in_it all.0,
              subst later (λ k. (replay (s i) (there-here shards blocks i (s i) op reply kept in_it k), kept-here shards blocks i op reply kept in_it k)) rest,
            )
        | inr out ↦ rw out (subst later (λ k. (replay (s i) (there-else shards blocks i (s i) op reply kept out k), kept-else shards blocks i op reply kept out k)) rest)
      ]
    where
      -- a line on a block of the shard found it there
      found-here : (op : Op) (s : ℕ → PlainShard) (reply : Reply) → is_in_shard shards blocks i op ≡ true → IsFoundAs blocks (s (shard_of_line shards blocks op)) op reply → IsFoundAs blocks (s i) op reply
      found-here (ops.Read n t x window) s reply in_it found = subst (λ (j : ℕ). IsFoundAs blocks (s j) (ops.Read n t x window) reply) (eqb-true (shard_of_block shards blocks x) i in_it) found
      found-here (ops.Hold n t x) s reply in_it found = subst (λ (j : ℕ). IsFoundAs blocks (s j) (ops.Hold n t x) reply) (eqb-true (shard_of_block shards blocks x) i in_it) found
      found-here other s reply in_it found = tt

-- each event of the one caller's is of reads, or a capacity that the feeder gives
alone-read : (callers : ℕ) → callers ≡ 1 → (e : Event) → IsAloneEvent e → IsReadEvent callers e
alone-read callers one e (inl his) = inl (omega (arith, his.0, one), his.1, his.2)
alone-read callers one e (inr is) = inr (inr (is.0 ∙ sym one, is.1))

-- ---- a caller's lines ask for no feed

module _ (len : ℕ) (image : Option (List ℕ)) (blocks : List Ptr) where
  not-feed : (kept : List KeptRead) (o : Op) (r : Reply) → AnswersNow len image blocks kept o r → is_feed o ≡ false
  not-feed kept (ops.Read n t x window) r answer = refl
  not-feed kept (ops.Hold n t x) r answer = refl
  not-feed kept (ops.Drop n x) r answer = refl
  not-feed kept (ops.Cap c) r answer = refl
  not-feed kept (ops.Txg t) r answer = refl
  not-feed kept ops.Feed r answer = absurd answer
  not-feed kept (ops.Get n t at w) r answer = refl
  not-feed kept (ops.Put n t at size fill) r answer = refl
  not-feed kept (ops.Patch n t at from bytes) r answer = refl
  not-feed kept (ops.Pin n t at) r answer = refl
  not-feed kept (ops.Unpin n at) r answer = refl

  none-fed : (kept : List KeptRead) (os : List Op) (rs : List Reply) → AreAnswered len image blocks kept os rs → replies_where is_feed os rs ≡ []
  none-fed kept [] rs answers = refl
  none-fed kept (o ∷ os) [] answers = refl
  none-fed kept (o ∷ os) (r ∷ rs) answers = let other = not-feed kept o r answers.0 in rw other (none-fed (kept_after blocks o r kept) os rs answers.1)

-- ---- the run

module _ {C P : Type 0} (m : Meanings C) (cache : Cache) (pools : Ghosts P) (blocks : List Ptr) (os : List Op) (replies : List Reply) (before after : P)
    (p q r : Place (Known C)) (kept : List KeptBlock)
    (one : cache.config.callers ≡ 1) (own : (k : ℕ) (op : Op) → slice_get os k ≡ Some op → IfSome (caller_of op) (λ n. n ≡ 0))
    (restored : List Restored) (new : Place (Known C)) (first : HasJoined cache (parties_of cache.config) new) (fed : HasFed cache.config (restores_in cache.config restored) new p)
    (did : DidLines cache.config pools blocks os replies (at p [] before) (at q (map read_of kept) after))
    (between : Stands cache q kept) (gives : GivesAll m cache.config kept q r) (last : Stands cache r []) where
  abbrev g : Config
  g = cache.config

  abbrev opening : PlainShard
  opening = opening_of cache.config

  abbrev a : At C P
  a = at p [] before

  abbrev b : At C P
  b = at q (map read_of kept) after

  all-his : AllByRecursion IsAloneOp os
  all-his = all-own IsAloneOp os own

  abbrev his : List Op
  his = filter (is_of_caller 0) os

  abbrev to-him : List Reply
  to-him = replies_where (is_of_caller 0) os replies

  same-count : length replies ≡ length os
  same-count = lines-length g pools blocks os replies a b did

  alone : HasAll p
  alone = fed.all (joined-all cache new first)

  all-q : HasAll q
  all-q = lines-all g pools blocks os replies a b did alone

  number-q : q.number ≡ 0
  number-q = lines-number g pools blocks os replies a b did ∙ (fed.number ∙ first.number)

  number-r : r.number ≡ 0
  number-r = all-number m cache kept q r between gives ∙ number-q

  dropped : DroppedAlone g (map read_of kept) q r
  dropped = all-alone m cache kept q r between gives all-q

  -- no line asks for a feed
  unfed : feeds_told os replies ≡ 0
  unfed = ap (λ (rs : List Reply). length (filter is_fed rs)) (none-fed (pools.size before) (pools.told before) blocks [] os replies (lines-answers g pools blocks os replies a b did))

  kept-is : map read_of kept ≡ kept_after_all blocks [] os replies
  kept-is = lines-kept g pools blocks os replies a b did

  named : AreNamed blocks (map read_of kept)
  named = lines-named g pools blocks os replies a b tt did

  parties-r : r.parties ≡ parties_of cache.config
  parties-r = last.of.row.1 ∙ (sym first.new.stands.of.row.1 ∙ first.new.parties)

  abbrev begun : ℕ → List Event
  begun = restores_in g restored

  abbrev start : ℕ → PlainShard
  start = restored_shard g restored

  -- it has seen the restores, and nothing else
  seen-first : (shard : ℕ) → seen_of g shard p ≡ begun shard
  seen-first shard = fed.seen shard ∙ ap (λ (es : List Event). es ++ begun shard) (new-seen cache new first.new shard)

  opens : (shard : ℕ) → now_of g shard p ≡ start shard
  opens shard = ap (replay opening) (seen-first shard)

  -- ---- the shards

  abbrev history_of : ℕ → List Event
  history_of shard = begun shard ++ one_caller_history blocks 0 (start shard) (filter (is_in_shard g.shards blocks shard) os) (replies_where (is_in_shard g.shards blocks shard) os replies)

  all-seen : (shard : ℕ) → seen_of g shard r ≡ history_of shard
  all-seen shard =
      let lines = lines-seen g pools blocks os replies a b did alone shard in
      let over : List Event = events_over g.shards blocks start [] shard os replies in
      let from : seen_of g shard q ≡ begun shard ++ over =
      lines ∙ (λ h. seen-first shard h ++ events_over g.shards blocks (λ i. opens i h) [] shard os replies) in
      let end : List Event = events_of_drops 0 (kept_in_shard g.shards blocks shard (kept_after_all blocks [] os replies)) in
      let drops : events_of_drops q.number (held_in_shard g shard (map read_of kept)) ≡ events_of_drops 0 (kept_in_shard g.shards blocks shard (kept_after_all blocks [] os replies)) =
      ap (λ (n : ℕ). events_of_drops n (held_in_shard g shard (map read_of kept))) number-q
      ∙ (named-drops g blocks 0 shard (map read_of kept) named ∙ ap (λ (l : List KeptRead). events_of_drops 0 (kept_in_shard g.shards blocks shard l)) kept-is) in
      dropped.seen shard ∙ ((λ h. from h ++ drops h) ∙ (append_assoc (begun shard) over end ∙ ap (λ (es : List Event). begun shard ++ es) (history-over g.shards blocks 0 shard start os replies)))

  -- what it did is told
  told-r : HasToldAll g (acts_of_all blocks [] os replies ++ acts_of_drops q.number (map read_of kept)) [] r
  told-r = all-told m cache kept q r between gives (acts_of_all blocks [] os replies) [] (lines-told g pools blocks os replies a b did [] [] (fed.told [] [] first.new.told))

  told-his : HasToldAll g (acts_of_caller blocks 0 his to-him) [] r
  told-his = subst (λ (l : List Act). HasToldAll g l [] r) (λ h. sole-acts blocks [] os replies same-count all-his h ++ acts_of_drops (number-q h) ((kept-is ∙ sole-kept blocks [] os replies same-count all-his) h)) told-r

  -- what it made are events of shards, with its own number
  pub made-his : MadeItsOwn g r
  made-his = own-alone g (acts_of_caller blocks 0 his to-him) r (let is = number-r in omega (arith, is))
      (subst (λ (n : ℕ). AllByRecursion (λ act. actor_of act ≡ n) (acts_of_caller blocks 0 his to-him)) (sym number-r) (act-caller blocks 0 his to-him (own-lines 0 os))) told-his last.seen last.cells

  -- the party that closes the cache is as it was, as far as shards go
  module _ (z : Place (Known C)) (same-number : z.number ≡ r.number) (same-parties : z.parties ≡ r.parties) (stands-z : Stands cache z []) (all-z : HasAll z)
      (seen-z : (shard : ℕ) → seen_of g shard z ≡ seen_of g shard r) (closed : Ended C) (ends : Ends m cache (z ∷ []) closed) where
    number-z : z.number ≡ 0
    number-z = same-number ∙ number-r

    parties-z : z.parties ≡ parties_of cache.config
    parties-z = same-parties ∙ parties-r

    module _ (i : ℕ) (l : ShardLog) (at_i : get_elem? closed.shards i ≡ some l) where
      the-history : l.history ≡ history_of i
      the-history = alone-history m cache z closed ends parties-z stands-z all-z i l at_i ∙ (seen-z i ∙ all-seen i)

      here : AllByRecursion IsAloneOp (filter (is_in_shard g.shards blocks i) os)
      here = all-filtered IsAloneOp (is_in_shard g.shards blocks i) os all-his

      mine : AllByRecursion IsAloneEvent l.history
      mine = subst (AllByRecursion IsAloneEvent) (sym the-history) (all-append IsAloneEvent (begun i) _
          (all-map (λ e. (number_of e ≡ only_feeder) × (is_given e ≡ true)) IsAloneEvent (begun i) (λ e is. inr is) (restores-given g only_feeder one restored i))
          (alone-events blocks (start i) (filter (is_in_shard g.shards blocks i) os) (replies_where (is_in_shard g.shards blocks i) os replies) here))

      reads : AllByRecursion (IsReadEvent g.callers) l.history
      reads = all-map IsAloneEvent (IsReadEvent g.callers) l.history (λ e is. alone-read g.callers one e is) mine

      -- the feeder made the restores and a Resize for each capacity, and nothing else
      fed-all : i < g.shards → own_events g.callers l.history ≡ events_by_feeder g restored os replies [] i
      fed-all below = subst (λ (n : ℕ). own_events n l.history ≡ begun i ++ events_of_feeds n os replies) (sym one)
          (ap (own_events only_feeder) the-history
          ∙ (own-two only_feeder (begun i) (one_caller_history blocks 0 (start i) (filter (is_in_shard g.shards blocks i) os) (replies_where (is_in_shard g.shards blocks i) os replies))
          ∙ (λ h. own-restores g only_feeder one restored i h ++ sole-fed blocks (start i) g.shards i os replies below here h)))
          ∙ ap (λ (es : List Event). begun i ++ es) (sym (lines-unfed g i os replies unfed))

      numbers : AllByRecursion (λ e. IsTrue (has_its_number g.callers g.cells e)) l.history
      numbers = all-map (IsReadEvent g.callers) (λ e. IsTrue (has_its_number g.callers g.cells e)) l.history (λ e is. read-number g.callers g.cells e is) reads

      no-others : (n : ℕ) → n ≢ 0 → n ≢ g.callers → own_moments n (moments opening l.history) ≡ []
      no-others n differs other = no-own-moments n opening l.history (λ y e is same. its-number n differs other e (all-then-at IsAloneEvent l.history mine y e is) same)
        where
          its-number : (n : ℕ) → n ≢ 0 → n ≢ g.callers → (e : Event) → IsAloneEvent e → number_of e ≢ n
          its-number n differs other e (inl his) same = differs (sym same ∙ his.0)
          its-number n differs other e (inr is) same = other (sym same ∙ (is.0 ∙ sym one))

      rests : IsAtRest (replay opening l.history)
      rests = alone-rests m cache z closed ends parties-z stands-z all-z i l at_i (λ n below. number-z ∙ omega (arith, below, one)) reads

      now-is : replay opening l.history ≡ l.now
      now-is = alone-now m cache z closed ends parties-z stands-z all-z i l at_i

    -- ---- every call

    abbrev acts : List Act
    acts = acts_of_callers blocks g.callers os replies

    told-z : IsTold g (acts_of_caller blocks 0 his to-him) z
    told-z shard = subst (λ (x : ℕ × List Event). Tell (acts_in (shard_of g.shards) shard x.0 (acts_of_caller blocks 0 his to-him)) (own_moments x.0 (moments opening x.1))) (λ i. (sym same-number i, sym (seen-z shard) i)) (told-his.acts shard)

    all-acts : acts_of_callers blocks g.callers os replies ≡ acts_of_caller blocks 0 his to-him
    all-acts = ap (λ (n : ℕ). acts_of_callers blocks n os replies) one

    tell-at : (shard n : ℕ) (l : ShardLog) → get_elem? closed.shards shard ≡ some l → n ≢ g.callers → Tell (acts_in (shard_of g.shards) shard n acts) (own_moments n (moments opening l.history))
    tell-at shard n l at_l differs = dite (ℕ_discrete n 0)
        (λ is.
        subst (λ (k : ℕ). Tell (acts_in (shard_of g.shards) shard k acts) (own_moments k (moments opening l.history))) (number-z ∙ sym is)
        (subst (λ (xs : List Act). Tell (acts_in (shard_of g.shards) shard z.number xs) (own_moments z.number (moments opening l.history))) (sym all-acts)
        (alone-told m cache z closed ends parties-z stands-z all-z shard l at_l (acts_of_caller blocks 0 his to-him) told-z)))
        (λ other.
        let above : g.callers ≤ n = above-one n g.callers one other differs in
        subst (λ (x : List Act × List Moment). Tell x.0 x.1) (λ h. (sym (callers-none (shard_of g.shards) shard blocks os replies g.callers n above) h, sym (no-others shard l at_l n other differs) h)) refl)
      where
        above-one : (n callers : ℕ) → callers ≡ 1 → n ≢ 0 → n ≢ callers → callers ≤ n
        above-one n callers one other differs = omega arith

    index-is : (shard : ℕ) (l : ShardLog) → get_elem? closed.shards shard ≡ some l → get_or (histories_of closed) shard [] ≡ l.history
    index-is shard l at_l = index-mapped (λ (log : ShardLog). log.history) closed.shards shard l [] at_l

    some-log : (shard : ℕ) → shard < length (histories_of closed) → (l : ShardLog) × (get_elem? closed.shards shard ≡ some l)
    some-log shard below = there closed.shards shard (subst (λ (n : ℕ). shard < n) (length-map closed.shards (λ (log : ShardLog). log.history)) below)

    every-call : HoldEveryCallOnce g (shard_of g.shards) opening acts (events_by_feeder g restored os replies []) (histories_of closed)
    every-call = record {
      told = λ shard n below differs.
          let l = some-log shard below in
          subst (λ (h : List Event). Tell (acts_in (shard_of g.shards) shard n acts) (own_moments n (moments opening h))) (sym (index-is shard l.0 l.1)) (tell-at shard n l.0 l.1 differs);
      fed = λ shard below.
          let l = some-log shard below in
          ap (own_events g.callers) (index-is shard l.0 l.1) ∙ fed-all shard l.0 l.1 (subst (λ (n : ℕ). shard < n) (length-map closed.shards (λ (log : ShardLog). log.history) ∙ ends.shards) below);
      numbers = all-mapped (λ (log : ShardLog). log.history) (λ history. AllByRecursion (λ e. IsTrue (has_its_number g.callers g.cells e)) history) closed.shards numbers;
      passes = all-mapped (λ (log : ShardLog). log.history) (λ history. IsTrue (are_passes_placed history)) closed.shards (λ i l at_l. no-passes l.history (mine i l at_l));
    }

    -- ---- the reads of the pool

    his-answers : AreAnswered (pools.size before) (pools.told before) blocks [] his to-him × (calls_of_all replies ≡ calls_of_all to-him)
    his-answers = sole-answers blocks (pools.size before) (pools.told before) [] os replies all-his (lines-answers g pools blocks os replies a b did)

    counted-all : length (calls_of_all replies) ≡ sum_by pool_reads (histories_of closed)
    counted-all =
        ap length his-answers.1
        ∙ (caller-reads g (pools.size before) (pools.told before) blocks 0 os to-him (histories_of closed) last.valid
        (length-map closed.shards (λ (log : ShardLog). log.history) ∙ ends.shards)
        his-answers.0
        (λ i h is.
        let l = unmapped (λ (log : ShardLog). log.history) closed.shards i h is in
        subst (λ (x : ℕ × List Event). Tell (acts_in (shard_of g.shards) i x.0 (acts_of_caller blocks 0 his to-him)) (own_moments x.0 (moments opening x.1))) (λ h. (number-z h, l.2 h))
        (alone-told m cache z closed ends parties-z stands-z all-z i l.0 l.1 (acts_of_caller blocks 0 his to-him) told-z))
        ∙ same-sums (reads_by 0) pool_reads closed.shards (λ i l at_l. mine-reads l.history (mine i l at_l)))

    -- ---- all of it

    abbrev trace : Trace
    trace = record { config = cache.config; blocks = blocks; objects = []; ops = os }

    -- each history ends with the drops of what is kept
    drops-are : (i : ℕ) → events_of_drops q.number (held_in_shard g i (map read_of kept)) ≡ drops_at_end g blocks i g.callers os replies
    drops-are i =
        (λ h. events_of_drops (number-q h) (held_in_shard g i ((kept-is ∙ sole-kept blocks [] os replies same-count all-his) h)))
        ∙ ap (λ (n : ℕ). drops_at_end g blocks i n os replies) (sym one)

    ends-at : (i : ℕ) (l : ShardLog) → get_elem? closed.shards i ≡ some l → EndsWith l.history (drops_at_end g blocks i g.callers os replies)
    ends-at i l at_i =
        (seen_of g i q, alone-history m cache z closed ends parties-z stands-z all-z i l at_i ∙ (seen-z i ∙ (dropped.seen i ∙ ap (λ (es : List Event). seen_of g i q ++ es) (drops-are i))))

    begins-at : (i : ℕ) (l : ShardLog) → get_elem? closed.shards i ≡ some l → BeginsWithEvents l.history (begun i)
    begins-at i l at_i = (_, the-history i l at_i)

    explained : ExplainReads trace restored replies (ends_in closed) (histories_of closed)
    explained = record {
      shards = length-map closed.shards (λ (log : ShardLog). log.history) ∙ ends.shards;
      legal = all-mapped (λ (log : ShardLog). log.history) (λ history. IsTrue (is_legal_history opening history)) closed.shards (alone-legal m cache z closed ends parties-z stands-z all-z);
      ends = ends-are closed.shards (λ i l at_l. ap end_of (sym (now-is i l at_l)));
      at_rest = all-mapped (λ (log : ShardLog). log.history) (λ history. IsAtRest (replay opening history)) closed.shards rests;
      begins = λ shard below. let l = some-log shard below in subst (λ (h : List Event). BeginsWithEvents h (begun shard)) (sym (index-is shard l.0 l.1)) (begins-at shard l.0 l.1);
      every_call = every-call;
      ending = λ shard below. let l = some-log shard below in subst (λ (h : List Event). EndsWith h (drops_at_end g blocks shard g.callers os replies)) (sym (index-is shard l.0 l.1)) (ends-at shard l.0 l.1);
    }
      where
        ends-are : (l : List ShardLog) → ((i : ℕ) (log : ShardLog) → get_elem? l i ≡ some log → end_of log.now ≡ end_of (replay opening log.history)) → map (λ (log : ShardLog). end_of log.now) l ≡ ends_of g (map (λ (log : ShardLog). log.history) l)
        ends-are [] each = refl
        ends-are (x ∷ xs) each = λ i. each 0 x refl i ∷ ends-are xs (λ k log is. each (suc k) log is) i

    pub ran : RanAlone pools before after trace restored replies closed
    ran = record {
      answers = lines-answered g pools blocks 0 os replies a b own refl did;
      made = lines-calls g pools blocks os replies a b did;
      histories = counted-off (λ (log : ShardLog). log.history) history_of closed.shards 0 (λ i l at_l. the-history i l at_l ∙ ap history_of (omega arith))
          ∙ ap (λ (n : ℕ). map history_of (range_with_len 0 n)) ends.shards;
      found = all-counted _ (λ shard. found-over g.shards blocks shard start [] os replies found-all) 0 g.shards;
      counted = counted-all;
      explained = explained;
      config = ends.config;
      lines = record { first = a; last = b; alone = alone; none = refl; opens = opens; from = refl; to = refl; lines = did };
    }
      where
        found-all : AllLinesOver (λ s kept op reply. IsFoundAs blocks s op reply) g.shards blocks start [] os replies
        found-all = subst (λ (s : ℕ → PlainShard). AllLinesOver (λ s kept op reply. IsFoundAs blocks s op reply) g.shards blocks s [] os replies) (λ h i. opens i h)
            (lines-found g pools blocks os replies a b did alone)

-- what is asked of the run, by the trace
module _ {C P : Type 0} (m : Meanings C) (cache : Cache) (pools : Ghosts P) (trace : Trace) (replies : List Reply) (before after : P) (p q r : Place (Known C)) (kept : List KeptBlock)
    (config : cache.config ≡ trace.config) (formed : IsFormed trace) (one : trace.config.callers ≡ 1)
    (restored : List Restored) (new : Place (Known C)) (first : HasJoined cache (parties_of cache.config) new) (fed : HasFed cache.config (restores_in cache.config restored) new p)
    (did : DidLines cache.config pools trace.blocks trace.ops replies (at p [] before) (at q (map read_of kept) after))
    (between : Stands cache q kept) (gives : GivesAll m cache.config kept q r) (last : Stands cache r []) where
  callers : cache.config.callers ≡ 1
  callers = ap (λ (g : Config). g.callers) config ∙ one

  own : (k : ℕ) (op : Op) → slice_get trace.ops k ≡ Some op → IfSome (caller_of op) (λ n. n ≡ 0)
  own = alone-ops trace formed one

  pub still-0 : r.number ≡ 0
  still-0 = number-r m cache pools trace.blocks trace.ops replies before after p q r kept callers own restored new first fed did between gives last

  pub still-rows : cache.row.parties ≡ parties_of cache.config
  still-rows = sym last.of.row.1 ∙ parties-r m cache pools trace.blocks trace.ops replies before after p q r kept callers own restored new first fed did between gives last

  -- it made nothing of a cell
  pub still-only : AreNoEntries cache.config r.own.mine
  still-only = (made-his m cache pools trace.blocks trace.ops replies before after p q r kept callers own restored new first fed did between gives last).entries

  -- the feeder's party has still joined it
  pub still-joined : r.joined ≡ q.joined
  still-joined = (all-keep m cache kept q r between gives).0

  module _ (z : Place (Known C)) (same-number : z.number ≡ r.number) (same-parties : z.parties ≡ r.parties) (stands-z : Stands cache z []) (all-z : HasAll z)
      (seen-z : (shard : ℕ) → seen_of cache.config shard z ≡ seen_of cache.config shard r) where
    pub end-there : (n : ℕ) → n < parties_of cache.config → SomeHas n (z ∷ [])
    end-there = all-there cache z (same-parties ∙ parties-r m cache pools trace.blocks trace.ops replies before after p q r kept callers own restored new first fed did between gives last) all-z

    pub ran-alone : (given : Cache) (ps : List (Place (Known C))) (closed : Ended C) → given ≡ cache → ps ≡ z ∷ [] → Ends m given ps closed → RanAlone pools before after trace restored replies closed
    ran-alone given ps closed same listed ends =
        ran-mapped pools before after trace restored replies closed
        (subst (λ (g : Config). RanAlone pools before after (record { config = g; blocks = trace.blocks; objects = []; ops = trace.ops }) restored replies closed) config
        (ran m cache pools trace.blocks trace.ops replies before after p q r kept callers own restored new first fed did between gives last z same-number same-parties stands-z all-z seen-z closed
        (subst (λ (x : Cache × List (Place (Known C))). Ends m x.0 x.1 closed) (λ i. (same i, listed i)) ends)))
