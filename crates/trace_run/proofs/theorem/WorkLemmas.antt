-- Where no line did anything to a cell, the histories of a run explain its replies with lines that did nothing beside them.
use Rattle.std.proofs.Common.{◌≡◌, ◌≢◌, ◌⊎◌, ℕ, zero, suc, ◌+◌, ◌<◌, ◌≤◌, ◌==◌, nat_le, true, false, if◌then◌else◌, IsTrue, List, [], ◌∷◌, ◌++◌, length, None, Option, Some, refl, sym, ap, ◌∙◌, subst, inl, inr, arith, append-nil, eq-eqb, ne_eqb}
use Rattle.std.specs.Prelude.{filter, slice_get, slice_index_or}
use Rattle.std.specs.List.{AllByRecursion, list_any}
use Rattle.std.specs.Option.{option_map_or}
use Rattle.std.proofs.lemmas.Bool.{cases_lt, false≢true}
use Rattle.std.proofs.lemmas.Bool.Decides.{nat_tests}
use mathlib.Core.Option.{some, some-injective, some-ne-none}
use lib.ListN.{get_elem?}
use Rattle.arc_lists.proofs.Standing.{and_left}
use Rattle.arc_lists.proofs.Tables.{cases_true}
use Rattle.blk_ptr.specs.declared.ptr.Ptr.{Ptr}
use Rattle.blk_ptr.specs.Hash.{shard_of}
use Rattle.arc_core.specs.declared.config.Config.{Config}
use Rattle.arc_core.specs.declared.event.Event.{Event}
use Rattle.arc_core.specs.declared.event.Event.TheVariants.{Pass, Hit, Miss, Arrive, Fail, Drop, Past, Hand, Insert, Release, Pick, FeedEnd, Set, Leave, Clear, Restore, Resize}
use Rattle.arc_core.specs.declared.served.Restored.{Restored}
use Rattle.arc_core.specs.Operations.{Act, HoldEveryCallOnce, Moment, Tell, acts_in, actor_of, has_its_number, is_pass, moments, number_of, own_moments}
use Rattle.arc_table.specs.Ended.{Ended}
use Rattle.arc_table.specs.Geometry.{cell_number, parties_of}
use Rattle.arc_table.specs.Telling.{opening_of}
use Rattle.dbuf_cells.specs.Turns.{OnHeap}
use Rattle.trace_text.specs.declared.ends.ShardEnd.{ShardEnd}
use Rattle.trace_text.specs.declared.op.Op.{Op}
use Rattle.trace_text.specs.declared.op.Op.TheVariants as ops
use Rattle.trace_text.specs.declared.reply.Reply.{Reply}
use Rattle.trace_text.specs.declared.trace.Trace.{Trace}
use Rattle.trace_run.proofs.FurtherLemmas.{first-done, off-objects}
use Rattle.trace_run.specs.Acts.{acts_of, acts_of_all, acts_of_caller, acts_of_callers, acts_of_drops}
use Rattle.trace_run.specs.dbufs.CellEnds.{AreCellsOf, noted_ends}
use Rattle.trace_run.specs.Deeds.{Noted, acts_of_events, with_number}
use Rattle.trace_run.specs.Explaining.{EndsWith, Explain, ExplainReads, drops_at_end}
use Rattle.trace_run.specs.KeptReads.{KeptRead}
use Rattle.trace_run.specs.Lines.{caller_of, is_of_caller, is_further, replies_where}
use Rattle.trace_run.specs.MadeLines.{owned_from}
use Rattle.trace_run.specs.dbufs.ObjectLines.{on_object}
use Rattle.trace_run.specs.dbufs.Objects.{Line, no_work}
use Rattle.trace_run.specs.Restores.{events_by_feeder}
use Rattle.trace_run.specs.FeedEvents.{is_fed}
use Rattle.trace_run.specs.Feeds.{is_feed}
use Rattle.trace_run.specs.RunWork.{AreMadeBy, FitsBy, IsRunWork, IsSyncWork, acts_by, acts_of_caller_lines, acts_of_cells, kept_after_lines, lines_of_caller, lines_of_feeder, noted_by, only_ended, own_acts, plain_lines, plain_work}
use Rattle.trace_run.specs.callers.WorkLines.{AreLinesOf, acts_of_work, acts_with_op, noted_of_work}
use Rattle.trace_run.specs.one_caller.OneCaller.{kept_after, kept_after_all}
use Rattle.trace_run.proofs.callers.CallerActLemmas.{callers-none, own-lines}
use Rattle.trace_run.proofs.one_caller.TellLemmas.{act-caller, filter-all, all-map}
use Rattle.trace_run.proofs.theorem.HistoryLemmas.{own-events}
use Rattle.trace_run.proofs.theorem.PlacedLemmas.{all-by-place}

-- ---- lines that did nothing beside their replies

plain-none : (l : List Op) → plain_lines l [] ≡ []
plain-none [] = refl
plain-none (op ∷ l) = refl

lines-plain : (n : ℕ) (os : List Op) (rs : List Reply) → lines_of_caller n (plain_lines os rs) ≡ plain_lines (filter (is_of_caller n) os) (replies_where (is_of_caller n) os rs)
lines-plain n [] rs = refl
lines-plain n (o ∷ os) [] = sym (plain-none (filter (is_of_caller n) (o ∷ os)))
lines-plain n (o ∷ os) (r ∷ rs) = elim (cases_true (is_of_caller n o)) [
  | inl own ↦ rw own (ap (λ (l : List Line). record { op = o; reply = r; work = no_work } ∷ l) (lines-plain n os rs))
  | inr other ↦ rw other (lines-plain n os rs)
]

module _ (g : Config) (blocks : List Ptr) where
  one-plain : (kept : List KeptRead) (op : Op) (reply : Reply) → acts_with_op g blocks kept op reply no_work ≡ acts_of blocks kept op reply
  one-plain kept (ops.Read n t x window) reply = refl
  one-plain kept (ops.Hold n t x) reply = refl
  one-plain kept (ops.Drop n x) reply = refl
  one-plain kept (ops.Get n t at window) reply = refl
  one-plain kept (ops.Put n t at size fill) reply = refl
  one-plain kept (ops.Patch n t at from bytes) reply = refl
  one-plain kept (ops.Pin n t at) reply = refl
  one-plain kept (ops.Unpin n at) reply = refl
  one-plain kept ops.Feed reply = refl
  one-plain kept (ops.Txg t) reply = refl
  one-plain kept (ops.Cap c) reply = refl

  acts-plain : (kept : List KeptRead) (os : List Op) (rs : List Reply) → acts_of_work g blocks kept (plain_lines os rs) ≡ acts_of_all blocks kept os rs
  acts-plain kept [] rs = refl
  acts-plain kept (o ∷ os) [] = refl
  acts-plain kept (o ∷ os) (r ∷ rs) = λ i. one-plain kept o r i ++ acts-plain (kept_after blocks o r kept) os rs i

  kept-plain : (kept : List KeptRead) (os : List Op) (rs : List Reply) → kept_after_lines blocks kept (plain_lines os rs) ≡ kept_after_all blocks kept os rs
  kept-plain kept [] rs = refl
  kept-plain kept (o ∷ os) [] = refl
  kept-plain kept (o ∷ os) (r ∷ rs) = kept-plain (kept_after blocks o r kept) os rs

  -- the feeder's lines did nothing
  feeder-plain : (kept : List KeptRead) (os : List Op) (rs : List Reply) → acts_of_work g blocks kept (lines_of_feeder (plain_lines os rs)) ≡ []
  feeder-plain kept [] rs = refl
  feeder-plain kept (o ∷ os) [] = refl
  feeder-plain kept (ops.Read n t x window ∷ os) (r ∷ rs) = feeder-plain kept os rs
  feeder-plain kept (ops.Hold n t x ∷ os) (r ∷ rs) = feeder-plain kept os rs
  feeder-plain kept (ops.Drop n x ∷ os) (r ∷ rs) = feeder-plain kept os rs
  feeder-plain kept (ops.Get n t at window ∷ os) (r ∷ rs) = feeder-plain kept os rs
  feeder-plain kept (ops.Put n t at size fill ∷ os) (r ∷ rs) = feeder-plain kept os rs
  feeder-plain kept (ops.Patch n t at from bytes ∷ os) (r ∷ rs) = feeder-plain kept os rs
  feeder-plain kept (ops.Pin n t at ∷ os) (r ∷ rs) = feeder-plain kept os rs
  feeder-plain kept (ops.Unpin n at ∷ os) (r ∷ rs) = feeder-plain kept os rs
  feeder-plain kept (ops.Feed ∷ os) (r ∷ rs) = feeder-plain kept os rs
  feeder-plain kept (ops.Txg t ∷ os) (r ∷ rs) = feeder-plain kept os rs
  feeder-plain kept (ops.Cap c ∷ os) (r ∷ rs) = feeder-plain kept os rs

  module _ (os : List Op) (rs : List Reply) where
    abbrev his-acts : ℕ → List Act
    his-acts n = acts_of_caller blocks n (filter (is_of_caller n) os) (replies_where (is_of_caller n) os rs)

    caller-plain : (n : ℕ) → acts_of_caller_lines g blocks n (lines_of_caller n (plain_lines os rs)) ≡ his-acts n
    caller-plain n =
        ap (acts_of_caller_lines g blocks n) (lines-plain n os rs)
        ∙ (λ i. acts-plain [] (filter (is_of_caller n) os) (replies_where (is_of_caller n) os rs) i ++ acts_of_drops n (kept-plain [] (filter (is_of_caller n) os) (replies_where (is_of_caller n) os rs) i))

    by-caller : (n : ℕ) → n < g.callers → acts_by g blocks (plain_work os rs) n ≡ his-acts n
    by-caller n below = let other : (n == g.callers) ≡ false = ne_eqb n g.callers (λ is. omega (arith, is, below)) in rw other (caller-plain n)

    all-his : (n : ℕ) → AllByRecursion (λ act. (actor_of act == n) ≡ true) (his-acts n)
    all-his n = all-map (λ act. actor_of act ≡ n) (λ act. (actor_of act == n) ≡ true) (his-acts n) (λ act is. eq-eqb (actor_of act) n is)
        (act-caller blocks n (filter (is_of_caller n) os) (replies_where (is_of_caller n) os rs) (own-lines n os))

    pub own-plain : (c : ℕ) → c ≤ g.callers → own_acts g blocks (plain_work os rs) c ≡ acts_of_callers blocks c os rs
    own-plain zero few = refl
    own-plain (suc c) few =
        λ i. own-plain c (omega (arith, few)) i ++ (ap (filter (λ act. actor_of act == c)) (by-caller c (omega (arith, few))) ∙ filter-all (λ act. actor_of act == c) (his-acts c) (all-his c)) i

-- ---- no event has the number of a cell

-- a pass has a party's number
pass-low : (callers cells : ℕ) (e : Event) → is_pass e ≡ true → IsTrue (has_its_number callers cells e) → number_of e < callers + 1
pass-low callers cells (Pass n k owner) pass is = let low : nat_le n callers ≡ true = and_left (nat_le n callers) (nat_le owner callers) is in grind (arith, nat_tests, low)
pass-low callers cells (Hit n k t) pass is = absurd (false≢true pass)
pass-low callers cells (Miss n k t) pass is = absurd (false≢true pass)
pass-low callers cells (Arrive n k d from) pass is = absurd (false≢true pass)
pass-low callers cells (Fail n k at) pass is = absurd (false≢true pass)
pass-low callers cells (Drop n k) pass is = absurd (false≢true pass)
pass-low callers cells (Past n k kept) pass is = absurd (false≢true pass)
pass-low callers cells (Hand n k to) pass is = absurd (false≢true pass)
pass-low callers cells (Insert n k d t) pass is = absurd (false≢true pass)
pass-low callers cells (Release n k sole) pass is = absurd (false≢true pass)
pass-low callers cells (Pick n k) pass is = absurd (false≢true pass)
pass-low callers cells (FeedEnd n) pass is = absurd (false≢true pass)
pass-low callers cells (Set n k place) pass is = absurd (false≢true pass)
pass-low callers cells (Leave n k why) pass is = absurd (false≢true pass)
pass-low callers cells (Clear n k) pass is = absurd (false≢true pass)
pass-low callers cells (Restore n k place d) pass is = absurd (false≢true pass)
pass-low callers cells (Resize n c) pass is = absurd (false≢true pass)

all-at : {A : Type 0} (P : A → Type 0) (xs : List A) (x : ℕ) (a : A) → AllByRecursion P xs → get_elem? xs x ≡ some a → P a
all-at P [] x a all at = absurd (some-ne-none a (sym at))
all-at P (y ∷ ys) zero a all at = subst P (some-injective y a at) all.0
all-at P (y ∷ ys) (suc x) a all at = all-at P ys x a all.1 at

pub all-index : {A : Type 0} (P : List A → Type 0) (xs : List (List A)) (k : ℕ) → AllByRecursion P xs → k < length xs → P (slice_index_or xs k [])
all-index P [] k all inside = absurd (omega (arith, inside))
all-index P (x ∷ xs) zero all inside = all.0
all-index P (x ∷ xs) (suc k) all inside = all-index P xs k all.1 (omega (arith, inside))

module _ (g : Config) where
  -- events of parties alone
  abbrev AreOfParties : List Event → Type 0
  AreOfParties = AllByRecursion (λ e. number_of e < parties_of g)

  no-cell-events : (h : List Event) → AreOfParties h → filter (λ e. nat_le (parties_of g) (number_of e)) h ≡ []
  no-cell-events [] all = refl
  no-cell-events (e ∷ h) all =
      let below : number_of e < parties_of g = all.0 in
      let none : nat_le (parties_of g) (number_of e) ≡ false = grind (arith, nat_tests, below) in
      rw none (no-cell-events h all.1)

  no-cell-acts : (hs : List (List Event)) → ((k : ℕ) → k < length hs → AreOfParties (slice_index_or hs k [])) → acts_of_cells g hs ≡ []
  no-cell-acts [] each = refl
  no-cell-acts (h ∷ hs) each =
      λ i. acts_of_events (no-cell-events h (each 0 (omega arith)) i) ++ no-cell-acts hs (λ k below. each (suc k) (omega (arith, below))) i

  none-owned : (owner : ℕ → ℕ) (n c place : ℕ) (h : List Event) → AreOfParties h → parties_of g ≤ c → with_number c (owned_from owner n place h) ≡ []
  none-owned owner n c place [] all above = refl
  none-owned owner n c place (e ∷ h) all above =
      let below : number_of e < parties_of g = all.0 in
      let other : (number_of e == c) ≡ false = ne_eqb (number_of e) c (λ is. omega (arith, is, below, above)) in
      let rest = none-owned owner n c (suc place) h all.1 above in
      elim (cases_true (owner place == n)) [
        | inl his ↦ rw (his, other) rest
        | inr not_his ↦ rw not_his rest
      ]

  abbrev number-at : List Event → ℕ → ℕ
  number-at h x = option_map_or number_of (slice_get h x) 0

  party-at : (h : List Event) (x : ℕ) → AreOfParties h → x < length h → number-at h x < parties_of g
  party-at [] x all inside = absurd (omega (arith, inside))
  party-at (e ∷ h) zero all inside = all.0
  party-at (e ∷ h) (suc x) all inside = party-at h x all.1 (omega (arith, inside))

  plain-made : (blocks : List Ptr) (os : List Op) (rs : List Reply) (shard : ℕ) (h : List Event) → AreOfParties h → AreMadeBy g shard (number-at h) (acts_by g blocks (plain_work os rs)) h
  plain-made blocks os rs shard h all = record {
    party = λ x inside. party-at h x all inside;
    own = λ x e at below. ap (λ (o : Option Event). option_map_or number_of o 0) at;
    acts = λ n i below range. ap acts_of_events (none-owned (number-at h) n (cell_number g i) 0 h all (omega arith)) ∙ sym (no-acts n i (lower n below));
  }
    where
      lower : (n : ℕ) → n < parties_of g → (n < g.callers) ⊎ (n ≡ g.callers)
      lower n below = elim (cases_lt n g.callers) [
        | inl caller ↦ inl caller
        | inr above ↦ inr (omega (arith, above, below))
      ]

      none-in : (c : ℕ) (acts : List Act) (n : ℕ) → AllByRecursion (λ act. actor_of act ≡ n) acts → n ≢ c → acts_in (shard_of g.shards) shard c acts ≡ []
      none-in c [] n mine differs = refl
      none-in c (act ∷ acts) n mine differs =
          let other : (actor_of act == c) ≡ false = ne_eqb (actor_of act) c (λ is. differs (sym mine.0 ∙ is)) in
          rw other (none-in c acts n mine.1 differs)

      no-acts : (n i : ℕ) → (n < g.callers) ⊎ (n ≡ g.callers) → acts_in (shard_of g.shards) shard (cell_number g i) (acts_by g blocks (plain_work os rs) n) ≡ []
      no-acts n i (inl caller) =
          ap (acts_in (shard_of g.shards) shard (cell_number g i)) (by-caller g blocks os rs n caller)
          ∙ none-in (cell_number g i) (his-acts g blocks os rs n) n (act-caller blocks n (filter (is_of_caller n) os) (replies_where (is_of_caller n) os rs) (own-lines n os)) (λ is. omega (arith, is, caller))
      no-acts n i (inr feeder) =
          let here : (n == g.callers) ≡ true = eq-eqb n g.callers feeder in
          rw here (ap (λ (l : List Act). acts_in (shard_of g.shards) shard (cell_number g i) ((l ++ []) ++ [])) (feeder-plain g blocks [] os rs))

-- ---- all of it

module _ (trace : Trace) (restored : List Restored) (replies : List Reply) (ends : List ShardEnd) (histories : List (List Event)) (e : ExplainReads trace restored replies ends histories) where
  abbrev g : Config
  g = trace.config

  of-parties : (k : ℕ) → k < length histories → AreOfParties g (slice_index_or histories k [])
  of-parties k inside = all-by-place (λ ev. number_of ev < parties_of g) (slice_index_or histories k []) each
    where
      history : List Event
      history = slice_index_or histories k []

      numbered : AllByRecursion (λ ev. IsTrue (has_its_number g.callers g.cells ev)) history
      numbered = all-index (AllByRecursion (λ ev. IsTrue (has_its_number g.callers g.cells ev))) histories k e.every_call.numbers inside

      none-with : (c : ℕ) → parties_of g ≤ c → own_moments c (moments (opening_of g) history) ≡ []
      none-with c above =
          subst (λ (acts : List Act). Tell acts (own_moments c (moments (opening_of g) history)))
          (callers-none (shard_of g.shards) k trace.blocks trace.ops replies g.callers c (omega (arith, above))) (e.every_call.told k c inside (λ is. omega (arith, is, above)))

      each : (x : ℕ) (ev : Event) → get_elem? history x ≡ some ev → number_of ev < parties_of g
      each x ev at = elim (cases_lt (number_of ev) (parties_of g)) [
        | inl below ↦ below
        | inr above ↦ elim (cases_true (is_pass ev)) [
          | inl pass ↦ pass-low g.callers g.cells ev pass (all-at (λ y. IsTrue (has_its_number g.callers g.cells y)) history x ev numbered at)
          | inr none ↦ absurd (own-events (λ y. ⊥) (number_of ev) (opening_of g) history (subst (AllByRecursion (λ (m : Moment). ⊥)) (sym (none-with (number_of ev) above)) tt) x ev at refl none)
        ]
      ]

  acts-same : acts_of_callers trace.blocks g.callers trace.ops replies ≡ own_acts g trace.blocks (plain_work trace.ops replies) g.callers ++ acts_of_cells g histories
  acts-same =
      sym (own-plain g trace.blocks trace.ops replies g.callers (omega arith))
      ∙ (sym (append-nil (own_acts g trace.blocks (plain_work trace.ops replies) g.callers)) ∙ ap (λ (l : List Act). own_acts g trace.blocks (plain_work trace.ops replies) g.callers ++ l) (sym (no-cell-acts g histories of-parties)))

  pub explain-plain : Explain trace restored (plain_work trace.ops replies) replies ends histories
  explain-plain = record {
    shards = e.shards;
    legal = e.legal;
    ends = e.ends;
    at_rest = e.at_rest;
    begins = e.begins;
    every_call = subst (λ (acts : List Act). HoldEveryCallOnce g (shard_of g.shards) (opening_of g) acts (events_by_feeder g restored trace.ops replies []) histories) acts-same e.every_call;
    owner = λ shard. number-at g (slice_index_or histories shard []);
    made = λ shard inside. plain-made g trace.blocks trace.ops replies shard (slice_index_or histories shard []) (of-parties shard inside);
    ending = λ shard inside. subst (EndsWith (slice_index_or histories shard [])) (sym (append-nil (drops_at_end g trace.blocks shard g.callers trace.ops replies))) (e.ending shard inside);
  }

-- ---- the work itself, and the cells

-- no line asks for a feed
pub no-feed : (op : Op) → is_further op ≡ false → is_feed op ≡ false
no-feed (ops.Read n t x window) done = refl
no-feed (ops.Hold n t x) done = refl
no-feed (ops.Drop n x) done = refl
no-feed (ops.Get n t at window) done = refl
no-feed (ops.Put n t at size fill) done = refl
no-feed (ops.Patch n t at from bytes) done = refl
no-feed (ops.Pin n t at) done = refl
no-feed (ops.Unpin n at) done = refl
no-feed ops.Feed done = absurd (false≢true (sym done))
no-feed (ops.Txg t) done = absurd (false≢true (sym done))
no-feed (ops.Cap c) done = refl

module _ (g : Config) where
  plain-are : (os : List Op) (rs : List Reply) → length rs ≡ length os → AreLinesOf os rs (plain_lines os rs)
  plain-are [] [] same = tt
  plain-are [] (r ∷ rs) same = absurd (omega (arith, same))
  plain-are (o ∷ os) [] same = absurd (omega (arith, same))
  plain-are (o ∷ os) (r ∷ rs) same = (refl, refl, plain-are os rs (omega (arith, same)))

  -- a sync that wrote nothing
  no-sync : IsSyncWork g no_work
  no-sync = record { brought = refl; synced = tt; inserted = tt }

  unfed : (os : List Op) (rs : List Reply) → list_any is_further os ≡ false → replies_where is_feed os rs ≡ []
  unfed [] rs done = refl
  unfed (o ∷ os) [] done = refl
  unfed (o ∷ os) (r ∷ rs) done = let h = first-done is_further o os done in rw (no-feed o h.0) (unfed os rs h.1)

  one-fits : (op : Op) (reply : Reply) → is_further op ≡ false → FitsBy g (caller_of op) (record { op = op; reply = reply; work = no_work })
  one-fits (ops.Read n t x window) reply done = record { together = refl; notes = refl }
  one-fits (ops.Hold n t x) reply done = record { together = refl; notes = refl }
  one-fits (ops.Drop n x) reply done = record { together = refl; notes = refl }
  one-fits (ops.Get n t at window) reply done = absurd (false≢true (sym done))
  one-fits (ops.Put n t at size fill) reply done = absurd (false≢true (sym done))
  one-fits (ops.Patch n t at from bytes) reply done = absurd (false≢true (sym done))
  one-fits (ops.Pin n t at) reply done = absurd (false≢true (sym done))
  one-fits (ops.Unpin n at) reply done = absurd (false≢true (sym done))
  one-fits ops.Feed reply done = absurd (false≢true (sym done))
  one-fits (ops.Txg t) reply done = absurd (false≢true (sym done))
  one-fits (ops.Cap c) reply done = refl

  all-fit : (os : List Op) (rs : List Reply) → list_any is_further os ≡ false → AllByRecursion (λ l. FitsBy g (caller_of l.op) l) (plain_lines os rs)
  all-fit [] rs done = tt
  all-fit (o ∷ os) [] done = tt
  all-fit (o ∷ os) (r ∷ rs) done = let h = first-done is_further o os done in (one-fits o r h.0, all-fit os rs h.1)

  -- The work of a run that did nothing to cells, of these lines that were answered among all.
  pub plain-is : (os : List Op) (rs : List Reply) → length rs ≡ length os → list_any is_further os ≡ false → IsRunWork g os rs (plain_work os rs)
  plain-is os rs same done = record { lines = plain-are os rs same; fits = all-fit os rs done; stopped = no-sync; fed = record { told = ap (filter is_fed) (unfed os rs done); shapes = tt }; ended = tt }

  noted-none : (n : ℕ) (os : List Op) (rs : List Reply) → noted_of_work (plain_lines os rs) ≡ []
  noted-none n [] rs = refl
  noted-none n (o ∷ os) [] = refl
  noted-none n (o ∷ os) (r ∷ rs) = noted-none n os rs

  feeder-noted : (os : List Op) (rs : List Reply) → noted_of_work (lines_of_feeder (plain_lines os rs)) ≡ []
  feeder-noted [] rs = refl
  feeder-noted (o ∷ os) [] = refl
  feeder-noted (o ∷ os) (r ∷ rs) = elim (cases_true (option_map_or (λ (n : ℕ). false) (caller_of o) true)) [
    | inl feeder ↦ rw feeder (feeder-noted os rs)
    | inr other ↦ rw other (feeder-noted os rs)
  ]

  pub plain-off : (os : List Op) (rs : List Reply) → list_any is_further os ≡ false → (k : ℕ) (l : Line) → slice_get (plain_lines os rs) k ≡ Some l → on_object l.op ≡ None
  plain-off [] rs done k l at = cc
  plain-off (o ∷ os) [] done k l at = cc
  plain-off (o ∷ os) (r ∷ rs) done zero l at =
      let same : record { op = o; reply = r; work = no_work } ≡ l = cc in
      ap (λ (y : Line). on_object y.op) (sym same) ∙ off-objects o (first-done is_further o os done).0
  plain-off (o ∷ os) (r ∷ rs) done (suc k) l at = plain-off os rs (first-done is_further o os done).1 k l at

  pub plain-noted : (os : List Op) (rs : List Reply) (n : ℕ) → only_ended g n ≡ noted_by g (plain_work os rs) n
  plain-noted os rs n = elim (cases_true (n == g.callers)) [
    | inl feeder ↦ rw feeder (sym (ap (λ (l : List Noted). (l ++ []) ++ noted_ends n 0 g.cells) (feeder-noted os rs)))
    | inr other ↦ rw other (sym (ap noted_of_work (lines-plain n os rs) ∙ noted-none n (filter (is_of_caller n) os) (replies_where (is_of_caller n) os rs)))
  ]

-- nothing was done to the cells but their ends
pub cells-plain : (trace : Trace) (g : Config) → g.callers ≡ trace.config.callers → g.cells ≡ trace.config.cells → (os : List Op) (rs : List Reply) (closed : Ended OnHeap)
    → AreCellsOf trace (only_ended trace.config) closed → AreCellsOf trace (noted_by g (plain_work os rs)) closed
cells-plain trace g callers cells os rs closed are = subst (λ (d : ℕ → List Noted). AreCellsOf trace d closed) (λ i n. (bridge n ∙ plain-noted g os rs n) i) are
  where
    bridge : (n : ℕ) → only_ended trace.config n ≡ only_ended g n
    bridge n = λ i. if n == sym callers i then noted_ends n 0 (sym cells i) else []
