-- A closed cache explains the replies of its callers and what its run did beside them, whatever was done to its cells.
use Rattle.std.proofs.Common.{◌≡◌, ◌≢◌, ℕ, zero, suc, ◌+◌, ◌<◌, ◌≤◌, ◌==◌, ◌||◌, nat_le, nat_lt, Bool, true, false, IsTrue, List, [], ◌∷◌, ◌++◌, append-nil, length, map, refl, sym, ap, ◌∙◌, subst, inl, inr, arith, eq-eqb, ne_eqb}
use Rattle.std.specs.Prelude.{filter, sum_by}
use Rattle.std.specs.List.{AllByRecursion}
use Rattle.std.proofs.lemmas.Bool.{cases_lt, eqb-true, false≢true}
use Rattle.std.proofs.lemmas.Bool.Decides.{nat_tests}
use Rattle.std.proofs.lemmas.List.{length-map}
use Rattle.std.proofs.lemmas.List.Elements.{filter-append}
use mathlib.Core.Logic.{dite}
use native.Mathlib.Decide.{ℕ_discrete}
use mathlib.Core.Option.{some, some-injective, some-ne-none}
use lib.ListN.{get_elem?}
use Rattle.arc_lists.proofs.Standing.{both}
use Rattle.arc_lists.proofs.Tables.{cases_true}
use Rattle.blk_ptr.specs.declared.key.Key.{Key}
use Rattle.blk_ptr.specs.declared.ptr.Ptr.{Ptr}
use Rattle.blk_ptr.specs.Hash.{shard_of}
use Rattle.arc_core.specs.declared.config.Config.{Config}
use Rattle.arc_core.specs.declared.event.Event.{Event}
use Rattle.arc_core.specs.declared.event.Event.TheVariants.{Pass, Hit, Miss, Arrive, Fail, Drop, Past, Hand, Insert, Release, Pick, FeedEnd, Set, Leave, Clear, Restore, Resize}
use Rattle.arc_core.specs.declared.served.Restored.{Restored}
use Rattle.arc_core.specs.declared.served.Served.{Served}
use Rattle.arc_core.specs.declared.served.Served.TheVariants as served
use Rattle.arc_core.specs.Operations.{Act, AreEvents, Fails, GivesBack, HoldEveryCallOnce, IsAtRest, IsServed, Keeps, Loads, MakesPrivate, Moment, Reads, RunsOut, RunsOutAtDbuf, Tell, Writes, act_key, actor_of, acts_in, are_passes_placed, has_its_number, is_cell_of, is_pass, is_pool_read, moments, number_of, own_events, own_moments, pool_reads}
use Rattle.arc_core.specs.PlainShard.{PlainShard}
use Rattle.arc_core.specs.Replay.{is_legal_history, replay}
use Rattle.arc_core.specs.ShardLog.{ShardLog}
use Rattle.arc_core.proofs.OwnEvents.{no-own-events, own-events-are}
use Rattle.turn_table.specs.Places.{Place}
use Rattle.arc_table.specs.declared.about.About.{About}
use Rattle.arc_table.specs.declared.view.Known.{Known}
use Rattle.arc_table.specs.Cache.{Cache}
use Rattle.arc_table.specs.Ended.{Ended, Ends}
use Rattle.arc_table.specs.Geometry.{numbers_of, parties_of}
use Rattle.arc_table.specs.Items.{Meanings}
use Rattle.arc_table.specs.pact.Logged.{IsSoundLog}
use Rattle.arc_table.specs.Seen.{Finds, HasSeenBy, IsNumberOrCell, pass_owner, seen_of, turn_of}
use Rattle.arc_table.specs.TableLaws.{within}
use Rattle.arc_table.specs.Telling.{opening_of}
use Rattle.arc_table.specs.Told.{IsTold}
use Rattle.arc_table.proofs.OwnLemmas.{no-own-moments}
use Rattle.arc_table.proofs.SeenLemmas.{get-behind}
use Rattle.arc_table.proofs.TableLaws.{there}
use Rattle.arc_check.specs.Judging.{end_of}
use Rattle.trace_text.specs.declared.op.Op.{Op}
use Rattle.trace_text.specs.declared.reply.Reply.{Reply}
use Rattle.trace_run.specs.Deeds.{HasAct, HasToldOthers, Noted, acts_of_events, events_there, with_number}
use Rattle.trace_run.specs.Explaining.{BeginsWithEvents, EndsWith, Explain, drops_at_end}
use Rattle.trace_run.specs.KeptBlocks.{IsIdle}
use Rattle.trace_run.specs.Making.{AreEventsSeen}
use Rattle.trace_run.specs.Meeting.{HasSettled}
use Rattle.trace_run.specs.Restores.{events_by_feeder, restores_in}
use Rattle.trace_run.specs.RunWork.{AreMadeBy, RunWork, acts_by, acts_of_cells, noted_by, own_acts}
use Rattle.trace_run.proofs.one_caller.TellLemmas.{all-append, all-map}
use Rattle.trace_run.proofs.deeds.DeedLemmas.{acts-append}
use Rattle.trace_run.proofs.theorem.CellActs.{HasMade, acts-else, acts-here, acts-low, cell-tells, made-by, number-there, owner-party, owner-seen, pass-named, pass-own, pass-placed, stands-there, maker-there}
use Rattle.trace_run.proofs.theorem.CloseLemmas.{closed-finds, closed-legal, closed-now, closed-sound, closed-told}
use Rattle.trace_run.specs.callers.Together.{over_callers, reads_of_caller}
use Rattle.trace_run.proofs.callers.GroupCounts.{all-reads}
use Rattle.trace_run.proofs.theorem.EndLemmas.{all-logs, ends-of-logs, history-of, log-at, shown-at}
use Rattle.trace_run.proofs.theorem.FeederKinds.{feeder-kinds, is_of_feeder}
use Rattle.trace_run.proofs.theorem.HistoryLemmas.{all-events, own-events}
use Rattle.trace_run.proofs.theorem.PlacedLemmas.{all-by-place, placed-of}
use Rattle.trace_run.proofs.theorem.RestLemmas.{closed-rests, settled-picked}
use Rattle.trace_run.specs.MadeLines.{IsMaker, OwnPasses}

-- ---- which events may stand in a history

-- its number may stand on it
abbrev pub IsRunEvent : Config → Event → Type 0
IsRunEvent g e = IsTrue (has_its_number g.callers g.cells e)

-- an act of a caller's own number: a read, a drop, or a load whose hold goes to a cell
abbrev pub IsCallersAct : Config → Act → Type 0
IsCallersAct g (Reads n t ptr from) = n < g.callers
IsCallersAct g (Keeps n t ptr from) = n < g.callers
IsCallersAct g (GivesBack n k) = n < g.callers
IsCallersAct g (Loads n t ptr from cell) = (n < g.callers) × IsTrue (is_cell_of g.callers g.cells cell)
IsCallersAct g (Fails n t ptr) = n < g.callers
IsCallersAct g (RunsOut n t ptr) = ⊥
IsCallersAct g (RunsOutAtDbuf n t ptr cell) = ⊥
IsCallersAct g (MakesPrivate cell k) = ⊥
IsCallersAct g (Writes cell t ptr) = ⊥

module _ (g : Config) where
  either : (a b : Bool) → a ≡ true → (a || b) ≡ true
  either a b h = rw h refl

  or-right : (a b : Bool) → b ≡ true → (a || b) ≡ true
  or-right true b h = refl
  or-right false b h = h

  served-runs : (n t : ℕ) (ptr : Ptr) (from : Served) (rest es : List Event) → n < g.callers → AllByRecursion (IsRunEvent g) rest → IsServed n t ptr from rest es → AllByRecursion (IsRunEvent g) es
  served-runs n t ptr served.Hit rest es low all is = let lt : nat_lt n g.callers ≡ true = grind (arith, nat_tests, low) in subst (AllByRecursion (IsRunEvent g)) (sym is) (lt, all)
  served-runs n t ptr served.Pool rest es low all is = let lt : nat_lt n g.callers ≡ true = grind (arith, nat_tests, low) in subst (AllByRecursion (IsRunEvent g)) (sym is) (lt, (lt, all))
  served-runs n t ptr served.L2 rest es low all is = let lt : nat_lt n g.callers ≡ true = grind (arith, nat_tests, low) in subst (AllByRecursion (IsRunEvent g)) (sym is) (lt, (lt, all))
  served-runs n t ptr served.Past rest es low all is = let lt : nat_lt n g.callers ≡ true = grind (arith, nat_tests, low) in subst (AllByRecursion (IsRunEvent g)) (sym is.1) (lt, tt)

  drop-runs : (n : ℕ) (k : Key) → n < g.callers → IsRunEvent g (Drop n k)
  drop-runs n k low = let lt : nat_lt n g.callers ≡ true = grind (arith, nat_tests, low) in either (nat_lt n g.callers) (is_cell_of g.callers g.cells n) lt

  act-runs : (act : Act) (es : List Event) → IsCallersAct g act → AreEvents act es → AllByRecursion (IsRunEvent g) es
  act-runs (Reads n t ptr from) es low is = served-runs n t ptr from (Drop n ptr.key ∷ []) es low (drop-runs n ptr.key low, tt) is
  act-runs (Keeps n t ptr from) es low is = served-runs n t ptr from [] es low tt is
  act-runs (GivesBack n k) es low is = subst (AllByRecursion (IsRunEvent g)) (sym is) (drop-runs n k low, tt)
  act-runs (Loads n t ptr from cell) es of is =
      let lt : nat_lt n g.callers ≡ true = let low = of.0 in grind (arith, nat_tests, low) in
      served-runs n t ptr from (Hand n ptr.key cell ∷ []) es of.0 (both (nat_lt n g.callers) (is_cell_of g.callers g.cells cell) lt of.1, tt) is
  act-runs (Fails n t ptr) es low (inl is) = let lt : nat_lt n g.callers ≡ true = grind (arith, nat_tests, low) in subst (AllByRecursion (IsRunEvent g)) (sym is) (lt, (lt, tt))
  act-runs (Fails n t ptr) es low (inr is) = let lt : nat_lt n g.callers ≡ true = grind (arith, nat_tests, low) in subst (AllByRecursion (IsRunEvent g)) (sym is.1) (lt, tt)
  act-runs (RunsOut n t ptr) es of is = absurd of
  act-runs (RunsOutAtDbuf n t ptr cell) es of is = absurd of
  act-runs (MakesPrivate cell k) es of is = absurd of
  act-runs (Writes cell t ptr) es of is = absurd of

  told-runs : (acts : List Act) (ms : List Moment) → AllByRecursion (IsCallersAct g) acts → Tell acts ms → AllByRecursion (λ m. IsRunEvent g m.event) ms
  told-runs [] ms of told = subst (AllByRecursion (λ m. IsRunEvent g m.event)) (sym told) tt
  told-runs (act ∷ acts) ms of told =
      subst (AllByRecursion (λ m. IsRunEvent g m.event)) (sym told.2)
      (all-append (λ m. IsRunEvent g m.event) told.0 told.1
      (all-events (IsRunEvent g) told.0 (act-runs act (map (λ m. m.event) told.0) of.0 told.3.events))
      (told-runs acts told.1 of.1 told.4))

  -- an event with a cell's number that stands for an act
  cell-of-run : (n : ℕ) → parties_of g ≤ n → n < numbers_of g → is_cell_of g.callers g.cells n ≡ true
  cell-of-run n above below =
      let first : nat_lt g.callers n ≡ true = grind (arith, nat_tests, above) in
      let last : nat_le n (g.callers + g.cells) ≡ true = grind (arith, nat_tests, below) in
      both (nat_lt g.callers n) (nat_le n (g.callers + g.cells)) first last

  never-act : (act : Act) → ◌≡◌ {A = List Act} [] (act ∷ []) → ⊥
  never-act act is = cc

  cell-runs : (e : Event) → HasAct e → parties_of g ≤ number_of e → number_of e < numbers_of g → IsRunEvent g e
  cell-runs (Pass n k owner) has above below = absurd (never-act has.0 has.1)
  cell-runs (Hit n k t) has above below = absurd (never-act has.0 has.1)
  cell-runs (Miss n k t) has above below = absurd (never-act has.0 has.1)
  cell-runs (Arrive n k d from) has above below = absurd (never-act has.0 has.1)
  cell-runs (Fail n k at) has above below = absurd (never-act has.0 has.1)
  cell-runs (Drop n k) has above below = or-right (nat_lt n g.callers) (is_cell_of g.callers g.cells n) (cell-of-run n above below)
  cell-runs (Past n k kept) has above below = absurd (never-act has.0 has.1)
  cell-runs (Hand n k to) has above below = absurd (never-act has.0 has.1)
  cell-runs (Insert n k d t) has above below = cell-of-run n above below
  cell-runs (Release n k sole) has above below = cell-of-run n above below
  cell-runs (Pick n k) has above below = absurd (never-act has.0 has.1)
  cell-runs (FeedEnd n) has above below = absurd (never-act has.0 has.1)
  cell-runs (Set n k place) has above below = absurd (never-act has.0 has.1)
  cell-runs (Leave n k why) has above below = absurd (never-act has.0 has.1)
  cell-runs (Clear n k) has above below = absurd (never-act has.0 has.1)
  cell-runs (Restore n k place d) has above below = absurd (never-act has.0 has.1)
  cell-runs (Resize n c) has above below = absurd (never-act has.0 has.1)

  -- a pass names parties
  pass-runs : (e : Event) → is_pass e ≡ true → number_of e < parties_of g → pass_owner e < parties_of g → IsRunEvent g e
  pass-runs (Pass n k owner) pass mine named =
      let first : nat_le n g.callers ≡ true = grind (arith, nat_tests, mine) in
      let last : nat_le owner g.callers ≡ true = grind (arith, nat_tests, named) in
      both (nat_le n g.callers) (nat_le owner g.callers) first last
  pass-runs (Hit n k t) pass mine named = absurd (false≢true pass)
  pass-runs (Miss n k t) pass mine named = absurd (false≢true pass)
  pass-runs (Arrive n k d from) pass mine named = absurd (false≢true pass)
  pass-runs (Fail n k at) pass mine named = absurd (false≢true pass)
  pass-runs (Drop n k) pass mine named = absurd (false≢true pass)
  pass-runs (Past n k kept) pass mine named = absurd (false≢true pass)
  pass-runs (Hand n k to) pass mine named = absurd (false≢true pass)
  pass-runs (Insert n k d t) pass mine named = absurd (false≢true pass)
  pass-runs (Release n k sole) pass mine named = absurd (false≢true pass)
  pass-runs (Pick n k) pass mine named = absurd (false≢true pass)
  pass-runs (FeedEnd n) pass mine named = absurd (false≢true pass)
  pass-runs (Set n k place) pass mine named = absurd (false≢true pass)
  pass-runs (Leave n k why) pass mine named = absurd (false≢true pass)
  pass-runs (Clear n k) pass mine named = absurd (false≢true pass)
  pass-runs (Restore n k place d) pass mine named = absurd (false≢true pass)
  pass-runs (Resize n c) pass mine named = absurd (false≢true pass)

  -- the feeder's own
  feeder-runs : (e : Event) → is_of_feeder e ≡ true → number_of e ≡ g.callers → IsRunEvent g e
  feeder-runs (Pass n k owner) of his = absurd (false≢true of)
  feeder-runs (Hit n k t) of his = absurd (false≢true of)
  feeder-runs (Miss n k t) of his = absurd (false≢true of)
  feeder-runs (Arrive n k d from) of his = absurd (false≢true of)
  feeder-runs (Fail n k at) of his = absurd (false≢true of)
  feeder-runs (Drop n k) of his = absurd (false≢true of)
  feeder-runs (Past n k kept) of his = absurd (false≢true of)
  feeder-runs (Hand n k to) of his = absurd (false≢true of)
  feeder-runs (Insert n k d t) of his = absurd (false≢true of)
  feeder-runs (Release n k sole) of his = absurd (false≢true of)
  feeder-runs (Pick n k) of his = eq-eqb n g.callers his
  feeder-runs (FeedEnd n) of his = eq-eqb n g.callers his
  feeder-runs (Set n k place) of his = eq-eqb n g.callers his
  feeder-runs (Leave n k why) of his = eq-eqb n g.callers his
  feeder-runs (Clear n k) of his = eq-eqb n g.callers his
  feeder-runs (Restore n k place d) of his = eq-eqb n g.callers his
  feeder-runs (Resize n c) of his = eq-eqb n g.callers his

  -- one that stands for a read of the pool is a caller's
  run-read : (e : Event) → IsRunEvent g e → is_pool_read e ≡ true → number_of e < g.callers
  run-read (Arrive n k d from) runs read = let lt : nat_lt n g.callers ≡ true = runs in grind (arith, nat_tests, lt)
  run-read (Fail n k at) runs read = let lt : nat_lt n g.callers ≡ true = runs in grind (arith, nat_tests, lt)
  run-read (Past n k kept) runs read = let lt : nat_lt n g.callers ≡ true = runs in grind (arith, nat_tests, lt)
  run-read (Pass n k owner) runs read = absurd (false≢true read)
  run-read (Hit n k t) runs read = absurd (false≢true read)
  run-read (Miss n k t) runs read = absurd (false≢true read)
  run-read (Drop n k) runs read = absurd (false≢true read)
  run-read (Hand n k to) runs read = absurd (false≢true read)
  run-read (Insert n k d t) runs read = absurd (false≢true read)
  run-read (Release n k sole) runs read = absurd (false≢true read)
  run-read (Pick n k) runs read = absurd (false≢true read)
  run-read (FeedEnd n) runs read = absurd (false≢true read)
  run-read (Set n k place) runs read = absurd (false≢true read)
  run-read (Leave n k why) runs read = absurd (false≢true read)
  run-read (Clear n k) runs read = absurd (false≢true read)
  run-read (Restore n k place d) runs read = absurd (false≢true read)
  run-read (Resize n c) runs read = absurd (false≢true read)

-- ---- acts with the callers' own numbers

module _ (f : Key → ℕ) (shard : ℕ) where
  pub acts-same : (n : ℕ) (acts : List Act) → acts_in f shard n (filter (λ act. actor_of act == n) acts) ≡ acts_in f shard n acts
  acts-same n [] = refl
  acts-same n (act ∷ acts) = elim (cases_true (actor_of act == n)) [
    | inl own ↦ elim (cases_true (f (act_key act) == shard)) [
      | inl here ↦ rw (own, here, own) (ap (λ (l : List Act). act ∷ l) (acts-same n acts))
      | inr out ↦ rw (own, out, own) (acts-same n acts)
    ]
    | inr other ↦ rw other (acts-same n acts)
  ]

  acts-apart : (n c : ℕ) (acts : List Act) → n ≢ c → acts_in f shard n (filter (λ act. actor_of act == c) acts) ≡ []
  acts-apart n c [] differs = refl
  acts-apart n c (act ∷ acts) differs = elim (cases_true (actor_of act == c)) [
    | inl own ↦
        let other : (actor_of act == n) ≡ false = ne_eqb (actor_of act) n (λ is. differs (sym is ∙ eqb-true (actor_of act) c own)) in
        rw (own, other) (acts-apart n c acts differs)
    | inr other ↦ rw other (acts-apart n c acts differs)
  ]

module _ (f : Key → ℕ) (shard : ℕ) (g : Config) (blocks : List Ptr) (work : RunWork) where
  -- a number that none of the first so many callers has
  own-above : (c n : ℕ) → c ≤ n → acts_in f shard n (own_acts g blocks work c) ≡ []
  own-above zero n above = refl
  own-above (suc c) n above =
      acts-append f shard n (own_acts g blocks work c) (filter (λ act. actor_of act == c) (acts_by g blocks work c))
      ∙ (λ i. own-above c n (omega (arith, above)) i ++ acts-apart f shard n c (acts_by g blocks work c) (λ is. omega (arith, is, above)) i)

  -- and one that a caller has
  own-below : (c n : ℕ) → n < c → acts_in f shard n (own_acts g blocks work c) ≡ acts_in f shard n (acts_by g blocks work n)
  own-below zero n below = absurd (omega (arith, below))
  own-below (suc c) n below = dite (ℕ_discrete c n)
      (λ same.
      acts-append f shard n (own_acts g blocks work c) (filter (λ act. actor_of act == c) (acts_by g blocks work c))
      ∙ ((λ i. own-above c n (omega (arith, same)) i ++ acts_in f shard n (filter (λ act. actor_of act == same i) (acts_by g blocks work (same i))))
      ∙ acts-same f shard n (acts_by g blocks work n)))
      (λ differs.
      acts-append f shard n (own_acts g blocks work c) (filter (λ act. actor_of act == c) (acts_by g blocks work c))
      ∙ ((λ i. own-below c n (less c n below differs) i ++ acts-apart f shard n c (acts_by g blocks work c) (λ is. differs (sym is)) i)
      ∙ append-nil (acts_in f shard n (acts_by g blocks work n))))
    where
      less : (c n : ℕ) → n < suc c → c ≢ n → n < c
      less c n below differs = omega arith

-- ---- the acts of the cells' numbers, over all histories

module _ (f : Key → ℕ) (g : Config) where
  abbrev cells-of : ShardLog → List Act
  cells-of l = acts_of_events (filter (λ ev. nat_le (parties_of g) (number_of ev)) l.history)

  none-among : (shard n : ℕ) (ls : List ShardLog) → ((j : ℕ) (l : ShardLog) → get_elem? ls j ≡ some l → acts_in f shard n (cells-of l) ≡ []) → acts_in f shard n (acts_of_cells g (map (λ log. log.history) ls)) ≡ []
  none-among shard n [] each = refl
  none-among shard n (x ∷ xs) each =
      acts-append f shard n (cells-of x) (acts_of_cells g (map (λ log. log.history) xs))
      ∙ (λ i. each 0 x refl i ++ none-among shard n xs (λ j l at. each (suc j) l at) i)

  one-among : (shard n j : ℕ) (l : ShardLog) (ls : List ShardLog) → get_elem? ls j ≡ some l → ((k : ℕ) (x : ShardLog) → get_elem? ls k ≡ some x → k ≢ j → acts_in f shard n (cells-of x) ≡ [])
      → acts_in f shard n (acts_of_cells g (map (λ log. log.history) ls)) ≡ acts_in f shard n (cells-of l)
  one-among shard n j l [] at others = absurd (some-ne-none l (sym at))
  one-among shard n zero l (x ∷ xs) at others =
      acts-append f shard n (cells-of x) (acts_of_cells g (map (λ log. log.history) xs))
      ∙ ((λ i. acts_in f shard n (cells-of (some-injective x l at i)) ++ none-among shard n xs (λ k y there_is. others (suc k) y there_is (λ is. omega (arith, is))) i)
      ∙ append-nil (acts_in f shard n (cells-of l)))
  one-among shard n (suc j) l (x ∷ xs) at others =
      acts-append f shard n (cells-of x) (acts_of_cells g (map (λ log. log.history) xs))
      ∙ (λ i. others 0 x refl (λ is. omega (arith, is)) i ++ one-among shard n j l xs at (λ k y there_is differs. others (suc k) y there_is (λ is. differs (omega (arith, is)))) i)

-- ---- the closed cache

none-own : (n : ℕ) (s : PlainShard) (es : List Event) → ((y : ℕ) (ev : Event) → get_elem? es y ≡ some ev → number_of ev ≢ n) → own_events n es ≡ []
none-own n s es none = no-own-events n s es (no-own-moments n s es none)

pub all-filter : {X : Type 0} (P : X → Type 0) (test : X → Bool) (xs : List X) → AllByRecursion P xs → AllByRecursion P (filter test xs)
all-filter P test [] all = tt
all-filter P test (x ∷ xs) all = elim (cases_true (test x)) [
  | inl passes ↦ rw passes (all.0, all-filter P test xs all.1)
  | inr fails ↦ rw fails (all-filter P test xs all.1)
]

-- What is so of a party at the end of a run: it has this number, has seen all that it made and has given all back. What a caller did with its own number is told, and the
-- feeder made these events with its own, and settled all that it picked; what either did with other numbers and to cells is told.
pub record HasEndedWork {C : Type 0} (g : Config) (did : List Act) (noted : List Noted) (feeds : (shard : ℕ) → List Event) (n : ℕ) (p : Place (Known C)) : Type 0 where
  pub number : p.number ≡ n
  pub config : p.own.about.config ≡ g
  pub seen : AreEventsSeen g p.number p.own.mine p.own.seen
  pub idle : IsIdle p.own.ledger
  pub told : n < g.callers → IsTold g did p
  pub acts : n < g.callers → AllByRecursion (IsCallersAct g) (filter (λ act. actor_of act == n) did)
  pub fed : n ≡ g.callers → (shard : ℕ) → shard < g.shards → own_events n (seen_of g shard p) ≡ feeds shard
  pub others : HasToldOthers g did noted p
  pub settled : n ≡ g.callers → HasSettled p

module _ {C : Type 0} (m : Meanings C) (cache : Cache) (restored : List Restored) (blocks : List Ptr) (ops : List Op) (work : RunWork) (replies : List Reply) (ps : List (Place (Known C))) (e : Ended C) (ends : Ends m cache ps e)
    (long : length ps ≡ parties_of cache.config)
    (ended : (n : ℕ) (p : Place (Known C)) → get_elem? ps n ≡ some p → HasEndedWork cache.config (acts_by cache.config blocks work n) (noted_by cache.config work n) (events_by_feeder cache.config restored ops replies work.feeds) n p) where
  abbrev settled : Config
  settled = cache.config

  abbrev shard_is : Key → ℕ
  shard_is = shard_of settled.shards

  abbrev did : ℕ → List Act
  did n = acts_by settled blocks work n

  -- a party by its own number alone
  abbrev bare : Place (Known C) → Place (Known C)
  bare p = record { table = p.table; parties = parties_of settled; number = p.number; own = p.own; joined = []; held = [] }

  party : (n : ℕ) → n < parties_of settled → (p : Place (Known C)) × (get_elem? ps n ≡ some p)
  party n below = there ps n (subst (λ (x : ℕ). n < x) (sym long) below)

  first-party : 0 < parties_of settled
  first-party = omega arith

  view-of : (n : ℕ) (p : Place (Known C)) → get_elem? ps n ≡ some p → get_elem? ends.views p.number ≡ some p.own
  view-of n p at = shown-at ends.views ps n p at ends.shown

  seen-by : (n : ℕ) (p : Place (Known C)) → get_elem? ps n ≡ some p → HasSeenBy (IsNumberOrCell settled) settled (bare p)
  seen-by n p at = record { own = (ended n p at).seen; joined = tt }

  config : ends.pact.scene.about.config ≡ settled
  config =
      let p = party 0 first-party in
      let view = ends.pact.attached.views p.0.number p.0.own (view-of 0 p.0 p.1) in
      ap (λ (a : About). a.config) (sym view.about) ∙ (ended 0 p.0 p.1).config

  made : (n : ℕ) → n < parties_of settled → HasMade settled ends.views (did n) (noted_by settled work n) n
  made n below =
      let p = party n below in
      let h = ended n p.0 p.1 in
      record {
        party = p.0;
        number = h.number;
        shown = subst (λ (k : ℕ). get_elem? ends.views k ≡ some p.0.own) h.number (view-of n p.0 p.1);
        seen = subst (λ (k : ℕ). AreEventsSeen settled k p.0.own.mine p.0.own.seen) h.number h.seen;
        told = h.others;
      }

  module _ (i : ℕ) (l : ShardLog) (at : get_elem? e.shards i ≡ some l) where
    sound : IsSoundLog settled l
    sound = let p = party 0 first-party in closed-sound m cache ps e ends i l at (bare p.0) (view-of 0 p.0 p.1, tt) refl refl tt (ended 0 p.0 p.1).config (seen-by 0 p.0 p.1)

    legal : IsTrue (is_legal_history (opening_of settled) l.history)
    legal = let p = party 0 first-party in closed-legal m cache ps e ends i l at (bare p.0) (view-of 0 p.0 p.1, tt) refl refl tt (ended 0 p.0 p.1).config (seen-by 0 p.0 p.1)

    now : replay (opening_of settled) l.history ≡ l.now
    now = let p = party 0 first-party in closed-now m cache ps e ends i l at (bare p.0) (view-of 0 p.0 p.1, tt) refl refl tt (ended 0 p.0 p.1).config (seen-by 0 p.0 p.1)

    finds : (n : ℕ) (p : Place (Known C)) (is : get_elem? ps n ≡ some p) → Finds settled i (bare p) l.history
    finds n p is = closed-finds m cache ps e ends i l at (bare p) (view-of n p is, tt) refl refl tt (ended n p is).config (seen-by n p is)

    -- what a caller did with its own number stands in the history
    caller-told : (n : ℕ) → n < settled.callers → Tell (acts_in shard_is i n (did n)) (own_moments n (moments (opening_of settled) l.history))
    caller-told n below =
        let p = party n (omega (arith, below)) in
        let h = ended n p.0 p.1 in
        subst (λ (x : ℕ). Tell (acts_in shard_is i x (did n)) (own_moments x (moments (opening_of settled) l.history))) h.number
        (closed-told m cache ps e ends i l at (bare p.0) (view-of n p.0 p.1, tt) refl refl tt h.config (seen-by n p.0 p.1) (did n) (h.told below))

    -- the feeder made its events with its own number and no others
    feeder-fed : own_events settled.callers l.history ≡ events_by_feeder settled restored ops replies work.feeds i
    feeder-fed =
        let p = party settled.callers (omega arith) in
        let h = ended settled.callers p.0 p.1 in
        let f = finds settled.callers p.0 p.1 in
        let inside : i < settled.shards = subst (λ (k : ℕ). i < k) ends.shards (within e.shards i l at) in
        ap (own_events settled.callers) f.whole
        ∙ (filter-append _ (seen_of settled i p.0) f.rest
        ∙ ((λ k. h.fed refl i inside k ++ none-own settled.callers (opening_of settled) f.rest (λ y ev there_is same. f.others y ev there_is (same ∙ sym h.number)) k)
        ∙ append-nil (events_by_feeder settled restored ops replies work.feeds i)))

    feeder-made : AllByRecursion (λ (n : Moment). is_of_feeder n.event ≡ true) (own_moments settled.callers (moments (opening_of settled) l.history))
    feeder-made = all-events (λ ev. is_of_feeder ev ≡ true) (own_moments settled.callers (moments (opening_of settled) l.history))
        (subst (AllByRecursion (λ ev. is_of_feeder ev ≡ true)) (sym (own-events-are settled.callers (opening_of settled) l.history ∙ feeder-fed)) (feeder-kinds settled restored ops replies work.feeds i))

    each-there : (n : ℕ) → n < settled.callers → AllByRecursion (IsCallersAct settled) (acts_in shard_is i n (did n))
    each-there n below =
        let p = party n (omega (arith, below)) in
        subst (AllByRecursion (IsCallersAct settled)) (acts-same shard_is i n (did n)) (all-filter (IsCallersAct settled) _ (filter (λ act. actor_of act == n) (did n)) ((ended n p.0 p.1).acts below))

    -- each event may stand there
    event-runs : (x : ℕ) (ev : Event) → get_elem? l.history x ≡ some ev → IsRunEvent settled ev
    event-runs x ev here = elim (cases_true (is_pass ev)) [
      | inl pass ↦
          let low : number_of ev < parties_of settled = subst (λ (k : ℕ). k < parties_of settled) (sym (pass-own m cache ps e ends config did (noted_by settled work) made i l at x ev here pass)) (owner-party m cache ps e ends config did (noted_by settled work) made i l at x ev here) in
          pass-runs settled ev pass low (pass-named m cache ps e ends config did (noted_by settled work) made i l at x ev here pass)
      | inr none ↦ elim (cases_lt (number_of ev) settled.callers) [
        | inl caller ↦ own-events (IsRunEvent settled) (number_of ev) (opening_of settled) l.history
            (told-runs settled (acts_in shard_is i (number_of ev) (did (number_of ev))) _ (each-there (number_of ev) caller) (caller-told (number_of ev) caller)) x ev here refl none
        | inr above ↦ elim (cases_lt (number_of ev) (parties_of settled)) [
          | inl feeder ↦
              let his : number_of ev ≡ settled.callers = omega (arith, above, feeder) in
              feeder-runs settled ev (own-events (λ y. is_of_feeder y ≡ true) settled.callers (opening_of settled) l.history feeder-made x ev here his none) his
          | inr cell ↦ cell-runs settled ev (stands-there m cache ps e ends config did (noted_by settled work) made i l at x ev here cell) cell
              (number-there m cache ps e ends config did (noted_by settled work) made i l at x ev here)
        ]
      ]
    ]

    all-run : AllByRecursion (IsRunEvent settled) l.history
    all-run = all-by-place (IsRunEvent settled) l.history event-runs

    placed : IsTrue (are_passes_placed l.history)
    placed = placed-of l.history (λ x ev here pass. pass-placed m cache ps e ends config did (noted_by settled work) made i l at x ev here pass)

    rests : ((j : ℕ) (c : C) → get_elem? e.cells j ≡ some c → m.holds c ≡ []) → IsAtRest l.now
    rests emptied = closed-rests m cache ps e ends i l at config sound
        (λ n below. let p = party n below in let h = ended n p.0 p.1 in (p.0.own, subst (λ (k : ℕ). get_elem? ends.views k ≡ some p.0.own) h.number (view-of n p.0 p.1), h.idle)) emptied
        (let p = party settled.callers (omega arith) in
        let h = ended settled.callers p.0 p.1 in
        settled-picked m cache ps e ends i l at config sound p.0.own (subst (λ (k : ℕ). get_elem? ends.views k ≡ some p.0.own) h.number (view-of settled.callers p.0 p.1)) (h.settled refl (turn_of settled i)))

  -- where all parties have seen the same, the histories are that
  module _ (fronts : ℕ → List Event) (level : (n : ℕ) (p : Place (Known C)) → get_elem? ps n ≡ some p → (shard : ℕ) → seen_of settled shard p ≡ fronts shard) (i : ℕ) (l : ShardLog) (at : get_elem? e.shards i ≡ some l) where
    whole : (rest : List Event) × (l.history ≡ fronts i ++ rest)
    whole = let p = party 0 first-party in let f = finds i l at 0 p.0 p.1 in (f.rest, f.whole ∙ ap (λ (es : List Event). es ++ f.rest) (level 0 p.0 p.1 i))

    nothing-more : (ev : Event) → get_elem? whole.0 0 ≡ some ev → ⊥
    unfolding party made
    nothing-more ev first =
        let x : ℕ = length (fronts i) + 0 in
        let here : get_elem? l.history x ≡ some ev = ap (λ (h : List Event). get_elem? h x) whole.1 ∙ (get-behind (fronts i) whole.0 0 ∙ first) in
        let low = owner-party m cache ps e ends config did (noted_by settled work) made i l at x ev here in
        let p = party _ low in
        let inside : x < length (seen_of settled i p.0) = owner-seen m cache ps e ends config did (noted_by settled work) made i l at x ev here in
        let long : length (seen_of settled i p.0) ≡ length (fronts i) = ap length (level _ p.0 p.1 i) in
        omega (arith, inside, long)

    pub work-level : l.history ≡ fronts i
    work-level = whole.1 ∙ (ap (λ (rest : List Event). fronts i ++ rest) (none-first whole.0 nothing-more) ∙ append-nil (fronts i))
      where
        none-first : (es : List Event) → ((ev : Event) → get_elem? es 0 ≡ some ev → ⊥) → es ≡ []
        none-first [] none = refl
        none-first (ev ∷ es) none = absurd (none ev refl)

  abbrev histories : List (List Event)
  histories = map (λ (log : ShardLog). log.history) e.shards

  abbrev all-acts : List Act
  all-acts = own_acts settled blocks work settled.callers ++ acts_of_cells settled histories

  -- what each number did there
  tells : (i : ℕ) (l : ShardLog) → get_elem? e.shards i ≡ some l → (n : ℕ) → n ≢ settled.callers → Tell (acts_in shard_is i n all-acts) (own_moments n (moments (opening_of settled) l.history))
  tells i l at n differs = elim (cases_lt n settled.callers) [
    | inl caller ↦
        let is : acts_in shard_is i n all-acts ≡ acts_in shard_is i n (did n) =
        acts-append shard_is i n (own_acts settled blocks work settled.callers) (acts_of_cells settled histories)
        ∙ ((λ k. own-below shard_is i settled blocks work settled.callers n caller k ++ none-among shard_is settled i n e.shards (λ j x there_is. acts-low m cache ps e ends config did (noted_by settled work) made j x there_is i n (omega (arith, caller))) k)
        ∙ append-nil (acts_in shard_is i n (did n))) in
        subst (λ (acts : List Act). Tell acts (own_moments n (moments (opening_of settled) l.history))) (sym is) (caller-told i l at n caller)
    | inr above ↦
        let cell : parties_of settled ≤ n = later n settled.callers above differs in
        let is : acts_in shard_is i n all-acts ≡ acts_of_events (with_number n l.history) =
        acts-append shard_is i n (own_acts settled blocks work settled.callers) (acts_of_cells settled histories)
        ∙ ((λ k. own-above shard_is i settled blocks work settled.callers n above k ++ one-among shard_is settled i n i l e.shards at
        (λ j x there_is apart. acts-else m cache ps e ends config did (noted_by settled work) made j x there_is i n (λ same. apart (sym same))) k)
        ∙ acts-here m cache ps e ends config did (noted_by settled work) made i l at n cell) in
        subst (λ (acts : List Act). Tell acts (own_moments n (moments (opening_of settled) l.history))) (sym is) (cell-tells m cache ps e ends config did (noted_by settled work) made i l at n cell)
  ]
    where
      later : (n c : ℕ) → c ≤ n → n ≢ c → c + 1 ≤ n
      later n c above differs = omega arith

  -- What a caller did with its own number stands in each history.
  pub own-told : (n : ℕ) → n < settled.callers → (i : ℕ) (h : List Event) → get_elem? histories i ≡ some h → Tell (acts_in shard_is i n (did n)) (own_moments n (moments (opening_of settled) h))
  own-told n below i h at =
      let log = history-of e.shards i h at in
      subst (λ (es : List Event). Tell (acts_in shard_is i n (did n)) (own_moments n (moments (opening_of settled) es))) log.2 (caller-told i log.0 log.1 n below)

  -- The callers' events stand for all reads of the pool.
  pub reads-counted : over_callers settled.callers (λ n. reads_of_caller n histories) ≡ sum_by pool_reads histories
  reads-counted = all-reads settled.callers histories
      (all-logs (AllByRecursion (λ ev. is_pool_read ev ≡ true → number_of ev < settled.callers)) e.shards
      (λ i l at. all-map (IsRunEvent settled) (λ ev. is_pool_read ev ≡ true → number_of ev < settled.callers) l.history (λ ev runs. run-read settled ev runs) (all-run i l at)))

  every-call : HoldEveryCallOnce settled shard_is (opening_of settled) all-acts (events_by_feeder settled restored ops replies work.feeds) histories
  every-call = record {
    told = λ i n inside differs.
        let h = log-at e.shards i inside in
        subst (λ (es : List Event). Tell (acts_in shard_is i n all-acts) (own_moments n (moments (opening_of settled) es))) (sym h.2) (tells i h.0 h.1 n differs);
    fed = λ i inside. let h = log-at e.shards i inside in ap (own_events settled.callers) h.2 ∙ feeder-fed i h.0 h.1;
    numbers = all-logs (AllByRecursion (λ ev. IsTrue (has_its_number settled.callers settled.cells ev))) e.shards (λ i l at. all-run i l at);
    passes = all-logs (λ h. IsTrue (are_passes_placed h)) e.shards (λ i l at. placed i l at);
  }

  abbrev owner : (shard place : ℕ) → ℕ
  owner shard place = ends.pact.scene.owner (turn_of settled shard) place

  -- each party made what it is the owner of
  maker-of : (i : ℕ) (l : ShardLog) → get_elem? e.shards i ≡ some l → (n : ℕ) (p : Place (Known C)) → get_elem? ps n ≡ some p → IsMaker settled i (owner i) n p
  unfolding made party
  maker-of i l at n p is =
      let below : n < parties_of settled = subst (λ (x : ℕ). n < x) long (within ps n p is) in
      subst (IsMaker settled i (owner i) n) (some-injective (party n below).0 p (sym (party n below).1 ∙ is)) (maker-there m cache ps e ends config did (noted_by settled work) made i l at n below)

  passes-of : (i : ℕ) (l : ShardLog) → get_elem? e.shards i ≡ some l → OwnPasses settled (owner i) l.history
  passes-of i l at x ev here pass = (pass-own m cache ps e ends config did (noted_by settled work) made i l at x ev here pass, owner-party m cache ps e ends config did (noted_by settled work) made i l at x ev here)

  -- The histories explain the replies and the work, where each begins with the restores and ends with the drops at the end of the run. The owners of events are those that
  -- made them, and passes have their numbers.
  pub work-explains : ((j : ℕ) (c : C) → get_elem? e.cells j ≡ some c → m.holds c ≡ []) → ((i : ℕ) (l : ShardLog) → get_elem? e.shards i ≡ some l → BeginsWithEvents l.history (restores_in settled restored i))
      → ((i : ℕ) (l : ShardLog) → get_elem? e.shards i ≡ some l → EndsWith l.history (drops_at_end settled blocks i settled.callers ops replies ++ events_there settled i work.ended))
      → (x : Explain (record { config = settled; blocks = blocks; objects = []; ops = ops }) restored work replies (map (λ log. end_of log.now) e.shards) histories)
      × ((i : ℕ) (l : ShardLog) → get_elem? e.shards i ≡ some l → ((n : ℕ) (p : Place (Known C)) → get_elem? ps n ≡ some p → IsMaker settled i (x.owner i) n p) × OwnPasses settled (x.owner i) l.history)
  work-explains emptied begun_so ends_so = (
    record {
      shards = length-map e.shards (λ (log : ShardLog). log.history) ∙ ends.shards;
      legal = all-logs (λ h. IsTrue (is_legal_history (opening_of settled) h)) e.shards (λ i l at. legal i l at);
      ends = ends-of-logs settled e.shards (λ i l at. now i l at);
      at_rest = all-logs (λ h. IsAtRest (replay (opening_of settled) h)) e.shards (λ i l at. subst IsAtRest (sym (now i l at)) (rests i l at emptied));
      begins = λ i inside. let h = log-at e.shards i inside in subst (λ (es : List Event). BeginsWithEvents es (restores_in settled restored i)) (sym h.2) (begun_so i h.0 h.1);
      every_call = every-call;
      owner = owner;
      made = λ i inside. let h = log-at e.shards i inside in subst (AreMadeBy settled i (owner i) did) (sym h.2) (made-by m cache ps e ends config did (noted_by settled work) made i h.0 h.1);
      ending = λ i inside.
          let h = log-at e.shards i inside in
          subst (λ (es : List Event). EndsWith es (drops_at_end settled blocks i settled.callers ops replies ++ events_there settled i work.ended)) (sym h.2) (ends_so i h.0 h.1);
    },
    λ i l at. (maker-of i l at, passes-of i l at),
  )
