-- What a closed cache's histories are: of each party just what it is told to have made.
use Rattle.std.proofs.Common.{◌≡◌, ℕ, ◌==◌, false, List, [], ◌∷◌, ◌++◌, map, refl, sym, ap, ◌∙◌, subst, inl, inr}
use Rattle.std.specs.List.{AllByRecursion}
use Rattle.arc_lists.proofs.Tables.{cases_true}
use Rattle.arc_core.specs.declared.event.Event.{Event}
use Rattle.arc_core.specs.declared.event.Event.TheVariants.{Pass, Hit, Miss, Arrive, Fail, Drop, Past, Hand, Insert, Release, Pick, FeedEnd, Set, Leave, Clear, Restore, Resize}
use Rattle.arc_core.specs.Operations.{Act, GivesBack, MakesPrivate, StandsFor, Tell, Writes, is_pass, moments, number_of, own_moments}
use Rattle.arc_core.specs.PlainShard.{PlainShard}
use Rattle.arc_core.specs.Step.{after}
use Rattle.dbuf_state.specs.Numbers.{event_in, event_numbers}
use Rattle.dbuf_state.specs.declared.event.CellEvent.{CellEvent}
use Rattle.dbuf_state.proofs.NumberLemmas.{events-read}
use Rattle.arc_table.specs.declared.view.Line.{Line}
use Rattle.arc_table.specs.declared.view.Line.TheVariants as line
use Rattle.trace_run.specs.Deeds.{HasAct, act_of_event, acts_of_events, with_number}
use Rattle.trace_run.specs.MadeLines.{owned_from}
use Rattle.trace_run.proofs.deeds.MadeCells.{owned-map}

-- ---- cells

entry-same : (a b : List ℕ) → line.Entry a ≡ line.Entry b → a ≡ b
entry-same a b is = cc

-- entries are told by their numbers
pub entries-read : (xs ys : List CellEvent) → map line.Entry (map event_numbers xs) ≡ map line.Entry (map event_numbers ys) → xs ≡ ys
entries-read [] [] is = refl
entries-read [] (y ∷ ys) is = cc
entries-read (x ∷ xs) [] is = cc
entries-read (x ∷ xs) (y ∷ ys) is =
    let first : ◌≡◌ {A = Line} (line.Entry (event_numbers x)) (line.Entry (event_numbers y)) = cc in
    let rest : map line.Entry (map event_numbers xs) ≡ map line.Entry (map event_numbers ys) = cc in
    let same : x ≡ y = sym (events-read x) ∙ (ap event_in (entry-same (event_numbers x) (event_numbers y) first) ∙ events-read y) in
    (λ i. same i ∷ entries-read xs ys rest i)

-- where a party is told to have done this to a cell, that is what is its own of the cell's history
pub owned-entries : (owner : ℕ → ℕ) (n : ℕ) (history did : List CellEvent) → owned_from owner n 0 (map line.Entry (map event_numbers history)) ≡ map line.Entry (map event_numbers did) → owned_from owner n 0 history ≡ did
owned-entries owner n history did is = entries-read (owned_from owner n 0 history) did
    (ap (map line.Entry) (sym (owned-map event_numbers owner n 0 history)) ∙ (sym (owned-map line.Entry owner n 0 (map event_numbers history)) ∙ is))

-- ---- the events of a cell's number

-- a moment of such an event is what its act stands for
one-stands : (s : PlainShard) (e : Event) (act : Act) → act_of_event e ≡ act ∷ [] → StandsFor act (record { before = s; event = e } ∷ [])
one-stands s (Drop n k) act is = subst (λ (a : Act). StandsFor a (record { before = s; event = Drop n k } ∷ [])) (first-is is) record { events = refl; digests = (tt, tt) }
  where
    first-is : ◌≡◌ {A = List Act} (GivesBack n k ∷ []) (act ∷ []) → GivesBack n k ≡ act
    first-is same = cc
one-stands s (Release n k sole) act is = subst (λ (a : Act). StandsFor a (record { before = s; event = Release n k sole } ∷ [])) (first-is is) record { events = (sole, refl); digests = (tt, tt) }
  where
    first-is : ◌≡◌ {A = List Act} (MakesPrivate n k ∷ []) (act ∷ []) → MakesPrivate n k ≡ act
    first-is same = cc
one-stands s (Insert n k d t) act is = subst (λ (a : Act). StandsFor a (record { before = s; event = Insert n k d t } ∷ [])) (first-is is) record { events = refl; digests = (tt, tt) }
  where
    first-is : ◌≡◌ {A = List Act} (Writes n t (record { key = k; digest = d }) ∷ []) (act ∷ []) → Writes n t (record { key = k; digest = d }) ≡ act
    first-is same = cc
one-stands s (Pass n k owner) act is = cc
one-stands s (Hit n k t) act is = cc
one-stands s (Miss n k t) act is = cc
one-stands s (Arrive n k d from) act is = cc
one-stands s (Fail n k at) act is = cc
one-stands s (Past n k kept) act is = cc
one-stands s (Hand n k to) act is = cc
one-stands s (Pick n k) act is = cc
one-stands s (FeedEnd n) act is = cc
one-stands s (Set n k place) act is = cc
one-stands s (Leave n k why) act is = cc
one-stands s (Clear n k) act is = cc
one-stands s (Restore n k place d) act is = cc
one-stands s (Resize n c) act is = cc

no-pass : (e : Event) → HasAct e → is_pass e ≡ false
no-pass (Pass n k owner) has = cc
no-pass (Hit n k t) has = refl
no-pass (Miss n k t) has = refl
no-pass (Arrive n k d from) has = refl
no-pass (Fail n k at) has = refl
no-pass (Drop n k) has = refl
no-pass (Past n k kept) has = refl
no-pass (Hand n k to) has = refl
no-pass (Insert n k d t) has = refl
no-pass (Release n k sole) has = refl
no-pass (Pick n k) has = refl
no-pass (FeedEnd n) has = refl
no-pass (Set n k place) has = refl
no-pass (Leave n k why) has = refl
no-pass (Clear n k) has = refl
no-pass (Restore n k place d) has = refl
no-pass (Resize n c) has = refl

-- so the acts of a cell's number are told in a history, where each event with that number stands for one
pub cell-told : (c : ℕ) (s : PlainShard) (h : List Event) → AllByRecursion HasAct (with_number c h) → Tell (acts_of_events (with_number c h)) (own_moments c (moments s h))
cell-told c s [] kinds = refl
cell-told c s (e ∷ es) kinds = elim (cases_true (number_of e == c)) [
  | inl own ↦
      let all : HasAct e × AllByRecursion HasAct (with_number c es) = rw own at kinds in
      let none : is_pass e ≡ false = no-pass e all.0 in
      let rest = cell-told c (after s e) es all.1 in
      rw (own, none) (subst (λ (l : List Act). Tell (l ++ acts_of_events (with_number c es)) (record { before = s; event = e } ∷ own_moments c (moments (after s e) es))) (sym all.0.1)
      (record { before = s; event = e } ∷ [], own_moments c (moments (after s e) es), refl, one-stands s e all.0.0 all.0.1, rest))
  | inr other ↦ rw other (cell-told c (after s e) es (rw other at kinds))
]
