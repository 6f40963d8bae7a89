-- A party that is told to have done acts of its own number alone, and nothing to a cell, made just events of shards with its own number.
use Rattle.std.proofs.Common.{◌≡◌, ◌≢◌, ◌⊎◌, ℕ, zero, suc, ◌+◌, ◌<◌, ◌≤◌, ◌==◌, Bool, true, false, if◌then◌else◌, List, [], ◌∷◌, ◌++◌, refl, sym, ap, ◌∙◌, inl, inr, arith, eq-eqb}
use Rattle.std.specs.List.{AllByRecursion}
use mathlib.Core.Option.{some, some-injective, some-ne-none}
use lib.ListN.{get_elem?}
use Rattle.arc_lists.proofs.Tables.{cases_true}
use Rattle.blk_ptr.specs.Hash.{shard_of}
use Rattle.arc_core.specs.declared.config.Config.{Config}
use Rattle.arc_core.specs.declared.event.Event.{Event}
use Rattle.arc_core.specs.Operations.{Act, number_of}
use Rattle.turn_table.specs.Places.{Place}
use Rattle.arc_table.specs.declared.view.Known.{Known}
use Rattle.arc_table.specs.declared.view.Line.{Line}
use Rattle.arc_table.specs.declared.view.Line.TheVariants as line
use Rattle.arc_table.specs.declared.view.Mine.{Mine}
use Rattle.arc_table.specs.Fronts.{front_of}
use Rattle.arc_table.specs.Geometry.{parties_of}
use Rattle.arc_table.specs.Seen.{HasSeenItsEntries, events_in, turn_of}
use Rattle.trace_run.specs.Deeds.{HasAct, HasToldAll, acts_of_events, with_number}
use Rattle.trace_run.specs.MadeLines.{is_listed, made_from, made_in}
use Rattle.trace_run.specs.Making.{HasSeenItsEvents, MadeItsOwn}
use Rattle.trace_run.proofs.deeds.DeedLemmas.{AreActsBy, acts-of-none}
use Rattle.trace_run.proofs.deeds.MadeLemmas.{at-listed}

-- events that each stand for an act, and stand for none together, are none
none-kinds : (es : List Event) → AllByRecursion HasAct es → acts_of_events es ≡ [] → es ≡ []
none-kinds [] all none = refl
none-kinds (e ∷ es) all none = absurd (some-act all.0.0 (acts_of_events es) (ap (λ (l : List Act). l ++ acts_of_events es) (sym all.0.1) ∙ none))
  where
    some-act : (act : Act) (acts : List Act) → (act ∷ []) ++ acts ≡ [] → ⊥
    some-act act acts is = cc

module _ (turn c : ℕ) (mines : List Mine) where
  -- a listed line is among those that were made
  never-made : (place k : ℕ) (ls : List Line) (l : Line) → get_elem? ls k ≡ some l → is_listed turn (place + k) mines ≡ true → made_from turn place mines ls ≡ [] → ⊥
  never-made place k [] l at listed none = some-ne-none l (sym at)
  never-made place zero (x ∷ ls) l at listed none =
      let here : is_listed turn place mines ≡ true = (let z : place ≡ place + zero = omega arith in ap (λ (n : ℕ). is_listed turn n mines) z) ∙ listed in
      some-line (ap (λ (b : Bool). if b then (x ∷ made_from turn (suc place) mines ls) else made_from turn (suc place) mines ls) (sym here) ∙ none)
    where
      some-line : x ∷ made_from turn (suc place) mines ls ≡ [] → ⊥
      some-line is = cc
  never-made place (suc k) (x ∷ ls) l at listed none =
      never-made (suc place) k ls l at ((let z : suc place + k ≡ place + suc k = omega arith in ap (λ (n : ℕ). is_listed turn n mines) z) ∙ listed) (rest (cases_true (is_listed turn place mines)))
    where
      rest : (is_listed turn place mines ≡ true) ⊎ (is_listed turn place mines ≡ false) → made_from turn (suc place) mines ls ≡ []
      rest (inl here) = absurd (some-line (ap (λ (b : Bool). if b then (x ∷ made_from turn (suc place) mines ls) else made_from turn (suc place) mines ls) (sym here) ∙ none))
        where
          some-line : x ∷ made_from turn (suc place) mines ls ≡ [] → ⊥
          some-line is = cc
      rest (inr other) = ap (λ (b : Bool). if b then (x ∷ made_from turn (suc place) mines ls) else made_from turn (suc place) mines ls) (sym other) ∙ none

  -- a listed event with this number is among those with this number
  numbered-first : (e : Event) (es : List Event) → number_of e ≡ c → with_number c (e ∷ es) ≡ [] → ⊥
  numbered-first e es is none = some-event (ap (λ (b : Bool). if b then (e ∷ with_number c es) else with_number c es) (sym (eq-eqb (number_of e) c is)) ∙ none)
    where
      some-event : e ∷ with_number c es ≡ [] → ⊥
      some-event same = cc

  numbered-rest : (e : Event) (es : List Event) → with_number c (e ∷ es) ≡ [] → with_number c es ≡ []
  numbered-rest e es none = elim (cases_true (number_of e == c)) [
    | inl here ↦ absurd (some-event (ap (λ (b : Bool). if b then (e ∷ with_number c es) else with_number c es) (sym here) ∙ none))
    | inr other ↦ ap (λ (b : Bool). if b then (e ∷ with_number c es) else with_number c es) (sym other) ∙ none
  ]
    where
      some-event : e ∷ with_number c es ≡ [] → ⊥
      some-event same = cc

  line-rest : (x : Line) (ls : List Line) → with_number c (events_in (x ∷ ls)) ≡ [] → with_number c (events_in ls) ≡ []
  line-rest (line.Event f) ls none = numbered-rest f (events_in ls) none
  line-rest (line.Entry ns) ls none = none

  never-numbered : (place k : ℕ) (ls : List Line) (e : Event) → get_elem? ls k ≡ some (line.Event e) → is_listed turn (place + k) mines ≡ true → number_of e ≡ c → with_number c (events_in (made_from turn place mines ls)) ≡ [] → ⊥
  never-numbered place k [] e at listed his none = some-ne-none (line.Event e) (sym at)
  never-numbered place zero (x ∷ ls) e at listed his none =
      let here : is_listed turn place mines ≡ true = (let z : place ≡ place + zero = omega arith in ap (λ (n : ℕ). is_listed turn n mines) z) ∙ listed in
      let is : x ≡ line.Event e = some-injective x (line.Event e) at in
      numbered-first e (events_in (made_from turn (suc place) mines ls)) his
      (ap (λ (y : Line). with_number c (events_in (y ∷ made_from turn (suc place) mines ls))) (sym is)
      ∙ (ap (λ (b : Bool). with_number c (events_in (if b then (x ∷ made_from turn (suc place) mines ls) else made_from turn (suc place) mines ls))) (sym here) ∙ none))
  never-numbered place (suc k) (x ∷ ls) e at listed his none =
      never-numbered (suc place) k ls e at ((let z : suc place + k ≡ place + suc k = omega arith in ap (λ (n : ℕ). is_listed turn n mines) z) ∙ listed) his (rest (cases_true (is_listed turn place mines)))
    where
      rest : (is_listed turn place mines ≡ true) ⊎ (is_listed turn place mines ≡ false) → with_number c (events_in (made_from turn (suc place) mines ls)) ≡ []
      rest (inl here) = line-rest x (made_from turn (suc place) mines ls)
          (ap (λ (b : Bool). with_number c (events_in (if b then (x ∷ made_from turn (suc place) mines ls) else made_from turn (suc place) mines ls))) (sym here) ∙ none)
      rest (inr other) = ap (λ (b : Bool). with_number c (events_in (if b then (x ∷ made_from turn (suc place) mines ls) else made_from turn (suc place) mines ls))) (sym other) ∙ none

module _ {C : Type 0} (g : Config) (did : List Act) (p : Place (Known C)) (low : p.number < parties_of g) (mine : AreActsBy p.number did) (told : HasToldAll g did [] p) (sees : HasSeenItsEvents g p) (entries : HasSeenItsEntries g p) where
  -- nothing with a cell's number
  none-of : (shard c : ℕ) → parties_of g ≤ c → with_number c (made_in g shard p) ≡ []
  none-of shard c above =
      let other : c ≢ p.number = λ is. absurd (omega (arith, is, low, above)) in
      none-kinds (with_number c (made_in g shard p)) (told.kinds shard c other)
      (sym (told.cells shard c other) ∙ acts-of-none (shard_of g.shards) shard p.number c did mine (λ same. omega (arith, same, low, above)))

  pub own-alone : MadeItsOwn g p
  own-alone = record {
    events = λ i j a at is.
        let h = sees.own i j a at is in record {
          event = h.event;
          there = h.there;
          number = elim h.number [
            | inl own ↦ own
            | inr above ↦ absurd (never-numbered (turn_of g i) (number_of h.event) p.own.mine 0 a.place (front_of (turn_of g i) p.own.seen) h.event h.there
                (at-listed (turn_of g i) (0 + a.place) p.own.mine j a at is (omega arith)) refl (none-of i (number_of h.event) above))
          ];
          placed = h.placed;
          named = h.named;
        };
    entries = λ j a at in_range.
        let h = entries.own a.turn j a in_range at refl in
        never-made a.turn 0 p.own.mine 0 a.place (front_of a.turn p.own.seen) (line.Entry (p.number ∷ h.rest)) h.there (at-listed a.turn (0 + a.place) p.own.mine j a at refl (omega arith)) (told.entries a.turn in_range);
  }
