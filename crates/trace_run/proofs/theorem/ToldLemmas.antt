-- What a party made with the numbers of cells and did to cells, as it is told in the end.
use Rattle.std.proofs.Common.{◌≡◌, ◌≢◌, ℕ, List, ◌++◌, map, sym, ap, ◌∙◌, subst}
use Rattle.std.specs.List.{AllByRecursion}
use Rattle.std.proofs.lemmas.List.Elements.{filter-append}
use Rattle.blk_ptr.specs.Hash.{shard_of}
use Rattle.arc_core.specs.declared.config.Config.{Config}
use Rattle.arc_core.specs.declared.event.Event.{Event}
use Rattle.arc_core.specs.Operations.{Act}
use Rattle.turn_table.specs.Places.{Place}
use Rattle.arc_table.specs.declared.view.Known.{Known}
use Rattle.arc_table.specs.declared.view.Line.TheVariants as line
use Rattle.arc_table.specs.Geometry.{IsCell}
use Rattle.arc_table.specs.Seen.{turn_of}
use Rattle.trace_run.specs.Deeds.{HasAct, HasToldAll, HasToldOthers, Noted, acts_of_events, events_there, lines_of_cell, with_number}
use Rattle.trace_run.specs.MadeLines.{made_in, made_of}
use Rattle.trace_run.proofs.deeds.CellsDone.{lines-append}
use Rattle.trace_run.proofs.deeds.DeedLemmas.{acts-append, all-both, events-acts, turn-acts, turn-kinds}
use Rattle.trace_run.proofs.deeds.MakesLemmas.{in-more}
use Rattle.trace_run.proofs.deeds.TurnMakes.{AreTurnEvents}

module _ {C : Type 0} (g : Config) where
  pub others-told : (did : List Act) (noted : List Noted) (p : Place (Known C)) → HasToldAll g did noted p → HasToldOthers g did noted p
  others-told did noted p h = record { cells = h.cells; kinds = h.kinds; entries = h.entries }

  -- events of a turn of a cell with the number d, and what was done to cells
  pub others-turn : (did : List Act) (had more : List Noted) (es : List Event) (d : ℕ) (p q : Place (Known C)) → q.number ≡ p.number → AreTurnEvents p.number d es
      → ((shard : ℕ) → made_of (turn_of g shard) q ≡ made_of (turn_of g shard) p ++ map line.Event (events_there g shard es)) → ((i : ℕ) → IsCell g i → made_of i q ≡ made_of i p ++ lines_of_cell i more)
      → HasToldOthers g did had p → HasToldOthers g (did ++ acts_of_events es) (had ++ more) q
  others-turn did had more es d p q number kinds made entries before = record {
    cells = λ shard c other.
        let differs : c ≢ p.number = λ is. other (is ∙ sym number) in
        acts-append (shard_of g.shards) shard c did (acts_of_events es)
        ∙ ((λ i. before.cells shard c differs i ++ turn-acts g p.number d shard c es kinds differs i)
        ∙ (sym (events-acts (with_number c (made_in g shard p)) (with_number c (events_there g shard es)))
        ∙ ap acts_of_events (sym (ap (with_number c) (in-more g shard (events_there g shard es) p q (made shard)) ∙ filter-append _ (made_in g shard p) (events_there g shard es)))));
    kinds = λ shard c other.
        let differs : c ≢ p.number = λ is. other (is ∙ sym number) in
        subst (AllByRecursion HasAct)
        (sym (ap (with_number c) (in-more g shard (events_there g shard es) p q (made shard)) ∙ filter-append _ (made_in g shard p) (events_there g shard es)))
        (all-both HasAct (with_number c (made_in g shard p)) (with_number c (events_there g shard es)) (before.kinds shard c differs) (turn-kinds g p.number d shard c es kinds differs));
    entries = λ i in_range. entries i in_range ∙ ((λ k. before.entries i in_range k ++ lines_of_cell i more) ∙ sym (lines-append i had more));
  }
