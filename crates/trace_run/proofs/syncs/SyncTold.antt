-- How what the feeder did is told, once it synced.
use Rattle.std.proofs.Common.{◌≡◌, ◌≢◌, ◌⊎◌, ◌==◌, ℕ, true, false, List, [], ◌∷◌, ◌++◌, map, refl, sym, ap, ◌∙◌, subst, inl, inr}
use Rattle.std.specs.List.{AllByRecursion}
use Rattle.std.specs.Option.{option_map_or}
use Rattle.std.proofs.lemmas.List.Elements.{filter-append}
use Rattle.arc_lists.proofs.Tables.{cases_true}
use Rattle.blk_ptr.specs.Hash.{shard_of}
use Rattle.blk_ptr.specs.declared.key.Key.{Key}
use Rattle.arc_core.specs.declared.config.Config.{Config}
use Rattle.arc_core.specs.declared.event.Event.{Event}
use Rattle.arc_core.specs.declared.event.Event.TheVariants.{Insert}
use Rattle.arc_core.specs.Operations.{Act, Writes, acts_in, event_key, number_of}
use Rattle.arc_table.specs.declared.view.Line.TheVariants as line
use Rattle.arc_table.specs.Geometry.{IsCell, cell_number}
use Rattle.arc_table.specs.Seen.{turn_of}
use Rattle.dbuf_cells.specs.Turns.{PartyPlace}
use Rattle.dbuf_state.specs.declared.event.CellEvent.{CellEvent}
use Rattle.dbuf_state.specs.declared.event.CellEvent.TheVariants.{Synced as WasSynced}
use Rattle.txg_sync.specs.Items.{SyncItem}
use Rattle.txg_sync.specs.Turns.{synced_in}
use Rattle.trace_run.specs.Deeds.{HasAct, HasToldOthers, Noted, act_of_event, acts_of_events, events_of_cell, events_there, lines_of_cell, with_number}
use Rattle.trace_run.specs.MadeLines.{made_in, made_of}
use Rattle.trace_run.specs.Syncing.{IsInsert, lines_of, noted_of}
use Rattle.trace_run.proofs.deeds.CellsDone.{lines-append}
use Rattle.trace_run.proofs.deeds.DeedLemmas.{all-both, acts-append, events-acts}
use Rattle.trace_run.proofs.deeds.MakesLemmas.{in-more}
use Rattle.trace_run.proofs.deeds.TurnMakes.{there-append}

module _ (g : Config) where
  abbrev shard_is : Key → ℕ
  shard_is = shard_of g.shards

  -- one Insert
  event-acts : (shard c : ℕ) (e : Event) → IsInsert g e → acts_in shard_is shard c (act_of_event e) ≡ acts_of_events (with_number c (events_there g shard (e ∷ [])))
  event-acts shard c e i = subst (λ (x : Event). acts_in shard_is shard c (act_of_event x) ≡ acts_of_events (with_number c (events_there g shard (x ∷ [])))) (sym i.4)
      (go (cases_true (cell_number g i.0 == c)) (cases_true (shard_is i.1 == shard)))
    where
      go : ((cell_number g i.0 == c) ≡ true) ⊎ ((cell_number g i.0 == c) ≡ false) → ((shard_is i.1 == shard) ≡ true) ⊎ ((shard_is i.1 == shard) ≡ false)
          → acts_in shard_is shard c (act_of_event (Insert (cell_number g i.0) i.1 i.2 i.3)) ≡ acts_of_events (with_number c (events_there g shard (Insert (cell_number g i.0) i.1 i.2 i.3 ∷ [])))
      go (inl own) (inl here) = rw (own, here, own) refl
      go (inl own) (inr out) = rw (own, out) refl
      go (inr other) (inl here) = rw (other, here, other) refl
      go (inr other) (inr out) = rw (other, out) refl

  -- all of them
  pub inserts-acts : (shard c : ℕ) (es : List Event) → AllByRecursion (IsInsert g) es → acts_in shard_is shard c (acts_of_events es) ≡ acts_of_events (with_number c (events_there g shard es))
  inserts-acts shard c [] kinds = refl
  inserts-acts shard c (e ∷ es) kinds =
      acts-append shard_is shard c (act_of_event e) (acts_of_events es)
      ∙ ((λ i. event-acts shard c e kinds.0 i ++ inserts-acts shard c es kinds.1 i)
      ∙ (sym (events-acts (with_number c (events_there g shard (e ∷ []))) (with_number c (events_there g shard es)))
      ∙ ap acts_of_events (sym (ap (with_number c) (there-append g shard (e ∷ []) es) ∙ filter-append _ (events_there g shard (e ∷ [])) (events_there g shard es)))))

  -- each stands for an act
  inserts-kinds : (shard c : ℕ) (es : List Event) → AllByRecursion (IsInsert g) es → AllByRecursion HasAct (with_number c (events_there g shard es))
  inserts-kinds shard c [] kinds = tt
  inserts-kinds shard c (e ∷ es) kinds =
      subst (AllByRecursion HasAct) (sym (ap (with_number c) (there-append g shard (e ∷ []) es) ∙ filter-append _ (events_there g shard (e ∷ [])) (events_there g shard es)))
      (all-both HasAct (with_number c (events_there g shard (e ∷ []))) (with_number c (events_there g shard es)) (one kinds.0) (inserts-kinds shard c es kinds.1))
    where
      some : (x : Event) → HasAct x → AllByRecursion HasAct (with_number c (events_there g shard (x ∷ [])))
      some x act = elim (cases_true (option_map_or (λ (k : Key). shard_of g.shards k == shard) (event_key x) false)) [
        | inl here ↦ elim (cases_true (number_of x == c)) [
          | inl own ↦ rw (here, own) (act, tt)
          | inr other ↦ rw (here, other) tt
        ]
        | inr out ↦ rw out tt
      ]

      one : IsInsert g e → AllByRecursion HasAct (with_number c (events_there g shard (e ∷ [])))
      one i = some e (Writes (cell_number g i.0) i.3 (record { key = i.1; digest = i.2 }), ap act_of_event i.4)

  -- what was noted of each cell
  pub noted-there : (n i : ℕ) (xs : List SyncItem) → events_of_cell i (noted_of n xs) ≡ synced_in n i xs
  noted-there n i [] = refl
  noted-there n i (x ∷ xs) = elim (cases_true (x.due.cell == i)) [
    | inl here ↦ rw here (ap (λ (l : List CellEvent). WasSynced n x.due.at x.ptr x.held ∷ l) (noted-there n i xs))
    | inr other ↦ rw other (noted-there n i xs)
  ]

  -- Inserts with cells' numbers, and what was noted in cells
  pub others-synced : (did : List Act) (had : List Noted) (es : List Event) (xs : List SyncItem) (n : ℕ) (p q : PartyPlace) → n ≡ p.number → q.number ≡ p.number → AllByRecursion (IsInsert g) es
      → ((shard : ℕ) → made_of (turn_of g shard) q ≡ made_of (turn_of g shard) p ++ map line.Event (events_there g shard es)) → ((i : ℕ) → IsCell g i → made_of i q ≡ made_of i p ++ lines_of (synced_in p.number i xs))
      → HasToldOthers g did had p → HasToldOthers g (did ++ acts_of_events es) (had ++ noted_of n xs) q
  others-synced did had es xs n p q same number kinds made entries before = record {
    cells = λ shard c other.
        let differs : c ≢ p.number = λ is. other (is ∙ sym number) in
        acts-append shard_is shard c did (acts_of_events es)
        ∙ ((λ i. before.cells shard c differs i ++ inserts-acts shard c es kinds i)
        ∙ (sym (events-acts (with_number c (made_in g shard p)) (with_number c (events_there g shard es)))
        ∙ ap acts_of_events (sym (ap (with_number c) (in-more g shard (events_there g shard es) p q (made shard)) ∙ filter-append _ (made_in g shard p) (events_there g shard es)))));
    kinds = λ shard c other.
        let differs : c ≢ p.number = λ is. other (is ∙ sym number) in
        subst (AllByRecursion HasAct)
        (sym (ap (with_number c) (in-more g shard (events_there g shard es) p q (made shard)) ∙ filter-append _ (made_in g shard p) (events_there g shard es)))
        (all-both HasAct (with_number c (made_in g shard p)) (with_number c (events_there g shard es)) (before.kinds shard c differs) (inserts-kinds shard c es kinds));
    entries = λ i in_range.
        let more : lines_of_cell i (noted_of n xs) ≡ lines_of (synced_in p.number i xs) = ap lines_of (noted-there n i xs ∙ ap (λ (k : ℕ). synced_in k i xs) same) in
        entries i in_range ∙ ((λ k. before.entries i in_range k ++ sym more k) ∙ sym (lines-append i had (noted_of n xs)));
  }
