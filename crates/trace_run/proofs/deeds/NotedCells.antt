-- What is noted of a cell, among what is noted of all.
use Rattle.std.proofs.Common.{◌≡◌, ◌≢◌, ℕ, ◌==◌, true, false, List, [], ◌∷◌, ◌++◌, refl, ap, inl, inr, eq-eqb, ne_eqb}
use Rattle.arc_lists.proofs.Tables.{cases_true}
use Rattle.dbuf_state.specs.declared.event.CellEvent.{CellEvent}
use Rattle.trace_run.specs.Deeds.{Noted, events_of_cell, noted_in}

pub noted-here : (i : ℕ) (news : List CellEvent) → events_of_cell i (noted_in i news) ≡ news
noted-here i [] = refl
noted-here i (e ∷ es) = let here : (i == i) ≡ true = eq-eqb i i refl in rw here (ap (λ l. e ∷ l) (noted-here i es))

pub noted-else : (i j : ℕ) (news : List CellEvent) → i ≢ j → events_of_cell j (noted_in i news) ≡ []
noted-else i j [] differs = refl
noted-else i j (e ∷ es) differs = let other : (i == j) ≡ false = ne_eqb i j differs in rw other (noted-else i j es differs)

pub cell-append : (i : ℕ) (a b : List Noted) → events_of_cell i (a ++ b) ≡ events_of_cell i a ++ events_of_cell i b
cell-append i [] b = refl
cell-append i (n ∷ ns) b = elim (cases_true (n.cell == i)) [
  | inl here ↦ rw here (ap (λ l. n.event ∷ l) (cell-append i ns b))
  | inr other ↦ rw other (cell-append i ns b)
]
