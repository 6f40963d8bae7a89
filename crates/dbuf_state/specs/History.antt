-- Histories of a cell: lists of events, each of which is legal when it comes.
use Rattle.std.specs.Prelude.{◌≡◌, ◌≢◌, ℕ, not, IsTrue, ◌⊎◌, List, [], ◌∷◌, ◌++◌}
use Rattle.blk_ptr.specs.Ptr.{sha256_of}
use Rattle.dbuf_state.specs.declared.event.CellEvent.{CellEvent}
use Rattle.dbuf_state.specs.declared.state.Mapping.{Mapping}
use Rattle.dbuf_state.specs.Objects.{IsBase, IsLegal, PlainCell, after, is_due, opening_cell, untold}

-- The events lead from the first cell to the second, and each is legal when it comes. The bases are the lists from which the patches of
-- clean blocks start, one for each such patch, in their order.
abbrev pub Leads : PlainCell → List CellEvent → (bases : List (List ℕ)) → PlainCell → Type 0
Leads c [] bases end = (bases ≡ []) × (end ≡ c)
Leads c (e ∷ es) bases end = IsLegal c e × ((base : List ℕ) × (rest : List (List ℕ)) × (bases ≡ untold c e base ++ rest) × IsBase base c e × Leads (after base c e) es rest end)

-- a whole legal history, from its opening to its end: no Evict is left to be made
pub record IsHistory (limit : ℕ) (opening : List Mapping) (events : List CellEvent) (bases : List (List ℕ)) (end : PlainCell) : Type 0 where
  pub legal : Leads (opening_cell limit opening) events bases end
  pub settled : IsTrue (not (is_due end))

-- at one place of the two rows stand two lists that differ and have one digest
abbrev pub Collide : List (List ℕ) → List (List ℕ) → Type 0
Collide [] ys = ⊥
Collide (x ∷ xs) [] = ⊥
Collide (x ∷ xs) (y ∷ ys) = ((x ≢ y) × (sha256_of x ≡ sha256_of y)) ⊎ Collide xs ys

-- two replays of one history start from the same bases and end alike, or two of their bases share a digest
abbrev pub EndsAlike : Type 0
EndsAlike = (c : PlainCell) (es : List CellEvent) (xs ys : List (List ℕ)) (a b : PlainCell) → Leads c es xs a → Leads c es ys b
    → ((xs ≡ ys) × (a ≡ b)) ⊎ Collide xs ys
