-- Two copies of one number, each behind a turn of its own, agree whenever both are free.
use Rattle.std.specs.Prelude.{◌≡◌, ◌==◌, if◌then◌else◌, ℕ, List, [], ◌∷◌, length, Option, Some, None}
use mathlib.Core.Option.{some}
use lib.ListN.{get_elem?}
use Rattle.turn_table.specs.Board.{Turn, free, taken, Board}
use Rattle.turn_examples.specs.declared.twins.Copies.{Copies}

-- the copy of the turn i, where it is among these
abbrev pub copy_of : ℕ → List (ℕ × ℕ) → Option ℕ
copy_of i [] = None
copy_of i (x ∷ xs) = if x.0 == i then Some x.1 else copy_of i xs

-- without the turn i, and every other copy is x
abbrev pub renewed : ℕ → ℕ → List (ℕ × ℕ) → List (ℕ × ℕ)
renewed i x [] = []
renewed i x (e ∷ es) = if e.0 == i then renewed i x es else (e.0, x) ∷ renewed i x es

abbrev pub copies : List (ℕ × ℕ) → Copies
copies l = record { held = l }

-- what a turn's copy is now: its value while it is free, and else what its holder knows of it
abbrev pub NowIs : List Copies → ℕ → Turn ℕ → ℕ → Type 0
NowIs views i (free v) x = v ≡ x
NowIs views i (taken n) x = (w : Copies) × (get_elem? views n ≡ some w) × (copy_of i w.held ≡ Some x)

-- both copies are now one number, and a party has the turns whose copies it knows
pub record Agrees (b : Board ℕ Copies) : Type 0 where
  pub number : ℕ
  pub two : length b.turns ≡ 2
  pub now : (i : ℕ) (t : Turn ℕ) → get_elem? b.turns i ≡ some t → NowIs b.views i t number
  pub known : (n i x : ℕ) (w : Copies) → get_elem? b.views n ≡ some w → copy_of i w.held ≡ Some x → get_elem? b.turns i ≡ some (taken n)
