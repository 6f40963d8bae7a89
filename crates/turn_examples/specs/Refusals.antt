-- A count of lost tries: the turn 0 has the count, and who finds the turn 1 taken may add one to it.
use Rattle.std.specs.Prelude.{◌≡◌, ◌==◌, if◌then◌else◌, ℕ, ◌≤◌, List, [], ◌∷◌, ◌++◌, length, sum_by}
use mathlib.Core.Option.{some}
use lib.ListN.{get_elem?}
use Rattle.turn_table.specs.Board.{Turn, free, taken, Board}
use Rattle.turn_examples.specs.declared.refusals.Clerk.{Clerk}

abbrev pub clerk : List ℕ → ℕ → ℕ → Clerk
clerk notes told count = record { notes = notes; told = told; count = count }

-- who takes the turn 0 knows the count
abbrev pub won : ℕ → ℕ → ℕ → Clerk → Clerk
won n i v w = clerk w.notes w.told (if i == 0 then v else w.count)

-- who loses a try on the turn 1 notes whom it found
abbrev pub lost : ℕ → ℕ → ℕ → Clerk → Clerk
lost n i m w = clerk (if i == 1 then w.notes ++ m ∷ [] else w.notes) w.told w.count

-- no give makes a note
abbrev pub SameNotes : Clerk → Clerk → Type 0
SameNotes w u = u.notes ≡ w.notes

abbrev pub told_by : List Clerk → ℕ
told_by views = sum_by (λ (w : Clerk). w.told) views

-- the count now: the value of the turn 0 while it is free, and else what its holder knows
abbrev pub NowIs : List Clerk → Turn ℕ → ℕ → Type 0
NowIs views (free v) x = v ≡ x
NowIs views (taken n) x = (w : Clerk) × (get_elem? views n ≡ some w) × (w.count ≡ x)

-- the count is what the parties have told, each at most once for each note
pub record Counted (b : Board ℕ Clerk) : Type 0 where
  pub now : (t : Turn ℕ) → get_elem? b.turns 0 ≡ some t → NowIs b.views t (told_by b.views)
  pub noted : (n : ℕ) (w : Clerk) → get_elem? b.views n ≡ some w → w.told ≤ length w.notes
