-- What a party has seen of each turn's history, and functions and tables of numbers.
use Rattle.std.specs.Prelude.{◌≡◌, ℕ, ◌==◌, if◌then◌else◌, List, [], ◌∷◌, ◌++◌, Option, Some, None}
pub use Rattle.turn_table.specs.Histories.{front_of, put, seen_by_both}

module _ {X : Type 0} where
  -- the function, changed at one number
  abbrev pub with_at : (ℕ → X) → ℕ → X → ℕ → X
  with_at f n x m = if m == n then x else f m

  -- what a table has of a number: its first line that begins with it
  abbrev pub item_at : ℕ → List (ℕ × X) → Option X
  item_at i [] = None
  item_at i (p ∷ ps) = if i == p.0 then Some p.1 else item_at i ps

  -- the table without the number
  abbrev pub without_item : ℕ → List (ℕ × X) → List (ℕ × X)
  without_item i [] = []
  without_item i (p ∷ ps) = if i == p.0 then without_item i ps else (p ∷ without_item i ps)

  -- the same where each number has a list, which is empty where the table has no line of it
  abbrev pub list_at : ℕ → List (ℕ × List X) → List X
  list_at i [] = []
  list_at i (p ∷ ps) = if i == p.0 then p.1 else list_at i ps

  abbrev pub StartsWith : List X → List X → Type 0
  StartsWith h front = (rest : List X) × (h ≡ front ++ rest)
