-- A queue as plain data: pairs of a number and a value, the oldest first.
use Rattle.std.specs.Prelude.{◌≡◌, ℕ, List, [], ◌∷◌, ◌++◌}

module _ {T : Type 0} where
  -- no pair has the number
  abbrev pub Lacks : ℕ → List (ℕ × T) → Type 0
  Lacks n [] = Unit {0}
  Lacks n (x ∷ xs) = (x.0 ≡ n → ⊥) × Lacks n xs

  -- the new pairs are the old ones without the oldest of the number, which has this value
  pub record IsTaken (n : ℕ) (v : T) (old new : List (ℕ × T)) : Type 0 where
    pub front : List (ℕ × T)
    pub back : List (ℕ × T)
    pub before : old ≡ front ++ (n, v) ∷ back
    pub after : new ≡ front ++ back
    pub oldest : Lacks n front
