-- What is written in parts, one after the other.
use Rattle.std.proofs.Common.{◌≡◌, ℕ, List, ◌++◌, ap, ◌∙◌, append_assoc}

-- one part more
pub appended : (old new newer front line : List ℕ) → new ≡ old ++ front → newer ≡ new ++ line → newer ≡ old ++ (front ++ line)
appended old new newer front line a b = b ∙ ap (λ (x : List ℕ). x ++ line) a ∙ append_assoc old front line
