-- What is said of a pool or a device that tells nothing of its content.
use Rattle.std.specs.Prelude.{◌≡◌, ℕ, List, length, Option, Some, None, Result, OnOk, ⊤}
use Rattle.std.proofs.Common.{subst}

is_some_fact : Option (List ℕ) → Type 0
is_some_fact None = Unit {0}
is_some_fact (Some _) = ⊥

-- it tells no image, so an image that it told would have any property
pub untold : (image : List ℕ) {P : Type 0} → None ≡ Some image → P
unfolding is_some_fact
untold image e = absurd (subst is_some_fact e tt)

-- a fork tells what the object that it was made of tells: nothing
abbrev pub TellsNothing : Type 0
TellsNothing = let nothing : Option (List ℕ) = None in nothing ≡ nothing

-- nothing is said of what an answer gives
abbrev pub GivesAnything : {T E : Type 0} → Result T E → Type 0
GivesAnything result = OnOk result ⊤

-- any image of this length
abbrev pub OfLength : ℕ → List ℕ → Type 0
OfLength len c = length c ≡ len
