-- Hexadecimal digits are ASCII.
use Rattle.std.proofs.Common.{◌≡◌, ℕ, List, [], ◌∷◌, Bool, true, nat_lt, ◌&&◌, refl}
use Rattle.std.proofs.lemmas.Bool.{and_parts}
use Rattle.std.proofs.lemmas.Str.Ascii.{IsAscii-nil, IsAscii-cons}
use Rattle.std.specs.Str.{IsAscii}
use Rattle.hex.specs.Hex.{lower_digits}
use borrow.Author.Tests.{ltb-true}

-- each byte is below 128, as a test that computes
abbrev all_ascii : List ℕ → Bool
all_ascii [] = true
all_ascii (b ∷ bs) = nat_lt b 128 && all_ascii bs

IsAscii-from_test : (bs : List ℕ) → all_ascii bs ≡ true → IsAscii bs
IsAscii-from_test [] h = IsAscii-nil
IsAscii-from_test (b ∷ bs) h =
    let parts = and_parts (nat_lt b 128) (all_ascii bs) h in
    IsAscii-cons b bs (ltb-true b 128 parts.0) (IsAscii-from_test bs parts.1)

pub IsAscii-lower_digits : IsAscii lower_digits
IsAscii-lower_digits = IsAscii-from_test lower_digits refl
