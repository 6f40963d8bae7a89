-- A line of a text, and what is shown of it.
use Rattle.std.specs.Prelude.{ℕ, ◌-◌, Bool, ◌&&◌, List, [], ◌∷◌, ◌++◌, not, nat_eq, nat_le, codes, get_or, take, if◌then◌else◌}
use Rattle.hex.specs.Hex.{encode_lower}
use Rattle.trace_text.specs.Grammar.{lines_of}

-- the line of this number, counted from 1; where there are not so many lines it is empty
abbrev pub line_in : List ℕ → ℕ → List ℕ
line_in text number = get_or (lines_of text) (number - 1) []

-- a printable byte of ASCII, but for the backslash
abbrev pub is_plain : ℕ → Bool
is_plain b = nat_le 32 b && nat_le b 126 && not (nat_eq b 92)

-- a byte as it is, or by two hexadecimal digits
abbrev pub shown_byte : ℕ → List ℕ
shown_byte b = if is_plain b then b ∷ [] else codes "\\x" ++ encode_lower (b ∷ [])

abbrev pub shown_bytes : List ℕ → List ℕ
shown_bytes [] = []
shown_bytes (b ∷ bytes) = shown_byte b ++ shown_bytes bytes

-- the first 200 bytes of a line
abbrev pub shown : List ℕ → List ℕ
shown line = shown_bytes (take 200 line)
