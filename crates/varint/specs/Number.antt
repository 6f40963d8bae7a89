-- Numbers as bytes, and back (the varint encoding of `bincode`, little-endian).
use Rattle.std.specs.Prelude.{◌≡◌, ℕ, ◌<◌, ◌^◌, ◌++◌, ◌==◌, nat_lt, if◌then◌else◌, List, [], ◌∷◌, length, take, drop, replicate}
use Rattle.std.specs.Int.{Width, w16, w32, w64, to_le_bytes, from_le_bytes}

abbrev pub number_bytes : ℕ → List ℕ
number_bytes n =
    if nat_lt n 251 then n ∷ []
    else (if nat_lt n (2 ^ 16) then 251 ∷ to_le_bytes w16 n
    else (if nat_lt n (2 ^ 32) then 252 ∷ to_le_bytes w32 n
    else 253 ∷ to_le_bytes w64 n))

-- the number of so many bytes at the front, the lowest first, and what is left behind them
abbrev pub taken_word : Width → ℕ → List ℕ → ℕ × List ℕ
taken_word w size xs = if nat_lt (length xs) size then (0, []) else (from_le_bytes w (take size xs), drop size xs)

-- the number that stands at the front, and what is left behind it
abbrev pub taken_number : List ℕ → ℕ × List ℕ
taken_number [] = (0, [])
taken_number (x ∷ xs) =
    if nat_lt x 251 then (x, xs)
    else (if x == 251 then taken_word w16 2 xs
    else (if x == 252 then taken_word w32 4 xs
    else taken_word w64 8 xs))

-- 32 bytes at the front, and what is left behind them
abbrev pub taken_bytes : List ℕ → List ℕ × List ℕ
taken_bytes xs = if nat_lt (length xs) 32 then (replicate 32 0, []) else (take 32 xs, drop 32 xs)

-- a number that was written is read back, whatever stands behind it
abbrev pub NumbersAreReadBack : Type 0
NumbersAreReadBack = (n : ℕ) (xs : List ℕ) → n < 2 ^ 64 → taken_number (number_bytes n ++ xs) ≡ (n, xs)

-- and so are 32 bytes
abbrev pub BytesAreReadBack : Type 0
BytesAreReadBack = (bytes xs : List ℕ) → length bytes ≡ 32 → taken_bytes (bytes ++ xs) ≡ (bytes, xs)
