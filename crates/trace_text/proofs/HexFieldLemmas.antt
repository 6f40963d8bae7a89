-- Fields of lower-case hex digits.
use Rattle.std.proofs.Common.{◌≡◌, ℕ, zero, suc, ◌+◌, ◌*◌, ◌/◌, ◌%◌, ◌<◌, List, [], ◌∷◌, length, length-take, take, ◌≤◌, Option, Some, None, slice_index, inl, inr, refl, ap, sym, ◌∙◌, arith}
use Rattle.std.proofs.lemmas.Bool.{cases_lt}
use Rattle.std.proofs.lemmas.List.{get_or_past}
use Rattle.hex.specs.Hex.{IsBytes, encode_lower, encode_with, lower_digits}
use Rattle.hex.proofs.HexLemmas.{length-encode_with}
use Rattle.trace_text.specs.Reading.{IsByteRead, IsFillRead}

-- the two digits of one byte
pub digits-at : (t xs : List ℕ) (k : ℕ) → k < length xs
    → (slice_index (encode_with t xs) (2 * k) ≡ slice_index t (slice_index xs k / 16)) × (slice_index (encode_with t xs) (2 * k + 1) ≡ slice_index t (slice_index xs k % 16))
unfolding encode_with
digits-at t [] k lt = absurd (omega arith)
digits-at t (b ∷ xs) zero lt = (refl, refl)
digits-at t (b ∷ xs) (suc k) lt =
    let rest = digits-at t xs k (omega (arith, lt)) in
    let high : 2 * suc k ≡ suc (suc (2 * k)) = omega arith in
    let low : 2 * suc k + 1 ≡ suc (suc (2 * k + 1)) = omega arith in
    (ap (slice_index (encode_with t (b ∷ xs))) high ∙ rest.0, ap (slice_index (encode_with t (b ∷ xs))) low ∙ rest.1)

-- a text whose digits are those of these bytes
pub encoded-by : (t xs text : List ℕ) → length text ≡ 2 * length xs
    → ((k : ℕ) → k < length xs → (slice_index text (2 * k) ≡ slice_index t (slice_index xs k / 16)) × (slice_index text (2 * k + 1) ≡ slice_index t (slice_index xs k % 16)))
    → text ≡ encode_with t xs
unfolding encode_with
encoded-by t [] [] len each = refl
encoded-by t [] (high ∷ text) len each = absurd (omega arith)
encoded-by t (b ∷ xs) [] len each = absurd (omega arith)
encoded-by t (b ∷ xs) (high ∷ []) len each = absurd (omega arith)
encoded-by t (b ∷ xs) (high ∷ low ∷ text) len each =
    let first = each 0 (omega arith) in
    let rest = encoded-by t xs text (omega (arith, len)) (λ k lt.
    let both = each (suc k) (omega (arith, lt)) in
    let e : suc (suc (2 * k)) ≡ 2 * suc k = omega arith in
    let f : suc (suc (2 * k + 1)) ≡ 2 * suc k + 1 = omega arith in
    (ap (slice_index (high ∷ low ∷ text)) e ∙ both.0, ap (slice_index (high ∷ low ∷ text)) f ∙ both.1)) in
    let high_is : high ≡ slice_index t (b / 16) = first.0 in
    let low_is : low ≡ slice_index t (b % 16) = first.1 in
    cc

-- a list of bytes
pub IsBytes-each : (xs : List ℕ) → ((k : ℕ) → k < length xs → slice_index xs k < 256) → IsBytes xs
IsBytes-each xs each k = elim (cases_lt k (length xs)) [
  | inl lt ↦ each k lt
  | inr ge ↦ let e = get_or_past xs k 0 ge in omega (arith, e)
]

-- a byte is spelled by its two digits
pub byte-digits : (byte : ℕ) → encode_lower (byte ∷ []) ≡ slice_index lower_digits (byte / 16) ∷ slice_index lower_digits (byte % 16) ∷ []
unfolding encode_with
byte-digits byte = refl

-- what two digits are read as
pub byte-read : (field : List ℕ) (high low : ℕ) (r : Option ℕ) → length field ≡ 2 → high ≡ slice_index field 0 → low ≡ slice_index field 1 → IsByteRead high low r → IsFillRead field r
byte-read [] high low r two is_high is_low read = absurd (omega arith)
byte-read (a ∷ []) high low r two is_high is_low read = absurd (omega arith)
byte-read (a ∷ b ∷ c ∷ field) high low r two is_high is_low read = absurd (omega arith)
byte-read (a ∷ b ∷ []) high low (Some byte) two is_high is_low read =
    let one : a ≡ slice_index lower_digits (byte / 16) = sym is_high ∙ read.1 in
    let other : b ≡ slice_index lower_digits (byte % 16) = sym is_low ∙ read.2 in
    (rw (byte-digits byte, one, other) refl, read.0)
byte-read (a ∷ b ∷ []) high low None two is_high is_low read = λ byte lt is.
    let spelled = is ∙ byte-digits byte in
    let one : a ≡ slice_index lower_digits (byte / 16) = cc in
    let other : b ≡ slice_index lower_digits (byte % 16) = cc in
    read byte lt (is_high ∙ one) (is_low ∙ other)

-- the room for the bytes of a field
pub room-size : (bytes field room : List ℕ) (len : ℕ) → field ≡ encode_lower bytes → len ≡ length field / 2 → len ≤ length room → length bytes ≡ length (take len room)
room-size bytes field room len is half fits =
    omega (arith, length-take len room, ap (λ (xs : List ℕ). length xs) is, length-encode_with lower_digits bytes, half, fits)
