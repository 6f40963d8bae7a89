-- What was written is read back.
use Rattle.std.proofs.Common.{◌≡◌, ℕ, ◌+◌, ◌<◌, ◌≤◌, ◌^◌, List, [], ◌∷◌, ◌++◌, length, take, drop, false, if◌then◌else◌, nat_lt, inl, inr, refl, sym, ap, ◌∙◌, arith, length-append}
use Rattle.std.specs.Int.{Width, w16, w32, w64, to_le_bytes, from_le_bytes}
use Rattle.std.proofs.lemmas.Bool.{cases_lt, cond-true, lt-ltb, le-ltb}
use Rattle.std.proofs.lemmas.Nat.{from_le_bytes-to_le_bytes_2, from_le_bytes-to_le_bytes_4, from_le_bytes-to_le_bytes_8}
use Rattle.std.proofs.Math.Seq.{drop-append_seam, take-append_seam}
use Rattle.varint.specs.Number.{number_bytes, taken_bytes, taken_number, taken_word}

-- a word that stands in front
word_taken : (w : Width) (size n : ℕ) (word xs : List ℕ) → length word ≡ size → from_le_bytes w word ≡ n → taken_word w size (word ++ xs) ≡ (n, xs)
word_taken w size n word xs long is =
    let enough : nat_lt (length (word ++ xs)) size ≡ false = le-ltb (length (word ++ xs)) size (omega (arith, long, length-append word xs)) in
    let front : take size (word ++ xs) ≡ word = ap (λ m. take m (word ++ xs)) (sym long) ∙ take-append_seam word xs in
    let behind : drop size (word ++ xs) ≡ xs = ap (λ m. drop m (word ++ xs)) (sym long) ∙ drop-append_seam word xs in
    rw (enough, front, behind, is) refl

pub number-taken : (n : ℕ) (xs : List ℕ) → n < 2 ^ 64 → taken_number (number_bytes n ++ xs) ≡ (n, xs)
number-taken n xs fits =
    elim (cases_lt n 251) [
      | inl low ↦ rw (lt-ltb n 251 low) (rw (lt-ltb n 251 low) refl)
      | inr more ↦ rw (le-ltb n 251 more) (elim (cases_lt n (2 ^ 16)) [
        | inl low ↦ rw (lt-ltb n (2 ^ 16) low) (word_taken w16 2 n (to_le_bytes w16 n) xs refl (from_le_bytes-to_le_bytes_2 n low))
        | inr more ↦ rw (le-ltb n (2 ^ 16) more) (elim (cases_lt n (2 ^ 32)) [
          | inl low ↦ rw (lt-ltb n (2 ^ 32) low) (word_taken w32 4 n (to_le_bytes w32 n) xs refl (from_le_bytes-to_le_bytes_4 n low))
          | inr more ↦ rw (le-ltb n (2 ^ 32) more) (word_taken w64 8 n (to_le_bytes w64 n) xs refl (from_le_bytes-to_le_bytes_8 n fits))
        ])
      ])
    ]

pub bytes-taken : (bytes xs : List ℕ) → length bytes ≡ 32 → taken_bytes (bytes ++ xs) ≡ (bytes, xs)
bytes-taken bytes xs long =
    let enough : nat_lt (length (bytes ++ xs)) 32 ≡ false = le-ltb (length (bytes ++ xs)) 32 (omega (arith, long, length-append bytes xs)) in
    let front : take 32 (bytes ++ xs) ≡ bytes = ap (λ m. take m (bytes ++ xs)) (sym long) ∙ take-append_seam bytes xs in
    let behind : drop 32 (bytes ++ xs) ≡ xs = ap (λ m. drop m (bytes ++ xs)) (sym long) ∙ drop-append_seam bytes xs in
    rw (enough, front, behind) refl
