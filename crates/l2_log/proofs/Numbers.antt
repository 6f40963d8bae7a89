-- Numbers at places, and changes that leave them as they were.
use Rattle.std.proofs.Common.{◌≡◌, ℕ, zero, suc, ◌+◌, ◌-◌, ◌<◌, ◌≤◌, List, [], ◌^◌, length, take, drop, get_or, min, inl, inr, refl, sym, ap, ◌∙◌, arith}
use Rattle.std.proofs.lemmas.List.{get_or-drop, ext_get_or, get_or-take, length-take, length-drop, append-nil}
use Rattle.std.proofs.lemmas.Bool.{cases_eq, cases_lt}
use Rattle.byteorder.specs.Endian.{little_from, little_number, little_bytes}
use Rattle.byteorder.specs.Numbers.{little_number-reads_back, little_from-take}
use Rattle.l2_log.specs.Bytes.{word, AreZero, AreSame, AreBytes, IsKeptOutside}

little_from-drop : (n i j k : ℕ) (xs : List ℕ) → j ≡ k + i → little_from i n (drop k xs) ≡ little_from j n xs
little_from-drop zero i j k xs e = refl
little_from-drop (suc n) i j k xs e =
    let first : get_or (drop k xs) i 0 ≡ get_or xs j 0 = get_or-drop k xs i 0 ∙ ap (λ (m : ℕ). get_or xs m 0) (sym e) in
    let rest : little_from (suc i) n (drop k xs) ≡ little_from (suc j) n xs = little_from-drop n (suc i) (suc j) k xs (omega arith) in
    rw (first, rest) refl

-- the number that the bytes behind a place begin with is the number at the place
pub word_behind : (at : ℕ) (xs : List ℕ) → little_number 8 (drop at xs) ≡ word xs at
unfolding word
word_behind at xs = little_from-drop 8 0 at at xs (omega arith)

little_from-same : (n i : ℕ) (xs ys : List ℕ) → AreSame i (i + n) xs ys → little_from i n xs ≡ little_from i n ys
little_from-same zero i xs ys same = refl
little_from-same (suc n) i xs ys same =
    let first : get_or xs i 0 ≡ get_or ys i 0 = same i (omega arith) (omega arith) in
    let rest : little_from (suc i) n xs ≡ little_from (suc i) n ys =
    little_from-same n (suc i) xs ys (λ k ge lt. same k (omega arith) (omega arith)) in
    rw (first, rest) refl

-- the same bytes are the same number
pub word_same : (at : ℕ) (xs ys : List ℕ) → AreSame at (at + 8) xs ys → word xs at ≡ word ys at
unfolding word
word_same at xs ys same = little_from-same 8 at xs ys same

little_from-only : (n i : ℕ) (xs ys : List ℕ) → AreBytes xs → AreBytes ys → little_from i n xs ≡ little_from i n ys → AreSame i (i + n) xs ys
little_from-only zero i xs ys bx by e k ge lt = absurd (omega arith)
little_from-only (suc n) i xs ys bx by e k ge lt =
    let x = bx i in
    let y = by i in
    let first : get_or xs i 0 ≡ get_or ys i 0 = omega arith in
    let rest : little_from (suc i) n xs ≡ little_from (suc i) n ys = omega arith in
    elim (cases_eq k i) [
      | inl same ↦ rw (same, first) refl
      | inr other ↦ little_from-only n (suc i) xs ys bx by rest k (omega arith) (omega arith)
    ]

-- the same number is the same bytes
pub word_only : (at : ℕ) (xs ys : List ℕ) → AreBytes xs → AreBytes ys → word xs at ≡ word ys at → AreSame at (at + 8) xs ys
unfolding word
word_only at xs ys bx by e = little_from-only 8 at xs ys bx by e

-- two ranges side by side
pub same_joined : (a b c : ℕ) (xs ys : List ℕ) → AreSame a b xs ys → AreSame b c xs ys → AreSame a c xs ys
same_joined a b c xs ys low high k ge lt =
    elim (cases_lt k b) [ inl below ↦ low k ge below | inr above ↦ high k above lt ]

-- zeros are the same
pub zeros_same : (a b : ℕ) (xs ys : List ℕ) → AreZero a b xs → AreZero a b ys → AreSame a b xs ys
zeros_same a b xs ys x y k ge lt = x k ge lt ∙ sym (y k ge lt)

-- a number outside the range of a change
pub kept_word : {from to : ℕ} {xs ys : List ℕ} (at n : ℕ) → IsKeptOutside from to xs ys → at + 8 ≤ from → word xs at ≡ n → word ys at ≡ n
kept_word {xs = xs} {ys = ys} at n kept h e = sym (word_same at xs ys (λ k ge lt. kept.before k (omega arith) (omega arith))) ∙ e

-- zeros outside the range of a change
pub kept_zeros : {from to : ℕ} {xs ys : List ℕ} (a b : ℕ) → IsKeptOutside from to xs ys → b ≤ from → AreZero a b xs → AreZero a b ys
kept_zeros a b kept h zeros k ge lt = sym (kept.before k (omega arith) (omega arith)) ∙ zeros k ge lt

pub kept_zeros_behind : {from to : ℕ} {xs ys : List ℕ} (a b : ℕ) → IsKeptOutside from to xs ys → to ≤ a → AreZero a b xs → AreZero a b ys
kept_zeros_behind a b kept h zeros k ge lt = sym (kept.behind k (omega arith)) ∙ zeros k ge lt

-- one change behind the other
pub kept_joined : (a b c d from to : ℕ) (xs ys zs : List ℕ) → IsKeptOutside a b xs ys → IsKeptOutside c d ys zs → from ≤ a → b ≤ to → from ≤ c → d ≤ to → IsKeptOutside from to xs zs
kept_joined a b c d from to xs ys zs one two fa bt fc dt = record {
  len = one.len ∙ two.len;
  before = λ k ge lt. one.before k ge (omega arith) ∙ two.before k ge (omega arith);
  behind = λ k ge. one.behind k (omega arith) ∙ two.behind k (omega arith);
}

-- lists of one length with the same bytes
pub same_whole : (n : ℕ) (xs ys : List ℕ) → length xs ≡ n → length ys ≡ n → AreSame 0 n xs ys → xs ≡ ys
same_whole n xs ys lx ly same = ext_get_or 0 xs ys (lx ∙ sym ly) (λ i lt. same i (omega arith) (omega arith))

-- the bytes of a part
pub part_same : (at n : ℕ) (xs ys : List ℕ) → take n (drop at xs) ≡ take n (drop at ys) → AreSame at (at + n) xs ys
part_same at n xs ys e k ge lt =
    let there : (zs : List ℕ) → get_or (take n (drop at zs)) (k - at) 0 ≡ get_or zs k 0 =
    λ (zs : List ℕ). let inside : k - at < n = omega arith in let place : at + (k - at) ≡ k = omega arith in
    get_or-take n (drop at zs) (k - at) 0 inside ∙ get_or-drop at zs (k - at) 0 ∙ ap (λ (m : ℕ). get_or zs m 0) place in
    sym (there xs) ∙ ap (λ (zs : List ℕ). get_or zs (k - at) 0) e ∙ there ys

-- a part of lists that are the same there
pub part_from_same : (at n : ℕ) (xs ys : List ℕ) → AreSame at (at + n) xs ys → length xs ≡ length ys → take n (drop at xs) ≡ take n (drop at ys)
part_from_same at n xs ys same len =
    ext_get_or 0 (take n (drop at xs)) (take n (drop at ys))
    (length-take n (drop at xs) ∙ ap (λ (m : ℕ). min n m) (length-drop at xs ∙ ap (λ (m : ℕ). m - at) len ∙ sym (length-drop at ys)) ∙ sym (length-take n (drop at ys)))
    (λ i lt. let short : i < n = omega (arith, length-take n (drop at xs)) in
    get_or-take n (drop at xs) i 0 short ∙ get_or-drop at xs i 0 ∙ same (at + i) (omega arith) (omega arith)
    ∙ sym (get_or-drop at ys i 0) ∙ sym (get_or-take n (drop at ys) i 0 short))

-- a number that was written
pub word_written : (at n : ℕ) (xs : List ℕ) → n < 256 ^ 8 → take 8 (drop at xs) ≡ little_bytes 8 n → word xs at ≡ n
word_written at n xs small e =
    sym (word_behind at xs) ∙ sym (little_from-take 0 8 8 (drop at xs) (omega arith))
    ∙ ap (λ (ys : List ℕ). little_from 0 8 ys) (e ∙ sym (append-nil (little_bytes 8 n))) ∙ little_number-reads_back 8 n [] small

-- the front of lists that are the same there
pub front_same : (n : ℕ) (xs ys : List ℕ) → length xs ≡ length ys → AreSame 0 n xs ys → take n xs ≡ take n ys
front_same n xs ys len same = part_from_same 0 n xs ys (λ k ge lt. same k ge (omega arith)) len
