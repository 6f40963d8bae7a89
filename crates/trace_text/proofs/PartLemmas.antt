-- A part of a text that is a number.
use Rattle.std.proofs.Common.{◌≡◌, ℕ, zero, suc, ◌+◌, ◌*◌, ◌<◌, ◌≤◌, ◌^◌, inl, inr, Bool, true, false, eqb, List, [], ◌∷◌, length, take, drop, get_or, refl, ap, ◌∙◌, sym, subst, arith, cond, length-take}
use Rattle.std.proofs.lemmas.List.{take_all, take-take, get_or-take}
use Rattle.std.proofs.lemmas.Bool.{cases_lt, cases_order, eqb-true, false≢true}
use Rattle.std.specs.Fmt.{decimal}
use Rattle.std.proofs.lemmas.Fmt.{decimal_injective}
use Rattle.std.specs.List.{slice_split}
use Rattle.std.specs.Char.{digit_value}
use Rattle.std.specs.Str.Parse.{digits_value}
use Rattle.memchr.specs.Find.{Nowhere, Passes, is_byte}
use Rattle.trace_text.specs.Reading.{BeginsAsNumber, EndsPart, IsOfDigits}
use Rattle.trace_text.proofs.NumberLemmas.{digits-spell, digits-stuck}
use Rattle.trace_text.proofs.SplitLemmas.{parts-at_place, parts-no_place, slice_split-at_place, slice_split-no_place}

-- one byte more in front
part-end-cons : (b x : ℕ) (xs : List ℕ) (parting : Bool) → eqb x b ≡ parting → (i : ℕ) × EndsPart b xs i → (i : ℕ) × EndsPart b (x ∷ xs) i
part-end-cons b x xs true e r = (0, record { within = omega arith; before = λ k low below. absurd (omega arith); here = λ lt. e })
part-end-cons b x xs false e r = (
  suc r.0,
  record {
    within = omega (arith, r.1.within);
    before = λ k low below. step k r.0 below r.1.before;
    here = λ lt. r.1.here (omega (arith, lt));
  },
)
  where
    step : (k i : ℕ) → k < suc i → Nowhere (Passes (is_byte b) xs) 0 i → Passes (is_byte b) (x ∷ xs) k → ⊥
    step zero i lt none here = false≢true (sym e ∙ here)
    step (suc k) i lt none here = none k (omega arith) (omega (arith, lt)) here

-- the first part ends somewhere
pub part-end : (b : ℕ) (xs : List ℕ) → (i : ℕ) × EndsPart b xs i
part-end b [] = (0, record { within = omega arith; before = λ k low below. absurd (omega arith); here = λ lt. absurd (omega arith) })
part-end b (x ∷ xs) = part-end-cons b x xs (eqb x b) refl (part-end b xs)

-- the parts, where it is known where the first ends
pub parts-end : (b : ℕ) (xs : List ℕ) (i : ℕ) → EndsPart b xs i → (rest : List (List ℕ)) × (slice_split (λ x. eqb x b) xs ≡ take i xs ∷ rest)
parts-end b xs i ends = elim (cases_lt i (length xs)) [
  | inl lt ↦ (slice_split (λ x. eqb x b) (drop (i + 1) xs), slice_split-at_place b xs i lt (λ k l. ends.before k (omega arith) l) (ends.here lt))
  | inr ge ↦ ([], slice_split-no_place b xs (λ k l. ends.before k (omega arith) (omega (arith, l, ge))) ∙ ap (λ ys. ys ∷ []) (sym (take_all i xs ge)))
]

-- a byte that goes on with no number, in a part of digits
pub part-stuck : (b : ℕ) (xs : List ℕ) (i v end : ℕ) → i < length xs → Nowhere (Passes (is_byte b) xs) 0 i → (get_or xs i 0 ≡ b → ⊥) → v ≡ digits_value 10 (take i xs)
    → ((digit_value (get_or xs i 0) < 10) × (v * 10 + digit_value (get_or xs i 0) < 2 ^ 64) → ⊥)
    → EndsPart b xs end → IsOfDigits (take end xs) → ⊥
part-stuck b xs i v end lt none other is stuck ends digits = elim (cases_order end i) [
  | inl same ↦ other (eqb-true _ _ (subst (λ k. eqb (get_or xs k 0) b ≡ true) same (ends.here (omega (arith, same, lt)))))
  | inr (inl low) ↦ none end (omega arith) low (ends.here (omega (arith, low, lt)))
  | inr (inr more) ↦
      let front : take i (take end xs) ≡ take i xs = take-take i end xs (omega arith) in
      let byte : get_or (take end xs) i 0 ≡ get_or xs i 0 = get_or-take end xs i 0 more in
      digits-stuck (take end xs) i v (omega (arith, length-take end xs, more, lt, ends.within)) (is ∙ ap (digits_value 10) (sym front)) (rw byte stuck) digits
]

-- fields begin with one number
pub number-one : (m n : ℕ) (fields rest others : List (List ℕ)) → m < 2 ^ 64 → n < 2 ^ 64 → fields ≡ decimal m ∷ rest → fields ≡ decimal n ∷ others → m ≡ n
number-one m n fields rest others fits_m fits_n is also =
    let joined = sym is ∙ also in
    let same : decimal m ≡ decimal n = cc in
    decimal_injective m n fits_m fits_n same

-- one byte more that doesn't end the part
pub nowhere-more : (b : ℕ) (xs : List ℕ) (i : ℕ) → Nowhere (Passes (is_byte b) xs) 0 i → (get_or xs i 0 ≡ b → ⊥) → Nowhere (Passes (is_byte b) xs) 0 (i + 1)
nowhere-more b xs i none other k low lt here = elim (cases_order k i) [
  | inl same ↦ other (eqb-true _ _ (subst (λ k. eqb (get_or xs k 0) b ≡ true) same here))
  | inr (inl less) ↦ none k low less here
  | inr (inr more) ↦ absurd (omega (arith, lt, more))
]

-- the first part is the text up to where it ends
pub first-part : (ended : Bool) (b : ℕ) (xs first : List ℕ) (i : ℕ) (parts rest : List (List ℕ)) → ended ≡ false → cond ended [] (slice_split (λ x. eqb x b) xs) ≡ parts
    → EndsPart b xs i → parts ≡ first ∷ rest → take i xs ≡ first
first-part ended b xs first i parts rest e is ends begins =
    let p = parts-end b xs i ends in
    let split : parts ≡ take i xs ∷ p.0 = sym is ∙ rw e p.1 in
    let joined = sym split ∙ begins in
    cc

-- a part that is a number, and the parts after it
pub number-then_parts : (ended : Bool) (b : ℕ) (xs ys : List ℕ) (i v : ℕ) (parts : List (List ℕ)) → ended ≡ false → cond ended [] (slice_split (λ x. eqb x b) xs) ≡ parts
    → ys ≡ drop (i + 1) xs → i < length xs → EndsPart b xs i → IsOfDigits (take i xs) → v ≡ digits_value 10 (take i xs) → BeginsAsNumber (take i xs)
    → parts ≡ decimal v ∷ cond ended [] (slice_split (λ x. eqb x b) ys)
number-then_parts ended b xs ys i v parts e is rest lt ends digits value begins =
    parts-at_place ended b xs ys i parts e is rest lt (λ k l. ends.before k (omega arith) l) (ends.here lt)
    ∙ ap (λ first. first ∷ cond ended [] (slice_split (λ x. eqb x b) ys)) (digits-spell (take i xs) v (digits, value) begins)

-- the last part, which is a number
pub number-at_end : (ended : Bool) (b : ℕ) (xs : List ℕ) (i v : ℕ) (parts : List (List ℕ)) → ended ≡ false → cond ended [] (slice_split (λ x. eqb x b) xs) ≡ parts
    → length xs ≤ i → EndsPart b xs i → IsOfDigits (take i xs) → v ≡ digits_value 10 (take i xs) → BeginsAsNumber (take i xs) → parts ≡ decimal v ∷ []
number-at_end ended b xs i v parts e is ge ends digits value begins =
    parts-no_place ended b xs parts e is (λ k l. ends.before k (omega arith) (omega (arith, l, ge)))
    ∙ ap (λ (first : List ℕ). first ∷ []) (sym (take_all i xs ge) ∙ digits-spell (take i xs) v (digits, value) begins)
