-- Fields have no space and no newline in them: so a line is split where it was joined.
use Rattle.std.proofs.Common.{◌≡◌, ℕ, zero, suc, ◌/◌, ◌%◌, ◌<◌, ◌≤◌, ◌^◌, eqb, Bool, true, false, List, [], ◌∷◌, ◌++◌, length, refl, ap, ◌∙◌, sym, arith, get_or, slice_index}
use Rattle.std.specs.Prelude.{decimal}
use Rattle.std.specs.List.{AllByRecursion, join_with_byte, onto_first, slice_split}
use Rattle.std.proofs.lemmas.Bool.{eq-eqb, eqb-true}
use Rattle.std.proofs.lemmas.Fmt.{decimal_is_IsNumeral}
use Rattle.std.proofs.lemmas.Str.Parse.{digit_at}
use Rattle.std.proofs.lemmas.List.Splits.{length-slice_split, slice_split-cons_no, slice_split-cons_yes}
use Rattle.hex.specs.Hex.{IsBytes, encode_lower, encode_with, lower_digits}
use Rattle.trace_text.proofs.SplitLemmas.{false-from_not}

-- every byte is greater than a space
abbrev pub Clean : List ℕ → Type 0
Clean xs = AllByRecursion (λ b. 33 ≤ b) xs

pub clean-each : (xs : List ℕ) → ((k : ℕ) → k < length xs → 33 ≤ get_or xs k 0) → Clean xs
clean-each [] each = tt
clean-each (x ∷ xs) each = (each 0 (omega arith), clean-each xs (λ k lt. each (suc k) (omega (arith, lt))))

pub clean-decimal : (n : ℕ) → n < 2 ^ 64 → Clean (decimal n)
clean-decimal n low = clean-each (decimal n) (λ k lt. let digit = digit_at (decimal n) k (decimal_is_IsNumeral n low).0.1 lt in omega (arith, digit.0))

clean-at : (xs : List ℕ) (k : ℕ) → Clean xs → k < length xs → 33 ≤ slice_index xs k
clean-at [] k clean lt = absurd (omega arith)
clean-at (x ∷ xs) zero clean lt = clean.0
clean-at (x ∷ xs) (suc k) clean lt = clean-at xs k clean.1 (omega (arith, lt))

clean-digits : Clean lower_digits
clean-digits = (omega arith, (omega arith, (omega arith, (omega arith, (omega arith, (omega arith, (omega arith, (omega arith, (omega arith, (omega arith, (omega arith, (omega arith, (omega arith, (omega arith, (omega arith, (omega arith, tt))))))))))))))))

pub clean-hex : (xs : List ℕ) → IsBytes xs → Clean (encode_lower xs)
unfolding encode_with
clean-hex [] bytes = tt
clean-hex (b ∷ xs) bytes =
    let low : b < 256 = bytes 0 in
    (clean-at lower_digits (b / 16) clean-digits (omega (arith, low)), (clean-at lower_digits (b % 16) clean-digits (omega arith), clean-hex xs (λ k. bytes (suc k))))

-- ---- lists that are cut

-- a byte greater than a space is neither
not-byte : (b x : ℕ) → b < 33 → 33 ≤ x → eqb x b ≡ false
not-byte b x low high = false-from_not _ (λ same. omega (arith, eqb-true x b same, low, high))

pub clean-all : (b : ℕ) → b < 33 → (xs : List ℕ) → Clean xs → AllByRecursion (λ x. eqb x b ≡ false) xs
clean-all b low [] clean = tt
clean-all b low (x ∷ xs) clean = (not-byte b x low clean.0, clean-all b low xs clean.1)

-- the byte ends the first part
pub split-first : (b : ℕ) (xs ys : List ℕ) → AllByRecursion (λ x. eqb x b ≡ false) xs → slice_split (λ x. eqb x b) (xs ++ b ∷ ys) ≡ xs ∷ slice_split (λ x. eqb x b) ys
split-first b [] ys all = slice_split-cons_yes (λ x. eqb x b) b ys (eq-eqb b b refl)
split-first b (x ∷ xs) ys all = slice_split-cons_no (λ y. eqb y b) x (xs ++ b ∷ ys) all.0 ∙ ap (onto_first x) (split-first b xs ys all.1)

-- there is one part
pub split-last : (b : ℕ) (xs : List ℕ) → AllByRecursion (λ x. eqb x b ≡ false) xs → slice_split (λ x. eqb x b) xs ≡ xs ∷ []
split-last b [] all = refl
split-last b (x ∷ xs) all = slice_split-cons_no (λ y. eqb y b) x xs all.0 ∙ ap (onto_first x) (split-last b xs all.1)

onto-append : (x : ℕ) (parts more : List (List ℕ)) → 0 < length parts → onto_first x (parts ++ more) ≡ onto_first x parts ++ more
onto-append x [] more some = absurd (omega arith)
onto-append x (part ∷ parts) more some = refl

-- a text with the byte in it has the parts before and behind
pub split-append : (b : ℕ) (xs ys : List ℕ) → slice_split (λ x. eqb x b) (xs ++ b ∷ ys) ≡ slice_split (λ x. eqb x b) xs ++ slice_split (λ x. eqb x b) ys
split-append b [] ys = slice_split-cons_yes (λ x. eqb x b) b ys (eq-eqb b b refl)
split-append b (x ∷ xs) ys = by (eqb x b) (split-append b xs ys) refl
  where
    by : (t : Bool) → slice_split (λ y. eqb y b) (xs ++ b ∷ ys) ≡ slice_split (λ y. eqb y b) xs ++ slice_split (λ y. eqb y b) ys → eqb x b ≡ t → slice_split (λ y. eqb y b) (x ∷ (xs ++ b ∷ ys)) ≡ slice_split (λ y. eqb y b) (x ∷ xs) ++ slice_split (λ y. eqb y b) ys
    by true rest e =
        slice_split-cons_yes (λ y. eqb y b) x (xs ++ b ∷ ys) e
        ∙ ap (λ (l : List (List ℕ)). [] ∷ l) rest
        ∙ ap (λ (l : List (List ℕ)). l ++ slice_split (λ y. eqb y b) ys) (sym (slice_split-cons_yes (λ y. eqb y b) x xs e))
    by false rest e =
        slice_split-cons_no (λ y. eqb y b) x (xs ++ b ∷ ys) e
        ∙ ap (onto_first x) rest
        ∙ onto-append x (slice_split (λ y. eqb y b) xs) (slice_split (λ y. eqb y b) ys) (let size = length-slice_split (λ y. eqb y b) xs in omega (arith, size))
        ∙ ap (λ (l : List (List ℕ)). l ++ slice_split (λ y. eqb y b) ys) (sym (slice_split-cons_no (λ y. eqb y b) x xs e))

-- clean fields that are joined are split again
pub split-joined : (field : List ℕ) (fields : List (List ℕ)) → Clean field → AllByRecursion Clean fields → slice_split (λ x. eqb x 32) (join_with_byte 32 (field ∷ fields)) ≡ field ∷ fields
split-joined field [] clean all = split-last 32 field (clean-all 32 (omega arith) field clean)
split-joined field (next ∷ fields) clean all =
    split-first 32 field (join_with_byte 32 (next ∷ fields)) (clean-all 32 (omega arith) field clean) ∙ ap (λ (l : List (List ℕ)). field ∷ l) (split-joined next fields all.0 all.1)

-- joined clean fields have no newline
free-append : (xs ys : List ℕ) → AllByRecursion (λ x. eqb x 10 ≡ false) xs → AllByRecursion (λ x. eqb x 10 ≡ false) ys → AllByRecursion (λ x. eqb x 10 ≡ false) (xs ++ ys)
free-append [] ys p q = q
free-append (x ∷ xs) ys p q = (p.0, free-append xs ys p.1 q)

pub free-joined : (field : List ℕ) (fields : List (List ℕ)) → Clean field → AllByRecursion Clean fields → AllByRecursion (λ x. eqb x 10 ≡ false) (join_with_byte 32 (field ∷ fields))
free-joined field [] clean all = clean-all 10 (omega arith) field clean
free-joined field (next ∷ fields) clean all =
    free-append field (32 ∷ join_with_byte 32 (next ∷ fields)) (clean-all 10 (omega arith) field clean) (refl, free-joined next fields all.0 all.1)
