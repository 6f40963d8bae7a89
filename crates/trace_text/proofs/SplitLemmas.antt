-- The parts of a list of bytes, from the first place of the byte that parts them.
use Rattle.std.proofs.Common.{◌≡◌, ℕ, zero, suc, ◌+◌, ◌<◌, Bool, true, false, eqb, List, [], ◌∷◌, length, get_or, take, drop, refl, ap, ◌∙◌, sym, arith, add-one, cond, ◌-◌, ◌≤◌, ◌⊎◌, inl, inr}
use Rattle.std.proofs.lemmas.Bool.Decides.{nat_tests}
use Rattle.std.proofs.lemmas.List.{get_or-drop, length-drop}
use Rattle.memchr.specs.Find.{NoneBefore, Nowhere, Passes, is_byte}
use Rattle.std.proofs.lemmas.List.Splits.{slice_split-cons_yes, slice_split-cons_no}
use Rattle.std.specs.List.{slice_split, onto_first}

-- a test that is not true is false
pub false-from_not : (b : Bool) → (b ≡ true → ⊥) → b ≡ false
false-from_not true h = absurd (h refl)
false-from_not false h = refl

-- a place is before another or not
split-at : (near k : ℕ) → (k < near) ⊎ (near ≤ k)
split-at near k = grind (arith, nat_tests)

-- the byte at a place of the rest
moved : (byte : ℕ) (text rest : List ℕ) (near k : ℕ) → rest ≡ drop near text → near ≤ k → Passes (is_byte byte) text k → Passes (is_byte byte) rest (k - near)
moved byte text rest near k is behind here =
    let at : near + (k - near) ≡ k = omega arith in
    let same : get_or rest (k - near) 0 ≡ get_or text k 0 = ap (λ xs. get_or xs (k - near) 0) is ∙ (get_or-drop near text (k - near) 0 ∙ ap (λ i. get_or text i 0) at) in
    ap (λ b. eqb b byte) same ∙ here

-- a place behind bytes among which the byte isn't
pub place-behind : (byte : ℕ) (text rest : List ℕ) (near place : ℕ) → rest ≡ drop near text → near ≤ length text → Nowhere (Passes (is_byte byte) text) 0 near
    → NoneBefore (Passes (is_byte byte) rest) 0 (length rest) place × Passes (is_byte byte) rest place
    → NoneBefore (Passes (is_byte byte) text) 0 (length text) (near + place) × Passes (is_byte byte) text (near + place)
place-behind byte text rest near place is short none found =
    let long : length rest ≡ length text - near = ap length is ∙ length-drop near text in (
      record {
        low = omega arith;
        high = omega (arith, found.0.high, long);
        before = λ k low below here. elim (split-at near k) [
          | inl before ↦ none k low before here
          | inr behind ↦ found.0.before (k - near) (omega arith) (omega (arith, below, behind)) (moved byte text rest near k is behind here)
        ];
      },
      ap (λ b. eqb b byte) (sym (get_or-drop near text place 0) ∙ ap (λ xs. get_or xs place 0) (sym is)) ∙ found.1,
    )

-- no place
pub nowhere-behind : (byte : ℕ) (text rest : List ℕ) (near : ℕ) → rest ≡ drop near text → near ≤ length text → Nowhere (Passes (is_byte byte) text) 0 near
    → Nowhere (Passes (is_byte byte) rest) 0 (length rest) → Nowhere (Passes (is_byte byte) text) 0 (length text)
nowhere-behind byte text rest near is short none found k low below here =
    let long : length rest ≡ length text - near = ap length is ∙ length-drop near text in
    elim (split-at near k) [
      | inl before ↦ none k low before here
      | inr behind ↦ found (k - near) (omega arith) (omega (arith, below, behind, long)) (moved byte text rest near k is behind here)
    ]

-- the first part ends at the first place of the byte
pub slice_split-at_place : (b : ℕ) (xs : List ℕ) (i : ℕ) → i < length xs → ((k : ℕ) → k < i → eqb (get_or xs k 0) b ≡ true → ⊥)
    → eqb (get_or xs i 0) b ≡ true → slice_split (λ x. eqb x b) xs ≡ take i xs ∷ slice_split (λ x. eqb x b) (drop (i + 1) xs)
slice_split-at_place b [] i lt before here = absurd (omega arith)
slice_split-at_place b (x ∷ xs) zero lt before here = slice_split-cons_yes (λ y. eqb y b) x xs here
slice_split-at_place b (x ∷ xs) (suc i) lt before here =
    let rest = slice_split-at_place b xs i (omega arith) (λ k l. before (suc k) (omega arith)) here in
    let no = false-from_not _ (before zero (omega arith)) in
    let rest' : slice_split (λ y. eqb y b) xs ≡ take i xs ∷ slice_split (λ y. eqb y b) (drop (suc i) xs) = rw (← add-one i) rest in
    let front : onto_first x (slice_split (λ y. eqb y b) xs) ≡ take (suc i) (x ∷ xs) ∷ slice_split (λ y. eqb y b) (drop (suc i) xs) = ap (onto_first x) rest' in
    rw (add-one (suc i)) (slice_split-cons_no (λ y. eqb y b) x xs no ∙ front)

-- where the byte has no place, there is one part
pub slice_split-no_place : (b : ℕ) (xs : List ℕ) → ((k : ℕ) → k < length xs → eqb (get_or xs k 0) b ≡ true → ⊥)
    → slice_split (λ x. eqb x b) xs ≡ xs ∷ []
slice_split-no_place b [] none = refl
slice_split-no_place b (x ∷ xs) none =
    let rest = slice_split-no_place b xs (λ k l. none (suc k) (omega arith)) in
    let no = false-from_not _ (none zero (omega arith)) in
    slice_split-cons_no (λ y. eqb y b) x xs no ∙ ap (onto_first x) rest

-- the parts that are left, after the first of them
pub parts-at_place : (ended : Bool) (b : ℕ) (xs ys : List ℕ) (i : ℕ) (parts : List (List ℕ)) → ended ≡ false
    → cond ended [] (slice_split (λ x. eqb x b) xs) ≡ parts → ys ≡ drop (i + 1) xs
    → i < length xs → ((k : ℕ) → k < i → eqb (get_or xs k 0) b ≡ true → ⊥) → eqb (get_or xs i 0) b ≡ true
    → parts ≡ take i xs ∷ cond ended [] (slice_split (λ x. eqb x b) ys)
parts-at_place ended b xs ys i parts e is rest lt before here =
    let split = slice_split-at_place b xs i lt before here in
    sym is ∙ rw (e, rest) split

-- the last part
pub parts-no_place : (ended : Bool) (b : ℕ) (xs : List ℕ) (parts : List (List ℕ)) → ended ≡ false
    → cond ended [] (slice_split (λ x. eqb x b) xs) ≡ parts → ((k : ℕ) → k < length xs → eqb (get_or xs k 0) b ≡ true → ⊥) → parts ≡ xs ∷ []
parts-no_place ended b xs parts e is none = sym is ∙ rw e (slice_split-no_place b xs none)
