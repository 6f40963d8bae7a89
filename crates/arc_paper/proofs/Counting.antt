-- How often a page stands in a list, and how long lists are.
use Rattle.std.proofs.Common.{◌≡◌, ℕ, ◌+◌, ◌-◌, ◌<◌, ◌≤◌, true, false, cond, eqb, List, [], ◌∷◌, ◌++◌, length, refl, sym, ◌∙◌, ap, subst, arith, zero-add, length-take, length-drop, inl, inr}
use Rattle.std.proofs.lemmas.Bool.{cases_Bool, cases_eq, eqb-true, eq-eqb, ne_eqb, false≢true, true≢false, cond-true, cond-false}
use Rattle.std.proofs.lemmas.List.Sums.{sum_by-cons, sum_by-append, sum_by-take-drop}
use Rattle.arc_paper.specs.Arc.{but_last, last_of, stands_in, without}
use Rattle.arc_paper.specs.Bounds.{times_in}

-- one for a page that is this one
abbrev pub one_if : ℕ → ℕ → ℕ
one_if y x = cond (eqb y x) 1 0

pub times-cons : (x y : ℕ) (ys : List ℕ) → times_in x (y ∷ ys) ≡ one_if y x + times_in x ys
times-cons x y ys = sum_by-cons (λ z. one_if z x) y ys

pub times-cons_same : (x y : ℕ) (ys : List ℕ) → eqb y x ≡ true → times_in x (y ∷ ys) ≡ 1 + times_in x ys
times-cons_same x y ys same = times-cons x y ys ∙ ap (λ b. cond b 1 0 + times_in x ys) same

pub times-cons_other : (x y : ℕ) (ys : List ℕ) → eqb y x ≡ false → times_in x (y ∷ ys) ≡ times_in x ys
times-cons_other x y ys differs = times-cons x y ys ∙ ap (λ b. cond b 1 0 + times_in x ys) differs ∙ zero-add (times_in x ys)

pub times-append : (x : ℕ) (xs ys : List ℕ) → times_in x (xs ++ ys) ≡ times_in x xs + times_in x ys
times-append x xs ys = sum_by-append (λ z. one_if z x) xs ys

pub one_if-same : (x : ℕ) → one_if x x ≡ 1
one_if-same x = cond-true (eqb x x) 1 0 (eq-eqb x x refl)

pub one_if-other : (y x : ℕ) → (y ≡ x → ⊥) → one_if y x ≡ 0
one_if-other y x differs = cond-false (eqb y x) 1 0 (ne_eqb y x differs)

-- ---- the page stands in the list, or not

pub times_of_standing : (x : ℕ) (xs : List ℕ) → stands_in xs x ≡ true → 0 < times_in x xs
times_of_standing x [] h = absurd (false≢true h)
times_of_standing x (y ∷ ys) h = elim (cases_Bool (eqb y x)) [
  | inl same ↦ let e = times-cons_same x y ys same in subst (λ n. 0 < n) (sym e) (omega arith)
  | inr differs ↦ subst (λ n. 0 < n) (sym (times-cons_other x y ys differs)) (times_of_standing x ys (rw differs at h))
]

pub times_of_absent : (x : ℕ) (xs : List ℕ) → stands_in xs x ≡ false → times_in x xs ≡ 0
times_of_absent x [] h = refl
times_of_absent x (y ∷ ys) h = elim (cases_Bool (eqb y x)) [
  | inl same ↦ absurd (true≢false (rw same at h))
  | inr differs ↦ times-cons_other x y ys differs ∙ times_of_absent x ys (rw differs at h)
]

pub standing_of_times : (x : ℕ) (xs : List ℕ) → 0 < times_in x xs → stands_in xs x ≡ true
standing_of_times x xs some = elim (cases_Bool (stands_in xs x)) [
  | inl stands ↦ stands
  | inr absent ↦ let none = times_of_absent x xs absent in absurd (omega arith)
]

pub absent_of_times : (x : ℕ) (xs : List ℕ) → times_in x xs ≡ 0 → stands_in xs x ≡ false
absent_of_times x xs none = elim (cases_Bool (stands_in xs x)) [
  | inl stands ↦ let some = times_of_standing x xs stands in absurd (omega arith)
  | inr absent ↦ absent
]

-- ---- a list without a page

pub without-same : (x y : ℕ) (ys : List ℕ) → eqb y x ≡ true → without x (y ∷ ys) ≡ without x ys
without-same x y ys same = rw same refl

pub without-other : (x y : ℕ) (ys : List ℕ) → eqb y x ≡ false → without x (y ∷ ys) ≡ y ∷ without x ys
without-other x y ys differs = rw differs refl

pub times-without_same : (x : ℕ) (xs : List ℕ) → times_in x (without x xs) ≡ 0
times-without_same x [] = refl
times-without_same x (y ∷ ys) = elim (cases_Bool (eqb y x)) [
  | inl same ↦ ap (times_in x) (without-same x y ys same) ∙ times-without_same x ys
  | inr differs ↦ ap (times_in x) (without-other x y ys differs) ∙ times-cons_other x y (without x ys) differs ∙ times-without_same x ys
]

pub times-without_other : (x y : ℕ) (xs : List ℕ) → (y ≡ x → ⊥) → times_in y (without x xs) ≡ times_in y xs
times-without_other x y [] differs = refl
times-without_other x y (z ∷ zs) differs = elim (cases_Bool (eqb z x)) [
  | inl same ↦
      let other : eqb z y ≡ false = ne_eqb z y (λ e. differs (sym e ∙ eqb-true z x same)) in
      ap (times_in y) (without-same x z zs same) ∙ times-without_other x y zs differs ∙ sym (times-cons_other y z zs other)
  | inr apart ↦
      ap (times_in y) (without-other x z zs apart) ∙ times-cons y z (without x zs) ∙ ap (λ n. one_if z y + n) (times-without_other x y zs differs)
      ∙ sym (times-cons y z zs)
]

pub times-without_le : (x y : ℕ) (xs : List ℕ) → times_in y (without x xs) ≤ times_in y xs
times-without_le x y xs = elim (cases_eq y x) [
  | inl e ↦ let none : times_in y (without x xs) ≡ 0 = subst (λ z. times_in z (without x xs) ≡ 0) (sym e) (times-without_same x xs) in omega arith
  | inr differs ↦ omega (arith, times-without_other x y xs differs)
]

pub length-without : (x : ℕ) (xs : List ℕ) → length (without x xs) + times_in x xs ≡ length xs
length-without x [] = refl
length-without x (y ∷ ys) = elim (cases_Bool (eqb y x)) [
  | inl same ↦
      let left = ap length (without-same x y ys same) in
      let all = times-cons_same x y ys same in
      omega (arith, length-without x ys, left, all)
  | inr differs ↦
      let left = ap length (without-other x y ys differs) in
      let all = times-cons_other x y ys differs in
      omega (arith, length-without x ys, left, all)
]

pub without-absent : (x : ℕ) (xs : List ℕ) → times_in x xs ≡ 0 → without x xs ≡ xs
without-absent x [] none = refl
without-absent x (y ∷ ys) none = elim (cases_Bool (eqb y x)) [
  | inl same ↦ let all = times-cons_same x y ys same in absurd (omega (arith, all, none))
  | inr differs ↦
      let rest : times_in x ys ≡ 0 = sym (times-cons_other x y ys differs) ∙ none in
      without-other x y ys differs ∙ ap (λ l. y ∷ l) (without-absent x ys rest)
]

-- ---- the last page of a list, and those before it

pub times-split : (x : ℕ) (xs : List ℕ) → times_in x (but_last xs) + times_in x (last_of xs) ≡ times_in x xs
times-split x xs = sum_by-take-drop (λ z. one_if z x) xs (length xs - 1)

pub length-but_last : (xs : List ℕ) → length (but_last xs) ≡ length xs - 1
length-but_last xs = grind (arith, length-take)

pub length-last_of : (xs : List ℕ) → length (but_last xs) + length (last_of xs) ≡ length xs
length-last_of xs = grind (arith, length-take, length-drop)
