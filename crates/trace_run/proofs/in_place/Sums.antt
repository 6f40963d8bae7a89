-- Oids that stand among others, each once: what they add up to.
use Rattle.std.proofs.Common.{◌≡◌, ℕ, ◌+◌, ◌≤◌, true, false, if◌then◌else◌, List, [], ◌∷◌, sum_by, refl, sym, ap, ◌∙◌, inl, inr, arith}
use Rattle.std.specs.List.{AllByRecursion, list_any}
use Rattle.std.proofs.lemmas.List.Sums.{sum_by-cons}
use Rattle.arc_lists.proofs.Tables.{cases_true}
use Rattle.dbuf_state.specs.Oids.{oid_eq}
use Rattle.dbuf_state.specs.declared.oid.Oid.{Oid}
use Rattle.dbuf_state.proofs.CellLemmas.{oid_eq-sym}
use Rattle.trace_run.proofs.in_place.Mapped.{oid-is}

-- no Oid stands twice among them
abbrev pub AreDistinct : List Oid → Type 0
AreDistinct [] = Unit {0}
AreDistinct (x ∷ xs) = (list_any (oid_eq x) xs ≡ false) × AreDistinct xs

-- of an item in front
pub any-cons : (x y : Oid) (ys : List Oid) → oid_eq x y ≡ false → list_any (oid_eq x) ys ≡ false → list_any (oid_eq x) (y ∷ ys) ≡ false
any-cons x y ys far none = rw far none

pub any-past : (x y : Oid) (ys : List Oid) → oid_eq x y ≡ false → list_any (oid_eq x) (y ∷ ys) ≡ true → list_any (oid_eq x) ys ≡ true
any-past x y ys far among = rw far at among

-- an Oid that isn't among them is none of them
pub none-apart : (x y : Oid) (ys : List Oid) → list_any (oid_eq x) (y ∷ ys) ≡ false → (oid_eq x y ≡ false) × (list_any (oid_eq x) ys ≡ false)
none-apart x y ys none = elim (cases_true (oid_eq x y)) [
  | inl here ↦ absurd (let clash : true ≡ false = rw here at none in cc)
  | inr far ↦ (far, rw far at none)
]

-- without the first that is this one
abbrev without : Oid → List Oid → List Oid
without x [] = []
without x (y ∷ ys) = if oid_eq x y then ys else (y ∷ without x ys)

-- another one stays
any-without : (z x : Oid) (ys : List Oid) → oid_eq z x ≡ false → list_any (oid_eq z) ys ≡ true → list_any (oid_eq z) (without x ys) ≡ true
any-without z x [] apart among = absurd (let clash : false ≡ true = among in cc)
any-without z x (y ∷ ys) apart among = elim (cases_true (oid_eq x y)) [
  | inl here ↦ rw here (any-past z y ys (ap (oid_eq z) (sym (oid-is x y here)) ∙ apart) among)
  | inr far ↦ elim (cases_true (oid_eq z y)) [
    | inl near ↦ rw far (rw near refl)
    | inr past ↦ rw far (rw past (any-without z x ys apart (any-past z y ys past among)))
  ]
]

all-without : (x : Oid) (ats xs : List Oid) → list_any (oid_eq x) xs ≡ false → AllByRecursion (λ z. list_any (oid_eq z) ats ≡ true) xs → AllByRecursion (λ z. list_any (oid_eq z) (without x ats) ≡ true) xs
all-without x ats [] none all = tt
all-without x ats (z ∷ zs) none all =
    let parts = none-apart x z zs none in
    (any-without z x ats (oid_eq-sym z x ∙ parts.0) all.0, all-without x ats zs parts.1 all.1)

module _ (f : Oid → ℕ) where
  sum-without : (x : Oid) (ys : List Oid) → list_any (oid_eq x) ys ≡ true → sum_by f ys ≡ f x + sum_by f (without x ys)
  sum-without x [] among = absurd (let clash : false ≡ true = among in cc)
  sum-without x (y ∷ ys) among = elim (cases_true (oid_eq x y)) [
    | inl here ↦ rw here (sum_by-cons f y ys ∙ ap (λ (z : Oid). f z + sum_by f ys) (sym (oid-is x y here)))
    | inr far ↦
        let rest = sum-without x ys (any-past x y ys far among) in
        let a = sum_by-cons f y ys in
        let b = sum_by-cons f y (without x ys) in
        rw far (let e : sum_by f (y ∷ ys) ≡ f x + sum_by f (y ∷ without x ys) = omega arith in e)
  ]

  -- what each of them once adds up to is at most what all others add up to
  pub sum-among : (xs ats : List Oid) → AreDistinct xs → AllByRecursion (λ x. list_any (oid_eq x) ats ≡ true) xs → sum_by f xs ≤ sum_by f ats
  sum-among [] ats once all = let z : sum_by f [] ≡ 0 = refl in omega arith
  sum-among (x ∷ xs) ats once all =
      let a = sum-without x ats all.0 in
      let rest = sum-among xs (without x ats) once.1 (all-without x ats xs once.0 all.1) in
      let b = sum_by-cons f x xs in
      omega arith
