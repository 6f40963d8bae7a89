-- Places in a chain, each once.
use Rattle.std.proofs.Common.{◌≡◌, ◌≢◌, ℕ, zero, suc, ◌<◌, ◌≤◌, Bool, true, false, nat_eq, if◌then◌else◌, List, [], ◌∷◌, length, Option, Some, None, ◌⊎◌, inl, inr, refl, sym, ap, subst, ◌∙◌, arith}
use Rattle.std.proofs.lemmas.Bool.{eqb-true, eqb-false}
use Rattle.std.proofs.lemmas.Bool.Decides.{nat_tests}
use Rattle.key_table.specs.Chains.{AreOnce, Stands, place_in_front}

pub cases_true : (b : Bool) → (b ≡ true) ⊎ (b ≡ false)
cases_true true = inl refl
cases_true false = inr refl

pub ne_test : (a b : ℕ) → a ≢ b → nat_eq a b ≡ false
ne_test a b differ = grind (arith, nat_tests)

pub some_is : {A : Type 0} {a b : A} → Some a ≡ Some b → a ≡ b
some_is e = cc

pub some_not_none : {A : Type 0} {a : A} → Some a ≡ None → ⊥
some_not_none e = cc

-- an option has a value or none
pub some_or_none : {A : Type 0} (o : Option A) → ((a : A) × (o ≡ Some a)) ⊎ (o ≡ None)
some_or_none None = inr refl
some_or_none (Some a) = inl (a, refl)

-- the places without one
abbrev pub without : ℕ → List ℕ → List ℕ
without at [] = []
without at (p ∷ ps) = if nat_eq p at then ps else (p ∷ without at ps)

pub without-absent : (at : ℕ) (ps : List ℕ) → (Stands at ps → ⊥) → without at ps ≡ ps
without-absent at [] off = refl
without-absent at (p ∷ ps) off =
    let differ : p ≢ at = λ e. off (inl e) in
    rw (ne_test p at differ) (ap (λ l. p ∷ l) (without-absent at ps (λ there. off (inr there))))

-- what stands there without one stood there before
pub Stands-without : (q at : ℕ) (ps : List ℕ) → Stands q (without at ps) → Stands q ps
Stands-without q at [] there = there
Stands-without q at (p ∷ ps) there = elim (cases_true (nat_eq p at)) [
  | inl same ↦ inr (rw same at there)
  | inr differs ↦ go (λ rest. Stands-without q at ps rest) (rw differs at there)
]
  where
    go : (Stands q (without at ps) → Stands q ps) → Stands q (p ∷ without at ps) → Stands q (p ∷ ps)
    go before (inl e) = inl e
    go before (inr rest) = inr (before rest)

-- and every other place stands there still
pub Stands-without_other : (q at : ℕ) (ps : List ℕ) → q ≢ at → Stands q ps → Stands q (without at ps)
Stands-without_other q at [] differ there = there
Stands-without_other q at (p ∷ ps) differ (inl e) =
    let other : p ≢ at = λ same. differ (sym e ∙ same) in
    rw (ne_test p at other) (inl e)
Stands-without_other q at (p ∷ ps) differ (inr there) = elim (cases_true (nat_eq p at)) [
  | inl same ↦ rw same there
  | inr differs ↦ rw differs (inr (Stands-without_other q at ps differ there))
]

pub Stands-without_same : (at : ℕ) (ps : List ℕ) → AreOnce ps → Stands at (without at ps) → ⊥
Stands-without_same at [] once there = there
Stands-without_same at (p ∷ ps) once there = elim (cases_true (nat_eq p at)) [
  | inl same ↦ once.0 (subst (λ z. Stands z ps) (sym (eqb-true _ _ same)) (rw same at there))
  | inr differs ↦ go (λ rest. Stands-without_same at ps once.1 rest) (eqb-false _ _ differs) (rw differs at there)
]
  where
    go : (Stands at (without at ps) → ⊥) → p ≢ at → Stands at (p ∷ without at ps) → ⊥
    go later differ (inl e) = differ e
    go later differ (inr rest) = later rest

pub AreOnce-without : (at : ℕ) (ps : List ℕ) → AreOnce ps → AreOnce (without at ps)
AreOnce-without at [] once = tt
AreOnce-without at (p ∷ ps) once = elim (cases_true (nat_eq p at)) [
  | inl same ↦ rw same once.1
  | inr differs ↦ rw differs (λ there. once.0 (Stands-without p at ps there), AreOnce-without at ps once.1)
]

-- ---- no more places than there are numbers below a bound

length-without : (at : ℕ) (ps : List ℕ) → length ps ≤ suc (length (without at ps))
length-without at [] = omega arith
length-without at (p ∷ ps) = elim (cases_true (nat_eq p at)) [
  | inl same ↦ rw same (omega arith)
  | inr differs ↦ rw differs (omega (arith, length-without at ps))
]

pub length-once : (n : ℕ) (ps : List ℕ) → AreOnce ps → ((q : ℕ) → Stands q ps → q < n) → length ps ≤ n
length-once zero [] once below = omega arith
length-once zero (p ∷ ps) once below = absurd (omega (arith, below p (inl refl)))
length-once (suc n) ps once below =
    let less : (q : ℕ) → Stands q (without n ps) → q < n = λ q there.
    let differ : q ≢ n = λ same. Stands-without_same n ps once (subst (λ z. Stands z (without n ps)) same there) in
    omega (arith, below q (Stands-without q n ps there), differ) in
    omega (arith, length-without n ps, length-once n (without n ps) (AreOnce-without n ps once) less)

-- the place in front of one behind the first is a place of the chain
pub in_front-stands : (at p : ℕ) (ps : List ℕ) → Stands at ps → Stands (place_in_front at p ps) (p ∷ ps)
in_front-stands at p [] there = absurd there
in_front-stands at p (q ∷ qs) there = elim (cases_true (nat_eq q at)) [
  | inl same ↦ rw same (inl refl)
  | inr differs ↦
      let passed : place_in_front at p (q ∷ qs) ≡ place_in_front at q qs = rw differs refl in
      subst (λ z. Stands z (p ∷ q ∷ qs)) (sym passed) (inr (in_front-stands at q qs (later (eqb-false _ _ differs) there)))
]
  where
    later : q ≢ at → Stands at (q ∷ qs) → Stands at qs
    later differ (inl e) = absurd (differ e)
    later differ (inr rest) = rest

-- and not the one behind it
pub in_front-apart : (at p : ℕ) (ps : List ℕ) → AreOnce (p ∷ ps) → Stands at ps → place_in_front at p ps ≢ at
in_front-apart at p [] once there = absurd there
in_front-apart at p (q ∷ qs) once there = elim (cases_true (nat_eq q at)) [
  | inl same ↦
      let passed : place_in_front at p (q ∷ qs) ≡ p = rw same refl in
      λ e. once.0 (subst (λ z. Stands z (q ∷ qs)) (sym (sym passed ∙ e)) there)
  | inr differs ↦
      let passed : place_in_front at p (q ∷ qs) ≡ place_in_front at q qs = rw differs refl in
      λ e. in_front-apart at q qs once.1 (later (eqb-false _ _ differs) there) (sym passed ∙ e)
]
  where
    later : q ≢ at → Stands at (q ∷ qs) → Stands at qs
    later differ (inl e) = absurd (differ e)
    later differ (inr rest) = rest
