-- Lists of nodes at their places: where a node stands, what is in front of it and what is left without it.
use Rattle.std.proofs.Common.{◌≡◌, ◌≢◌, ℕ, suc, Bool, true, false, nat_eq, if◌then◌else◌, List, [], ◌∷◌, ◌++◌, length, Option, Some, None, IsSome, is_some, ◌⊎◌, inl, inr, refl, sym, ap, subst, ◌∙◌, arith}
use Rattle.std.proofs.lemmas.Bool.{eq-eqb, eqb-true, false≢true}
use Rattle.std.proofs.lemmas.Bool.Decides.{nat_tests}
use Rattle.arc_links.specs.PlainLinks.{AreApart, Placed, element_at, in_front, placed, without_place}

pub cases_true : (b : Bool) → (b ≡ true) ⊎ (b ≡ false)
cases_true true = inl refl
cases_true false = inr refl

pub some_is : {A : Type 0} {a b : A} → Some a ≡ Some b → a ≡ b
some_is e = cc

pub ne_test : (a b : ℕ) → a ≢ b → nat_eq a b ≡ false
ne_test a b differ = grind (arith, nat_tests)

-- what is there has a value
pub is_some_of : {A : Type 0} (o : Option A) → IsSome o → (a : A) × (o ≡ Some a)
is_some_of None there = absurd (false≢true there)
is_some_of (Some a) there = (a, refl)

pub none_is : {A : Type 0} (o : Option A) → is_some o ≡ false → o ≡ None
none_is None off = refl
none_is (Some a) off = absurd (false≢true (sym off))

module _ {T : Type 0} where
  pub element_at-head : (n : Placed T) (ns : List (Placed T)) → element_at n.place (n ∷ ns) ≡ Some n.element
  element_at-head n ns = rw (eq-eqb n.place n.place refl) refl

  pub element_at-other : (q : ℕ) (n : Placed T) (ns : List (Placed T)) → n.place ≢ q → element_at q (n ∷ ns) ≡ element_at q ns
  element_at-other q n ns differ = rw (ne_test n.place q differ) refl

  -- what stands in a list stands in it behind one more node
  pub still_there : (q : ℕ) (n : Placed T) (ns : List (Placed T)) → IsSome (element_at q ns) → IsSome (element_at q (n ∷ ns))
  still_there q n ns there = elim (cases_true (nat_eq n.place q)) [
    | inl same ↦ rw same refl
    | inr differs ↦ rw differs there
  ]

  pub element_at-append_front : (q : ℕ) (xs ys : List (Placed T)) → IsSome (element_at q xs) → element_at q (xs ++ ys) ≡ element_at q xs
  element_at-append_front q [] ys there = absurd (false≢true there)
  element_at-append_front q (x ∷ xs) ys there = elim (cases_true (nat_eq x.place q)) [
    | inl same ↦ rw same refl
    | inr differs ↦ rw differs (element_at-append_front q xs ys (rw differs at there))
  ]

  pub element_at-append_behind : (q : ℕ) (xs ys : List (Placed T)) → element_at q xs ≡ None → element_at q (xs ++ ys) ≡ element_at q ys
  element_at-append_behind q [] ys off = refl
  element_at-append_behind q (x ∷ xs) ys off = elim (cases_true (nat_eq x.place q)) [
    | inl same ↦ absurd (cc (rw same at off))
    | inr differs ↦ rw differs (element_at-append_behind q xs ys (rw differs at off))
  ]

  -- the nodes behind the one at a place
  abbrev pub behind : ℕ → List (Placed T) → List (Placed T)
  behind at [] = []
  behind at (n ∷ ns) = if nat_eq n.place at then ns else behind at ns

  -- a list is what is in front of a node, the node, and what is behind it
  pub split_at : (at : ℕ) (ns : List (Placed T)) (x : T) → element_at at ns ≡ Some x → ns ≡ in_front at ns ++ (placed at x ∷ behind at ns)
  split_at at [] x there = absurd (cc)
  split_at at (n ∷ ns) x there = elim (cases_true (nat_eq n.place at)) [
    | inl same ↦
        let here : n.place ≡ at = eqb-true _ _ same in
        let value : Some n.element ≡ Some x = rw same at there in
        let is : n ≡ placed at x = ap (λ p. placed p n.element) here ∙ ap (λ y. placed at y) (some_is value) in
        rw same (ap (λ m. m ∷ ns) is)
    | inr differs ↦ rw differs (ap (λ l. n ∷ l) (split_at at ns x (rw differs at there)))
  ]

  pub none_in_front : (at : ℕ) (ns : List (Placed T)) → element_at at (in_front at ns) ≡ None
  none_in_front at [] = refl
  none_in_front at (n ∷ ns) = elim (cases_true (nat_eq n.place at)) [
    | inl same ↦ rw same refl
    | inr differs ↦ rw (differs, differs) (none_in_front at ns)
  ]

  pub without_place-absent : (at : ℕ) (ns : List (Placed T)) → element_at at ns ≡ None → without_place at ns ≡ ns
  without_place-absent at [] off = refl
  without_place-absent at (n ∷ ns) off = elim (cases_true (nat_eq n.place at)) [
    | inl same ↦ absurd (cc (rw same at off))
    | inr differs ↦ rw differs (ap (λ l. n ∷ l) (without_place-absent at ns (rw differs at off)))
  ]

  -- a node that is taken off leaves what was in front of it and what was behind it
  pub without_split : (at : ℕ) (ns : List (Placed T)) (x : T) → AreApart ns → element_at at ns ≡ Some x → without_place at ns ≡ in_front at ns ++ behind at ns
  without_split at [] x apart there = refl
  without_split at (n ∷ ns) x apart there = elim (cases_true (nat_eq n.place at)) [
    | inl same ↦
        let off : element_at at ns ≡ None = subst (λ p. element_at p ns ≡ None) (eqb-true _ _ same) apart.0 in
        rw same (without_place-absent at ns off)
    | inr differs ↦ rw differs (ap (λ l. n ∷ l) (without_split at ns x apart.1 (rw differs at there)))
  ]

  absent_behind : (q : ℕ) (xs ys : List (Placed T)) → element_at q (xs ++ ys) ≡ None → element_at q ys ≡ None
  absent_behind q [] ys off = off
  absent_behind q (x ∷ xs) ys off = elim (cases_true (nat_eq x.place q)) [
    | inl same ↦ absurd (cc (rw same at off))
    | inr differs ↦ absent_behind q xs ys (rw differs at off)
  ]

  absent_front : (q : ℕ) (xs ys : List (Placed T)) → element_at q (xs ++ ys) ≡ None → element_at q xs ≡ None
  absent_front q [] ys off = refl
  absent_front q (x ∷ xs) ys off = elim (cases_true (nat_eq x.place q)) [
    | inl same ↦ absurd (cc (rw same at off))
    | inr differs ↦ rw differs (absent_front q xs ys (rw differs at off))
  ]

  -- a place among the first of two lists that are apart is none of the second's
  pub apart_across : (q : ℕ) (xs ys : List (Placed T)) → AreApart (xs ++ ys) → IsSome (element_at q xs) → element_at q ys ≡ None
  apart_across q [] ys apart there = absurd (false≢true there)
  apart_across q (x ∷ xs) ys apart there = elim (cases_true (nat_eq x.place q)) [
    | inl same ↦
        let off : element_at q (xs ++ ys) ≡ None = subst (λ p. element_at p (xs ++ ys) ≡ None) (eqb-true _ _ same) apart.0 in
        absent_behind q xs ys off
    | inr differs ↦ apart_across q xs ys apart.1 (rw differs at there)
  ]

  pub AreApart-front : (xs ys : List (Placed T)) → AreApart (xs ++ ys) → AreApart xs
  AreApart-front [] ys apart = tt
  AreApart-front (x ∷ xs) ys apart = (absent_front x.place xs ys apart.0, AreApart-front xs ys apart.1)

  pub AreApart-behind : (xs ys : List (Placed T)) → AreApart (xs ++ ys) → AreApart ys
  AreApart-behind [] ys apart = apart
  AreApart-behind (x ∷ xs) ys apart = AreApart-behind xs ys apart.1

  -- without a place the others are as before
  pub element_at-without_other : (q at : ℕ) (ns : List (Placed T)) → q ≢ at → element_at q (without_place at ns) ≡ element_at q ns
  element_at-without_other q at [] differ = refl
  element_at-without_other q at (n ∷ ns) differ = elim (cases_true (nat_eq n.place at)) [
    | inl same ↦
        let here : n.place ≡ at = eqb-true _ _ same in
        let other : n.place ≢ q = λ e. differ (sym e ∙ here) in
        rw (same, ne_test n.place q other) (element_at-without_other q at ns differ)
    | inr differs ↦ rw differs (elim (cases_true (nat_eq n.place q)) [
      | inl found ↦ rw found refl
      | inr passed ↦ rw passed (element_at-without_other q at ns differ)
    ])
  ]

  pub element_at-without_same : (at : ℕ) (ns : List (Placed T)) → element_at at (without_place at ns) ≡ None
  element_at-without_same at [] = refl
  element_at-without_same at (n ∷ ns) = elim (cases_true (nat_eq n.place at)) [
    | inl same ↦ rw same (element_at-without_same at ns)
    | inr differs ↦ rw (differs, differs) (element_at-without_same at ns)
  ]

  absent_without : (q at : ℕ) (ns : List (Placed T)) → element_at q ns ≡ None → element_at q (without_place at ns) ≡ None
  absent_without q at [] off = refl
  absent_without q at (n ∷ ns) off = elim (cases_true (nat_eq n.place q)) [
    | inl found ↦ absurd (cc (rw found at off))
    | inr passed ↦ elim (cases_true (nat_eq n.place at)) [
      | inl same ↦ rw same (absent_without q at ns (rw passed at off))
      | inr differs ↦ rw (differs, passed) (absent_without q at ns (rw passed at off))
    ]
  ]

  pub AreApart-without : (at : ℕ) (ns : List (Placed T)) → AreApart ns → AreApart (without_place at ns)
  AreApart-without at [] apart = tt
  AreApart-without at (n ∷ ns) apart = elim (cases_true (nat_eq n.place at)) [
    | inl same ↦ rw same (AreApart-without at ns apart.1)
    | inr differs ↦ rw differs (absent_without n.place at ns apart.0, AreApart-without at ns apart.1)
  ]

  pub length-without : (at : ℕ) (ns : List (Placed T)) (x : T) → AreApart ns → element_at at ns ≡ Some x → suc (length (without_place at ns)) ≡ length ns
  length-without at [] x apart there = absurd (cc)
  length-without at (n ∷ ns) x apart there = elim (cases_true (nat_eq n.place at)) [
    | inl same ↦
        let off : element_at at ns ≡ None = subst (λ p. element_at p ns ≡ None) (eqb-true _ _ same) apart.0 in
        rw same (ap (λ l. suc (length l)) (without_place-absent at ns off))
    | inr differs ↦ rw differs (ap (λ k. suc k) (length-without at ns x apart.1 (rw differs at there)))
  ]
