-- What stands at the first place that passes a test, and what is written or taken away there.
use Rattle.std.proofs.Common.{◌≡◌, ◌==◌, if◌then◌else◌, nat_lt, nat_le, ℕ, suc, ◌+◌, ◌-◌, ◌<◌, ◌≤◌, Bool, true, false, List, [], ◌∷◌, ◌++◌, length, set, get_or, Option, Some, None, refl, sym, ap, subst, ◌∙◌, inl, inr, arith}
use Rattle.std.proofs.lemmas.Bool.Decides.{nat_tests}
use Rattle.std.proofs.lemmas.List.{get_or_default}
use Rattle.std.specs.List.{position_or_len}
use Rattle.std.specs.Prelude.{position, remove}
use Rattle.dbuf_state.specs.declared.pins.PinCount.{PinCount}
use Rattle.dbuf_state.specs.Pins.{lowered, pinned, unpinned}
use Rattle.dbuf_state.proofs.IndexLemmas.{bool_cases}

module _ {X : Type 0} (test : X → Bool) where
  first_here : (x : X) (xs : List X) → test x ≡ true → position_or_len test (x ∷ xs) ≡ 0
  first_here x xs e = rw e refl

  first_there : (x : X) (xs : List X) → test x ≡ false → position_or_len test (x ∷ xs) ≡ suc (position_or_len test xs)
  first_there x xs e = rw e (omega arith)

  pub record IsPlace (i : ℕ) (xs : List X) : Type 0 where
    pub first : i ≡ position_or_len test xs
    pub within : i < length xs

  pub place-some : (xs : List X) (i : ℕ) → position test xs ≡ Some i → IsPlace i xs
  place-some xs i e = elim (bool_cases (nat_lt (position_or_len test xs) (length xs))) [
    | inl holds ↦
        let e' : Some (position_or_len test xs) ≡ Some i = rw holds at e in
        let is : position_or_len test xs ≡ i = cc in
        record { first = sym is; within = subst (λ n. n < length xs) is (lt (position_or_len test xs) (length xs) holds) }
    | inr fails ↦ let e' : None ≡ Some i = rw fails at e in cc
  ]
    where
      lt : (a b : ℕ) → nat_lt a b ≡ true → a < b
      lt a b h = grind (arith, nat_tests)

  pub place-none : (xs : List X) → position test xs ≡ None → length xs ≤ position_or_len test xs
  place-none xs e = elim (bool_cases (nat_lt (position_or_len test xs) (length xs))) [
    | inl holds ↦ let e' : Some (position_or_len test xs) ≡ None = rw holds at e in cc
    | inr fails ↦ ge (position_or_len test xs) (length xs) fails
  ]
    where
      ge : (a b : ℕ) → nat_lt a b ≡ false → b ≤ a
      ge a b h = grind (arith, nat_tests)

  place-tail : (x : X) (xs : List X) (i : ℕ) → test x ≡ false → IsPlace i (x ∷ xs) → (j : ℕ) × (i ≡ suc j) × IsPlace j xs
  place-tail x xs i e h =
      let is : i ≡ suc (position_or_len test xs) = h.first ∙ first_there x xs e in
      (position_or_len test xs, is, record { first = refl; within = omega (arith, h.within) })

  -- a function that changes the first item that passes is a write at its place
  pub changed-at : (g : List X → List X) (f : X → X) → ((x : X) (xs : List X) → g (x ∷ xs) ≡ (if test x then f x ∷ xs else (x ∷ g xs)))
      → (xs : List X) (i : ℕ) (d : X) → IsPlace i xs → d ≡ get_or xs i d → g xs ≡ set xs i (f d)
  changed-at g f steps [] i d h read = absurd (omega (arith, h.within))
  changed-at g f steps (x ∷ xs) i d h read = elim (bool_cases (test x)) [
    | inl holds ↦
        let zero_ : i ≡ 0 = h.first ∙ first_here x xs holds in
        let read' : d ≡ x = subst (λ n. d ≡ get_or (x ∷ xs) n d) zero_ read in
        steps x xs ∙ rw (holds, zero_) (ap (λ (z : X). f z ∷ xs) (sym read'))
    | inr fails ↦
        let tail = place-tail x xs i fails h in
        let read' : d ≡ get_or xs tail.0 d = subst (λ n. d ≡ get_or (x ∷ xs) n d) tail.1 read in
        steps x xs ∙ rw (fails, tail.1) (ap (λ (ys : List X). x ∷ ys) (changed-at g f steps xs tail.0 d tail.2 read'))
  ]

  -- one that finds it reads it there
  pub found-at : (g : List X → Option X) → ((x : X) (xs : List X) → g (x ∷ xs) ≡ (if test x then Some x else g xs))
      → (xs : List X) (i : ℕ) (d : X) → IsPlace i xs → d ≡ get_or xs i d → g xs ≡ Some d
  found-at g steps [] i d h read = absurd (omega (arith, h.within))
  found-at g steps (x ∷ xs) i d h read = elim (bool_cases (test x)) [
    | inl holds ↦
        let zero_ : i ≡ 0 = h.first ∙ first_here x xs holds in
        let read' : d ≡ x = subst (λ n. d ≡ get_or (x ∷ xs) n d) zero_ read in
        steps x xs ∙ rw holds (ap (λ (z : X). Some z) (sym read'))
    | inr fails ↦
        let tail = place-tail x xs i fails h in
        let read' : d ≡ get_or xs tail.0 d = subst (λ n. d ≡ get_or (x ∷ xs) n d) tail.1 read in
        steps x xs ∙ rw fails (found-at g steps xs tail.0 d tail.2 read')
  ]

  -- where none passes, a function that goes past them all does what it does at the end
  pub past-all : {Y : Type 0} (g : List X → Y) → ((x : X) (xs : List X) → test x ≡ false → g (x ∷ xs) ≡ g xs)
      → (xs : List X) → length xs ≤ position_or_len test xs → g xs ≡ g []
  past-all g steps [] none = refl
  past-all g steps (x ∷ xs) none = elim (bool_cases (test x)) [
    | inl holds ↦ absurd (omega (arith, first_here x xs holds))
    | inr fails ↦ steps x xs fails ∙ past-all g steps xs (omega (arith, first_there x xs fails))
  ]

  pub added-at-end : (g : List X → List X) (new : X) → (g [] ≡ new ∷ []) → ((x : X) (xs : List X) → test x ≡ false → g (x ∷ xs) ≡ x ∷ g xs)
      → (xs : List X) → length xs ≤ position_or_len test xs → g xs ≡ xs ++ new ∷ []
  added-at-end g new last steps [] none = last
  added-at-end g new last steps (x ∷ xs) none = elim (bool_cases (test x)) [
    | inl holds ↦ absurd (omega (arith, first_here x xs holds))
    | inr fails ↦ steps x xs fails ∙ ap (λ (ys : List X). x ∷ ys) (added-at-end g new last steps xs (omega (arith, first_there x xs fails)))
  ]

  pub unchanged-past : (g : List X → List X) → (g [] ≡ []) → ((x : X) (xs : List X) → test x ≡ false → g (x ∷ xs) ≡ x ∷ g xs)
      → (xs : List X) → length xs ≤ position_or_len test xs → g xs ≡ xs
  unchanged-past g last steps [] none = last
  unchanged-past g last steps (x ∷ xs) none = elim (bool_cases (test x)) [
    | inl holds ↦ absurd (omega (arith, first_here x xs holds))
    | inr fails ↦ steps x xs fails ∙ ap (λ (ys : List X). x ∷ ys) (unchanged-past g last steps xs (omega (arith, first_there x xs fails)))
  ]

-- ---- pins

abbrev pub is_of : ℕ → PinCount → Bool
is_of n p = p.n == n

pub pinned-there : (n : ℕ) (ps : List PinCount) (i count : ℕ) (p : PinCount) → position (is_of n) ps ≡ Some i → p ≡ get_or ps i p → count ≡ p.count + 1
    → set ps i (record { n = p.n; count = count }) ≡ pinned n ps
pinned-there n ps i count p at read one_more =
    ap (λ k. set ps i (record { n = p.n; count = k })) one_more
    ∙ sym (changed-at (is_of n) (pinned n) (λ q. record { n = q.n; count = q.count + 1 }) (λ x xs. refl) ps i p (place-some (is_of n) ps i at) read)

pub pinned-new : (n : ℕ) (ps : List PinCount) → position (is_of n) ps ≡ None → ps ++ record { n = n; count = 1 } ∷ [] ≡ pinned n ps
pinned-new n ps none = sym (added-at-end (is_of n) (pinned n) _ refl (λ x xs fails. rw fails refl) ps (place-none (is_of n) ps none))

pub unpinned-none : (n : ℕ) (ps : List PinCount) → position (is_of n) ps ≡ None → ps ≡ unpinned n ps
unpinned-none n ps none = sym (unchanged-past (is_of n) (unpinned n) refl (λ x xs fails. rw fails refl) ps (place-none (is_of n) ps none))

-- the last pin of n goes, and one of several
unpinned-last : (n : ℕ) (ps : List PinCount) (i : ℕ) (p : PinCount) → IsPlace (is_of n) i ps → p ≡ get_or ps i p → nat_le p.count 1 ≡ true → remove ps i ≡ unpinned n ps
unpinned-last n [] i p h read few = absurd (omega (arith, h.within))
unpinned-last n (x ∷ ps) i p h read few = elim (bool_cases (is_of n x)) [
  | inl holds ↦
      let zero_ : i ≡ 0 = h.first ∙ first_here (is_of n) x ps holds in
      let read' : p ≡ x = subst (λ k. p ≡ get_or (x ∷ ps) k p) zero_ read in
      let few' : nat_le x.count 1 ≡ true = subst (λ (q : PinCount). nat_le q.count 1 ≡ true) read' few in
      rw (holds, few', zero_) refl
  | inr fails ↦
      let tail = place-tail (is_of n) x ps i fails h in
      let read' : p ≡ get_or ps tail.0 p = subst (λ k. p ≡ get_or (x ∷ ps) k p) tail.1 read in
      rw (fails, tail.1) (ap (λ (ys : List PinCount). x ∷ ys) (unpinned-last n ps tail.0 p tail.2 read' few))
]

unpinned-more : (n : ℕ) (ps : List PinCount) (i : ℕ) (p : PinCount) → IsPlace (is_of n) i ps → p ≡ get_or ps i p → nat_le p.count 1 ≡ false
    → set ps i (record { n = p.n; count = p.count - 1 }) ≡ unpinned n ps
unpinned-more n [] i p h read many = absurd (omega (arith, h.within))
unpinned-more n (x ∷ ps) i p h read many = elim (bool_cases (is_of n x)) [
  | inl holds ↦
      let zero_ : i ≡ 0 = h.first ∙ first_here (is_of n) x ps holds in
      let read' : p ≡ x = subst (λ k. p ≡ get_or (x ∷ ps) k p) zero_ read in
      let many' : nat_le x.count 1 ≡ false = subst (λ (q : PinCount). nat_le q.count 1 ≡ false) read' many in
      rw (holds, many', zero_) (ap (λ (q : PinCount). record { n = q.n; count = q.count - 1 } ∷ ps) read')
  | inr fails ↦
      let tail = place-tail (is_of n) x ps i fails h in
      let read' : p ≡ get_or ps tail.0 p = subst (λ k. p ≡ get_or (x ∷ ps) k p) tail.1 read in
      rw (fails, tail.1) (ap (λ (ys : List PinCount). x ∷ ys) (unpinned-more n ps tail.0 p tail.2 read' many))
]

pub unpinned-lowered : (n : ℕ) (ps : List PinCount) (i : ℕ) (p : PinCount) → position (is_of n) ps ≡ Some i → p ≡ get_or ps i p → lowered ps i p ≡ unpinned n ps
unpinned-lowered n ps i p at read =
    let h = place-some (is_of n) ps i at in
    elim (bool_cases (nat_le p.count 1)) [
      | inl holds ↦ rw holds (unpinned-last n ps i p h read holds)
      | inr fails ↦ rw fails (unpinned-more n ps i p h read fails)
    ]

pub unpinned-at : (n : ℕ) (ps now : List PinCount) (i : ℕ) → position (is_of n) ps ≡ Some i → ((p : PinCount) → p ≡ get_or ps i p → now ≡ lowered ps i p) → now ≡ unpinned n ps
unpinned-at n ps now i at is =
    let h = place-some (is_of n) ps i at in
    let p : PinCount = get_or ps i (record { n = 0; count = 0 }) in
    let read : p ≡ get_or ps i p = get_or_default ps i (record { n = 0; count = 0 }) p h.within in
    is p read ∙ unpinned-lowered n ps i p at read

pub same_reads : {X : Type 0} (xs : List X) (i : ℕ) (d e : X) → i < length xs → d ≡ get_or xs i d → e ≡ get_or xs i e → d ≡ e
same_reads xs i d e within rd re = rd ∙ (get_or_default xs i d e within ∙ sym re)
