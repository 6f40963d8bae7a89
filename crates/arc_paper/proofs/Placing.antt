-- Lists of pages, as lists of nodes with places.
use Rattle.std.proofs.Common.{◌≡◌, ℕ, suc, ◌≤◌, true, false, eqb, List, [], ◌∷◌, length, take, drop, Some, None, inl, inr, refl, sym, ap, subst, ◌∙◌, arith, sub-one}
use Rattle.std.proofs.lemmas.Bool.{cases_Bool, cases_eq, eq-eqb, eqb-true, eqb-false, false≢true, ne_eqb, or_left, or_right, or_cases}
use Rattle.arc_links.specs.PlainLinks.{AreApart, Placed, element_at, last_place, without_place}
use Rattle.arc_links.proofs.Places.{element_at-head, element_at-other, without_place-absent}
use Rattle.arc_paper.specs.Arc.{but_last, last_of, stands_in, without}
use Rattle.arc_paper.specs.Bounds.{times_in}
use Rattle.arc_paper.specs.Queues.{pages_of}
use Rattle.arc_paper.proofs.Counting.{times-cons_other, times-cons_same, times_of_standing, without-absent, without-other, without-same}

no_some : {A : Type 0} (a : A) → None ≡ Some a → ⊥
no_some a e = cc

some_is : {A : Type 0} {a b : A} → Some a ≡ Some b → a ≡ b
some_is e = cc

-- the page at a place stands in the list
pub standing-at : (at x : ℕ) (nodes : List (Placed ℕ)) → element_at at nodes ≡ Some x → stands_in (pages_of nodes) x ≡ true
standing-at at x [] e = absurd (no_some x e)
standing-at at x (n ∷ ns) e = elim (cases_eq n.place at) [
  | inl same ↦
      let page : n.element ≡ x = some_is (sym (element_at-head n ns) ∙ ap (λ p. element_at p (n ∷ ns)) same ∙ e) in
      or_left _ _ (eq-eqb n.element x page)
  | inr differs ↦ or_right _ _ (standing-at at x ns (sym (element_at-other at n ns differs) ∙ e))
]

-- and a page that stands in the list has a place there
pub at-standing : (x : ℕ) (nodes : List (Placed ℕ)) → AreApart nodes → stands_in (pages_of nodes) x ≡ true → (at : ℕ) × (element_at at nodes ≡ Some x)
at-standing x [] apart e = absurd (false≢true e)
at-standing x (n ∷ ns) apart e = elim (or_cases _ _ e) [
  | inl here ↦ (n.place, element_at-head n ns ∙ ap (λ p. Some p) (eqb-true n.element x here))
  | inr behind ↦
      let rest = at-standing x ns apart.1 behind in
      (rest.0, element_at-other rest.0 n ns (λ same. no_some x (sym apart.0 ∙ ap (λ p. element_at p ns) same ∙ rest.1)) ∙ rest.1)
]

without_place-same : (at : ℕ) (n : Placed ℕ) (ns : List (Placed ℕ)) → eqb n.place at ≡ true → without_place at (n ∷ ns) ≡ without_place at ns
without_place-same at n ns same = rw same refl

without_place-other : (at : ℕ) (n : Placed ℕ) (ns : List (Placed ℕ)) → eqb n.place at ≡ false → without_place at (n ∷ ns) ≡ n ∷ without_place at ns
without_place-other at n ns differs = rw differs refl

-- a list without a place is the list of pages without its page
pub pages-without : (at x : ℕ) (nodes : List (Placed ℕ)) → AreApart nodes → element_at at nodes ≡ Some x → times_in x (pages_of nodes) ≤ 1
    → pages_of (without_place at nodes) ≡ without x (pages_of nodes)
pages-without at x [] apart e once = absurd (no_some x e)
pages-without at x (n ∷ ns) apart e once = elim (cases_Bool (eqb n.place at)) [
  | inl same ↦
      let place : n.place ≡ at = eqb-true n.place at same in
      let page : n.element ≡ x = some_is (sym (element_at-head n ns) ∙ ap (λ p. element_at p (n ∷ ns)) place ∙ e) in
      let is_it : eqb n.element x ≡ true = eq-eqb n.element x page in
      let none : times_in x (pages_of ns) ≡ 0 = let all = times-cons_same x n.element (pages_of ns) is_it in omega (arith, all, once) in
      ap pages_of (without_place-same at n ns same ∙ without_place-absent at ns (subst (λ p. element_at p ns ≡ None) place apart.0))
      ∙ sym (without-absent x (pages_of ns) none) ∙ sym (without-same x n.element (pages_of ns) is_it)
  | inr differs ↦
      let rest : element_at at ns ≡ Some x = sym (element_at-other at n ns (eqb-false n.place at differs)) ∙ e in
      let some = times_of_standing x (pages_of ns) (standing-at at x ns rest) in
      elim (cases_Bool (eqb n.element x)) [
        | inl twice ↦ let all = times-cons_same x n.element (pages_of ns) twice in absurd (omega (arith, all, once, some))
        | inr other ↦
            let all = times-cons_other x n.element (pages_of ns) other in
            ap pages_of (without_place-other at n ns differs)
            ∙ ap (λ l. n.element ∷ l) (pages-without at x ns apart.1 rest (omega (arith, all, once)))
            ∙ sym (without-other x n.element (pages_of ns) other)
      ]
]

-- ---- the last page

pub last-none : (nodes : List (Placed ℕ)) → last_place nodes ≡ None → nodes ≡ []
last-none [] e = refl
last-none (n ∷ []) e = absurd (no_some n.place (sym e))
last-none (n ∷ m ∷ ns) e = absurd (let bad : m ∷ ns ≡ [] = last-none (m ∷ ns) e in cc)

but_last-more : (x y : ℕ) (l : List ℕ) → but_last (x ∷ y ∷ l) ≡ x ∷ but_last (y ∷ l)
but_last-more x y l = ap (λ k. take k (x ∷ y ∷ l)) (sub-one (suc (suc (length l)))) ∙ ap (λ k. x ∷ take k (y ∷ l)) (sym (sub-one (suc (length l))))

last_of-more : (x y : ℕ) (l : List ℕ) → last_of (x ∷ y ∷ l) ≡ last_of (y ∷ l)
last_of-more x y l = ap (λ k. drop k (x ∷ y ∷ l)) (sub-one (suc (suc (length l)))) ∙ ap (λ k. drop k (y ∷ l)) (sym (sub-one (suc (length l))))

pub record IsLast (at x : ℕ) (nodes : List (Placed ℕ)) : Type 0 where
  pub there : element_at at nodes ≡ Some x
  pub rest : pages_of (without_place at nodes) ≡ but_last (pages_of nodes)
  pub last : last_of (pages_of nodes) ≡ x ∷ []

pub last-some : (at : ℕ) (nodes : List (Placed ℕ)) → AreApart nodes → last_place nodes ≡ Some at → (x : ℕ) × IsLast at x nodes
last-some at [] apart e = absurd (no_some at e)
last-some at (n ∷ []) apart e =
    let place : n.place ≡ at = some_is e in (
      n.element,
      record {
        there = ap (λ p. element_at p (n ∷ [])) (sym place) ∙ element_at-head n [];
        rest = ap pages_of (without_place-same at n [] (eq-eqb n.place at place));
        last = refl;
      },
    )
last-some at (n ∷ m ∷ ns) apart e =
    let more = last-some at (m ∷ ns) apart.1 e in
    let differs : n.place ≡ at → ⊥ = λ same. no_some more.0 (sym apart.0 ∙ ap (λ p. element_at p (m ∷ ns)) same ∙ more.1.there) in (
      more.0,
      record {
        there = element_at-other at n (m ∷ ns) differs ∙ more.1.there;
        rest = ap pages_of (without_place-other at n (m ∷ ns) (ne_eqb n.place at differs)) ∙ ap (λ l. n.element ∷ l) more.1.rest ∙ sym (but_last-more n.element m.element (pages_of ns));
        last = last_of-more n.element m.element (pages_of ns) ∙ more.1.last;
      },
    )
