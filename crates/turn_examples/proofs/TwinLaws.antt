-- The steps of the two copies keep their rule.
use Rattle.std.proofs.Common.{◌≡◌, ◌≢◌, if◌then◌else◌, ℕ, zero, suc, ◌<◌, List, [], ◌∷◌, length, set, Option, Some, None, refl, sym, ap, ◌∙◌, subst, ⊎_elim, eq-eqb, ne_eqb, arith, length-set}
use mathlib.Core.Option.{some, some-injective}
use mathlib.Core.Logic.{dite}
use native.Mathlib.Decide.{ℕ_discrete}
use lib.ListN.{get_elem?}
use Rattle.atomic_table.proofs.Lists.{at_set, set_here, set_else}
use Rattle.turn_table.specs.Board.{Turn, free, taken, Board, KeepsWon, KeepsLost, KeepsLearned}
use Rattle.turn_table.specs.Places.{Place}
use Rattle.turn_table.specs.Moments.{MayGive}
use Rattle.turn_examples.specs.declared.twins.Copies.{Copies}
use Rattle.turn_examples.specs.Twins.{copy_of, renewed, copies, NowIs, Agrees}
use Rattle.turn_examples.specs.TwinLaws.{copy_else, now_stays, same_at, within}

-- all copies but that of i become x
renewed_at : (i j x y : ℕ) (l : List (ℕ × ℕ)) → j ≢ i → copy_of j l ≡ Some y → copy_of j (renewed i x l) ≡ Some x
renewed_at i j x y [] n e = let f : None ≡ Some y = e in absurd (cc)
renewed_at i j x y (c ∷ l) n e = dite (ℕ_discrete c.0 i)
    (λ q. let far : c.0 ≢ j = λ f. n (sym f ∙ q) in
    subst (λ b. copy_of j (if b then renewed i x l else (c.0, x) ∷ renewed i x l) ≡ Some x) (sym (eq-eqb c.0 i q)) (renewed_at i j x y l n (sym (copy_else j c.0 c.1 l far) ∙ e)))
    (λ q. subst (λ b. copy_of j (if b then renewed i x l else (c.0, x) ∷ renewed i x l) ≡ Some x) (sym (ne_eqb c.0 i q))
    (dite (ℕ_discrete c.0 j)
    (λ f. subst (λ b. (if b then Some x else copy_of j (renewed i x l)) ≡ Some x) (sym (eq-eqb c.0 j f)) refl)
    (λ f. copy_else j c.0 x (renewed i x l) f ∙ renewed_at i j x y l n (sym (copy_else j c.0 c.1 l f) ∙ e))))

renewed_from : (i j x z : ℕ) (l : List (ℕ × ℕ)) → copy_of j (renewed i x l) ≡ Some z → (j ≢ i) × ((y : ℕ) × (copy_of j l ≡ Some y))
renewed_from i j x z [] e = let f : None ≡ Some z = e in absurd (cc)
renewed_from i j x z (c ∷ l) e = dite (ℕ_discrete c.0 i)
    (λ q. let r = renewed_from i j x z l (subst (λ b. copy_of j (if b then renewed i x l else (c.0, x) ∷ renewed i x l) ≡ Some z) (eq-eqb c.0 i q) e) in
    (r.0, (r.1.0, copy_else j c.0 c.1 l (λ f. r.0 (sym f ∙ q)) ∙ r.1.1)))
    (λ q. let e' = subst (λ b. copy_of j (if b then renewed i x l else (c.0, x) ∷ renewed i x l) ≡ Some z) (ne_eqb c.0 i q) e in
    dite (ℕ_discrete c.0 j)
    (λ f. ((λ g. q (f ∙ g)), (c.1, subst (λ b. (if b then Some c.1 else copy_of j l) ≡ Some c.1) (sym (eq-eqb c.0 j f)) refl)))
    (λ f. let r = renewed_from i j x z l (sym (copy_else j c.0 x (renewed i x l) f) ∙ e') in (r.0, (r.1.0, copy_else j c.0 c.1 l f ∙ r.1.1))))

taken_same : (n m : ℕ) → ◌≡◌ {A = Turn ℕ} (taken n) (taken m) → n ≡ m
taken_same n m q = cc

-- A party gives the turn i back with x, where it has the other turn too, or where x is the copy that it took
gives_any : (p : Place Copies) (i x : ℕ)
    → ((b : Board ℕ Copies) (h : Agrees b) → get_elem? b.turns i ≡ some (taken p.number) → get_elem? b.views p.number ≡ some p.own → (j : ℕ) (t : Turn ℕ) → j ≢ i → get_elem? b.turns j ≡ some t
    → NowIs (set b.views p.number (copies (renewed i x p.own.held))) j t x)
    → MayGive Agrees p i x (copies (renewed i x p.own.held))
gives_any p i x others b h s e =
    let n : ℕ = p.number in
    let w : Copies = p.own in
    let at : get_elem? b.views n ≡ some w = s.shows.0 in
    let u : Copies = copies (renewed i x w.held) in
    let near = within b.turns i (taken n) e in record {
      number = x;
      two = length-set b.turns i (free x) ∙ h.two;
      now = λ j t f. ⊎_elim
          (λ p. let P : ℕ → Turn ℕ → Type 0 = λ k s. NowIs (set b.views n u) k s x in subst (λ (z : ℕ × Turn ℕ). P z.0 z.1) (λ k. (sym p.0 k, p.1 k)) refl)
          (λ p. others b h e at j t p.0 p.1)
          (at_set b.turns i j (free x) t f);
      known = λ m j y z f c. ⊎_elim
          (λ p. let r = renewed_from i j x y w.held (subst (λ (q : Copies). copy_of j q.held ≡ Some y) (sym p.1) c) in
          subst (λ (k : ℕ). get_elem? (set b.turns i (free x)) j ≡ some (taken k)) (sym p.0) (set_else b.turns i j (free x) r.0 ∙ h.known n j r.1.0 w at r.1.1))
          (λ p. let g = h.known m j y z p.1 c in
          set_else b.turns i j (free x) (λ r. p.0 (sym (taken_same n m (same_at b.turns i (taken n) (taken m) e (subst (λ (k : ℕ). get_elem? b.turns k ≡ some (taken m)) r g))))) ∙ g)
          (at_set b.views n m u z f);
    }

pub gives_both : (p : Place Copies) (i k x y : ℕ) → k ≢ i → i < 2 → k < 2 → copy_of k p.own.held ≡ Some y → MayGive Agrees p i x (copies (renewed i x p.own.held))
gives_both p i k x y ne ib kb c = gives_any p i x (λ b h e at j t far f.
    let n : ℕ = p.number in
    let w : Copies = p.own in
    let one : j ≡ k = let a : j < length b.turns = within b.turns j t f in let d : length b.turns ≡ 2 = h.two in omega arith in
    let held : get_elem? b.turns j ≡ some (taken n) = subst (λ (z : ℕ). get_elem? b.turns z ≡ some (taken n)) (sym one) (h.known n k y w at c) in
    let is : taken n ≡ t = same_at b.turns j (taken n) t held f in
    subst (λ s. NowIs (set b.views n (copies (renewed i x w.held))) j s x) is
    (copies (renewed i x w.held), set_here b.views n (copies (renewed i x w.held)) (within b.views n w at), renewed_at i j x y w.held far (subst (λ (z : ℕ). copy_of z w.held ≡ Some y) (sym one) c)))

pub gives_same : (p : Place Copies) (i x : ℕ) → copy_of i p.own.held ≡ Some x → MayGive Agrees p i x (copies (renewed i x p.own.held))
gives_same p i x c = gives_any p i x (λ b h e at j t far f.
    let n : ℕ = p.number in
    let w : Copies = p.own in
    let mine : NowIs b.views i (taken n) h.number = h.now i (taken n) e in
    let one : mine.0 ≡ w = same_at b.views n mine.0 w mine.1 at in
    let is : h.number ≡ x = some_same h.number x (sym (subst (λ (z : Copies). copy_of i z.held ≡ Some h.number) one mine.2) ∙ c) in
    now_stays b n j x w (copies (renewed i x w.held)) t at (λ d. renewed_at i j x x w.held far d) (subst (NowIs b.views j t) is (h.now j t f)))
  where
    some_same : (a b : ℕ) → ◌≡◌ {A = Option ℕ} (Some a) (Some b) → a ≡ b
    some_same a b q = cc
