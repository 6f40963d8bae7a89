-- The steps of the two copies keep their rule.
use Rattle.std.proofs.Common.{if◌then◌else◌, ◌≡◌, ◌≢◌, ℕ, zero, suc, ◌<◌, List, [], ◌∷◌, length, set, Option, Some, refl, sym, ap, ◌∙◌, subst, ⊎_elim, eq-eqb, ne_eqb, arith, length-set}
use mathlib.Core.Option.{some, some-injective}
use mathlib.Core.Logic.{dite}
use native.Mathlib.Decide.{ℕ_discrete}
use lib.ListN.{get_elem?}
use Rattle.atomic_table.proofs.Lists.{at_set, set_here, set_else}
use Rattle.turn_table.specs.Board.{Turn, free, taken, Board, KeepsWon, KeepsLost, KeepsLearned}
use Rattle.turn_examples.specs.declared.twins.Copies.{Copies}
use Rattle.turn_examples.specs.Twins.{copy_of, copies, NowIs, Agrees}

pub within : {A : Type 0} (l : List A) (i : ℕ) (a : A) → get_elem? l i ≡ some a → i < length l
within [] i a e = absurd (mathlib.Core.Option.some-ne-none a (sym e))
within (x ∷ xs) zero a e = omega arith
within (x ∷ xs) (suc i) a e = let h = within xs i a e in omega arith

-- a list of copies at the turn i
copy_here : (i x : ℕ) (l : List (ℕ × ℕ)) → copy_of i ((i, x) ∷ l) ≡ Some x
copy_here i x l = subst (λ b. (if b then Some x else copy_of i l) ≡ Some x) (sym (eq-eqb i i refl)) refl

pub copy_else : (i j x : ℕ) (l : List (ℕ × ℕ)) → j ≢ i → copy_of i ((j, x) ∷ l) ≡ copy_of i l
copy_else i j x l n = subst (λ b. (if b then Some x else copy_of i l) ≡ copy_of i l) (sym (ne_eqb j i n)) refl

abbrev won : ℕ → ℕ → ℕ → Copies → Copies
won n i v w = copies ((i, v) ∷ w.held)

free_taken : (v m : ℕ) → free v ≢ taken m
free_taken v m q = cc

pub same_at : {A : Type 0} (l : List A) (i : ℕ) (a b : A) → get_elem? l i ≡ some a → get_elem? l i ≡ some b → a ≡ b
same_at l i a b e f = some-injective a b (sym e ∙ f)

-- what a turn's copy is stays so, where the party n still knows it
pub now_stays : (b : Board ℕ Copies) (n j x : ℕ) (w u : Copies) (t : Turn ℕ) → get_elem? b.views n ≡ some w → (copy_of j w.held ≡ Some x → copy_of j u.held ≡ Some x) → NowIs b.views j t x → NowIs (set b.views n u) j t x
now_stays b n j x w u (free v) at keeps h = h
now_stays b n j x w u (taken m) at keeps h = dite (ℕ_discrete m n)
    (λ q. let one : h.0 ≡ w = same_at b.views n h.0 w (subst (λ (z : ℕ). get_elem? b.views z ≡ some h.0) q h.1) at in
    (u, subst (λ (z : ℕ). get_elem? (set b.views n u) z ≡ some u) (sym q) (set_here b.views n u (within b.views n w at)), keeps (subst (λ (z : Copies). copy_of j z.held ≡ Some x) one h.2)))
    (λ q. (h.0, set_else b.views n m u q ∙ h.1, h.2))

pub keeps_won : KeepsWon Agrees won
keeps_won b n i v w h e at =
    let near = within b.turns i (free v) e in
    let u : Copies = won n i v w in record {
      number = h.number;
      two = length-set b.turns i (taken n) ∙ h.two;
      now = λ j t f. ⊎_elim
          (λ p. let P : ℕ → Turn ℕ → Type 0 = λ k s. NowIs (set b.views n u) k s h.number in
          subst (λ (z : ℕ × Turn ℕ). P z.0 z.1) (λ k. (sym p.0 k, p.1 k)) (u, set_here b.views n u (within b.views n w at), copy_here i v w.held ∙ ap Some (h.now i (free v) e)))
          (λ p. now_stays b n j h.number w u t at (λ c. copy_else j i v w.held (λ q. p.0 (sym q)) ∙ c) (h.now j t p.1))
          (at_set b.turns i j (taken n) t f);
      known = λ m j x z f c. ⊎_elim
          (λ p. let c' : copy_of j ((i, v) ∷ w.held) ≡ Some x = subst (λ (y : Copies). copy_of j y.held ≡ Some x) (sym p.1) c in
          subst (λ (k : ℕ). get_elem? (set b.turns i (taken n)) j ≡ some (taken k)) (sym p.0)
          (dite (ℕ_discrete i j)
          (λ q. subst (λ (k : ℕ). get_elem? (set b.turns i (taken n)) k ≡ some (taken n)) q (set_here b.turns i (taken n) near))
          (λ q. set_else b.turns i j (taken n) (λ r. q (sym r)) ∙ h.known n j x w at (sym (copy_else j i v w.held q) ∙ c'))))
          (λ p. let g = h.known m j x z p.1 c in
          set_else b.turns i j (taken n) (λ r. free_taken v m (same_at b.turns i (free v) (taken m) e (subst (λ (k : ℕ). get_elem? b.turns k ≡ some (taken m)) r g))) ∙ g)
          (at_set b.views n m u z f);
    }

-- a step that only looks changes no view
view_again : (b : Board ℕ Copies) (n : ℕ) (w : Copies) → Agrees b → get_elem? b.views n ≡ some w → Agrees record { turns = b.turns; views = set b.views n w }
view_again b n w h at = subst (λ (l : List Copies). Agrees record { turns = b.turns; views = l }) (sym (Rattle.atomic_table.proofs.Lists.set_again b.views n w at)) h

pub keeps_lost : KeepsLost Agrees (λ n i m w. w)
keeps_lost b n i m w h e ne at = view_again b n w h at

pub keeps_learned : KeepsLearned Agrees (λ w u. w)
keeps_learned b n m w u h ne at at' = view_again b n w h at
