-- The steps of the count keep its rule.
use Rattle.std.proofs.Common.{if◌then◌else◌, ◌≡◌, ◌≢◌, ◌==◌, ℕ, zero, suc, ◌+◌, ◌≤◌, List, [], ◌∷◌, ◌++◌, length, set, true, false, refl, sym, ap, ◌∙◌, subst, ⊎_elim, eq-eqb, ne_eqb, arith, length-append}
use Rattle.std.proofs.lemmas.List.Sums.{sum_by-cons}
use mathlib.Core.Option.{some, some-injective, some-ne-none}
use mathlib.Core.Logic.{dite}
use native.Mathlib.Decide.{ℕ_discrete}
use lib.ListN.{get_elem?}
use Rattle.atomic_table.proofs.Lists.{at_set, set_here, set_else, set_again}
use Rattle.turn_table.specs.Board.{Turn, free, taken, KeepsWon, KeepsLost, KeepsLearned}
use Rattle.turn_table.proofs.Rows.{within, same_at}
use Rattle.turn_examples.specs.declared.refusals.Clerk.{Clerk}
use Rattle.turn_examples.specs.Refusals.{won, lost, told_by, NowIs, Counted}

-- what all have told, once one of them knows something else
pub told_set : (views : List Clerk) (n : ℕ) (w u : Clerk) → get_elem? views n ≡ some w → told_by (set views n u) + w.told ≡ told_by views + u.told
told_set [] n w u at = absurd (some-ne-none w (sym at))
told_set (x ∷ xs) zero w u at = let e : x.told ≡ w.told = ap (λ (z : Clerk). z.told) (some-injective x w at) in let f : told_by (x ∷ xs) ≡ x.told + told_by xs = sum_by-cons (λ (z : Clerk). z.told) x xs in let g : told_by (u ∷ xs) ≡ u.told + told_by xs = sum_by-cons (λ (z : Clerk). z.told) u xs in omega arith
told_set (x ∷ xs) (suc n) w u at = let r = told_set xs n w u at in let f : told_by (x ∷ xs) ≡ x.told + told_by xs = sum_by-cons (λ (z : Clerk). z.told) x xs in let g : told_by (x ∷ set xs n u) ≡ x.told + told_by (set xs n u) = sum_by-cons (λ (z : Clerk). z.told) x (set xs n u) in omega arith

pub told_same : (views : List Clerk) (n : ℕ) (w u : Clerk) → get_elem? views n ≡ some w → u.told ≡ w.told → told_by (set views n u) ≡ told_by views
told_same views n w u at e = let r = told_set views n w u at in omega arith

-- the count stays what it is now, where the party n still knows it
pub now_stays : (views : List Clerk) (n x : ℕ) (w u : Clerk) (t : Turn ℕ) → get_elem? views n ≡ some w → u.count ≡ w.count → NowIs views t x → NowIs (set views n u) t x
now_stays views n x w u (free v) at same e = e
now_stays views n x w u (taken m) at same e = dite (ℕ_discrete m n)
    (λ q. let one : e.0 ≡ w = same_at views n e.0 w (subst (λ (z : ℕ). get_elem? views z ≡ some e.0) q e.1) at in
    (u, subst (λ (z : ℕ). get_elem? (set views n u) z ≡ some u) (sym q) (set_here views n u (within views n w at)), same ∙ (ap (λ (z : Clerk). z.count) (sym one) ∙ e.2)))
    (λ q. (e.0, set_else views n m u q ∙ e.1, e.2))

pub noted_set : (views : List Clerk) (n : ℕ) (u : Clerk) → u.told ≤ length u.notes → ((m : ℕ) (z : Clerk) → get_elem? views m ≡ some z → z.told ≤ length z.notes)
    → (m : ℕ) (z : Clerk) → get_elem? (set views n u) m ≡ some z → z.told ≤ length z.notes
noted_set views n u own all m z e = ⊎_elim (λ p. subst (λ (y : Clerk). y.told ≤ length y.notes) p.1 own) (λ p. all m z p.1) (at_set views n m u z e)

pub keeps_won : KeepsWon Counted won
keeps_won b n i v w k e at =
    let u : Clerk = won n i v w in
    let views' : List Clerk = set b.views n u in
    let same : told_by views' ≡ told_by b.views = told_same b.views n w u at refl in record {
      now = λ t f. subst (NowIs views' t) (sym same) (⊎_elim
          (λ p. subst (λ (s : Turn ℕ). NowIs views' s (told_by b.views)) p.1
          (u, set_here b.views n u (within b.views n w at), subst (λ c. (if c then v else w.count) ≡ told_by b.views) (sym (eq-eqb i 0 (sym p.0))) (k.now (free v) (subst (λ (z : ℕ). get_elem? b.turns z ≡ some (free v)) (sym p.0) e))))
          (λ p. now_stays b.views n (told_by b.views) w u t at (subst (λ c. (if c then v else w.count) ≡ w.count) (sym (ne_eqb i 0 (λ q. p.0 (sym q)))) refl) (k.now t p.1))
          (at_set b.turns i 0 (taken n) t f));
      noted = noted_set b.views n u (k.noted n w at) k.noted;
    }

pub keeps_lost : KeepsLost Counted lost
keeps_lost b n i m w k e ne at =
    let u : Clerk = lost n i m w in
    let views' : List Clerk = set b.views n u in
    let more : length w.notes ≤ length u.notes = elim (i == 1) as (λ c. length w.notes ≤ length (if c then w.notes ++ m ∷ [] else w.notes)) [ true ↦ (let a = length-append w.notes (m ∷ []) in omega arith) | false ↦ omega arith ] in
    let own : w.told ≤ length w.notes = k.noted n w at in
    let same : told_by views' ≡ told_by b.views = told_same b.views n w u at refl in record {
      now = λ t f. subst (NowIs views' t) (sym same) (now_stays b.views n (told_by b.views) w u t at refl (k.now t f));
      noted = noted_set b.views n u (omega arith) k.noted;
    }

pub keeps_learned : KeepsLearned Counted (λ w u. w)
keeps_learned b n m w u k ne at at' = subst (λ (l : List Clerk). Counted record { turns = b.turns; views = l }) (sym (set_again b.views n w at)) k
