-- The steps of the count keep its rule.
use Rattle.std.proofs.Common.{◌≡◌, ◌≢◌, ◌==◌, if◌then◌else◌, ℕ, zero, suc, ◌+◌, ◌≤◌, List, [], ◌∷◌, ◌++◌, length, set, true, false, refl, sym, ap, ◌∙◌, subst, ⊎_elim, eq-eqb, ne_eqb, arith, length-append}
use Rattle.std.proofs.lemmas.List.Sums.{sum_by-cons}
use mathlib.Core.Option.{some, some-injective, some-ne-none}
use mathlib.Core.Logic.{dite}
use native.Mathlib.Decide.{ℕ_discrete}
use lib.ListN.{get_elem?}
use Rattle.atomic_table.proofs.Lists.{at_set, set_here, set_else, set_again}
use Rattle.turn_table.specs.Board.{Turn, free, taken, KeepsWon, KeepsLost, KeepsLearned}
use Rattle.turn_table.specs.Places.{Place}
use Rattle.turn_table.specs.Moments.{MayGive}
use Rattle.turn_table.proofs.Rows.{within, same_at}
use Rattle.turn_examples.specs.declared.refusals.Clerk.{Clerk}
use Rattle.turn_examples.specs.Refusals.{won, lost, told_by, NowIs, Counted}
use Rattle.turn_examples.specs.RefusalLaws.{noted_set, now_stays, told_same, told_set}

-- who has the count gives it back, with what it has told since
pub gives_count : (p : Place Clerk) (v : ℕ) (u : Clerk) → v + p.own.told ≡ p.own.count + u.told → u.told ≤ length u.notes → MayGive Counted p 0 v u
gives_count p v u grown own b k s e =
    let n : ℕ = p.number in
    let w : Clerk = p.own in
    let at : get_elem? b.views n ≡ some w = s.shows.0 in
    let mine : NowIs b.views (taken n) (told_by b.views) = k.now (taken n) e in
    let one : mine.0 ≡ w = same_at b.views n mine.0 w mine.1 at in
    let is : w.count ≡ told_by b.views = ap (λ (z : Clerk). z.count) (sym one) ∙ mine.2 in
    let sum = told_set b.views n w u at in record {
      now = λ t f. ⊎_elim
          (λ q. subst (λ (s : Turn ℕ). NowIs (set b.views n u) s (told_by (set b.views n u))) q.1 (let o : v ≡ told_by (set b.views n u) = omega arith in o))
          (λ q. absurd (q.0 refl))
          (at_set b.turns 0 0 (free v) t f);
      noted = noted_set b.views n u own k.noted;
    }

-- who has another turn gives it back, and has told nothing
pub gives_other : (p : Place Clerk) (i v : ℕ) (u : Clerk) → i ≢ 0 → u.told ≡ p.own.told → u.count ≡ p.own.count → length p.own.notes ≤ length u.notes → MayGive Counted p i v u
gives_other p i v u far told count more b k s e =
    let n : ℕ = p.number in
    let w : Clerk = p.own in
    let at : get_elem? b.views n ≡ some w = s.shows.0 in
    let own : w.told ≤ length w.notes = k.noted n w at in
    let same : told_by (set b.views n u) ≡ told_by b.views = told_same b.views n w u at told in record {
      now = λ t f. subst (NowIs (set b.views n u) t) (sym same) (⊎_elim
          (λ q. absurd (far (sym q.0)))
          (λ q. now_stays b.views n (told_by b.views) w u t at count (k.now t q.1))
          (at_set b.turns i 0 (free v) t f));
      noted = noted_set b.views n u (omega arith) k.noted;
    }
