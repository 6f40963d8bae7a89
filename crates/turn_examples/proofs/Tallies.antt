-- What a count is that nobody has any more.
use Rattle.std.proofs.Common.{◌≡◌, ℕ, ◌+◌, ◌<◌, ◌≤◌, List, [], ◌∷◌, length, get_or, zero, suc, refl, sym, ap, ◌∙◌, subst, arith}
use Rattle.std.proofs.lemmas.List.Sums.{sum_by-cons}
use mathlib.Core.Option.{some, some-injective, some-ne-none}
use lib.ListN.{get_elem?}
use Rattle.turn_table.specs.Board.{Turn, free, opening}
use Rattle.turn_examples.specs.declared.refusals.Clerk.{Clerk}
use Rattle.turn_examples.specs.Refusals.{clerk, told_by, NowIs, Counted}

two_told : (views : List Clerk) (w u : Clerk) → length views ≡ 2 → get_elem? views 0 ≡ some w → get_elem? views 1 ≡ some u → told_by views ≡ w.told + u.told
two_told [] w u long first second = absurd (omega arith)
two_told (x ∷ []) w u long first second = absurd (omega arith)
two_told (x ∷ y ∷ []) w u long first second =
    let a : told_by (x ∷ y ∷ []) ≡ x.told + told_by (y ∷ []) = sum_by-cons (λ (z : Clerk). z.told) x (y ∷ []) in
    let b : told_by (y ∷ []) ≡ y.told + told_by [] = sum_by-cons (λ (z : Clerk). z.told) y [] in
    let c : told_by [] ≡ 0 = refl in
    let d : x.told ≡ w.told = ap (λ (z : Clerk). z.told) (some-injective x w first) in
    let e : y.told ≡ u.told = ap (λ (z : Clerk). z.told) (some-injective y u second) in
    omega arith
two_told (x ∷ y ∷ z ∷ zs) w u long first second = absurd (omega arith)

pub settled : (vs : List ℕ) (d : ℕ) (views : List Clerk) (w u : Clerk) → Counted (opening vs views) → 0 < length vs → length views ≡ 2 → get_elem? views 0 ≡ some w → get_elem? views 1 ≡ some u
    → (get_or vs 0 d ≡ w.told + u.told) × (get_or vs 0 d ≤ length w.notes + length u.notes)
settled [] d views w u k there long first second = absurd (omega arith)
settled (v ∷ vs) d views w u k there long first second =
    let is : v ≡ told_by views = k.now (free v) refl in
    let sum : told_by views ≡ w.told + u.told = two_told views w u long first second in
    let a : w.told ≤ length w.notes = k.noted 0 w first in
    let b : u.told ≤ length u.notes = k.noted 1 u second in
    (is ∙ sum, (let o : v ≤ length w.notes + length u.notes = omega arith in o))

-- a count of nothing, which two parties begin
pub counted_at_first : (x : ℕ) → Counted (opening (0 ∷ x ∷ []) (clerk [] 0 0 ∷ clerk [] 0 0 ∷ []))
counted_at_first x = record { now = λ t e. subst (λ (s : Turn ℕ). NowIs (clerk [] 0 0 ∷ clerk [] 0 0 ∷ []) s 0) (some-injective (free 0) t e) refl; noted = noted_none }
  where
    noted_none : (n : ℕ) (w : Clerk) → get_elem? (clerk [] 0 0 ∷ clerk [] 0 0 ∷ []) n ≡ some w → w.told ≤ length w.notes
    noted_none zero w e = subst (λ (z : Clerk). z.told ≤ length z.notes) (some-injective (clerk [] 0 0) w e) (omega arith)
    noted_none (suc zero) w e = subst (λ (z : Clerk). z.told ≤ length z.notes) (some-injective (clerk [] 0 0) w e) (omega arith)
    noted_none (suc (suc n)) w e = absurd (some-ne-none w (sym e))
