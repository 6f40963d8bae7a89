-- That a ring has one plan for a number of bytes, and that live entries with one range stay or fall together.
use Rattle.std.specs.Prelude.{◌≡◌, ℕ, ◌+◌, ◌<◌, ◌≤◌, true}
use Rattle.std.proofs.Common.{inl, inr, sym, ap, ◌∙◌, not, arith}
use Rattle.std.proofs.lemmas.Bool.{cases_lt}
use Rattle.l2_ring.specs.declared.live.Written.{Written}
use Rattle.l2_ring.specs.declared.plan.Plan.{Plan}
use Rattle.l2_ring.specs.Ring.{RingState, IsPlanFor}
use Rattle.l2_ring.specs.Ranges.{Stays, range_of}
use Rattle.l2_ring.specs.Stays.{falls, stays, stays_at}
use Rattle.l2_ring.proofs.PlanLaws.{stays_tells}
use Rattle.l2_ring.specs.RangeLaws.{FallTogether, HaveOneRange, PlansAreOne}

pub plans_are_one : PlansAreOne
plans_are_one ring n p q for other = elim (cases_lt ring.end (ring.hand + n)) [
  | inl past ↦ for.wrapped past ∙ sym (other.wrapped past)
  | inr inside ↦ for.straight inside ∙ sym (other.straight inside)
]

one_lap : (numbers : Plan) (a b : Written) → numbers.hand ≤ numbers.evict → HaveOneRange a b → Stays numbers (range_of a) → Stays numbers (range_of b) → a.lap ≡ b.lap
one_lap numbers a b order one (inl low) (inl other) = low.1 ∙ sym other.1
one_lap numbers a b order one (inr up) (inr other) = let k = up.1 in let l = other.1 in omega arith
one_lap numbers a b order one (inl low) (inr other) =
    let some = one.some in let place = one.place in let ends = low.0.ends in let begins = other.0.begins in absurd (omega arith)
one_lap numbers a b order one (inr up) (inl other) =
    let some = one.some in let place = one.place in let size = one.size in let begins = up.0.begins in let ends = other.0.ends in absurd (omega arith)

pub fall_together : FallTogether
fall_together numbers plan a b order here there one =
    let lap : a.lap ≡ b.lap = one_lap numbers a b order one (stays_tells numbers (range_of a) here) (stays_tells numbers (range_of b) there) in
    ap (λ (n : ℕ). not (stays_at plan n a.live.place a.live.key.size)) lap
    ∙ ap (λ (n : ℕ). not (stays_at plan b.lap n a.live.key.size)) one.place
    ∙ ap (λ (n : ℕ). not (stays_at plan b.lap b.live.place n)) one.size
