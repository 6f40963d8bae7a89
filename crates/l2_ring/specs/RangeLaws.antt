-- That a ring has one plan for a number of bytes, and that live entries with one range stay or fall together.
use Rattle.std.specs.Prelude.{◌≡◌, ℕ, ◌+◌, ◌<◌, ◌≤◌, true}
use Rattle.std.proofs.Common.{◌∙◌}
use Rattle.l2_ring.specs.declared.live.Written.{Written}
use Rattle.l2_ring.specs.declared.plan.Plan.{Plan}
use Rattle.l2_ring.specs.Ring.{RingState, IsPlanFor}
use Rattle.l2_ring.specs.Stays.{falls, stays}

-- two plans for so many bytes are one
abbrev pub PlansAreOne : Type 0
PlansAreOne = (ring : RingState) (n : ℕ) (p q : Plan) → IsPlanFor ring n p → IsPlanFor ring n q → p ≡ q

-- both entries have these bytes of the device, and there are some
pub record HaveOneRange (a b : Written) : Type 0 where
  pub place : a.live.place ≡ b.live.place
  pub size : a.live.key.size ≡ b.live.key.size
  pub some : 0 < a.live.key.size

-- of two entries with one range that lie where their laps ask for, a plan keeps both or drops both
abbrev pub FallTogether : Type 0
FallTogether = (numbers plan : Plan) (a b : Written) → numbers.hand ≤ numbers.evict → stays numbers a ≡ true → stays numbers b ≡ true → HaveOneRange a b → falls plan a ≡ falls plan b
