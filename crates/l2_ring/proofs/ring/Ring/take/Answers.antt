use Rattle.std.proofs.Common.{arith}
use Rattle.std.proofs.lemmas.Grind.{common_steps}
use Rattle.l2_ring.specs.Ring.{IsRing}
use Rattle.l2_ring.proofs.Kept.{kept_are_live}
use Rattle.l2_ring.proofs.ring.Ring.take.Goals as goal

pub invariant_of-self : goal.invariant_of-self
invariant_of-self c =
    let numbers : IsRing c.self.inside.end c.args.plan.hand c.args.plan.evict c.args.plan.top c.args.plan.lap = grind (arith, common_steps) in
    (numbers, rw c.take.ensures.kept (kept_are_live c.args.plan c.self.inside.live.live))

pub returns-clause-sound : goal.returns-clause-sound
returns-clause-sound c = invariant_of-self c
