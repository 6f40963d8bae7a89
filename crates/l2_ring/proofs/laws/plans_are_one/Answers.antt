use Rattle.l2_ring.proofs.RangeLaws.{plans_are_one}
use Rattle.l2_ring.proofs.laws.plans_are_one.Goals as goal

pub returns : goal.returns
returns c = plans_are_one
