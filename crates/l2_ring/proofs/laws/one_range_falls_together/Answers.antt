use Rattle.l2_ring.proofs.RangeLaws.{fall_together}
use Rattle.l2_ring.proofs.laws.one_range_falls_together.Goals as goal

pub returns : goal.returns
returns c = fall_together
