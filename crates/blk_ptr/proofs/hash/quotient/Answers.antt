use Rattle.blk_ptr.proofs.Powers.{shifted}
use Rattle.blk_ptr.proofs.hash.quotient.Goals as goal

pub returns-then-is_power_of_two : goal.returns-then-is_power_of_two
returns-then-is_power_of_two c = shifted c.args.hash c.args.n c.ranges.n.fits c.if-is_power_of_two.ensures
