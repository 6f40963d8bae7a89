use Rattle.blk_ptr.proofs.Powers.{masked}
use Rattle.blk_ptr.proofs.hash.remainder.Goals as goal

pub returns-then-is_power_of_two : goal.returns-then-is_power_of_two
returns-then-is_power_of_two c = masked c.args.hash c.args.n c.from.result c.ranges.n.fits c.if-is_power_of_two.ensures c.from.ensures
