use Rattle.std.proofs.Common.{◌*◌}
use Rattle.l2_feed.specs.Runs.{most}
use Rattle.l2_feed.proofs.Lists.{rest_all}
use Rattle.l2_feed.proofs.batch.left_after.Goals as goal

pub returns : goal.returns
returns c = rest_all (c.args.runs * most) c.args.blocks.now
