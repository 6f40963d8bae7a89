use Rattle.l2_feed.proofs.Lists.{rest_all}
use Rattle.l2_feed.proofs.batch.since.Goals as goal

pub returns : goal.returns
returns c = rest_all c.args.had c.args.dropped.now
