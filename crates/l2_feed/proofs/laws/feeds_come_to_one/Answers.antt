use Rattle.l2_feed.proofs.Alike.{come_to_one}
use Rattle.l2_feed.proofs.laws.feeds_come_to_one.Goals as goal

pub returns : goal.returns
returns c = come_to_one
