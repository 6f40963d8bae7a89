use Rattle.l2_feed.proofs.Ends.{takes_few_laps}
use Rattle.l2_feed.proofs.laws.feeds_take_few_laps.Goals as goal

pub returns : goal.returns
returns c = takes_few_laps
