use Rattle.arc_core.proofs.Stepping.{replay-append}
use Rattle.arc_core.proofs.laws.replay_goes_on.Goals as goal

pub returns : goal.returns
returns c = replay-append
