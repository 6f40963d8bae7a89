use Rattle.arc_core.proofs.Counting.{counting}
use Rattle.arc_core.proofs.laws.events_count_holds.Goals as goal

pub returns : goal.returns
returns c = counting
