use Rattle.arc_check.proofs.PrintLemmas.{printed}
use Rattle.arc_check.proofs.laws.events_are_printed_as_spelled.Goals as goal

pub returns : goal.returns
returns c = λ shard index e. printed shard index e
