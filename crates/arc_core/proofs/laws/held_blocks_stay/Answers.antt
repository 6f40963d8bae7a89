use Rattle.arc_core.proofs.Counting.{held-cached, held-kept}
use Rattle.arc_core.proofs.laws.held_blocks_stay.Goals as goal

pub returns-clause-cached : goal.returns-clause-cached
returns-clause-cached c = held-cached

pub returns-clause-kept : goal.returns-clause-kept
returns-clause-kept c = held-kept
