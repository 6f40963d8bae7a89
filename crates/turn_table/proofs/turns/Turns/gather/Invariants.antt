use Rattle.std.proofs.Common.{vec_len}
use Rattle.turn_table.proofs.Ending.{Takes}
use Rattle.turn_table.proofs.turns.Turns.gather.Given as goal

abbrev pub invariant-loop-other : goal.invariant-loop-other
invariant-loop-other g l = Takes l.fn.self l.party l.fn.party l.others.items l.fn.others.items

abbrev pub decreases-loop-other : goal.decreases-loop-other
decreases-loop-other g l = vec_len l.others
