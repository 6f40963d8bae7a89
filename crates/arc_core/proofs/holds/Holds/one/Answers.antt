use Rattle.std.proofs.Common.{sym}
use Rattle.arc_core.proofs.Accesses.{sum-one_hold}
use Rattle.arc_core.proofs.holds.Holds.one.Goals as goal

pub invariant_of-result : goal.invariant_of-result
invariant_of-result c = sym (sum-one_hold c.args.n c.requires)
