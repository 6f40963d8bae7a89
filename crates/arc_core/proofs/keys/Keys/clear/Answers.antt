use Rattle.std.proofs.Common.{length, ap, arith}
use Rattle.arc_core.proofs.keys.Keys.clear.Goals as goal

pub returns-then-is_empty-clause-items : goal.returns-then-is_empty-clause-items
returns-then-is_empty-clause-items c = c.is_empty.ensures c.if-is_empty.true

pub returns-then-is_empty-clause-spare : goal.returns-then-is_empty-clause-spare
returns-then-is_empty-clause-spare c = omega (arith, ap length (c.is_empty.ensures c.if-is_empty.true))
