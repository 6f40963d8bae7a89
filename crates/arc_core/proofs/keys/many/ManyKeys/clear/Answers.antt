use Rattle.std.proofs.Common.{arith}
use Rattle.arc_core.proofs.KeyRows.{length-named}
use Rattle.arc_core.proofs.keys.many.ManyKeys.clear.Goals as goal

pub returns-clause-spare : goal.returns-clause-spare
returns-clause-spare c = rw (← c.self.view_is) (omega (arith, c.take_all.ensures.spare, length-named c.self.inside.rows.rows))
