use Rattle.std.proofs.Common.{arith}
use Rattle.arc_core.proofs.FewKeys.{length-beside}
use Rattle.arc_core.proofs.keys.Keys.clear_all.Goals as goal

pub returns-clause-spare : goal.returns-clause-spare
returns-clause-spare c =
    let few = c.self.inside.few in
    rw (← c.self.view_is) (omega (arith, c.clear.ensures.len, c.clear-2.ensures.spare, c.self.invariant.room, few.ok.0, length-beside few.items c.self.inside.more.items))
