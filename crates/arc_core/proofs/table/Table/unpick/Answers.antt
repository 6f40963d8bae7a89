use Rattle.std.proofs.Common.{length, refl, ap, arith}
use Rattle.arc_core.specs.TableModel.{shard_in}
use Rattle.arc_core.proofs.Tables.{IsTidy-same}
use Rattle.arc_core.proofs.table.Table.unpick.Goals as goal

pub invariant_of-self : goal.invariant_of-self
invariant_of-self c =
    let kept = c.self.invariant in
    record {
      tidy = IsTidy-same (shard_in c.self.inside) _ refl refl kept.tidy;
      few = kept.few;
      marked_room = omega (arith, kept.marked_room, ap length c.clear-2.ensures.items, c.clear-2.ensures.spare);
      passed_room = omega (arith, kept.passed_room, c.clear.ensures.spare);
      picked_room = omega (arith, kept.picked_room, c.clear-3.ensures.spare);
      bytes = rw c.clear-3.ensures.items refl;
    }
