use Rattle.std.proofs.Common.{refl, arith}
use Rattle.arc_core.specs.TableModel.{shard_in}
use Rattle.arc_core.proofs.Tables.{IsTidy-same}
use Rattle.arc_core.proofs.table.Table.settle.Goals as goal

pub invariant_of-self : goal.invariant_of-self
invariant_of-self c =
    let kept = c.self.invariant in
    record {
      tidy = IsTidy-same (shard_in c.self.inside) _ refl refl kept.tidy;
      few = kept.few;
      marked_room = kept.marked_room;
      passed_room = kept.passed_room;
      picked_room = omega (arith, kept.picked_room, c.take.ensures.spare);
      bytes = omega (arith, kept.bytes, c.take.ensures.bytes);
    }
