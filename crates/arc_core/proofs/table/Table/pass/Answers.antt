use Rattle.std.proofs.Common.{◌≡◌, ◌<◌, false, refl, sym, subst, arith}
use Rattle.arc_core.specs.PlainShard.{is_passed}
use Rattle.arc_core.specs.TableModel.{shard_in}
use Rattle.arc_core.proofs.Tables.{IsTidy-same}
use Rattle.arc_core.proofs.table.Table.pass.Goals as goal

pub invariant_of-self : goal.invariant_of-self
invariant_of-self c =
    let kept = c.self.invariant in
    let room : 0 < c.self.inside.marks = subst (λ t. 0 < t.marks) (sym c.self.view_is) c.requires.room in
    let unpassed : is_passed (shard_in c.self.inside) c.args.key ≡ false = subst (λ t. is_passed t.shard c.args.key ≡ false) (sym c.self.view_is) c.requires.unpassed in
    record {
      tidy = IsTidy-same (shard_in c.self.inside) _ refl refl kept.tidy;
      few = kept.few;
      marked_room = kept.marked_room;
      passed_room = omega (arith, kept.passed_room, c.add.ensures.spare, room);
      picked_room = omega (arith, kept.picked_room);
      bytes = kept.bytes;
    }
