use Rattle.std.proofs.Common.{IsSome, length, sym, ap, subst, arith}
use Rattle.arc_lists.proofs.Tables.{is_some_of, length-without}
use Rattle.arc_core.specs.PlainShard.{entry_key, entry_of}
use Rattle.arc_core.specs.Changes.{gone}
use Rattle.arc_core.specs.TableModel.{shard_in}
use Rattle.arc_core.proofs.Tables.{IsTidy-same}
use Rattle.arc_core.proofs.Tidy.{IsTidy-gone}
use Rattle.arc_core.proofs.table.Table.remove.Goals as goal

pub invariant_of-self : goal.invariant_of-self
invariant_of-self c =
    let kept = c.self.invariant in
    let there : IsSome (entry_of c.args.key (shard_in c.self.inside)) = subst (λ t. IsSome (entry_of c.args.key t.shard)) (sym c.self.view_is) c.requires in
    let old = is_some_of (entry_of c.args.key (shard_in c.self.inside)) there in
    let fewer = length-without entry_key c.args.key c.self.inside.entries.items old.0 old.1 in
    let items = ap (λ es. es.items) c.remove.ensures in
    let spare = ap (λ es. es.spare) c.remove.ensures in
    record {
      tidy = IsTidy-same (gone c.args.key (shard_in c.self.inside)) _ items (ap (λ es. es.sequences) c.remove.ensures) (IsTidy-gone c.args.key (shard_in c.self.inside) kept.tidy);
      few = omega (arith, kept.few, ap length items, spare, fewer);
      marked_room = omega (arith, kept.marked_room, ap length items, spare, fewer);
      passed_room = kept.passed_room;
      picked_room = kept.picked_room;
      bytes = kept.bytes;
    }
