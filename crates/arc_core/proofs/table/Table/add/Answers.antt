use Rattle.std.proofs.Common.{◌≡◌, ◌<◌, length, None, is_some, sym, ap, subst, arith}
use Rattle.arc_lists.proofs.Tables.{length-with_item}
use Rattle.arc_core.specs.PlainShard.{entry_key, entry_of}
use Rattle.arc_core.specs.Changes.{come}
use Rattle.arc_core.specs.TableModel.{shard_in}
use Rattle.arc_core.proofs.Evictions.{block-size}
use Rattle.arc_core.proofs.Tables.{IsTidy-same}
use Rattle.arc_core.proofs.Tidy.{IsTidy-come}
use Rattle.arc_core.proofs.table.Table.add.Goals as goal

pub add-requires-clause-absent : goal.add-requires-clause-absent
add-requires-clause-absent c =
    let absent : entry_of c.args.entry.now.key (shard_in c.self.inside) ≡ None = subst (λ t. entry_of c.args.entry.now.key t.shard ≡ None) (sym c.self.view_is) c.requires.absent in
    ap is_some absent

pub add-requires-clause-size : goal.add-requires-clause-size
add-requires-clause-size c = block-size c.args.entry.now.key c.requires.sound.key

pub invariant_of-self : goal.invariant_of-self
invariant_of-self c =
    let kept = c.self.invariant in
    let absent : entry_of c.args.entry.now.key (shard_in c.self.inside) ≡ None = subst (λ t. entry_of c.args.entry.now.key t.shard ≡ None) (sym c.self.view_is) c.requires.absent in
    let some : 0 < c.self.inside.entries.spare = subst (λ t. 0 < t.spare) (sym c.self.view_is) c.requires.room in
    let more = length-with_item entry_key c.args.entry.now c.self.inside.entries.items in
    let items = ap (λ es. es.items) c.add.ensures in
    let spare = ap (λ es. es.spare) c.add.ensures in
    record {
      tidy = IsTidy-same (come c.args.entry.now (shard_in c.self.inside)) _ items (ap (λ es. es.sequences) c.add.ensures)
          (IsTidy-come c.args.entry.now (shard_in c.self.inside) (ap is_some absent) c.requires.off c.requires.sound kept.tidy);
      few = omega (arith, kept.few, ap length items, spare, more, some);
      marked_room = omega (arith, kept.marked_room, ap length items, spare, more, some);
      passed_room = kept.passed_room;
      picked_room = kept.picked_room;
      bytes = kept.bytes;
    }
