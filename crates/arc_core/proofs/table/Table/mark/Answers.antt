use Rattle.std.proofs.Common.{length, ap, refl, ◌≡◌, IsSome, IsTrue, arith, false, map, sym, subst, ◌∙◌}
use Rattle.std.proofs.lemmas.List.{length-map}
use Rattle.blk_ptr.specs.declared.key.Key.{Key}
use Rattle.arc_lists.specs.ByKey.{has_key}
use Rattle.arc_lists.specs.Members.{member_key}
use Rattle.arc_lists.specs.Queues.{IsSequenceOf}
use Rattle.arc_lists.specs.Sequences.{stands_on}
use Rattle.arc_core.specs.PlainShard.{entry_of, member_of, members}
use Rattle.arc_core.specs.TableModel.{shard_in}
use Rattle.arc_lists.proofs.Tables.{length-with_item}
use Rattle.arc_core.proofs.Marking.{fewer-marked}
use Rattle.arc_core.proofs.Tables.{IsTidy-same, has_key-members, members-rising}
use Rattle.arc_core.proofs.table.Table.mark.Goals as goal

pub add-requires-clause-room : goal.add-requires-clause-room
add-requires-clause-room c =
    let t = c.self.inside in
    let kept = c.self.invariant in
    let k = c.args.key in
    let there : IsSome (entry_of k (shard_in t)) = subst (λ p. IsSome (entry_of k p.shard)) (sym c.self.view_is) c.requires.there in
    let marked : IsSequenceOf (members (shard_in t)) t.marked.items = subst (λ p. IsSequenceOf (members p.shard) p.marked) (sym c.self.view_is) c.requires.marked in
    let unmarked : stands_on k t.marked.items ≡ false = subst (λ p. stands_on k p.marked ≡ false) (sym c.self.view_is) c.requires.unmarked in
    let has : IsTrue (has_key member_key k (map member_of t.entries.items)) = has_key-members k t.entries.items ∙ there in
    let fewer = fewer-marked (members (shard_in t)) t.marked.items k (members-rising t.entries.items kept.tidy.once) has unmarked marked in
    omega (arith, fewer, kept.marked_room, length-map t.entries.items member_of)

pub invariant_of-self : goal.invariant_of-self
invariant_of-self c =
    let kept = c.self.invariant in
    let unmarked : stands_on c.args.key c.self.inside.marked.items ≡ false = subst (λ p. stands_on c.args.key p.marked ≡ false) (sym c.self.view_is) c.requires.unmarked in
    record {
      tidy = IsTidy-same (shard_in c.self.inside) _ refl refl kept.tidy;
      few = kept.few;
      marked_room = omega (arith, kept.marked_room, ap length c.add.ensures.items, length-with_item (λ (k : Key). k) c.args.key c.self.inside.marked.items, c.add.ensures.spare);
      passed_room = kept.passed_room;
      picked_room = kept.picked_room;
      bytes = kept.bytes;
    }
