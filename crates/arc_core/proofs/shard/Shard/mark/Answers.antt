use Rattle.std.proofs.Common.{◌≡◌, ◌||◌, IsSome, IsTrue, false, sym, ap, subst, ◌∙◌}
use Rattle.blk_ptr.specs.Order.{key_eq}
use Rattle.arc_lists.specs.ByKey.{has_key}
use Rattle.arc_lists.specs.Members.{member_key}
use Rattle.arc_lists.specs.Queues.{IsSequenceOf}
use Rattle.arc_lists.specs.Sequences.{stands_on}
use Rattle.arc_core.specs.PlainShard.{entry_of, members}
use Rattle.arc_core.specs.PlainTable.{PlainTable}
use Rattle.arc_core.specs.ShardLog.{ShardLog}
use Rattle.arc_core.proofs.CursorEnds.{or_there, sought-more}
use Rattle.arc_core.proofs.Marking.{IsSequenceOf-with_key, stands_on-with_key}
use Rattle.arc_core.proofs.Tables.{has_key-members}
use Rattle.arc_core.proofs.shard.Shard.mark.Goals as goal

pub invariant_of-self : goal.invariant_of-self
invariant_of-self c =
    let s = c.self.inside in
    let kept = c.self.invariant in
    let k = c.args.key in
    let there : IsSome (entry_of k s.table.shard) = subst (λ l. IsSome (entry_of k l.now)) (sym c.self.view_is) c.requires in
    let has : IsTrue (has_key member_key k (members s.table.shard)) = has_key-members k s.table.shard.entries ∙ there in
    let off : stands_on k s.table.marked ≡ false = sym c.is_marked.ensures ∙ c.if-not-is_marked.true in
    let more = IsSequenceOf-with_key (members s.table.shard) s.table.marked k has off kept.marked in
    record {
      replayed = rw c.mark.ensures (record { sound = kept.replayed.sound; replayed = kept.replayed.replayed; legal = kept.replayed.legal });
      room = rw c.mark.ensures kept.room;
      few = rw c.mark.ensures kept.few;
      halts = rw c.mark.ensures (record { sought = sought-more s.table.shard s.table.marked _ s.halts.sought.event s.halts.sought.search (λ j there. stands_on-with_key j s.table.marked k ∙ or_there (key_eq k j) _ there) kept.halts.sought; walk = kept.halts.walk });
      marked = subst (λ (t : PlainTable). IsSequenceOf (members t.shard) t.marked) (sym c.mark.ensures) more;
    }

pub returns-then-not-is_marked-clause-marked : goal.returns-then-not-is_marked-clause-marked
returns-then-not-is_marked-clause-marked c = λ j.
    ap (λ (t : PlainTable). stands_on j t.marked) c.mark.ensures ∙ stands_on-with_key j c.self.inside.table.marked c.args.key
    ∙ ap (λ (l : ShardLog). key_eq c.args.key j || stands_on j l.marked) c.self.view_is
