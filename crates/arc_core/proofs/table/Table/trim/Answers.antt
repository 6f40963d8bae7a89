use Rattle.std.proofs.Common.{◌<◌, ◌+◌, ◌-◌, length, sym, ap, ◌∙◌, arith}
use Rattle.arc_core.specs.Rules.{trimming}
use Rattle.arc_core.proofs.Evictions.{next_dropped-is, trimming-more}
use Rattle.arc_core.proofs.table.Table.trim.Goals as goal

pub drop_ghost-requires-clause-droppable : goal.drop_ghost-requires-clause-droppable
drop_ghost-requires-clause-droppable c = next_dropped-is c.loop-turn.self.shard c.in-Some.key c.in-Some.ensures.tidy (sym c.in-Some.ensures.value)

pub loop-turn-preserved : goal.loop-turn-preserved
loop-turn-preserved c =
    let n = length c.args.self.now.shard.entries in
    let lt : c.loop-turn._turn < n = omega (arith, c.len-turn-end.ensures, c.loop-turn-test.true) in
    let more = trimming-more n c.loop-turn._turn c.loop-turn.self.shard c.in-Some.key lt (sym c.in-Some.ensures.value) in
    record {
      rest = ap (λ s. trimming (n - (c.loop-turn._turn + 1)) s) c.drop_ghost.ensures.shard ∙ sym more ∙ c.loop-turn.invariant.rest;
      spare = omega (arith, c.drop_ghost.ensures.spare, c.loop-turn.invariant.spare);
      marks = c.drop_ghost.ensures.marks ∙ c.loop-turn.invariant.marks;
      marked = c.drop_ghost.ensures.marked ∙ c.loop-turn.invariant.marked;
    }
