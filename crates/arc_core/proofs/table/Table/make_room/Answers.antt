use Rattle.std.proofs.Common.{◌<◌, ◌+◌, ◌-◌, length, sym, ap, ◌∙◌, arith}
use Rattle.arc_core.specs.Rules.{evicting}
use Rattle.arc_core.proofs.Evictions.{evicting-more, next_evicted-is}
use Rattle.arc_core.proofs.table.Table.make_room.Goals as goal

pub evict-requires-clause-evictable : goal.evict-requires-clause-evictable
evict-requires-clause-evictable c = next_evicted-is c.args.z c.loop-turn.self.shard c.in-Some.key c.in-Some.ensures.tidy (sym c.in-Some.ensures.value)

pub loop-turn-preserved : goal.loop-turn-preserved
loop-turn-preserved c =
    let n = length c.args.self.now.shard.entries in
    let lt : c.loop-turn._turn < n = omega (arith, c.len-turn-end.ensures, c.loop-turn-test.true) in
    let more = evicting-more n c.loop-turn._turn c.args.z c.loop-turn.self.shard c.in-Some.key lt (sym c.in-Some.ensures.value) in
    record {
      rest = ap (λ t. evicting (n - (c.loop-turn._turn + 1)) c.args.z t.shard) c.evict.ensures ∙ sym more ∙ c.loop-turn.invariant.rest;
      spare = ap (λ t. t.spare) c.evict.ensures ∙ c.loop-turn.invariant.spare;
      marks = ap (λ t. t.marks) c.evict.ensures ∙ c.loop-turn.invariant.marks;
      marked = ap (λ t. t.marked) c.evict.ensures ∙ c.loop-turn.invariant.marked;
    }
