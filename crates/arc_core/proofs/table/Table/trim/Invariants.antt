use Rattle.std.proofs.Common.{◌≡◌, ◌≤◌, ◌-◌, length}
use Rattle.arc_core.specs.Rules.{trimmed, trimming}
use Rattle.arc_core.proofs.table.Table.trim.Given as goal

-- what is left to drop from here gives what is to be
abbrev pub invariant-loop-turn : goal.invariant-loop-turn
invariant-loop-turn l = record {
  rest : trimming (length l.fn.self.shard.entries - l._turn) l.self.shard ≡ trimmed l.fn.self.shard;
  spare : l.fn.self.spare ≤ l.self.spare;
  marks : l.self.marks ≡ l.fn.self.marks;
  marked : l.self.marked ≡ l.fn.self.marked;
}
