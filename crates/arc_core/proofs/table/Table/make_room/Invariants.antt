use Rattle.std.proofs.Common.{◌≡◌, ◌-◌, length}
use Rattle.arc_core.specs.Rules.{evicting, with_room}
use Rattle.arc_core.proofs.table.Table.make_room.Given as goal

-- what is left to evict from here gives what is to be
abbrev pub invariant-loop-turn : goal.invariant-loop-turn
invariant-loop-turn l = record {
  rest : evicting (length l.fn.self.shard.entries - l._turn) l.z l.self.shard ≡ with_room l.z l.fn.self.shard;
  spare : l.self.spare ≡ l.fn.self.spare;
  marks : l.self.marks ≡ l.fn.self.marks;
  marked : l.self.marked ≡ l.fn.self.marked;
}
