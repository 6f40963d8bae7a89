use Rattle.std.proofs.Common.{◌≡◌, IsTrue, length, Some}
use Rattle.blk_ptr.specs.declared.key.Key.{Key}
use Rattle.arc_lists.specs.Sequences.{stands_on}
use Rattle.arc_lists.specs.Walks.{oldest_first}
use Rattle.arc_core.specs.Scan.{first_going, from_next}
use Rattle.arc_core.proofs.table.Table.going_from.Given as goal

-- the rest of the walk decides
abbrev pub invariant-loop-next : goal.invariant-loop-next
invariant-loop-next l = record {
  rest : first_going l.fn.about l.next l.fn.state l.self.shard ≡ first_going l.fn.about l.fn.from l.fn.state l.self.shard;
  stands : (k : Key) → l.next ≡ Some k → IsTrue (stands_on k (oldest_first l.fn.state l.self.shard.sequences));
}

abbrev pub decreases-loop-next : goal.decreases-loop-next
decreases-loop-next l = length (from_next l.next (oldest_first l.fn.state l.self.shard.sequences))
