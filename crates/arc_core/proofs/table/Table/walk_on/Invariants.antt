use Rattle.std.proofs.Common.{◌≡◌, ◌≤◌, Bool, IsTrue, length, Some}
use Rattle.blk_ptr.specs.declared.key.Key.{Key}
use Rattle.arc_lists.specs.Sequences.{stands_on}
use Rattle.arc_lists.specs.Walks.{oldest_first}
use Rattle.arc_core.specs.Candidate.{walk}
use Rattle.arc_core.specs.FeedWalk.{Wants}
use Rattle.arc_core.specs.Scan.{from_next}
use Rattle.arc_core.proofs.table.Table.walk_on.Given as goal

-- the rest of the walk decides
abbrev pub invariant-loop-next : goal.invariant-loop-next
invariant-loop-next l = record {
  rest : (wanted : Key → Bool) → Wants l.self.shard wanted
      → walk l.limit l.fn.before wanted (from_next l.fn.from (oldest_first l.fn.state l.self.shard.sequences)) ≡ walk l.limit l.met wanted (from_next l.next (oldest_first l.fn.state l.self.shard.sequences));
  stands : (k : Key) → l.next ≡ Some k → IsTrue (stands_on k (oldest_first l.fn.state l.self.shard.sequences));
  within : l.met ≤ l.limit;
}

abbrev pub decreases-loop-next : goal.decreases-loop-next
decreases-loop-next l = length (from_next l.next (oldest_first l.fn.state l.self.shard.sequences))
