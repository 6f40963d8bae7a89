use Rattle.std.proofs.Common.{List}
use Rattle.blk_ptr.specs.declared.key.Key.{Key}
use Rattle.blk_ptr.specs.declared.state.State.{State}
use Rattle.arc_core.specs.Search.{AtRoom}
use Rattle.arc_core.proofs.CursorRuns.{left_of}
use Rattle.arc_core.proofs.table.Table.unmarked_eviction.Given as goal

-- the search stands further on
abbrev pub invariant-loop-key : goal.invariant-loop-key
invariant-loop-key l = (comes : State) (vs : List Key) → AtRoom l.fn.about l.self.shard l.self.marked l.fn.z comes vs l.fn.scan → AtRoom l.fn.about l.self.shard l.self.marked l.fn.z comes vs l.scan

abbrev pub decreases-loop-key : goal.decreases-loop-key
decreases-loop-key l = left_of l.fn.about l.self.shard l.scan
