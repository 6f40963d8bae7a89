use Rattle.std.proofs.Common.{List}
use Rattle.blk_ptr.specs.declared.key.Key.{Key}
use Rattle.arc_core.specs.Search.{AtTrim}
use Rattle.arc_core.proofs.CursorRuns.{ghosts_left_of}
use Rattle.arc_core.proofs.table.Table.unmarked_drop.Given as goal

-- the search stands further on
abbrev pub invariant-loop-key : goal.invariant-loop-key
invariant-loop-key l = (vs : List Key) → AtTrim l.fn.about l.self.shard l.self.marked vs l.fn.scan → AtTrim l.fn.about l.self.shard l.self.marked vs l.scan

abbrev pub decreases-loop-key : goal.decreases-loop-key
decreases-loop-key l = ghosts_left_of l.fn.about l.self.shard l.scan
