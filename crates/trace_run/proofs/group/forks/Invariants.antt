use Rattle.std.proofs.Common.{◌≡◌, length}
use Rattle.std.specs.List.{AllByRecursion}
use Rattle.vdev_io.specs.Faults.{counted_more}
use Rattle.trace_run.specs.callers.Group.{IsFork, LeavesPool}
use Rattle.trace_run.proofs.group.forks.Given as goal

abbrev pub invariant-loop : goal.invariant-loop
invariant-loop g l =
    let pools = g.P.Pool in
    record {
      keeps : LeavesPool pools l.fn.pool l.pool;
      others : pools.other_calls l.pool ≡ counted_more l.counter (pools.other_calls l.fn.pool);
      reads : pools.reads l.pool ≡ pools.reads l.fn.pool;
      unfailed : pools.faults l.pool ≡ pools.faults l.fn.pool;
      fresh : AllByRecursion (IsFork pools l.fn.pool) l.forks.items;
      count : length l.forks.items ≡ l.counter;
    }
