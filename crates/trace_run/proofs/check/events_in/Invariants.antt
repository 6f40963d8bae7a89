use Rattle.std.proofs.Common.{◌≡◌, ◌≤◌, ◌*◌, ◌^◌, length, take}
use Rattle.std.specs.Prelude.{sum_by}
use Rattle.trace_run.proofs.check.events_in.Given as goal

-- those of the shards so far, each of which has fewer than 2 ^ 64
abbrev pub invariant-loop-history : goal.invariant-loop-history
invariant-loop-history l = record {
  so_far : l.events ≡ sum_by length (take l.history-index l.histories);
  bound : l.events ≤ l.history-index * 2 ^ 64;
}
