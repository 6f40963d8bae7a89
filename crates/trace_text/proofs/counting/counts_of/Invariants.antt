use Rattle.std.proofs.Common.{◌≡◌, ◌*◌, ◌^◌, take}
use Rattle.trace_text.specs.Counting.{AreAtMost, counts_in}
use Rattle.trace_text.proofs.counting.counts_of.Given as goal

abbrev pub invariant-loop-history : goal.invariant-loop-history
invariant-loop-history l = record {
  so_far : l.counts ≡ counts_in (take l.history-index l.histories);
  bound : AreAtMost (l.history-index * 2 ^ 64) l.counts;
}
