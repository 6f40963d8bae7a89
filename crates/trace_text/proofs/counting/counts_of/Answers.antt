use Rattle.std.proofs.Common.{length, ap, arith}
use Rattle.trace_text.proofs.CountingLemmas.{AreFew-sum}
use Rattle.trace_text.proofs.counting.counts_of.Goals as goal

pub sum_of-counts-requires : goal.sum_of-counts-requires
sum_of-counts-requires c = AreFew-sum c.loop-history.counts c.events_counted-counted.result c.loop-history.history-index _ (omega arith) (omega (arith, ap length c.iter.ensures.events, c.iter.ensures.few)) c.loop-history.invariant.bound c.events_counted-counted.ensures.bound
