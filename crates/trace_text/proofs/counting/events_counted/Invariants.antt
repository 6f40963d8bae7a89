use Rattle.std.proofs.Common.{◌≡◌}
use Rattle.trace_text.specs.Counting.{counts_of_shard, with_counts}
use Rattle.trace_text.proofs.counting.events_counted.Given as goal

-- what is counted and the events to come are all events
abbrev pub invariant-loop-event : goal.invariant-loop-event
invariant-loop-event l = with_counts l.counts (counts_of_shard l.event-iterator) ≡ counts_of_shard l.fn.events
