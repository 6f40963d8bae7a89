use Rattle.std.proofs.Common.{◌≡◌, ◌+◌, ◌<◌, ◌^◌, ◌++◌, length}
use Rattle.trace_text.specs.EventText.{event_lines}
use Rattle.trace_text.proofs.print_events.write_events.Given as goal

-- what was written and the lines to come are the old text and all lines
abbrev pub invariant-loop-number : goal.invariant-loop-number
invariant-loop-number l = record {
  can_next : (goal.iterator-loop-number).can_next l.number-iterator;
  is_finite : (goal.iterator-loop-number).is_finite l.number-iterator;
  few : l.number-iterator.count + length l.number-iterator.iter < 2 ^ 32;
  text : l.text.items ++ event_lines l.shard l.number-iterator.count l.number-iterator.iter ≡ l.fn.text.items ++ event_lines l.shard 0 l.fn.events;
}
