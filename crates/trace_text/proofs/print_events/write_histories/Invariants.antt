use Rattle.std.proofs.Common.{◌≡◌, ◌++◌, drop}
use Rattle.trace_text.specs.EventText.{history_lines}
use Rattle.trace_text.proofs.print_events.write_histories.Given as goal

-- what was written and the lines to come are the old text and all lines
abbrev pub invariant-loop-shard : goal.invariant-loop-shard
invariant-loop-shard l =
    l.text.items ++ history_lines l.shard (drop l.shard l.histories) ≡ l.fn.text.items ++ history_lines 0 l.histories
