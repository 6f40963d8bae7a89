use Rattle.std.proofs.Common.{◌≡◌, ◌++◌, drop, string_bytes}
use Rattle.trace_text.specs.EndText.{end_lines}
use Rattle.trace_run.proofs.check.write_ends.Given as goal

-- what was written and the lines to come are the old text and all lines
abbrev pub invariant-loop-shard : goal.invariant-loop-shard
invariant-loop-shard l =
    string_bytes l.text ++ end_lines l.shard-counter (drop l.shard-counter l.ends) ≡ string_bytes l.fn.text ++ end_lines 0 l.ends
