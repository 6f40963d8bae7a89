use Rattle.std.proofs.Common.{◌≡◌, ◌++◌, drop}
use Rattle.trace_text.specs.ReportText.{reply_lines}
use Rattle.trace_text.proofs.print.write_replies.Given as goal

-- what was written and the lines to come are the old text and all lines
abbrev pub invariant-loop-number : goal.invariant-loop-number
invariant-loop-number l =
    l.text.items ++ reply_lines l.number (drop l.number l.replies) ≡ l.fn.text.items ++ reply_lines 0 l.replies
