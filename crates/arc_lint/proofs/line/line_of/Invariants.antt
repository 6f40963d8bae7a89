use Rattle.std.proofs.Common.{◌≡◌, ◌-◌, ◌≤◌, [], drop, get_or, length}
use Rattle.arc_lint.specs.Shown.{line_in}
use Rattle.trace_text.specs.Grammar.{lines_of}
use Rattle.arc_lint.proofs.line.line_of.Given as goal

-- the line stands among those of the rest, so many lines further on as are still to be passed
abbrev pub invariant-loop : goal.invariant-loop
invariant-loop l = record {
  within : l.at ≤ length l.text;
  line : get_or (lines_of (drop l.at l.text)) (l.number - l.counter) [] ≡ line_in l.text l.number;
}
