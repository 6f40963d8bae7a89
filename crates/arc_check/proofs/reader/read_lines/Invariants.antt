use Rattle.std.proofs.Common.{length}
use Rattle.arc_check.proofs.LinesLemmas.{Progress}
use Rattle.arc_check.proofs.reader.read_lines.Given as goal

abbrev pub invariant-loop-line : goal.invariant-loop-line
invariant-loop-line l = Progress l.text l.lines l.number l.draft

abbrev pub decreases-loop-line : goal.decreases-loop-line
decreases-loop-line l = length l.lines
