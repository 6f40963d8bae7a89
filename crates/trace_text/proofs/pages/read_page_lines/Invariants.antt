use Rattle.std.proofs.Common.{length}
use Rattle.trace_text.proofs.PageLemmas.{PageProgress}
use Rattle.trace_text.proofs.pages.read_page_lines.Given as goal

abbrev pub invariant-loop-line : goal.invariant-loop-line
invariant-loop-line l = PageProgress l.text l.lines l.number l.pages.items

abbrev pub decreases-loop-line : goal.decreases-loop-line
decreases-loop-line l = length l.lines
