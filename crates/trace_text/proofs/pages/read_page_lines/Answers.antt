use Rattle.std.proofs.Common.{arith}
use Rattle.trace_text.proofs.PageLemmas.{PageProgress-bound, PageProgress-more}
use Rattle.trace_text.proofs.pages.read_page_lines.Goals as goal

pub overflow_add-number : goal.overflow_add-number
overflow_add-number c =
    let bound = PageProgress-bound c.args.text.now c.loop-line.lines c.next.new.self c.in-Some.line.now c.loop-line.number _ c.loop-line.invariant c.in-Some.ensures in
    omega arith

pub loop-line-preserved : goal.loop-line-preserved
loop-line-preserved c =
    PageProgress-more c.args.text.now c.loop-line.lines _ c.in-Some.line.now c.loop-line.number _ _ c.loop-line.invariant c.in-Some.ensures c.in_default-add_page.ensures.added
