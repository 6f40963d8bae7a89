use Rattle.std.proofs.Common.{arith}
use Rattle.arc_check.proofs.LinesLemmas.{Progress-bound, Progress-more}
use Rattle.arc_check.proofs.reader.read_lines.Goals as goal

pub overflow_add-number : goal.overflow_add-number
overflow_add-number c =
    let bound = Progress-bound c.args.text.now c.loop-line.lines c.next.new.self c.in-Some.line.now c.loop-line.number c.loop-line.draft c.loop-line.invariant c.in-Some.ensures in
    omega arith

pub loop-line-preserved : goal.loop-line-preserved
loop-line-preserved c =
    Progress-more c.args.text.now c.loop-line.lines _ c.in-Some.line.now c.loop-line.number c.loop-line.draft _ c.loop-line.invariant c.in-Some.ensures c.in_default-add.ensures.added
