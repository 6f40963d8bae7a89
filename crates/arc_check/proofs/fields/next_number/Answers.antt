use Rattle.std.proofs.Common.{arith}
use Rattle.trace_text.proofs.PartLemmas.{number-one}
use Rattle.arc_check.proofs.fields.next_number.Goals as goal
use Rattle.arc_check.proofs.fields.next_number.Goals.{else-low-value-via-then-low-value+else-value-high, else-low-value-via-else-low-value}

pub returns-else-low-value : goal.returns-else-low-value
returns-else-low-value c = λ n rest low high is.
    let one = number-one c.in-Some.value n c.args.fields.now _ rest c.in-Some.ensures.1 (omega arith) c.in-Some.ensures.0 is in
    elim c.else-low-value.branch [
      | else-low-value-via-then-low-value+else-value-high w ↦ omega (arith, one, w.if-value-high.false)
      | else-low-value-via-else-low-value w ↦ omega (arith, one, w.if-low-value.false)
    ]
