use Rattle.std.proofs.Common.{arith}
use Rattle.trace_text.proofs.NumberLemmas.{decimal-above}
use Rattle.arc_check.proofs.fields.next_below.Goals as goal

pub returns-else-value-from : goal.returns-else-value-from
returns-else-value-from c = λ n rest below is.
    decimal-above _ _ _ c.in_ok-value.value n c.args.limit c.in_ok-value.ensures.0 is (omega (arith, c.in_ok-value.ensures.2)) (omega arith) (omega arith) below
