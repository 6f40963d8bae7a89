use Rattle.std.proofs.Common.{arith}
use Rattle.trace_text.proofs.NumberLemmas.{decimal-digits, decimal-misbegun, digits-spell, some-iff}
use Rattle.trace_text.proofs.fields.number.Goals as goal
use Rattle.trace_text.proofs.fields.number.Goals.{else-low-value-via-then-low-value+else-value-high, else-low-value-via-else-low-value}

pub returns-then-not-begins_as_number : goal.returns-then-not-begins_as_number
returns-then-not-begins_as_number c = λ n low high is.
    decimal-misbegun c.args.field.now c.begins_as_number.result c.begins_as_number.ensures c.if-not-begins_as_number.true n (omega arith) is

pub returns-in_default : goal.returns-in_default
returns-in_default c = λ n low high is.
    let digits = decimal-digits c.args.field.now n (omega arith) is in
    c.in_default.ensures (digits.0, omega (arith, digits.1))

pub returns-then-value-high : goal.returns-then-value-high
returns-then-value-high c =
    let begins = c.begins_as_number.ensures.0 c.if-not-begins_as_number.false in
    (digits-spell c.args.field.now c.in-Some.value (some-iff c.digits_value.result c.in-Some.value _ c.in-Some.is c.digits_value.ensures) begins, omega arith, omega arith)

pub returns-else-low-value : goal.returns-else-low-value
returns-else-low-value c = λ n low high is.
    let read = some-iff c.digits_value.result c.in-Some.value _ c.in-Some.is c.digits_value.ensures in
    let digits = decimal-digits c.args.field.now n (omega arith) is in
    elim c.else-low-value.branch [
      | else-low-value-via-then-low-value+else-value-high w ↦ omega (arith, read.1, digits.1, w.if-value-high.false)
      | else-low-value-via-else-low-value w ↦ omega (arith, read.1, digits.1, w.if-low-value.false)
    ]
