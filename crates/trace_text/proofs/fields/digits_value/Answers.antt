use Rattle.std.proofs.Common.{arith}
use Rattle.trace_text.proofs.NumberLemmas.{digits-all, digits-more, digits-stuck, some-iff}
use Rattle.trace_text.proofs.fields.digits_value.Goals as goal

pub loop-place-preserved : goal.loop-place-preserved
loop-place-preserved c =
    let next = some-iff c.with_digit.result c.in-Some.next _ c.in-Some.is c.with_digit.ensures in
    let more = digits-more c.args.field.now c.loop-place.place c.loop-place.value c.in-Some.next c.loop-place-test.true c.loop-place.invariant.0 c.loop-place.invariant.1 next.0.0 next.1 in
    (more.0, more.1, omega (arith, next.0.1, next.1))

pub returns-in_default : goal.returns-in_default
returns-in_default c =
    digits-stuck c.args.field.now c.loop-place.place c.loop-place.value c.loop-place-test.true c.loop-place.invariant.1 c.in_default.ensures

pub returns : goal.returns
returns c =
    let kept = c.loop-place.invariant in
    digits-all c.args.field.now c.loop-place.place c.loop-place.value (omega (arith, c.loop-place-test.false)) kept.2 kept.0 kept.1
