use Rattle.std.proofs.Common.{◌≡◌, refl, sym, ap, ◌∙◌, add-one, arith}
use Rattle.arc_core.specs.EventLog.{after_events}
use Rattle.arc_core.specs.Packed.{taken_packed}
use Rattle.arc_core.proofs.history.behind.Goals as goal

pub loop-init : goal.loop-init
loop-init c = refl

pub loop-preserved : goal.loop-preserved
loop-preserved c = c.take_packed.ensures.rest ∙ ap (λ xs. (taken_packed xs).1) c.loop.invariant ∙ sym (ap (λ m. after_events m c.args.bytes.now) (add-one c.loop.counter))

pub returns : goal.returns
returns c =
    let all : c.loop.counter ≡ c.args.count = omega arith in
    c.loop.invariant ∙ ap (λ m. after_events m c.args.bytes.now) all
