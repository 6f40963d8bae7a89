use Rattle.std.proofs.Common.{arith, refl, ap, sym, ◌∙◌, List, slice_get}
use Rattle.std.proofs.lemmas.Option.{slice_get_read}
use Rattle.arc_core.specs.declared.event.Event.{Event}
use Rattle.arc_check.specs.Judging.{log_opening}
use Rattle.arc_check.proofs.Playing.{first-stuck, judged-more}
use Rattle.arc_check.proofs.judge.check.Goals as goal

pub returns-in-Stuck : goal.returns-in-Stuck
returns-in-Stuck c =
    let number = c.loop-number.number in
    let same = c.as_slice-histories.ensures in
    first-stuck (log_opening c.args.log.now.config) c.args.log.now.histories number c.in-Stuck.index c.in-Some.history.now c.in_ok-end.field-0
    (ap (λ (hs : List (List Event)). slice_get hs number) (sym same) ∙ slice_get_read c.as_slice-histories.result.now _ number c.in-Some.history.now refl (omega (arith, c.loop-number-test.true)) c.in-Some.ensures.lookup.1)
    c.loop-number.invariant.legal c.in_ok-end.ensures c.in-Stuck.is

pub loop-number-preserved : goal.loop-number-preserved
loop-number-preserved c =
    let number = c.loop-number.number in
    let same = c.as_slice-histories.ensures in
    let more = judged-more (log_opening c.args.log.now.config) c.args.log.now.histories number c.in-Some.history.now _ _ c.in-Ended.end c.in_ok-end.field-0
    (ap (λ (hs : List (List Event)). slice_get hs number) (sym same) ∙ slice_get_read c.as_slice-histories.result.now _ number c.in-Some.history.now refl (omega (arith, c.loop-number-test.true)) c.in-Some.ensures.lookup.1)
    c.loop-number.invariant.legal c.loop-number.invariant.ends c.in_ok-end.ensures c.in-Ended.is
    c.in_ok-push-in-Ended.ensures.items in
    record { legal = more.0; ends = more.1 }
