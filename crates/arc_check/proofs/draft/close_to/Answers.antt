use Rattle.std.proofs.Common.{◌++◌, ◌∷◌, [], List, ap, ◌∙◌, arith}
use Rattle.arc_core.specs.declared.event.Event.{Event}
use Rattle.arc_check.proofs.DraftLemmas.{close-more}
use Rattle.arc_check.proofs.draft.close_to.Goals as goal

pub loop-alloc-preserved : goal.loop-alloc-preserved
loop-alloc-preserved c =
    let kept = c.loop-alloc.invariant in
    let pushed = c.in_ok-push-2.ensures in
    let adds = pushed.items ∙ ap (λ (h : List Event). c.loop-alloc.closed.items ++ h ∷ []) (c.of_events-in-loop-alloc.ensures ∙ c.new.ensures.events) in
    record {
      items = close-more c.args.closed.now.items c.args.events.events c.loop-alloc.closed.items _ _ _ kept.items adds kept.least pushed.len;
      least = omega (arith, kept.least, pushed.len);
      most = omega (arith, c.loop-alloc-test.true, pushed.len);
    }
