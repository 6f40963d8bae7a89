use Rattle.std.proofs.Common.{◌++◌, ◌∷◌, [], List, ap, sym, ◌∙◌, arith}
use Rattle.std.proofs.lemmas.Grind.{common_steps}
use Rattle.std.specs.Arc.{arc_value}
use Rattle.arc_core.specs.declared.event.Event.{Event}
use Rattle.trace_text.specs.Owned.{history_at}
use Rattle.trace_run.proofs.TakenLemmas.{one-taken}
use Rattle.trace_run.proofs.ran.histories_of.Goals as goal

pub loop-number-preserved : goal.loop-number-preserved
loop-number-preserved c =
    let number = c.loop-number.number in
    let shards = (arc_value c.args.shards.now).items in
    c.in_ok-push.ensures.items
    ∙ (ap (λ (h : List Event). c.loop-number.histories.items ++ h ∷ []) c.in_ok-of_shard.ensures
    ∙ (ap (λ (hs : List (List Event)). hs ++ history_at shards number ∷ []) c.loop-number.invariant
    ∙ sym (one-taken shards number (grind (arith, common_steps)))))
