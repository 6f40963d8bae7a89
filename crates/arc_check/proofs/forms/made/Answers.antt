use Rattle.std.proofs.Common.{[], Option, ◌∙◌, subst, sym, arith, append-nil}
use Rattle.arc_check.specs.LogText.{event_fields}
use Rattle.arc_check.specs.Reading.{IsMadeRead}
use Rattle.arc_check.specs.declared.words.Made.{Made}
use Rattle.arc_check.proofs.FieldLemmas.{next-fields}
use Rattle.arc_check.proofs.LineLemmas.{made-shard}
use Rattle.arc_check.proofs.forms.made.Goals as goal

pub returns-in_err-index : goal.returns-in_err-index
returns-in_err-index c = λ at.
    subst (λ (o : Option Made). IsMadeRead c.args.config c.args.name c.args.fields.now o) (sym c.from_residual-in_err-index.ensures)
    (λ made named ranged is. c.in_err-index.ensures made.index _ (omega arith) ranged.index (next-fields c.in_ok-shard.ensures.0 (made-shard c.args.fields.now made is)))

pub returns-in_err-event : goal.returns-in_err-event
returns-in_err-event c = λ at.
    subst (λ (o : Option Made). IsMadeRead c.args.config c.args.name c.args.fields.now o) (sym c.from_residual-in_err-event.ensures)
    (λ made named ranged is. c.in_err-event.ensures made.event [] named ranged.event
    (next-fields c.in_ok-_named.ensures (next-fields c.in_ok-index.ensures.0 (next-fields c.in_ok-shard.ensures.0 (made-shard c.args.fields.now made is)))
    ∙ sym (append-nil (event_fields made.event))))
