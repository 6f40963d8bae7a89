use Rattle.std.proofs.Common.{◌++◌, Option, ◌∙◌, subst, sym, arith}
use Rattle.arc_core.specs.declared.event.Event.{Event}
use Rattle.arc_check.specs.LogText.{told_fields}
use Rattle.arc_check.specs.Reading.{IsEventRead}
use Rattle.arc_check.proofs.EventLemmas.{has-key, key-fields, key-ranged, resize-fields, tail-read}
use Rattle.arc_check.proofs.events.event_after.Goals as goal

pub returns-in_err-c-in-Resize : goal.returns-in_err-c-in-Resize
returns-in_err-c-in-Resize c =
    subst (λ (o : Option Event). IsEventRead c.args.parties c.args.name c.args.fields.now c.next_number.new.fields o) (sym c.from_residual-in_err-c-in-Resize.ensures)
    (λ e rest named ranged is.
    let r = resize-fields c.args.parties c.in_ok-n.n e c.args.fields.now _ rest (named ∙ c.in-Resize.is) ranged c.in_ok-n.ensures.0 is in
    c.in_err-c-in-Resize.ensures r.0 rest (omega arith) r.1 r.2)

pub returns-in_err-key-in_default : goal.returns-in_err-key-in_default
returns-in_err-key-in_default c =
    subst (λ (o : Option Event). IsEventRead c.args.parties c.args.name c.args.fields.now c.next_key.new.fields o) (sym c.from_residual-in_err-key-in_default.ensures)
    (λ e rest named ranged is.
    let k = has-key e (λ p. c.in_default.not-FeedEnd (sym named ∙ p)) (λ p. c.in_default.not-Resize (sym named ∙ p)) in
    c.in_err-key-in_default.ensures k.0 (told_fields e ++ rest) (key-ranged c.args.parties e k.0 ranged k.1)
    (key-fields c.in_ok-n.n e k.0 c.args.fields.now _ rest k.1 c.in_ok-n.ensures.0 is))

pub returns-in_ok-key-in_default : goal.returns-in_ok-key-in_default
returns-in_ok-key-in_default c =
    tail-read c.args.parties c.args.name c.in_ok-n.n c.in_ok-key-in_default.key c.args.fields.now _ _ c.tail.new.fields c.tail.result c.in_ok-n.ensures.1 c.in_ok-key-in_default.ensures.1
    c.in_default.not-FeedEnd c.in_default.not-Resize c.in_ok-n.ensures.0 c.in_ok-key-in_default.ensures.0 c.tail.ensures
