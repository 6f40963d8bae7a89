use Rattle.std.proofs.Common.{Option, subst, sym}
use Rattle.arc_core.specs.declared.event.Event.{Event}
use Rattle.arc_check.specs.Reading.{IsTailRead}
use Rattle.arc_check.specs.declared.words.Name.TheVariants as names
use Rattle.arc_check.proofs.events.past.Goals as goal

pub returns-in_err-kept : goal.returns-in_err-kept
returns-in_err-kept c = λ parties.
    subst (λ (o : Option Event). IsTailRead parties names.Past c.args.n c.args.key c.args.fields.now c.next_digest.new.fields o) (sym c.from_residual.ensures)
    (λ rest f. c.in_err-kept.ensures f.0 _ f.1 f.2)
