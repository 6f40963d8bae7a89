use Rattle.std.proofs.Common.{◌<◌, ◌-◌, ◌∷◌, length, sym, ap, ap₂, ◌∙◌, arith, rules}
use Rattle.arc_core.specs.EventLog.{events_in}
use Rattle.arc_core.specs.Packed.{event_of}
use Rattle.arc_core.proofs.Packing.{first-event}
use Rattle.arc_core.proofs.history.EventsIterator.next.Goals as goal

pub returns-clause-steps : goal.returns-clause-steps
returns-clause-steps c =
    let s = c.self.inside in
    let some : 0 < s.left = omega arith in
    let event = c.event.ensures ∙ ap event_of c.take_packed.ensures.packed in
    sym c.self.view_is ∙ first-event s.left s.bytes.now some ∙ sym (ap₂ ◌∷◌ event (ap (events_in (s.left - 1)) c.take_packed.ensures.rest))

pub returns-clause-goes : goal.returns-clause-goes
returns-clause-goes c =
    let s = c.self.inside in
    let some : 0 < s.left = omega arith in
    let event = c.event.ensures ∙ ap event_of c.take_packed.ensures.packed in
    let step = sym c.self.view_is ∙ first-event s.left s.bytes.now some ∙ sym (ap₂ ◌∷◌ event (ap (events_in (s.left - 1)) c.take_packed.ensures.rest)) in
    let shorter = ap length step in search rules
