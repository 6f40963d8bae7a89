use Rattle.std.proofs.Common.{◌<◌, length, refl, sym, ◌∙◌, arith}
use Rattle.key_queue.proofs.SlotLemmas.{first-pair, first-popped}
use Rattle.key_queue.proofs.queue.Queue.pop_oldest.Goals as goal

pub returns : goal.returns
returns g c =
    let ss = c.self.inside.slots.items in
    let slot = c.in_ok-number.field-0.now in
    let some : 0 < length ss = omega (arith, c.in_ok-number.ensures.variant.0 refl, c.self.inside.slots.ok.0) in
    let first = first-pair ss slot some c.in_ok-number.ensures.lookup c.self.invariant.trimmed in
    first-popped slot.number first.0 first.1 c.args.self.now c.args.self.now c.take_oldest.new.self refl (sym c.self.view_is ∙ first.2) c.take_oldest.result c.take_oldest.ensures
