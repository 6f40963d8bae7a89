use Rattle.std.proofs.Common.{◌≡◌, drop}
use Rattle.dbuf_state.specs.Pins.{has_pin}
use Rattle.dbuf_state.proofs.pins.Pins.has.Given as goal

abbrev pub invariant-loop-pin : goal.invariant-loop-pin
invariant-loop-pin l = has_pin l.n (drop l.pin-index l.pin-items) ≡ has_pin l.n l.pin-items
