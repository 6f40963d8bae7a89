use Rattle.dbuf_state.proofs.StepLemmas.{call-goes-on, mapped-is-sound}
use Rattle.dbuf_state.proofs.laws.cells_stay_legal.Goals as goal

pub returns : goal.returns
returns g c = record { goes_on = call-goes-on; mapped = mapped-is-sound }
