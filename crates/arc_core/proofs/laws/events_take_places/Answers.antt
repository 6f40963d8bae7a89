use Rattle.arc_core.proofs.Places.{taking-places}
use Rattle.arc_core.proofs.laws.events_take_places.Goals as goal

pub returns : goal.returns
returns c = taking-places
