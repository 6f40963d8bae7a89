use Rattle.arc_core.proofs.Places.{taken-in}
use Rattle.arc_core.proofs.laws.keys_are_taken_in.Goals as goal

pub returns : goal.returns
returns c = taken-in
