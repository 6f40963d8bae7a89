use Rattle.arc_core.proofs.Ending.{room-ends, trim-ends}
use Rattle.arc_core.proofs.laws.room_and_trim_end.Goals as goal

pub returns-clause-room : goal.returns-clause-room
returns-clause-room c = room-ends

pub returns-clause-trim : goal.returns-clause-trim
returns-clause-trim c = trim-ends
