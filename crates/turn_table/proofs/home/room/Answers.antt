use Rattle.std.proofs.Common.{rules}
use Rattle.turn_table.specs.Homes.{room}
use Rattle.turn_table.proofs.home.room.Goals as goal

pub returns : goal.returns
unfolding room
returns c = search rules
