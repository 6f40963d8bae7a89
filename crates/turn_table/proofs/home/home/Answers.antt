use Rattle.std.proofs.Common.{rules}
use Rattle.turn_table.specs.Homes.{home}
use Rattle.turn_table.proofs.home.home.Goals as goal

pub returns : goal.returns
unfolding home
returns c = search rules
