use Rattle.txg_sync.proofs.NewKeys.{none-there}
use Rattle.txg_sync.proofs.laws.none_is_there.Goals as goal

pub returns : goal.returns
returns c = none-there
