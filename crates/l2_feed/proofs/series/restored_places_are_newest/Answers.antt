use Rattle.l2_feed.proofs.InTurn.{restored_newest}
use Rattle.l2_feed.proofs.series.restored_places_are_newest.Goals as goal

pub returns : goal.returns
returns g c = restored_newest g.C.Keeps
