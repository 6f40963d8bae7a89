use Rattle.l2_feed.proofs.Ends.{newest_stay}
use Rattle.l2_feed.proofs.laws.newest_places_stay.Goals as goal

pub returns : goal.returns
returns g c = newest_stay g.C.Keeps g.D.CacheDev
