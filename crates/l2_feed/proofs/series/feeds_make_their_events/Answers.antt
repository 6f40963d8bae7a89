use Rattle.l2_feed.proofs.Between.{make_events}
use Rattle.l2_feed.proofs.series.feeds_make_their_events.Goals as goal

pub returns : goal.returns
returns g c = make_events g.C.Keeps g.D.CacheDev
