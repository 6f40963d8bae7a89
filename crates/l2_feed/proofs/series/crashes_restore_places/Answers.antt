use Rattle.l2_feed.proofs.InTurn.{crashes_restore}
use Rattle.l2_feed.proofs.series.crashes_restore_places.Goals as goal

pub returns : goal.returns
returns g c = crashes_restore g.D.CacheDev g.C.Keeps
