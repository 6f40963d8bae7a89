use Rattle.l2_feed.proofs.InTurn.{feeds_keep, lent_keep}
use Rattle.l2_feed.proofs.series.crashes_keep_live.Goals as goal

pub returns-clause-feeds : goal.returns-clause-feeds
returns-clause-feeds g c = feeds_keep g.D.CacheDev

pub returns-clause-lent : goal.returns-clause-lent
returns-clause-lent g c = lent_keep g.D.CacheDev
