use Rattle.l2_feed.proofs.InTurn.{faults_rise, feeds_in_turn}
use Rattle.l2_feed.proofs.series.feeds_in_turn.Goals as goal

pub returns-clause-live : goal.returns-clause-live
returns-clause-live g c = feeds_in_turn g.C.Keeps g.D.CacheDev

pub returns-clause-faults : goal.returns-clause-faults
returns-clause-faults g c = faults_rise g.C.Keeps g.D.CacheDev
