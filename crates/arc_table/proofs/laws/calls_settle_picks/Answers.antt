use Rattle.arc_table.proofs.feeder.PicksAfter.{clear_picks, feeds_picks, leave_picks, restores_picks, set_picks}
use Rattle.arc_table.proofs.laws.calls_settle_picks.Goals as goal

pub returns-clause-set : goal.returns-clause-set
returns-clause-set gh c g k place p q result feeder a = set_picks gh.C.Keeps g k p q feeder place result a

pub returns-clause-leave : goal.returns-clause-leave
returns-clause-leave gh c g k reason p q feeder a = leave_picks gh.C.Keeps g k p q feeder reason a

pub returns-clause-clear : goal.returns-clause-clear
returns-clause-clear gh c g k place p q result feeder a = clear_picks gh.C.Keeps g k p q feeder place result a

pub returns-clause-restore : goal.returns-clause-restore
returns-clause-restore gh c g list p q feeder a = restores_picks gh.C.Keeps g p.number list p q feeder a

pub returns-clause-pick : goal.returns-clause-pick
returns-clause-pick gh c g i p q old new a = feeds_picks gh.C.Keeps g i _ p q a.feeds
