use Rattle.l2_dev.proofs.ReadLaws.{calls_keep, reads_keep}
use Rattle.l2_dev.proofs.laws.reads_keep_promises.Goals as goal

pub returns-clause-same : goal.returns-clause-same
returns-clause-same g c = let d = g.D.CacheDev in reads_keep d.told d.has_sectors d.may_leave

pub returns-clause-calls : goal.returns-clause-calls
returns-clause-calls g c = calls_keep g.D.CacheDev
