use Rattle.run_laws.proofs.Runs.{reports-are-runs}
use Rattle.run_laws.proofs.laws.one_callers_reports_are_runs.Goals as goal

pub returns : goal.returns
returns g c = reports-are-runs g.P.Pool g.D.CacheDev
