use Rattle.trace_run.proofs.callers.PlaceLemmas.{fault-not-valid}
use Rattle.trace_run.proofs.groups.end_of_valid.Goals as goal

pub returns-in-Err-clause-valid : goal.returns-in-Err-clause-valid
returns-in-Err-clause-valid c = λ valid. absurd (fault-not-valid c.args.pool_len c.args.ptr.now.key _ c.in-Err.ensures.valid valid)
