use Rattle.trace_run.specs.callers.Callers.{AbsorbsAll}
use Rattle.trace_run.proofs.group.absorb_all.Given as goal

abbrev pub invariant-loop-fork : goal.invariant-loop-fork
invariant-loop-fork g l = (q : g.row.P.Denot) → AbsorbsAll g.P.Pool l.fork-iterator.rest.items l.pool q → AbsorbsAll g.P.Pool l.fn.forks.items l.fn.pool q
