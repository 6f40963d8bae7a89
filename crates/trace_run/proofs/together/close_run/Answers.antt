-- A cache whose parties have stopped may be closed.
use Rattle.trace_run.proofs.callers.GroupRunLemmas.{stopped-all, stopped-rest}
use Rattle.trace_run.proofs.together.close_run.Goals as goal

pub close-requires-clause-rest : goal.close-requires-clause-rest
close-requires-clause-rest c = stopped-rest c.args.arcs c.args.parties.items c.requires

pub close-requires-clause-all : goal.close-requires-clause-all
close-requires-clause-all c = stopped-all c.args.arcs c.args.parties.items c.requires
