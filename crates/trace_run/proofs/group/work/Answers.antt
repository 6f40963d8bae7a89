use Rattle.trace_run.proofs.callers.GroupLemmas.{lines-tried}
use Rattle.trace_run.proofs.group.work.Goals as goal

pub returns : goal.returns
returns g c = lines-tried c.args.arcs.now g.P.Pool g.D.CacheDev c.args.blocks.now c.args.ops.now c.args.caller.now _ c.requires.ready c.lines_over.ensures.stands c.lines_over.ensures.did
