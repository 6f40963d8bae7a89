use Rattle.txg_sync.proofs.Loop.{HasWritten}
use Rattle.txg_sync.proofs.syncing.write_dues.Given as goal

abbrev pub invariant-loop-due : goal.invariant-loop-due
invariant-loop-due g l = HasWritten g.P.Pool l.arcs l.group l.tick l.next l.fn.cells l.cells l.dues l.due-index l.fn.pool l.pool l.fn.party l.party l.place
