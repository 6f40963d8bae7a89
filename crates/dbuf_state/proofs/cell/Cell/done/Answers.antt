use Rattle.dbuf_state.proofs.FitLemmas.{clash}
use Rattle.dbuf_state.proofs.cell.Cell.done.Goals as goal

pub unreachable-requires : goal.unreachable-requires
unreachable-requires g c = clash _ c.in_default.ensures.memory c.requires.free
