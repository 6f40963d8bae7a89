use Rattle.dbuf_state.proofs.OutlineLemmas.{cell-is-in-outline}
use Rattle.dbuf_state.proofs.laws.cells_are_in_their_outlines.Goals as goal

pub returns : goal.returns
returns g c = cell-is-in-outline
