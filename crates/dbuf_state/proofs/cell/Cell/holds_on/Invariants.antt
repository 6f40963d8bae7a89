use Rattle.dbuf_state.proofs.HoldLemmas.{IsCounting}
use Rattle.dbuf_state.proofs.cell.Cell.holds_on.Given as goal

abbrev pub invariant-loop-dbuf : goal.invariant-loop-dbuf
invariant-loop-dbuf g l = IsCounting g.H.Shows.key_of g.H.Shows.bytes_of g.H.Shows.is_held l.key l.dbuf-items l.dbuf-index l.count
