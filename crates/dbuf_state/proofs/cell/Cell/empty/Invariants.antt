use Rattle.dbuf_state.proofs.FitLemmas.{IsEmptying}
use Rattle.dbuf_state.proofs.cell.Cell.empty.Given as goal

abbrev pub invariant-loop-place : goal.invariant-loop-place
invariant-loop-place g l = IsEmptying l.place l.place-end l.initial.self l.self
