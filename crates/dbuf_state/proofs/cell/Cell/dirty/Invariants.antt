use Rattle.std.proofs.Common.{◌≡◌, ◌++◌, drop}
use Rattle.dbuf_state.specs.Dbufs.{dirty_oids}
use Rattle.dbuf_state.proofs.cell.Cell.dirty.Given as goal

abbrev pub invariant-loop-dbuf : goal.invariant-loop-dbuf
invariant-loop-dbuf g l = l.oids.items ++ dirty_oids (drop l.dbuf-index l.dbuf-items) ≡ dirty_oids l.dbuf-items
