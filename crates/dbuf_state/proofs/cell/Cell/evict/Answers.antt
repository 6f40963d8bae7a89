use Rattle.std.proofs.Common.{◌≡◌, true, subst}
use Rattle.dbuf_state.specs.Dbufs.{dbuf_oid}
use Rattle.dbuf_state.specs.Oids.{is_distinct}
use Rattle.dbuf_state.specs.CellLog.{CellLog}
use Rattle.dbuf_state.proofs.FitLemmas.{evictable-cached}
use Rattle.dbuf_state.proofs.cell.Cell.evict.Goals as goal

pub take_out-requires-clause-cached : goal.take_out-requires-clause-cached
take_out-requires-clause-cached g c =
    let once = subst (λ (log : CellLog g.row.H.Denot). is_distinct dbuf_oid log.dbufs ≡ true) c.self.view_is c.self.invariant.once in
    evictable-cached c.args.self.now.limit c.args.at c.args.self.now.dbufs once c.requires
