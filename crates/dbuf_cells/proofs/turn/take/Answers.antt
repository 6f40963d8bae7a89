use Rattle.std.proofs.Common.{IsTrue, subst}
use Rattle.std.specs.List.{AllByRecursion}
use Rattle.arc_table.specs.declared.item.Item.TheVariants as item
use Rattle.arc_table.proofs.Reached.{took_is}
use Rattle.dbuf_state.specs.CellLog.{CellLog}
use Rattle.dbuf_state.specs.Dbufs.{IsFit, dbuf_oid}
use Rattle.dbuf_state.specs.Oids.{is_distinct}
use Rattle.dbuf_cells.specs.Kept.{bytes_of, key_of}
use Rattle.dbuf_cells.specs.Turns.{dbuf_meanings}
use Rattle.dbuf_cells.specs.declared.kept.Kept.{Kept}
use Rattle.dbuf_cells.proofs.Holders.{holds-stand}
use Rattle.dbuf_cells.proofs.PartySteps.{begins, takes-claims}
use Rattle.dbuf_cells.proofs.turn.take.Goals as goal

pub returns-clause-begins : goal.returns-clause-begins
returns-clause-begins g c =
    let t = c.take_cell-cell.ensures.took in
    begins c.args.arcs.now c.args.i c.requires.valid c.requires.range c.take_cell-cell.result c.args.party.now c.take_cell-cell.new.party c.requires.party c.requires.look
    (holds-stand c.take_cell-cell.result (subst (λ (x : CellLog Kept). AllByRecursion (IsFit key_of bytes_of) x.dbufs) c.deref.ensures c.told.ensures.fit)
    (subst (λ (x : CellLog Kept). IsTrue (is_distinct dbuf_oid x.dbufs)) c.deref.ensures c.told.ensures.once))
    record { owners = t.0; knew = t.1; lost = t.2; free = t.3; took = t.4 }

pub returns-clause-claims : goal.returns-clause-claims
returns-clause-claims g c =
    let t = c.take_cell-cell.ensures.took in
    takes-claims c.args.arcs.now c.args.i c.requires.valid c.requires.range c.take_cell-cell.result c.args.party.now c.take_cell-cell.new.party c.requires.party
    record { owners = t.0; knew = t.1; lost = t.2; free = t.3; took = t.4 }

pub returns-clause-ledger : goal.returns-clause-ledger
returns-clause-ledger g c =
    let t = c.take_cell-cell.ensures.took in
    (took_is dbuf_meanings c.args.i (item.Cell c.take_cell-cell.result) c.args.party.now c.take_cell-cell.new.party record { owners = t.0; knew = t.1; lost = t.2; free = t.3; took = t.4 }).ledger
