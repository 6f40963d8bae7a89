use Rattle.std.proofs.Common.{IsTrue, subst}
use Rattle.dbuf_state.specs.CellLog.{CellLog}
use Rattle.dbuf_state.specs.Dbufs.{dbuf_oid}
use Rattle.dbuf_state.specs.Oids.{is_distinct}
use Rattle.dbuf_cells.specs.declared.kept.Kept.{Kept}
use Rattle.dbuf_cells.proofs.Loads.{claimed-mark}
use Rattle.dbuf_cells.proofs.loading.retake.Goals as goal

pub returns-clause-reading : goal.returns-clause-reading
returns-clause-reading g c =
    let k = c.take-cell in
    claimed-mark c.args.i k.new.party.number c.args.at c.args.ptr k.result.value c.args.party.now
    (subst (λ (x : CellLog Kept). IsTrue (is_distinct dbuf_oid x.dbufs)) c.deref.ensures c.told.ensures.once) k.ensures.claims c.requires.claims

pub returns-clause-once : goal.returns-clause-once
returns-clause-once g c = subst (λ (x : CellLog Kept). IsTrue (is_distinct dbuf_oid x.dbufs)) c.deref.ensures c.told.ensures.once
