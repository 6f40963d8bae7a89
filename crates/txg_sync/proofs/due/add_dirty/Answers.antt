use Rattle.std.proofs.Common.{◌≡◌, ◌++◌, List, map, IsPermutation, OnOk, subst}
use Rattle.dbuf_state.specs.CellLog.{CellLog}
use Rattle.dbuf_state.specs.Dbufs.{dirty_oids}
use Rattle.dbuf_state.specs.declared.oid.Oid.{Oid}
use Rattle.dbuf_cells.specs.declared.kept.Kept.{Kept}
use Rattle.txg_sync.specs.Items.{due_in}
use Rattle.txg_sync.proofs.Gathering.{adds-all}
use Rattle.txg_sync.proofs.due.add_dirty.Goals as goal

pub returns-clause-dues : goal.returns-clause-dues
returns-clause-dues c =
    adds-all c.args.i c.args.dues.now.items c.add_all.new.dues.items c.args.cell.now.value.dbufs c.in_ok-oids.oids.items
    (subst (λ (x : CellLog Kept). IsPermutation (dirty_oids x.dbufs) c.in_ok-oids.oids.items) c.deref-2.ensures c.in_ok-oids.ensures.all) c.add_all.result
    (subst (λ (l : List Oid). OnOk c.add_all.result (c.add_all.new.dues.items ≡ c.args.dues.now.items ++ map (due_in c.args.i) l)) c.deref-3.ensures.value c.add_all.ensures)
