use Rattle.std.proofs.Common.{◌+◌, ◌≤◌, length, sym, subst}
use Rattle.dbuf_state.specs.CellLog.{CellLog}
use Rattle.dbuf_state.specs.Dbufs.{DbufHas, dbuf_at, size_of}
use Rattle.dbuf_cells.specs.Patching.{IsSizedIn}
use Rattle.dbuf_cells.specs.declared.kept.Kept.{Kept}
use Rattle.dbuf_cells.proofs.Patches.{over-dirty, over-inside}
use Rattle.dbuf_cells.proofs.patching.write_part.Goals as goal

pub copy_out-requires-clause-sized : goal.copy_out-requires-clause-sized
copy_out-requires-clause-sized c = subst (λ (x : CellLog Kept). IsSizedIn c.args.at x.dbufs) (sym c.make_room.ensures.log) c.requires.sized

pub write_at-requires-clause-dirty : goal.write_at-requires-clause-dirty
write_at-requires-clause-dirty c = over-dirty c.args.at c.in_ok-kept.kept c.make_room.new.cell c.copy_out.new.cell c.in_ok-kept.ensures.ok

pub write_at-requires-clause-inside : goal.write_at-requires-clause-inside
write_at-requires-clause-inside c = over-inside (c.args.from + length c.args.bytes.now) c.args.at c.in_ok-kept.kept c.make_room.new.cell c.copy_out.new.cell c.in_ok-kept.ensures.ok
    (subst (λ (x : CellLog Kept). DbufHas (λ d. c.args.from + length c.args.bytes.now ≤ size_of d.content) (dbuf_at c.args.at x.dbufs)) (sym c.make_room.ensures.log) c.requires.inside)
