use Rattle.std.proofs.Common.{sym, ◌∙◌, subst}
use Rattle.blk_ptr.specs.Size.{IsBlockSize}
use Rattle.dbuf_state.specs.CellLog.{CellLog}
use Rattle.dbuf_cells.specs.Patching.{IsSizedIn}
use Rattle.dbuf_cells.specs.declared.kept.Kept.{Kept}
use Rattle.dbuf_cells.proofs.Acts.{get-notes, mapped-sized, see-answer}
use Rattle.dbuf_cells.proofs.getting.see.Goals as goal

pub returns-clause-ok : goal.returns-clause-ok
returns-clause-ok c = get-notes c.args.n c.args.at c.args.cell.now c.make_room.new.cell c.make_room.ensures.log c.requires.cached c.note.new.self c.in_ok-make_room.ensures.events c.note.ensures

pub returns-clause-got : goal.returns-clause-got
returns-clause-got c = see-answer c.args.n c.args.at c.args.cell.now c.make_room.new.cell c.make_room.ensures.log c.requires.cached c.args.w c.shown.new.out c.in-Some.mapped c.len_of-size.result (sym c.in-Some.is ∙ c.mapped.ensures) c.len_of-size.ensures (c.shown.ensures.answer _)

pub returns-clause-size : goal.returns-clause-size
returns-clause-size c =
    subst IsBlockSize (sym c.len_of-size.ensures)
    (mapped-sized c.args.at c.make_room.new.cell.dbufs c.in-Some.mapped (subst (λ (x : CellLog Kept). IsSizedIn c.args.at x.dbufs) (sym c.make_room.ensures.log) c.requires.sized) c.told.ensures.fit (sym c.in-Some.is ∙ c.mapped.ensures))
