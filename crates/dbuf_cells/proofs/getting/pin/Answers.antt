use Rattle.dbuf_cells.proofs.Acts.{pin-notes}
use Rattle.dbuf_cells.proofs.getting.pin.Goals as goal

pub returns-clause-ok : goal.returns-clause-ok
returns-clause-ok c = pin-notes c.args.n c.args.at c.args.cell.now c.make_room.new.cell c.make_room.ensures.log c.requires.cached c.pin.new.self c.note.new.self c.in_ok-make_room.ensures.events c.in_ok-pin.ensures.ok c.note.ensures
