use Rattle.dbuf_cells.proofs.Keeping.{keeps-now, kept-held, unreads-now}
use Rattle.dbuf_cells.proofs.Loads.{kept-unclaimed, unread-unclaimed}
use Rattle.dbuf_cells.proofs.loading.keep_read.Goals as goal

pub returns-in-Ok-clause-ok : goal.returns-in-Ok-clause-ok
returns-in-Ok-clause-ok g c =
    keeps-now c.args.arcs.now c.args.i c.args.at c.args.ptr.now c.args.party.now c.hand_on.new.party c.args.cell.now c.hand_on.new.cell c.hand_on.ensures.log c.requires.reading c.told.ensures.fit c.args.read c.requires.read
    c.in-Ok.kept c.number.result c.held-held.result c.loaded.new.self c.note.new.self c.number.ensures c.held-held.ensures c.in-Ok.ensures.hands c.loaded.ensures c.note.ensures

pub returns-in-Err-clause-err : goal.returns-in-Err-clause-err
returns-in-Err-clause-err g c =
    unreads-now c.args.arcs.now c.args.i c.args.at c.args.ptr.now c.args.party.now c.hand_on.new.party c.args.cell.now c.hand_on.new.cell c.hand_on.ensures.log c.requires.reading c.told.ensures.fit c.args.read c.requires.read
    c.in-Err.read c.unread.new.self c.requires.taken c.in-Err.ensures.hands c.unread.ensures

pub returns-in-Ok-clause-unclaimed : goal.returns-in-Ok-clause-unclaimed
returns-in-Ok-clause-unclaimed g c =
    kept-unclaimed c.args.at c.in-Ok.kept c.number.result c.held-held.result c.args.cell.now c.hand_on.new.cell c.loaded.new.self c.note.new.self c.hand_on.ensures.log c.told.ensures.once c.loaded.ensures c.note.ensures

pub returns-in-Err-clause-unclaimed : goal.returns-in-Err-clause-unclaimed
returns-in-Err-clause-unclaimed g c =
    unread-unclaimed c.args.at c.args.cell.now c.hand_on.new.cell c.unread.new.self c.hand_on.ensures.log c.told.ensures.once c.unread.ensures

pub returns-in-Ok-clause-held : goal.returns-in-Ok-clause-held
returns-in-Ok-clause-held g c =
    kept-held c.args.arcs.now.config c.args.i c.args.at c.args.ptr.now c.args.party.now c.hand_on.new.party c.args.cell.now c.hand_on.new.cell c.hand_on.ensures.log c.requires.reading c.args.read
    c.in-Ok.kept c.number.result c.held-held.result c.loaded.new.self c.note.new.self c.in-Ok.ensures.hands c.loaded.ensures c.note.ensures
