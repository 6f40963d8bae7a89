use Rattle.dbuf_cells.proofs.Keeping.{hands-back, hands-held}
use Rattle.dbuf_cells.proofs.loading.hand_on.Goals as goal

pub returns-in-Ok-hand-clause-hands : goal.returns-in-Ok-hand-clause-hands
returns-in-Ok-hand-clause-hands g c =
    hands-held c.args.arcs.now.config c.args.ptr.now c.args.party.now c.args.read c.in-Held.hold c.in-Held.from c.in-Held.is c.requires.read c.args.i c.number_of.result c.in-Ok-hand.hold c.hand.new.party c.number_of.ensures c.in-Ok-hand.ensures

pub returns-in-Err-clause-hands : goal.returns-in-Err-clause-hands
returns-in-Err-clause-hands g c =
    hands-back c.args.arcs.now.config c.args.ptr.now c.args.party.now c.args.read c.in-Held.hold c.in-Held.from c.in-Held.is c.requires.read c.args.i c.number_of.result c.in-Err.hold c.hand.new.party c.in-Err.ensures
