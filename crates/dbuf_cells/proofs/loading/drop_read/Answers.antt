use Rattle.dbuf_cells.proofs.Keeping.{drops-held, held-is}
use Rattle.dbuf_cells.proofs.loading.drop_read.Goals as goal

pub drop_hold-requires-clause-hold : goal.drop_hold-requires-clause-hold
drop_hold-requires-clause-hold g c = held-is c.args.arcs.now.config c.args.ptr.now c.args.party.now c.args.read c.in-Held.hold c.in-Held.field-1 c.in-Held.is c.requires.read

pub returns-in-Held : goal.returns-in-Held
returns-in-Held g c = drops-held c.args.arcs.now.config c.args.ptr.now c.args.party.now c.args.read c.in-Held.hold c.in-Held.field-1 c.in-Held.is c.requires.read c.drop_hold.new.party c.drop_hold.ensures
