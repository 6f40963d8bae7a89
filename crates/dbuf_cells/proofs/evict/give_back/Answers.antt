use Rattle.dbuf_cells.proofs.Evictions.{back-gives, out-held}
use Rattle.dbuf_cells.proofs.evict.give_back.Goals as goal

pub drop_hold-requires-clause-hold : goal.drop_hold-requires-clause-hold
drop_hold-requires-clause-hold g c = out-held c.args.arcs.now.config c.args.i c.args.party.now c.args.kept c.in-Held.hold c.of_cell.result c.in-Held.is c.of_cell.ensures c.requires.out

pub returns-in-Held : goal.returns-in-Held
returns-in-Held g c = back-gives c.args.arcs.now.config c.args.i c.args.kept c.in-Held.hold c.of_cell.result c.args.party.now c.drop_hold.new.party c.in-Held.is c.of_cell.ensures c.drop_hold.ensures
