use Rattle.std.proofs.Common.{Some, ap, ◌∙◌}
use Rattle.dbuf_cells.proofs.Evictions.{out-of-some, up-gives}
use Rattle.dbuf_cells.proofs.putting.give_up.Goals as goal

pub give_up-requires-clause-hold : goal.give_up-requires-clause-hold
give_up-requires-clause-hold g c = out-of-some c.args.arcs.now.config c.args.i c.args.party.now c.args.kept c.in-Some-Held.hold c.of_cell.result (c.in-Some-Held.is ∙ ap Some c.in-Some-Held.field-0-is) c.of_cell.ensures c.requires.out

pub returns-in-Some-Held : goal.returns-in-Some-Held
returns-in-Some-Held g c = up-gives c.args.arcs.now.config c.args.i c.args.kept c.in-Some-Held.hold c.of_cell.result c.args.party.now c.give_up.new.party (c.in-Some-Held.is ∙ ap Some c.in-Some-Held.field-0-is) c.of_cell.ensures c.give_up.ensures
