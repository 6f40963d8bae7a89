use Rattle.std.proofs.Common.{sym, subst}
use Rattle.arc_core.specs.declared.config.Config.{Config}
use Rattle.arc_table.specs.Geometry.{IsCell}
use Rattle.arc_table.proofs.cell_lemmas.CellGives.{given_cell}
use Rattle.arc_table.proofs.arcs.Arcs.give_cell.Goals as goal

pub give-requires-clause-rule : goal.give-requires-clause-rule
give-requires-clause-rule g c =
    given_cell g.C.Keeps c.args.party.now c.args.i c.args.cell c.requires.cell
    (subst (λ (x : Config). IsCell x c.args.i) (sym c.requires.party.config) c.requires.range)
