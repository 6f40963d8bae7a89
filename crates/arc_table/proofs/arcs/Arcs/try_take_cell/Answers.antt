use Rattle.std.proofs.Common.{sym, subst}
use Rattle.arc_core.specs.declared.config.Config.{Config}
use Rattle.arc_table.specs.Geometry.{IsCell}
use Rattle.arc_table.proofs.Boards.{cell_there}
use Rattle.arc_table.proofs.arcs.Arcs.try_take_cell.Goals as goal

pub into_cell-requires : goal.into_cell-requires
into_cell-requires g c =
    let m = g.C.Keeps in
    cell_there m c.args.party.now c.args.i c.in-Taken.value c.in-Taken.ensures.taken.0
    (subst (λ (x : Config). IsCell x c.args.i) (sym c.requires.party.config) c.requires.range)
