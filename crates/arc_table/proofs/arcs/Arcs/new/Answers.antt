use Rattle.std.proofs.Common.{List, sym, subst}
use Rattle.turn_table.specs.Board.{opening, numbered}
use Rattle.arc_table.specs.Geometry.{parties_of}
use Rattle.arc_table.specs.Items.{Meanings}
use Rattle.arc_table.specs.opening.Opening.{about_of}
use Rattle.arc_table.proofs.OpeningLaws.{opens}
use Rattle.arc_table.specs.pact.Rule.{Pact}
use Rattle.arc_table.specs.Views.{newcomer}
use Rattle.arc_table.proofs.arcs.Arcs.new.Goals as goal

pub new-made-requires-clause-rule : goal.new-made-requires-clause-rule
new-made-requires-clause-rule g c =
    let m : Meanings g.row.C.Denot = g.C.Keeps in
    let cells : List g.row.C.Denot = c.args.cells.items in
    let here = opens m c.args.config.now cells c.in_ok-values.values.items c.requires.config.amounts.c c.requires.cells c.in_ok-values.ensures in
    subst (λ (moved : List g.row.C.Denot). Pact m (opening c.in_ok-values.values.items (numbered (newcomer (about_of m c.args.config.now moved)) 0 (parties_of c.args.config.now))))
    (λ k. (sym c.of.ensures k).items) here
