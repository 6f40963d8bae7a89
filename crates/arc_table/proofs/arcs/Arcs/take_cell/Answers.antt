use Rattle.std.proofs.Common.{sym, ap, ◌∙◌, subst}
use Rattle.turn_table.specs.Places.{saw}
use Rattle.arc_core.specs.declared.config.Config.{Config}
use Rattle.arc_table.specs.declared.about.About.{About}
use Rattle.arc_table.specs.Geometry.{IsCell}
use Rattle.turn_table.specs.Board.{IsAmong}
use Rattle.turn_table.specs.Places.{Place}
use Rattle.arc_table.specs.declared.view.Known.{Known}
use Rattle.arc_table.proofs.Boards.{cell_there, loses_about}
use Rattle.arc_table.proofs.Rows.{first_or_rest}
use Rattle.arc_table.proofs.arcs.Arcs.take_cell.Goals as goal

pub into_cell-requires : goal.into_cell-requires
into_cell-requires g c =
    let m = g.C.Keeps in
    let t = c.take.ensures in
    let p = c.args.party.now in
    cell_there m (saw p t.1) c.args.i c.take.result t.3
    (subst (λ (x : Config). IsCell x c.args.i) (sym (ap (λ (x : About). x.config) (loses_about m c.args.i t.0 p (saw p t.1) t.2) ∙ c.requires.party.config)) c.requires.range)

pub returns-clause-party : goal.returns-clause-party
returns-clause-party g c =
    let m = g.C.Keeps in
    let t = c.take.ensures in
    let p = c.args.party.now in
    let about = loses_about m c.args.i t.0 p (saw p t.1) t.2 in
    record {
      row = (ap (λ (x : Place (Known g.row.C.Denot)). x.table) t.4 ∙ c.requires.party.row.0, ap (λ (x : Place (Known g.row.C.Denot)). x.parties) t.4 ∙ c.requires.party.row.1);
      config = ap (λ (x : Place (Known g.row.C.Denot)). x.own.about.config) t.4 ∙ (ap (λ (x : About). x.config) about ∙ c.requires.party.config);
    }

pub returns-clause-free : goal.returns-clause-free
returns-clause-free g c i among = first_or_rest (IsCell c.args.self.now.config) c.args.i c.args.party.now.held c.requires.range c.requires.look i (subst (λ (x : Place (Known g.row.C.Denot)). IsAmong i x.held) c.take.ensures.4 among)
