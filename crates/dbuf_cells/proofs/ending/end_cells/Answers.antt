use Rattle.std.proofs.Common.{◌∙◌}
use Rattle.dbuf_cells.proofs.Endings.{ends-next}
use Rattle.dbuf_cells.proofs.ending.end_cells.Goals as goal

pub loop-i-preserved : goal.loop-i-preserved
loop-i-preserved g c =
    let v = c.loop-i.invariant in
    let e = c.in_ok-end_cell.ensures in record {
      ends = ends-next c.args.arcs.now.config c.loop-i.i c.args.party.now c.loop-i.party c.end_cell.new.party v.ends e.ok;
      party = e.party;
      free = e.free;
      number = e.number ∙ v.number;
      claims = λ j. e.claims j ∙ v.claims j;
    }
