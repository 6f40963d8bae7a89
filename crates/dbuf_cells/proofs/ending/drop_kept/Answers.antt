use Rattle.std.proofs.Common.{refl, ◌∙◌}
use Rattle.dbuf_cells.proofs.Holders.{none-held}
use Rattle.dbuf_cells.proofs.ending.drop_kept.Goals as goal

pub loop-at-init : goal.loop-at-init
loop-at-init g c = record { empties = λ p before h. h; room = refl }

pub drop_first-requires-clause-hand : goal.drop_first-requires-clause-hand
drop_first-requires-clause-hand g c = let m = c.requires.hand in (m.0, m.1, c.loop-at.invariant.empties m.0 m.1 m.2)

pub loop-at-preserved : goal.loop-at-preserved
loop-at-preserved g c =
    let i = c.loop-at.invariant in
    let e = c.drop_first.ensures in record {
      empties = λ p before h. e.empties p before (i.empties p before h);
      room = e.room ∙ i.room;
    }

pub returns-clause-loose : goal.returns-clause-loose
returns-clause-loose g c = none-held c.loop-at.cell.dbufs c.told.ensures.fit c.in_default.ensures
