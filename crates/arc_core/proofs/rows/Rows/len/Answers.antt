use Rattle.std.proofs.Common.{sym, ◌∙◌}
use Rattle.arc_core.proofs.SeatRows.{length-seated}
use Rattle.arc_core.proofs.rows.Rows.len.Goals as goal

pub returns : goal.returns
returns c = rw (← c.self.view_is) (c.len.ensures ∙ sym (length-seated c.self.inside.table.rows))
