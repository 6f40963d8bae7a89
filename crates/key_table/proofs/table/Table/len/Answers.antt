use Rattle.std.proofs.Common.{sym, ◌∙◌}
use Rattle.key_table.proofs.Rows.{len}
use Rattle.key_table.proofs.table.Table.len.Goals as goal

pub returns : goal.returns
returns g c = rw (← c.self.view_is) (c.len.ensures ∙ sym (len c.self.inside.slots))
