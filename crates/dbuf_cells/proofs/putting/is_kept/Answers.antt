use Rattle.std.proofs.Common.{◌∙◌}
use Rattle.dbuf_cells.proofs.PutSteps.{kept-tells}
use Rattle.dbuf_cells.proofs.putting.is_kept.Goals as goal

pub returns : goal.returns
returns c = c.is_kept_by.ensures ∙ kept-tells c.args.at c.args.cell.now.dbufs c.mapped-mapped.result c.state-state.result c.mapped-mapped.ensures c.state-state.ensures.state
