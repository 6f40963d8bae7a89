use Rattle.dbuf_cells.proofs.Told.{cells-told, mapped-sizes-pass}
use Rattle.dbuf_cells.proofs.laws.cells_are_told.Goals as goal

pub returns : goal.returns
returns c = record { told = cells-told; sizes = mapped-sizes-pass }
