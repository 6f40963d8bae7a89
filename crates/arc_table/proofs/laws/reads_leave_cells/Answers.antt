use Rattle.arc_table.proofs.cell_lemmas.CellsInReads.{read-keeps-cell}
use Rattle.arc_table.proofs.laws.reads_leave_cells.Goals as goal

pub returns : goal.returns
returns gh c g ptr t before now p q result valid same a j among in_range = read-keeps-cell gh.C.Keeps g valid j in_range gh.P.Pool gh.D.CacheDev ptr t before now p q result same among a
