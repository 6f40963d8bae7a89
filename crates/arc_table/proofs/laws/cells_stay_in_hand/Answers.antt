use Rattle.arc_table.proofs.cell_lemmas.CellsInHand.{cell-kept, cell-kept-roomy, taken-cell}
use Rattle.arc_table.proofs.laws.cells_stay_in_hand.Goals as goal

pub returns-clause-taken : goal.returns-clause-taken
returns-clause-taken gh c g i cell owners w p valid same in_range lost free = taken-cell gh.C.Keeps g i cell owners w p valid same in_range lost free

pub returns-clause-kept : goal.returns-clause-kept
returns-clause-kept gh c g k es p q valid same d j among in_range = cell-kept gh.C.Keeps g valid k es p q same d j in_range among

pub returns-clause-roomy : goal.returns-clause-roomy
returns-clause-roomy gh c g k e p q valid same d j among in_range = cell-kept-roomy gh.C.Keeps g valid k e p q same d j in_range among
