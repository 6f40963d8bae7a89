use Rattle.arc_table.proofs.cell_lemmas.EntriesSeen.{given-entries, given-sees, seen-at-take}
use Rattle.arc_table.proofs.laws.parties_see_their_entries.Goals as goal

pub returns-clause-take : goal.returns-clause-take
returns-clause-take gh c g i cell owners w p config in_range lost free all = seen-at-take gh.C.Keeps g i cell owners w p config in_range lost free all

pub returns-clause-give : goal.returns-clause-give
returns-clause-give gh c g i cell p in_range given front all = (given-sees gh.C.Keeps g i cell p in_range given front all.0, given-entries gh.C.Keeps g i cell p in_range given front all.1)
