use Rattle.arc_lint.proofs.SplitLemmas.{first-found, first-whole}
use Rattle.arc_lint.proofs.line.first_line.Goals as goal

pub returns-in-Some : goal.returns-in-Some
returns-in-Some c = first-found c.args.text.now c.in-Some.place c.in-Some.ensures

pub returns-in-None : goal.returns-in-None
returns-in-None c = first-whole c.args.text.now c.in-None.ensures
