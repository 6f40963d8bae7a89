use Rattle.trace_run.specs.Words.{texts}
use Rattle.trace_run.proofs.theorem.WordLemmas.{check_alone, check_second}
use Rattle.trace_run.proofs.words.parse_check.Goals as goal

pub returns-in-None : goal.returns-in-None
returns-in-None c = (check_alone (texts c.args.words.now) c.requires c.in-None.ensures, tt)

pub returns-in-Some : goal.returns-in-Some
returns-in-Some c = check_second (texts c.args.words.now) c.in-Some.field-0.now c.requires c.in-Some.ensures
