use Rattle.arc_check.proofs.LawLemmas.{log-one}
use Rattle.arc_check.proofs.laws.one_log.Goals as goal

pub returns : goal.returns
returns c = λ text one other p q. log-one text one other p q
