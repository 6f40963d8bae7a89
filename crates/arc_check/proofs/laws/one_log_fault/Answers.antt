use Rattle.arc_check.proofs.LawLemmas.{fault-one, log-faultless}
use Rattle.arc_check.proofs.laws.one_log_fault.Goals as goal

pub returns-clause-no_log : goal.returns-clause-no_log
returns-clause-no_log c = λ text log line kind p q. log-faultless text log line kind p q

pub returns-clause-one : goal.returns-clause-one
returns-clause-one c = λ text line other_line kind other_kind p q. fault-one text line other_line kind other_kind p q
