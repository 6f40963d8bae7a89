use Rattle.trace_text.proofs.LawLemmas.{trace-one}
use Rattle.trace_text.proofs.laws.one_trace.Goals as goal

pub returns : goal.returns
returns c = λ text one other p q. trace-one text one other p q
