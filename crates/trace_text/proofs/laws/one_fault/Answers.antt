use Rattle.trace_text.proofs.LawLemmas.{fault-one, trace-faultless}
use Rattle.trace_text.proofs.laws.one_fault.Goals as goal

pub returns : goal.returns
returns c = record {
  no_trace = λ text trace line kind t f. trace-faultless text trace line kind t f;
  one = λ text m n j k f g. fault-one text m n j k f g;
}
