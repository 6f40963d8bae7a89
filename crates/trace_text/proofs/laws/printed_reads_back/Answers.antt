use Rattle.trace_text.proofs.PrintedLemmas.{printed-reads}
use Rattle.trace_text.proofs.laws.printed_reads_back.Goals as goal

pub returns : goal.returns
returns c = λ trace formed short. printed-reads trace formed short
