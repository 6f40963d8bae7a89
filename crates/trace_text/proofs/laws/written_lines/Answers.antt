use Rattle.trace_text.proofs.FormedLemmas.{IsWritten-trace}
use Rattle.trace_text.proofs.laws.written_lines.Goals as goal

pub returns : goal.returns
returns c = λ text trace t. IsWritten-trace text trace t
