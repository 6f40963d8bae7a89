use Rattle.std.proofs.Common.{arith}
use Rattle.trace_text.proofs.FormedLemmas.{IsFormed-trace}
use Rattle.trace_text.proofs.reader.read_trace.Goals as goal

pub returns-in-Some-clause-formed : goal.returns-in-Some-clause-formed
returns-in-Some-clause-formed c =
    IsFormed-trace c.args.bytes.now c.in-Some.trace (record { limited = c.in_ok-read_lines.field-0.limited; short = omega arith; said = rw (← c.in-Some.ensures) c.in_ok-read_lines.ensures.read })
