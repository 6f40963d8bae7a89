use Rattle.trace_text.proofs.GeneratorLemmas.{IsFormed-generated}
use Rattle.trace_text.proofs.generator.gen_trace.Goals as goal

pub returns-clause-formed : goal.returns-clause-formed
returns-clause-formed c = IsFormed-generated c.args.seed c.args.blocks c.args.ops _ c.requires.some c.requires.few c.requires.short c.in_ok-generated.ensures
