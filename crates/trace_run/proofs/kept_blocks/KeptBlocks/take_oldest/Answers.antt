use Rattle.trace_run.proofs.KeptQueueLemmas.{still-under, taken-out}
use Rattle.trace_run.proofs.kept_blocks.KeptBlocks.take_oldest.Goals as goal

pub invariant_of-self : goal.invariant_of-self
invariant_of-self c = still-under c.args.block c.self.inside.reads c.take_oldest.new.self c.self.invariant c.take_oldest.result c.take_oldest.ensures

pub returns : goal.returns
returns c = rw (← c.self.view_is) (taken-out c.args.block c.self.inside.reads c.take_oldest.new.self c.self.invariant c.take_oldest.result c.take_oldest.ensures)
