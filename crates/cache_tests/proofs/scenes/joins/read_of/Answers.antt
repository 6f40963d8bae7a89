use Rattle.arc_examples.proofs.Gets.{read-ready}
use Rattle.cache_tests.proofs.scenes.joins.read_of.Goals as goal

pub returns : goal.returns
returns g c = read-ready _ c.args.arcs.now c.args.ptr.now 1 c.args.party.now c.read.new.party c.requires _ _ _ _ c.read.result c.read.ensures.answer
