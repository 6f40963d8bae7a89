use Rattle.std.proofs.Common.{subst}
use Rattle.arc_examples.specs.Ready.{AreNew}
use Rattle.arc_examples.proofs.Newcomers.{new-last, new-split}
use Rattle.arc_examples.proofs.scene.last_of.Goals as goal

pub returns-in-Some-clause-last : goal.returns-in-Some-clause-last
returns-in-Some-clause-last c = new-last c.args.arcs.now c.pop.new.self.items c.in-Some.party (subst (AreNew c.args.arcs.now 0) c.in-Some.ensures.items c.requires)

pub returns-in-Some-clause-ready : goal.returns-in-Some-clause-ready
returns-in-Some-clause-ready c = (new-last c.args.arcs.now c.pop.new.self.items c.in-Some.party (subst (AreNew c.args.arcs.now 0) c.in-Some.ensures.items c.requires)).ready

pub returns-in-Some-clause-number : goal.returns-in-Some-clause-number
returns-in-Some-clause-number c = (new-last c.args.arcs.now c.pop.new.self.items c.in-Some.party (subst (AreNew c.args.arcs.now 0) c.in-Some.ensures.items c.requires)).number

pub returns-in-Some-clause-rest : goal.returns-in-Some-clause-rest
returns-in-Some-clause-rest c = (new-split c.args.arcs.now c.pop.new.self.items c.in-Some.party 0 (subst (AreNew c.args.arcs.now 0) c.in-Some.ensures.items c.requires)).0
