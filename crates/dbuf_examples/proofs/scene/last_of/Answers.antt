use Rattle.std.proofs.Common.{subst}
use Rattle.arc_examples.specs.Ready.{AreNew}
use Rattle.arc_examples.proofs.Newcomers.{new-last, new-split}
use Rattle.dbuf_examples.proofs.scene.last_of.Goals as goal

pub returns-in-Some-clause-one : goal.returns-in-Some-clause-one
returns-in-Some-clause-one c =
    let new = new-last c.args.arcs.now c.pop.new.self.items c.in-Some.party (subst (AreNew c.args.arcs.now 0) c.in-Some.ensures.items c.requires) in
    record { ready = new.ready; number = new.number }

pub returns-in-Some-clause-rest : goal.returns-in-Some-clause-rest
returns-in-Some-clause-rest c = (new-split c.args.arcs.now c.pop.new.self.items c.in-Some.party 0 (subst (AreNew c.args.arcs.now 0) c.in-Some.ensures.items c.requires)).0
