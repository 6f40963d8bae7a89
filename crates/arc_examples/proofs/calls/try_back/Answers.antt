use Rattle.arc_examples.proofs.Gets.{dropped-back, dropped-holds, dropped-ready}
use Rattle.arc_examples.proofs.calls.try_back.Goals as goal

pub returns-in-Done-clause-ready : goal.returns-in-Done-clause-ready
returns-in-Done-clause-ready g c = dropped-ready _ c.args.arcs.now c.args.hold c.args.party.now c.try_drop.new.party c.requires.ready c.in-Done.ensures

pub returns-in-Done-clause-holds : goal.returns-in-Done-clause-holds
returns-in-Done-clause-holds g c = dropped-holds _ c.args.arcs.now c.args.hold c.args.party.now c.try_drop.new.party c.requires.ready c.in-Done.ensures c.requires.hold

pub returns-in-Done-clause-back : goal.returns-in-Done-clause-back
returns-in-Done-clause-back g c = dropped-back _ c.args.arcs.now c.args.hold c.args.party.now c.try_drop.new.party c.requires.ready c.in-Done.ensures c.requires.hold
