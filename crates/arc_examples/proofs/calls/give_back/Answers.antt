use Rattle.arc_examples.proofs.Gets.{dropped-back, dropped-holds, dropped-ready}
use Rattle.arc_examples.proofs.Ready.{ready-looks}
use Rattle.arc_examples.proofs.calls.give_back.Goals as goal

pub drop_hold-requires-clause-look : goal.drop_hold-requires-clause-look
drop_hold-requires-clause-look g c = ready-looks c.args.arcs.now c.args.party.now c.requires.ready

pub returns-clause-ready : goal.returns-clause-ready
returns-clause-ready g c = dropped-ready _ c.args.arcs.now c.args.hold c.args.party.now c.drop_hold.new.party c.requires.ready c.drop_hold.ensures

pub returns-clause-holds : goal.returns-clause-holds
returns-clause-holds g c = dropped-holds _ c.args.arcs.now c.args.hold c.args.party.now c.drop_hold.new.party c.requires.ready c.drop_hold.ensures c.requires.hold

pub returns-clause-back : goal.returns-clause-back
returns-clause-back g c = dropped-back _ c.args.arcs.now c.args.hold c.args.party.now c.drop_hold.new.party c.requires.ready c.drop_hold.ensures c.requires.hold
