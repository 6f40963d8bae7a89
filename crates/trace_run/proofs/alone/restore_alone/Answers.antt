use Rattle.std.proofs.Common.{[]}
use Rattle.trace_run.specs.Restores.{restores_in}
use Rattle.trace_run.proofs.one_caller.FedAlone.{again-feeder, again-free, again-row, again-stands, alone-fed, made-as, may-feed-as, part-last}
use Rattle.trace_run.proofs.alone.restore_alone.Goals as goal

pub part-feeder-requires-clause-row : goal.part-feeder-requires-clause-row
part-feeder-requires-clause-row g c = c.requires.stands.of

pub part-feeder-requires-clause-free : goal.part-feeder-requires-clause-free
part-feeder-requires-clause-free g c = c.requires.stands.free

pub part-feeder-requires-clause-last : goal.part-feeder-requires-clause-last
part-feeder-requires-clause-last g c = part-last c.args.arcs.now (restores_in c.args.arcs.now.config c.args.restored.now) c.args.party c.requires.one c.requires.number c.requires.rows c.requires.joined.0 c.requires.joined.1

pub restore_joined-requires-clause-may : goal.restore_joined-requires-clause-may
restore_joined-requires-clause-may g c =
    may-feed-as c.args.arcs.now (restores_in c.args.arcs.now.config c.args.restored.now) c.args.party c.requires.one c.requires.number c.requires.rows c.requires.joined.0 c.requires.joined.1 [] c.requires.stands
    c.part-feeder.result c.part-feeder.new.party c.in_ok-callers.callers.items c.part-feeder.ensures.result c.part-feeder.ensures.party c.in_ok-callers.ensures.items

pub join-requires-clause-row : goal.join-requires-clause-row
join-requires-clause-row g c =
    again-row c.args.arcs.now (restores_in c.args.arcs.now.config c.args.restored.now) c.args.party c.requires.one c.requires.number c.requires.rows c.requires.joined.0 c.requires.joined.1 [] c.requires.stands c.in_ok-feeder.feeder c.in-Some.party
    (made-as c.args.arcs.now (restores_in c.args.arcs.now.config c.args.restored.now) c.args.party c.requires.one c.requires.number c.requires.rows c.requires.joined.0 c.requires.joined.1 [] c.requires.stands c.part-feeder.result c.part-feeder.new.party c.in_ok-feeder.feeder c.in-Some.party
    c.in_ok-callers.callers.items c.in_ok-feeder.callers.items c.pop.new.self.items c.part-feeder.ensures.result c.part-feeder.ensures.party c.in_ok-callers.ensures.items c.in_ok-feeder.ensures c.in-Some.ensures.items)

pub join-requires-clause-free : goal.join-requires-clause-free
join-requires-clause-free g c =
    again-free c.args.arcs.now (restores_in c.args.arcs.now.config c.args.restored.now) c.args.party c.requires.one c.requires.number c.requires.rows c.requires.joined.0 c.requires.joined.1 [] c.requires.stands c.in_ok-feeder.feeder c.in-Some.party
    (made-as c.args.arcs.now (restores_in c.args.arcs.now.config c.args.restored.now) c.args.party c.requires.one c.requires.number c.requires.rows c.requires.joined.0 c.requires.joined.1 [] c.requires.stands c.part-feeder.result c.part-feeder.new.party c.in_ok-feeder.feeder c.in-Some.party
    c.in_ok-callers.callers.items c.in_ok-feeder.callers.items c.pop.new.self.items c.part-feeder.ensures.result c.part-feeder.ensures.party c.in_ok-callers.ensures.items c.in_ok-feeder.ensures c.in-Some.ensures.items)

pub returns-clause-stands : goal.returns-clause-stands
returns-clause-stands g c =
    again-stands c.args.arcs.now (restores_in c.args.arcs.now.config c.args.restored.now) c.args.party c.requires.one c.requires.number c.requires.rows c.requires.joined.0 c.requires.joined.1 [] c.requires.stands _ c.in_ok-feeder.feeder c.in-Some.party c.join.new.party
    (made-as c.args.arcs.now (restores_in c.args.arcs.now.config c.args.restored.now) c.args.party c.requires.one c.requires.number c.requires.rows c.requires.joined.0 c.requires.joined.1 [] c.requires.stands c.part-feeder.result c.part-feeder.new.party c.in_ok-feeder.feeder c.in-Some.party
    c.in_ok-callers.callers.items c.in_ok-feeder.callers.items c.pop.new.self.items c.part-feeder.ensures.result c.part-feeder.ensures.party c.in_ok-callers.ensures.items c.in_ok-feeder.ensures c.in-Some.ensures.items)
    (record { moment = c.join.ensures.moment; is = c.join.ensures.joined })

pub returns-clause-joined : goal.returns-clause-joined
returns-clause-joined g c = λ openings joined.
    again-feeder c.args.arcs.now (restores_in c.args.arcs.now.config c.args.restored.now) c.args.party c.requires.one c.requires.number c.requires.rows openings joined [] c.requires.stands _ c.in_ok-feeder.feeder c.in-Some.party c.join.new.party
    (made-as c.args.arcs.now (restores_in c.args.arcs.now.config c.args.restored.now) c.args.party c.requires.one c.requires.number c.requires.rows openings joined [] c.requires.stands c.part-feeder.result c.part-feeder.new.party c.in_ok-feeder.feeder c.in-Some.party
    c.in_ok-callers.callers.items c.in_ok-feeder.callers.items c.pop.new.self.items c.part-feeder.ensures.result c.part-feeder.ensures.party c.in_ok-callers.ensures.items c.in_ok-feeder.ensures c.in-Some.ensures.items)
    (record { moment = c.join.ensures.moment; is = c.join.ensures.joined })

pub returns-clause-fed : goal.returns-clause-fed
returns-clause-fed g c =
    alone-fed c.args.arcs.now (restores_in c.args.arcs.now.config c.args.restored.now) c.args.party c.requires.one c.requires.number c.requires.rows c.requires.joined.0 c.requires.joined.1 [] c.requires.stands _ c.in_ok-feeder.feeder c.in-Some.party c.join.new.party
    (made-as c.args.arcs.now (restores_in c.args.arcs.now.config c.args.restored.now) c.args.party c.requires.one c.requires.number c.requires.rows c.requires.joined.0 c.requires.joined.1 [] c.requires.stands c.part-feeder.result c.part-feeder.new.party c.in_ok-feeder.feeder c.in-Some.party
    c.in_ok-callers.callers.items c.in_ok-feeder.callers.items c.pop.new.self.items c.part-feeder.ensures.result c.part-feeder.ensures.party c.in_ok-callers.ensures.items c.in_ok-feeder.ensures c.in-Some.ensures.items)
    (record { moment = c.join.ensures.moment; is = c.join.ensures.joined })
