use Rattle.std.proofs.Common.{ℕ, subst}
use Rattle.trace_run.specs.callers.CallerLines.{HasFed}
use Rattle.trace_run.specs.Meeting.{resizes_in}
use Rattle.trace_run.proofs.one_caller.FedAlone.{again-feeder, again-free, again-row, again-stands, alone-fed, made-as, may-feed-as, part-last}
use Rattle.trace_run.proofs.alone.resize_alone.Goals as goal

pub part-feeder-requires-clause-row : goal.part-feeder-requires-clause-row
part-feeder-requires-clause-row g c = c.requires.stands.1.of

pub part-feeder-requires-clause-free : goal.part-feeder-requires-clause-free
part-feeder-requires-clause-free g c = c.requires.stands.1.free

pub part-feeder-requires-clause-last : goal.part-feeder-requires-clause-last
part-feeder-requires-clause-last g c = part-last c.args.arcs.now (resizes_in c.args.arcs.now.config.shards c.args.arcs.now.config.callers c.args.c) c.args.party c.requires.one c.requires.number c.requires.rows c.requires.joined.0 c.requires.joined.1

pub resize_joined-requires-clause-may : goal.resize_joined-requires-clause-may
resize_joined-requires-clause-may g c =
    may-feed-as c.args.arcs.now (resizes_in c.args.arcs.now.config.shards c.args.arcs.now.config.callers c.args.c) c.args.party c.requires.one c.requires.number c.requires.rows c.requires.joined.0 c.requires.joined.1 c.requires.stands.0 c.requires.stands.1
    c.part-feeder.result c.part-feeder.new.party c.in_ok-callers.callers.items c.part-feeder.ensures.result c.part-feeder.ensures.party c.in_ok-callers.ensures.items

pub join-requires-clause-row : goal.join-requires-clause-row
join-requires-clause-row g c =
    again-row c.args.arcs.now (resizes_in c.args.arcs.now.config.shards c.args.arcs.now.config.callers c.args.c) c.args.party c.requires.one c.requires.number c.requires.rows c.requires.joined.0 c.requires.joined.1 c.requires.stands.0 c.requires.stands.1 c.in_ok-feeder.feeder c.in-Some.party
    (made-as c.args.arcs.now (resizes_in c.args.arcs.now.config.shards c.args.arcs.now.config.callers c.args.c) c.args.party c.requires.one c.requires.number c.requires.rows c.requires.joined.0 c.requires.joined.1 c.requires.stands.0 c.requires.stands.1 c.part-feeder.result c.part-feeder.new.party c.in_ok-feeder.feeder c.in-Some.party
    c.in_ok-callers.callers.items c.in_ok-feeder.callers.items c.pop.new.self.items c.part-feeder.ensures.result c.part-feeder.ensures.party c.in_ok-callers.ensures.items c.in_ok-feeder.ensures c.in-Some.ensures.items)

pub join-requires-clause-free : goal.join-requires-clause-free
join-requires-clause-free g c =
    again-free c.args.arcs.now (resizes_in c.args.arcs.now.config.shards c.args.arcs.now.config.callers c.args.c) c.args.party c.requires.one c.requires.number c.requires.rows c.requires.joined.0 c.requires.joined.1 c.requires.stands.0 c.requires.stands.1 c.in_ok-feeder.feeder c.in-Some.party
    (made-as c.args.arcs.now (resizes_in c.args.arcs.now.config.shards c.args.arcs.now.config.callers c.args.c) c.args.party c.requires.one c.requires.number c.requires.rows c.requires.joined.0 c.requires.joined.1 c.requires.stands.0 c.requires.stands.1 c.part-feeder.result c.part-feeder.new.party c.in_ok-feeder.feeder c.in-Some.party
    c.in_ok-callers.callers.items c.in_ok-feeder.callers.items c.pop.new.self.items c.part-feeder.ensures.result c.part-feeder.ensures.party c.in_ok-callers.ensures.items c.in_ok-feeder.ensures c.in-Some.ensures.items)

pub returns-clause-stands : goal.returns-clause-stands
returns-clause-stands g c = λ had stands.
    again-stands c.args.arcs.now (resizes_in c.args.arcs.now.config.shards c.args.arcs.now.config.callers c.args.c) c.args.party c.requires.one c.requires.number c.requires.rows c.requires.joined.0 c.requires.joined.1 had stands _ c.in_ok-feeder.feeder c.in-Some.party c.join.new.party
    (made-as c.args.arcs.now (resizes_in c.args.arcs.now.config.shards c.args.arcs.now.config.callers c.args.c) c.args.party c.requires.one c.requires.number c.requires.rows c.requires.joined.0 c.requires.joined.1 had stands c.part-feeder.result c.part-feeder.new.party c.in_ok-feeder.feeder c.in-Some.party
    c.in_ok-callers.callers.items c.in_ok-feeder.callers.items c.pop.new.self.items c.part-feeder.ensures.result c.part-feeder.ensures.party c.in_ok-callers.ensures.items c.in_ok-feeder.ensures c.in-Some.ensures.items)
    (record { moment = c.join.ensures.moment; is = c.join.ensures.joined })

pub returns-clause-joined : goal.returns-clause-joined
returns-clause-joined g c = λ openings joined.
    again-feeder c.args.arcs.now (resizes_in c.args.arcs.now.config.shards c.args.arcs.now.config.callers c.args.c) c.args.party c.requires.one c.requires.number c.requires.rows openings joined c.requires.stands.0 c.requires.stands.1 _ c.in_ok-feeder.feeder c.in-Some.party c.join.new.party
    (made-as c.args.arcs.now (resizes_in c.args.arcs.now.config.shards c.args.arcs.now.config.callers c.args.c) c.args.party c.requires.one c.requires.number c.requires.rows openings joined c.requires.stands.0 c.requires.stands.1 c.part-feeder.result c.part-feeder.new.party c.in_ok-feeder.feeder c.in-Some.party
    c.in_ok-callers.callers.items c.in_ok-feeder.callers.items c.pop.new.self.items c.part-feeder.ensures.result c.part-feeder.ensures.party c.in_ok-callers.ensures.items c.in_ok-feeder.ensures c.in-Some.ensures.items)
    (record { moment = c.join.ensures.moment; is = c.join.ensures.joined })

pub returns-clause-did : goal.returns-clause-did
returns-clause-did g c =
    subst (λ (n : ℕ). HasFed c.args.arcs.now.config (resizes_in c.args.arcs.now.config.shards n c.args.c) c.args.party c.join.new.party) c.requires.one
    (alone-fed c.args.arcs.now (resizes_in c.args.arcs.now.config.shards c.args.arcs.now.config.callers c.args.c) c.args.party c.requires.one c.requires.number c.requires.rows c.requires.joined.0 c.requires.joined.1 c.requires.stands.0 c.requires.stands.1 _ c.in_ok-feeder.feeder c.in-Some.party c.join.new.party
    (made-as c.args.arcs.now (resizes_in c.args.arcs.now.config.shards c.args.arcs.now.config.callers c.args.c) c.args.party c.requires.one c.requires.number c.requires.rows c.requires.joined.0 c.requires.joined.1 c.requires.stands.0 c.requires.stands.1 c.part-feeder.result c.part-feeder.new.party c.in_ok-feeder.feeder c.in-Some.party
    c.in_ok-callers.callers.items c.in_ok-feeder.callers.items c.pop.new.self.items c.part-feeder.ensures.result c.part-feeder.ensures.party c.in_ok-callers.ensures.items c.in_ok-feeder.ensures c.in-Some.ensures.items)
    (record { moment = c.join.ensures.moment; is = c.join.ensures.joined }))
