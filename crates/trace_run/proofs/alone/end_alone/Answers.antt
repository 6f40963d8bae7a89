use Rattle.trace_run.proofs.one_caller.EndAlone.{again-free, again-row, end-last, ended-as, may-end-as, seen-ends}
use Rattle.trace_run.proofs.alone.end_alone.Goals as goal

pub part-feeder-requires-clause-row : goal.part-feeder-requires-clause-row
part-feeder-requires-clause-row g c = c.requires.stands.of

pub part-feeder-requires-clause-free : goal.part-feeder-requires-clause-free
part-feeder-requires-clause-free g c = c.requires.stands.free

pub part-feeder-requires-clause-last : goal.part-feeder-requires-clause-last
part-feeder-requires-clause-last g c = end-last c.args.arcs.now c.args.party c.requires.one c.requires.number c.requires.rows c.requires.joined.0 c.requires.joined.1 c.requires.stands

pub end_cells_joined-requires : goal.end_cells_joined-requires
end_cells_joined-requires g c =
    may-end-as c.args.arcs.now c.args.party c.requires.one c.requires.number c.requires.rows c.requires.joined.0 c.requires.joined.1 c.requires.stands
    c.part-feeder.result c.part-feeder.new.party c.in_ok-callers.callers.items c.part-feeder.ensures.result c.part-feeder.ensures.party c.in_ok-callers.ensures.items

pub join-requires-clause-row : goal.join-requires-clause-row
join-requires-clause-row g c =
    again-row c.args.arcs.now c.args.party c.requires.one c.requires.number c.requires.rows c.requires.joined.0 c.requires.joined.1 c.requires.stands c.in_ok-feeder.feeder c.in-Some.party
    (ended-as c.args.arcs.now c.args.party c.requires.one c.requires.number c.requires.rows c.requires.joined.0 c.requires.joined.1 c.requires.stands c.part-feeder.result c.part-feeder.new.party c.in_ok-feeder.feeder c.in-Some.party
    c.in_ok-callers.callers.items c.in_ok-feeder.callers.items c.pop.new.self.items c.part-feeder.ensures.result c.part-feeder.ensures.party c.in_ok-callers.ensures.items c.in_ok-feeder.ensures c.in-Some.ensures.items)

pub join-requires-clause-free : goal.join-requires-clause-free
join-requires-clause-free g c =
    again-free c.args.arcs.now c.args.party c.requires.one c.requires.number c.requires.rows c.requires.joined.0 c.requires.joined.1 c.requires.stands c.in_ok-feeder.feeder c.in-Some.party
    (ended-as c.args.arcs.now c.args.party c.requires.one c.requires.number c.requires.rows c.requires.joined.0 c.requires.joined.1 c.requires.stands c.part-feeder.result c.part-feeder.new.party c.in_ok-feeder.feeder c.in-Some.party
    c.in_ok-callers.callers.items c.in_ok-feeder.callers.items c.pop.new.self.items c.part-feeder.ensures.result c.part-feeder.ensures.party c.in_ok-callers.ensures.items c.in_ok-feeder.ensures c.in-Some.ensures.items)

pub returns : goal.returns
returns g c = λ openings joined.
    seen-ends c.args.arcs.now c.args.party c.requires.one c.requires.number c.requires.rows openings joined c.requires.stands c.in_ok-feeder.feeder c.in-Some.party
    (ended-as c.args.arcs.now c.args.party c.requires.one c.requires.number c.requires.rows openings joined c.requires.stands c.part-feeder.result c.part-feeder.new.party c.in_ok-feeder.feeder c.in-Some.party
    c.in_ok-callers.callers.items c.in_ok-feeder.callers.items c.pop.new.self.items c.part-feeder.ensures.result c.part-feeder.ensures.party c.in_ok-callers.ensures.items c.in_ok-feeder.ensures c.in-Some.ensures.items)
    c.join.new.party (record { moment = c.join.ensures.moment; is = c.join.ensures.joined })
