use Rattle.std.proofs.Common.{[], map, ap, ◌∙◌}
use Rattle.dbuf_cells.specs.Turns.{PartyPlace}
use Rattle.trace_run.proofs.EndSteps.{ended-cells, last-of, q-stands}
use Rattle.trace_run.proofs.callers.TurnLemmas.{all-may, may-join}
use Rattle.trace_run.proofs.cells.end_cells_joined.Goals as goal

pub join_all-requires-clause-party : goal.join_all-requires-clause-party
join_all-requires-clause-party g c = may-join c.args.arcs.now [] c.args.feeder c.requires.stands c.requires.alone

pub join_all-requires-clause-others : goal.join_all-requires-clause-others
join_all-requires-clause-others g c = all-may c.args.arcs.now c.args.others.items c.requires.apart

pub end_cells-requires-clause-party : goal.end_cells-requires-clause-party
end_cells-requires-clause-party g c =
    let r = c.requires in
    (q-stands c.args.arcs.now c.args.feeder c.args.others.items r.stands r.alone r.apart r.everyone r.count r.differ c.join_all.new.party c.join_all.ensures).of

pub end_cells-requires-clause-valid : goal.end_cells-requires-clause-valid
end_cells-requires-clause-valid g c = c.requires.stands.valid

pub end_cells-requires-clause-free : goal.end_cells-requires-clause-free
end_cells-requires-clause-free g c =
    let r = c.requires in
    (q-stands c.args.arcs.now c.args.feeder c.args.others.items r.stands r.alone r.apart r.everyone r.count r.differ c.join_all.new.party c.join_all.ensures).free

pub part_all-requires-clause-party : goal.part_all-requires-clause-party
part_all-requires-clause-party g c = (c.end_cells.ensures.party, c.end_cells.ensures.free)

pub part_all-requires-clause-numbers : goal.part_all-requires-clause-numbers
part_all-requires-clause-numbers g c =
    let r = c.requires in
    last-of c.args.arcs.now c.args.feeder c.args.others.items r.stands r.alone r.apart r.everyone r.count r.differ c.join_all.new.party c.join_all.ensures
    c.end_cells.new.party c.in_ok-end_cells.ensures.answer c.end_cells.ensures.party c.end_cells.ensures.free c.end_cells.ensures.claims
    c.in_ok-numbers.numbers.items (c.in_ok-numbers.ensures ∙ ap (map (λ (p : PartyPlace). p.number)) c.deref.ensures.value)

pub returns : goal.returns
returns g c =
    let r = c.requires in
    ended-cells c.args.arcs.now c.args.feeder c.args.others.items r.stands r.alone r.apart r.everyone r.count r.differ c.join_all.new.party c.join_all.ensures
    c.end_cells.new.party c.in_ok-end_cells.ensures.answer c.end_cells.ensures.party c.end_cells.ensures.free c.end_cells.ensures.claims
    c.in_ok-numbers.numbers.items (c.in_ok-numbers.ensures ∙ ap (map (λ (p : PartyPlace). p.number)) c.deref.ensures.value) c.in_ok-others.others.items c.part_all.new.party c.in_ok-others.ensures
