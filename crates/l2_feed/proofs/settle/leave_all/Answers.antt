use Rattle.std.proofs.Common.{[], subst}
use Rattle.std.proofs.lemmas.List.{drop_all}
use Rattle.arc_core.specs.declared.event.Why.{Why}
use Rattle.arc_table.specs.feeder.Feeding.{Leaves}
use Rattle.l2_feed.specs.Shape.{stop_of, why_of}
use Rattle.l2_feed.proofs.Loops.{left_end, left_turn, only, picked_at}
use Rattle.l2_feed.proofs.settle.leave_all.Goals as goal

pub leave-requires-clause-look : goal.leave-requires-clause-look
leave-requires-clause-look g c = (c.loop-picked.invariant.feeding c.requires.0 c.requires.1).on.look

pub leave-requires-clause-picked : goal.leave-requires-clause-picked
leave-requires-clause-picked g c =
    picked_at g.C.Keeps c.args.arcs.now c.requires.0 c.args.blocks.now [] c.loop-picked.picked-index c.picked-item.result c.loop-picked.party c.loop-picked-test.true c.picked-item.is (only g.C.Keeps c.args.arcs.now c.requires.0 _ c.loop-picked.party (c.loop-picked.invariant.feeding c.requires.0 c.requires.1))

pub loop-picked-preserved : goal.loop-picked-preserved
loop-picked-preserved g c =
    let m = g.C.Keeps in
    left_turn m c.args.arcs.now (why_of (stop_of c.args.fault)) c.args.blocks.now c.loop-picked.picked-index c.picked-item.result c.args.party.now c.loop-picked.party c.leave.new.party c.loop-picked-test.true c.picked-item.is c.loop-picked.invariant
    (subst (λ (w : Why). Leaves m c.args.arcs.now.config c.picked-item.result.key w c.loop-picked.party c.leave.new.party) c.why_of-why.ensures c.leave.ensures)

pub returns-clause-acts : goal.returns-clause-acts
returns-clause-acts g c =
    (left_end g.C.Keeps c.args.arcs.now (why_of (stop_of c.args.fault)) c.args.blocks.now c.loop-picked.picked-index c.args.party.now c.loop-picked.party
    (drop_all c.loop-picked.picked-index c.args.blocks.now c.loop-picked-test.false) c.loop-picked.invariant).1

pub returns-clause-feeding : goal.returns-clause-feeding
returns-clause-feeding g c =
    (left_end g.C.Keeps c.args.arcs.now (why_of (stop_of c.args.fault)) c.args.blocks.now c.loop-picked.picked-index c.args.party.now c.loop-picked.party
    (drop_all c.loop-picked.picked-index c.args.blocks.now c.loop-picked-test.false) c.loop-picked.invariant).0
