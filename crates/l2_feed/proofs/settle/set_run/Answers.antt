use Rattle.std.proofs.lemmas.List.{drop_all}
use Rattle.std.proofs.Common.{subst}
use Rattle.arc_table.specs.feeder.Feeding.{AnswersSet}
use Rattle.l2_feed.proofs.Loops.{gone_turn, picked_at, set_end, set_turn}
use Rattle.l2_feed.proofs.settle.set_run.Goals as goal
use Rattle.l2_feed.proofs.settle.set_run.Goals.{else-set, then-set}

pub set-requires-clause-look : goal.set-requires-clause-look
set-requires-clause-look g c = (c.loop-picked.invariant.feeding c.requires.feeding.0 c.requires.feeding.1 c.requires.feeding.2).on.look

pub set-requires-clause-picked : goal.set-requires-clause-picked
set-requires-clause-picked g c =
    picked_at g.C.Keeps c.args.arcs.now c.requires.feeding.0 c.args.run.now c.requires.feeding.1 c.loop-picked.picked-index c.picked-item.result c.loop-picked.party c.loop-picked-test.true c.picked-item.is (c.loop-picked.invariant.feeding c.requires.feeding.0 c.requires.feeding.1 c.requires.feeding.2)

pub returns-clause-acts : goal.returns-clause-acts
returns-clause-acts g c =
    (set_end g.C.Keeps c.args.arcs.now c.args.place c.args.run.now c.loop-picked.picked-index c.loop-picked.place c.loop-picked.written c.args.party.now c.loop-picked.party
    (drop_all c.loop-picked.picked-index c.args.run.now c.loop-picked-test.false) c.loop-picked.invariant).1

pub loop-picked-preserved : goal.loop-picked-preserved
loop-picked-preserved g c =
    let m = g.C.Keeps in
    let x = c.picked-item.result in
    let was = c.loop-picked in
    elim c.if-set.branch [
      | then-set w ↦ rw w.written-is (set_turn m c.args.arcs.now c.args.place c.args.run.now was.picked-index x was.place was.written c.args.party.now was.party c.set.new.party c.loop-picked-test.true c.picked-item.is was.invariant
          (subst (AnswersSet m c.args.arcs.now.config x.key was.place was.party c.set.new.party) w.if-set.true c.set.ensures))
      | else-set w ↦ rw w.written-is (gone_turn m c.args.arcs.now c.args.place c.args.run.now was.picked-index x was.place was.written c.args.party.now was.party c.set.new.party c.loop-picked-test.true c.picked-item.is was.invariant
          (subst (AnswersSet m c.args.arcs.now.config x.key was.place was.party c.set.new.party) w.if-set.false c.set.ensures))
    ]
