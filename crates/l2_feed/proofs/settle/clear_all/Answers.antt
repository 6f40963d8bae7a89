use Rattle.std.proofs.Common.{None, get_or, subst}
use Rattle.arc_table.specs.feeder.Feeding.{AnswersClear}
use Rattle.l2_ring.specs.declared.live.Live.{Live}
use Rattle.std.proofs.lemmas.List.{drop_all}
use Rattle.l2_feed.proofs.Lists.{item_is}
use Rattle.l2_feed.proofs.Loops.{cleared_end, done_turn, not_turn, refused_turn}
use Rattle.l2_feed.proofs.settle.clear_all.Goals as goal
use Rattle.l2_feed.proofs.settle.clear_all.Goals.{in-Err, in-Ok-Done, in-Ok-Not}

pub returns-clause-acts : goal.returns-clause-acts
returns-clause-acts g c =
    cleared_end g.C.Keeps c.args.arcs.now c.args.cleared.now c.args.dropped.now c.loop-live.live-index c.loop-live.cleared c.loop-live.result c.args.party.now c.loop-live.party
    (drop_all c.loop-live.live-index c.args.dropped.now c.loop-live-test.false) c.loop-live.invariant

pub loop-live-preserved : goal.loop-live-preserved
loop-live-preserved g c =
    let m = g.C.Keeps in
    let cache = c.args.arcs.now in
    let was = c.loop-live in
    let ls = c.args.dropped.now in
    let below = c.loop-live-test.true in
    let d : Live = record { key = record { offset = 0; size = 0; birth = 0 }; place = 0; digest = None } in
    let l : Live = get_or ls was.live-index d in
    elim c.match-clear.branch [
      | in-Ok-Done w ↦ rw (w.cleared-is, w.result-is) (done_turn m cache c.args.cleared.now ls was.live-index was.cleared l was.result c.args.party.now was.party c.clear.new.party below (item_is ls was.live-index d below) was.invariant
          (subst (AnswersClear m cache.config l.key l.place was.party c.clear.new.party) w.in-Ok-Done.field-0-is w.in-Ok-Done.ensures.ok))
      | in-Ok-Not w ↦ rw (w.cleared-is, w.result-is) (not_turn m cache c.args.cleared.now ls was.live-index was.cleared l was.result c.args.party.now was.party c.clear.new.party below (item_is ls was.live-index d below) was.invariant _
          (subst (AnswersClear m cache.config l.key l.place was.party c.clear.new.party) w.in-Ok-Not.field-0-is w.in-Ok-Not.ensures.ok))
      | in-Err w ↦ rw (w.cleared-is, w.result-is) (refused_turn m cache c.args.cleared.now ls was.live-index was.cleared l was.result c.args.party.now was.party c.clear.new.party below (item_is ls was.live-index d below) was.invariant _ w.in-Err.ensures.err)
    ]
