use Rattle.std.proofs.Common.{◌-◌, arith}
use Rattle.dbuf_state.proofs.RankLemmas.{match_down}
use Rattle.dbuf_state.proofs.ranks.play.Goals as goal

pub loop-at-preserved : goal.loop-at-preserved
loop-at-preserved c =
    match_down c.args.half c.loop-at.at (c.loop-at.at - 1) c.args.nodes.now c.loop-at.nodes c.lesser.result c.loop-at.invariant c.loop-at-test.true (omega arith) c.lesser.ensures
