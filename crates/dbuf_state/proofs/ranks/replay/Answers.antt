use Rattle.std.proofs.Common.{◌/◌, refl}
use Rattle.dbuf_state.proofs.RankLemmas.{match_up}
use Rattle.dbuf_state.proofs.ranks.replay.Goals as goal

pub loop-at-preserved : goal.loop-at-preserved
loop-at-preserved c =
    match_up c.args.half c.loop-at.at (c.loop-at.at / 2) c.args.nodes.now c.loop-at.nodes c.lesser.result c.loop-at.invariant c.loop-at-test.true refl c.lesser.ensures
