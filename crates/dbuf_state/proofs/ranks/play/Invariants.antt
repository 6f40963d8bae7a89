use Rattle.dbuf_state.proofs.RankLemmas.{IsPlaying}
use Rattle.dbuf_state.proofs.ranks.play.Given as goal

abbrev pub invariant-loop-at : goal.invariant-loop-at
invariant-loop-at l = IsPlaying l.half l.at l.initial.nodes l.nodes

abbrev pub decreases-loop-at : goal.decreases-loop-at
decreases-loop-at l = l.at
