use Rattle.std.proofs.Common.{◌+◌, ◌∙◌, arith}
use Rattle.dbuf_state.proofs.RankLemmas.{leaf_written, row_written}
use Rattle.dbuf_state.proofs.ranks.write.Goals as goal

pub replay-requires-clause-others : goal.replay-requires-clause-others
replay-requires-clause-others c = leaf_written c.args.half (c.args.half + c.args.place) c.args.nodes.now c.args.rank c.requires.tournament (omega arith)

pub returns-clause-leaves : goal.returns-clause-leaves
returns-clause-leaves c = c.replay.ensures.leaves ∙ row_written c.args.half c.args.place c.args.nodes.now c.args.rank
