use Rattle.std.proofs.Common.{subst, arith}
use Rattle.std.specs.Prelude.{None}
use Rattle.std.proofs.lemmas.List.{get_or_read}
use Rattle.dbuf_state.specs.Ranks.{IsLeast}
use Rattle.dbuf_state.proofs.RankLemmas.{no_winner, winner_read}
use Rattle.dbuf_state.proofs.ranks.Ranks.least.Goals as goal

pub returns-then-self-eq0 : goal.returns-then-self-eq0
returns-then-self-eq0 c = subst (IsLeast _) c.self.view_is (no_winner c.self.inside.half c.self.inside.nodes.items c.self.invariant c.if-self-eq0.true)

pub returns-else-self-eq0 : goal.returns-else-self-eq0
returns-else-self-eq0 c = subst (IsLeast _) c.self.view_is (winner_read c.self.inside.half c.self.inside.nodes.items c.index.result.now c.self.invariant (omega (arith, c.if-self-eq0.false)) (get_or_read c.self.inside.nodes.items 1 c.index.result.now (omega (arith, c.self.invariant.leaves, c.if-self-eq0.false)) c.index.ensures None))
