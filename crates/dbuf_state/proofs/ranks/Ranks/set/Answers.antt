use Rattle.std.proofs.Common.{length, ap, arith}
use Rattle.std.proofs.lemmas.List.{length-drop}
use Rattle.dbuf_state.proofs.ranks.Ranks.set.Goals as goal

pub write-requires-clause-within : goal.write-requires-clause-within
write-requires-clause-within c =
    omega (arith, ap length c.self.view_is, length-drop c.self.inside.half c.self.inside.nodes.items, c.self.invariant.leaves)
