use Rattle.std.proofs.Common.{◌≡◌, length}
use Rattle.arc_core.proofs.picks.Picks.clear.Given as goal

abbrev pub invariant-loop-key : goal.invariant-loop-key
invariant-loop-key l = l.self.spare ≡ l.fn.self.spare

-- each turn takes a pick
abbrev pub decreases-loop-key : goal.decreases-loop-key
decreases-loop-key l = length l.self.items
