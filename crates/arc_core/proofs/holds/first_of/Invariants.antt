use Rattle.std.proofs.Common.{◌≡◌, drop}
use Rattle.arc_core.specs.View.{first_holder}
use Rattle.arc_core.proofs.holds.first_of.Given as goal

-- what is left decides
abbrev pub invariant-loop-n : goal.invariant-loop-n
invariant-loop-n l = first_holder l.n (drop l.n l.counts) ≡ first_holder 0 l.counts
