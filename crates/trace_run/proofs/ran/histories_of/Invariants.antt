use Rattle.std.proofs.Common.{◌≡◌, map, take}
use Rattle.std.specs.Arc.{arc_value}
use Rattle.trace_run.proofs.ran.histories_of.Given as goal

-- the histories of the shards so far
abbrev pub invariant-loop-number : goal.invariant-loop-number
invariant-loop-number l = l.histories.items ≡ map (λ log. log.history) (take l.number (arc_value l.shards).items)
