use Rattle.std.proofs.Common.{◌≡◌, map, take}
use Rattle.arc_check.specs.Judging.{end_of}
use Rattle.trace_run.proofs.ran.ends_of.Given as goal

-- the ends of the shards so far
abbrev pub invariant-loop-shard : goal.invariant-loop-shard
invariant-loop-shard l = l.ends.items ≡ map (λ log. end_of log.now) (take l.shard-index l.shards)
