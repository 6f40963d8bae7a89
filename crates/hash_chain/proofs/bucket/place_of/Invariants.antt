use Rattle.std.proofs.Common.{◌-◌, ◌≤◌, length}
use Rattle.hash_chain.specs.Kept.{keys_of}
use Rattle.hash_chain.proofs.Tags.{IsNotBefore}
use Rattle.hash_chain.proofs.bucket.place_of.Given as goal

-- the key stands at no place so far
abbrev pub invariant-loop-from : goal.invariant-loop-from
invariant-loop-from l = (l.from ≤ length l.tags) × IsNotBefore (keys_of l.headers) l.key l.from

abbrev pub decreases-loop-from : goal.decreases-loop-from
decreases-loop-from l = length l.tags - l.from
