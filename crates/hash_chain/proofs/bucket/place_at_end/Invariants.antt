use Rattle.hash_chain.specs.Kept.{keys_of}
use Rattle.hash_chain.proofs.Tags.{IsNotBefore}
use Rattle.hash_chain.proofs.bucket.place_at_end.Given as goal

-- the key stands at no place so far
abbrev pub invariant-loop-place : goal.invariant-loop-place
invariant-loop-place l = IsNotBefore (keys_of l.headers) l.key l.place
