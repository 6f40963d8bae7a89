-- The turns of a key lie in their ranges.
use Rattle.std.proofs.Common.{ℕ, suc, ◌+◌, ◌*◌, ◌/◌, ◌<◌, ◌≤◌, arith, mul-le-mul_right, suc-mul}
use Rattle.std.proofs.lemmas.Nat.{mod_below}
use Rattle.blk_ptr.specs.declared.key.Key.{Key}
use Rattle.blk_ptr.specs.Hash.{hash_of_key, shard_of, bucket_of}
use Rattle.arc_core.specs.declared.config.Config.{Config}
use Rattle.arc_core.specs.Config.{IsConfig}
use Rattle.arc_table.specs.Geometry.{IsBucket, IsShard, bucket_turn, shard_turn}

row_below : (s n b k : ℕ) → s < n → b < k → s * k + b < n * k
row_below s n b k less below = let a : suc s * k ≤ n * k = mul-le-mul_right k less in omega (arith, suc-mul s k)

pub bucket_range : (g : Config) (k : Key) → IsConfig g → IsBucket g (bucket_turn g k)
bucket_range g k h =
    let s : shard_of g.shards k < g.shards = mod_below (hash_of_key k) g.shards (let a = h.counts.shards.0 in omega arith) in
    let b : bucket_of g.shards g.buckets k < g.buckets = mod_below (hash_of_key k / g.shards) g.buckets (let a = h.counts.buckets.0 in omega arith) in
    let r : shard_of g.shards k * g.buckets + bucket_of g.shards g.buckets k < g.shards * g.buckets = row_below (shard_of g.shards k) g.shards (bucket_of g.shards g.buckets k) g.buckets s b in
    (omega arith, omega arith)

pub shard_range : (g : Config) (k : Key) → IsConfig g → IsShard g (shard_turn g k)
shard_range g k h =
    let s : shard_of g.shards k < g.shards = mod_below (hash_of_key k) g.shards (let a = h.counts.shards.0 in omega arith) in
    (omega arith, omega arith)
