-- Which turn stands for what. The turns of the cells come first, then those of the buckets, shard by shard, then those of the shards.
use Rattle.std.specs.Prelude.{ℕ, ◌+◌, ◌*◌, ◌<◌, ◌≤◌}
use Rattle.blk_ptr.specs.declared.key.Key.{Key}
use Rattle.blk_ptr.specs.Hash.{shard_of, bucket_of}
use Rattle.arc_core.specs.declared.config.Config.{Config}

-- the turn of a key's bucket, and that of its shard
abbrev pub bucket_turn : Config → Key → ℕ
bucket_turn g k = g.cells + (shard_of g.shards k * g.buckets + bucket_of g.shards g.buckets k)

abbrev pub shard_turn : Config → Key → ℕ
shard_turn g k = g.cells + (g.shards * g.buckets + shard_of g.shards k)

-- how many turns there are
abbrev pub turns_of : Config → ℕ
turns_of g = g.cells + (g.shards * g.buckets + g.shards)

-- the turns of cells, of buckets and of shards
abbrev pub IsCell : Config → ℕ → Type 0
IsCell g i = i < g.cells

abbrev pub IsBucket : Config → ℕ → Type 0
IsBucket g i = (g.cells ≤ i) × (i < g.cells + g.shards * g.buckets)

abbrev pub IsShard : Config → ℕ → Type 0
IsShard g i = (g.cells + g.shards * g.buckets ≤ i) × (i < turns_of g)

-- how many parties there are: the callers, and then the feeder
abbrev pub parties_of : Config → ℕ
parties_of g = g.callers + 1

-- the number under which a cell holds blocks, and how many numbers there are
abbrev pub cell_number : Config → ℕ → ℕ
cell_number g i = parties_of g + i

abbrev pub numbers_of : Config → ℕ
numbers_of g = parties_of g + g.cells
