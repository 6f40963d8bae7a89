-- A shard's table with its room.
use Rattle.std.specs.Prelude.{ℕ, List}
use Rattle.blk_ptr.specs.declared.key.Key.{Key}
use Rattle.arc_core.specs.PlainShard.{PlainShard}

pub record PlainTable : Type 0 where
  pub shard : PlainShard
  -- for how many more entries, and for how many more picks and passed keys, there is room
  pub spare : ℕ
  pub marks : ℕ
  -- the keys that were marked, each once
  pub marked : List Key
