-- The ranges of the numbers with which a cache is made (this project's own limits).
use Rattle.std.specs.Prelude.{ℕ, ◌*◌, ◌^◌, ◌≤◌, Bool, ◌&&◌, nat_le}
use Rattle.arc_lists.specs.Adapting.{IsCapacity}
use Rattle.arc_core.specs.declared.config.Bounds.{Bounds}
use Rattle.arc_core.specs.declared.config.Config.{Config}

-- the number is at least low and at most high
abbrev pub IsFromTo : (low high n : ℕ) → Type 0
IsFromTo low high n = (low ≤ n) × (n ≤ high)

-- a capacity that a shard may have, as a test
abbrev pub is_capacity_of : ℕ → Bool
is_capacity_of c = nat_le 4096 c && nat_le c (2 ^ 32)

pub record AreBounds (bounds : Bounds) : Type 0 where
  pub write_max : IsFromTo 512 (2 ^ 32) bounds.write_max
  pub headroom : IsFromTo 1 64 bounds.headroom

-- callers, shards, buckets and cells
pub record AreCounts (config : Config) : Type 0 where
  pub callers : IsFromTo 1 16 config.callers
  pub shards : IsFromTo 1 16 config.shards
  pub buckets : IsFromTo 1 256 config.buckets
  pub cells : IsFromTo 1 16 config.cells

-- the capacity of a shard and of all shards, and the other amounts of bytes and ticks
pub record AreAmounts (config : Config) : Type 0 where
  pub c : IsCapacity config.c
  pub all_shards : config.shards * config.c ≤ 2 ^ 32
  pub mintime : config.mintime ≤ 2 ^ 32
  pub dbuf_bytes : config.dbuf_bytes ≤ 2 ^ 32

pub record IsConfig (config : Config) : Type 0 where
  pub counts : AreCounts config
  pub amounts : AreAmounts config
  pub bounds : AreBounds config.bounds
