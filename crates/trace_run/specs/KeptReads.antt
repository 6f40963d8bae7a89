-- A read that its caller keeps.
use Rattle.std.specs.Prelude.{ℕ, Option}
use Rattle.blk_ptr.specs.declared.key.Key.{Key}

pub record KeptRead : Type 0 where
  -- the number of the block in the trace
  pub block : ℕ
  -- the key of the entry that it holds; a read past the cache holds none
  pub held : Option Key

-- a read of this block that is kept
abbrev pub kept_read : (block : ℕ) → Option Key → KeptRead
kept_read block held = record { block = block; held = held }
