-- Some keys with the room for more, as plain data.
use Rattle.std.specs.Prelude.{ℕ, List, []}
use Rattle.blk_ptr.specs.declared.key.Key.{Key}

pub record PlainKeys : Type 0 where
  -- in rising order, each once
  pub items : List Key
  -- for how many more there is room
  pub spare : ℕ

-- there is none, and no room
abbrev pub empty_keys : PlainKeys
empty_keys = record { items = []; spare = 0 }
