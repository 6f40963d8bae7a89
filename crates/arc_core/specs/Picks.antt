-- What the feed has picked, with the room for more, as plain data.
use Rattle.std.specs.Prelude.{ℕ, List, []}
use Rattle.arc_core.specs.declared.entry.Picked.{Picked}

pub record PlainPicks : Type 0 where
  -- in the order of the picks
  pub items : List Picked
  -- for how many more there is room
  pub spare : ℕ

-- nothing is picked, and there is no room
abbrev pub no_picks : PlainPicks
no_picks = record { items = []; spare = 0 }
