-- What a contract sees of the index of a cell's dbufs.
use Rattle.std.specs.Prelude.{ℕ, List}
use Rattle.dbuf_state.specs.declared.standing.Standing.{Standing}

pub record IndexRow : Type 0 where
  -- the standings of the dbufs, in the order in which they came
  pub standings : List Standing
  -- for how many more there is room
  pub spare : ℕ
