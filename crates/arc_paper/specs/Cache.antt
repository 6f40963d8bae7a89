-- The published cache with its size.
use Rattle.std.specs.Prelude.{ℕ, ◌≤◌}
use Rattle.arc_paper.specs.Arc.{Arc}

-- how many pages are cached at most, and the lists
pub record Cache : Type 0 where
  pub capacity : ℕ
  pub arc : Arc

-- a capacity that the cache may have
pub record IsCapacity (c : ℕ) : Type 0 where
  pub least : 1 ≤ c
  pub most : c ≤ 65536
