-- Ranges of the device in the order in which they were written, and what a plan leaves of them.
use Rattle.std.specs.Prelude.{◌≡◌, ℕ, ◌+◌, ◌<◌, ◌≤◌, ◌⊎◌, List, [], ◌∷◌}
use Rattle.std.specs.List.{AllByRecursion}
use Rattle.l2_log.specs.Rules.{ring_start}
use Rattle.l2_ring.specs.declared.live.Written.{Written}
use Rattle.l2_ring.specs.declared.plan.Plan.{Plan}

-- some bytes of the device, and the lap of the ring in which they were written
pub record Range : Type 0 where
  pub lap : ℕ
  pub place : ℕ
  pub size : ℕ

-- the range of a live entry
abbrev pub range_of : Written → Range
range_of written = record { lap = written.lap; place = written.live.place; size = written.live.key.size }

-- it lies wholly between the two places
pub record IsWithin (from to : ℕ) (range : Range) : Type 0 where
  pub begins : from ≤ range.place
  pub ends : range.place + range.size ≤ to

-- it lies in the part that its lap asks for: in the lower part where it was written in this lap, and in the upper part
-- where it was written in the lap before
abbrev pub Stays : Plan → Range → Type 0
Stays plan range =
    (IsWithin ring_start plan.hand range × (range.lap ≡ plan.lap))
    ⊎ (IsWithin plan.evict plan.top range × (range.lap + 1 ≡ plan.lap))

-- it was written before the other one: in an earlier lap, or in the same lap, and it ends where the other begins or before
abbrev pub IsOlder : Range → Range → Type 0
IsOlder newer older = (older.lap < newer.lap) ⊎ ((older.lap ≡ newer.lap) × (older.place + older.size ≤ newer.place))

-- the ranges stand from the newest to the oldest: each was written before all those ahead of it
abbrev pub IsInOrder : List Range → Type 0
IsInOrder [] = Unit {0}
IsInOrder (range ∷ ranges) = AllByRecursion (IsOlder range) ranges × IsInOrder ranges
