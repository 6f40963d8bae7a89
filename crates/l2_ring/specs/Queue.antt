-- The live entries of a ring in the order in which they were added, and whether they were written in that order.
use Rattle.std.specs.Prelude.{◌≡◌, ℕ, ◌<◌, ◌≤◌, List, [], ◌∷◌, Bool, cond, suc, zero, length, take, drop}
use Rattle.std.specs.List.{filter}
use Rattle.l2_ring.specs.declared.live.Written.{Written}
use Rattle.l2_ring.specs.declared.plan.Plan.{Plan}
use Rattle.l2_ring.specs.Ranges.{IsOlder, range_of}
use Rattle.l2_ring.specs.Ring.{RingState, IsPlan, numbers_of}
use Rattle.l2_ring.specs.Stays.{stays, falls, AreLive}

-- the live entries, the room for more, and whether they are known to stand from the oldest to the newest
pub record QueueState : Type 0 where
  pub live : List Written
  pub spare : ℕ
  pub ordered : Bool

-- the first of these was written after the entry
abbrev pub IsBefore : Written → List Written → Type 0
IsBefore written [] = Unit {0}
IsBefore written (next ∷ rest) = IsOlder (range_of next) (range_of written)

-- the entries stand from the oldest to the newest, each with some bytes
abbrev pub AreOldestFirst : List Written → Type 0
AreOldestFirst [] = Unit {0}
AreOldestFirst (written ∷ rest) = (0 < written.live.key.size) × IsBefore written rest × AreOldestFirst rest

-- the plan is one of a ring with these live entries
pub record IsPlanOver (live : List Written) (plan : Plan) : Type 0 where
  pub ring : RingState
  pub plan_of : IsPlan ring plan
  pub order : ring.hand ≤ ring.evict
  pub placed : AreLive (numbers_of ring) live

-- how many entries at the front the plan drops
abbrev pub fallen : Plan → List Written → ℕ
fallen plan [] = zero
fallen plan (written ∷ rest) = cond (falls plan written) (suc (fallen plan rest)) zero

-- what the plan drops is the front of the entries
pub record DropsFront (plan : Plan) (live : List Written) : Type 0 where
  pub some : fallen plan live ≤ length live
  pub falls_first : filter (falls plan) live ≡ take (fallen plan live) live
  pub stays_behind : filter (stays plan) live ≡ drop (fallen plan live) live
