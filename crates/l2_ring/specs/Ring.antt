-- The ring of the cache device: where the next bytes go, and which ranges hold what was written
-- (l2arc_evict in arc.c, and the hand of l2arc_dev_t in arc_impl.h; the lap and its rules are this project's).
use Rattle.std.specs.Prelude.{◌≡◌, ℕ, ◌+◌, ◌-◌, ◌^◌, ◌%◌, ◌<◌, ◌≤◌, min, max, List}
use Rattle.blk_ptr.specs.Size.{sector}
use Rattle.l2_log.specs.Rules.{ring_start, IsRingEnd, IsRingPlace}
use Rattle.l2_ring.specs.declared.live.Written.{Written}
use Rattle.l2_ring.specs.declared.plan.Plan.{Plan}
use Rattle.l2_ring.specs.declared.part.Part.{Part}
use Rattle.l2_ring.specs.declared.part.Part.TheVariants.{Lower, Upper, Dead}

-- a ring: its end, its four numbers, the live entries in the order in which they were added, and the room for more
pub record RingState : Type 0 where
  pub end : ℕ
  pub hand : ℕ
  pub evict : ℕ
  pub top : ℕ
  pub lap : ℕ
  pub live : List Written
  pub spare : ℕ

-- what the numbers of a ring keep
pub record IsRing (end hand evict top lap : ℕ) : Type 0 where
  pub ends : IsRingEnd end
  pub hand_in : IsRingPlace end hand
  pub evict_in : IsRingPlace end evict
  pub top_in : IsRingPlace end top
  pub order : hand ≤ evict
  pub lapped : 1 ≤ lap

-- the last value of the lap, at which it stands still
abbrev pub last_lap : ℕ
last_lap = 2 ^ 64 - 1

-- a range that was written in this lap, and lies before the hand
pub record IsLower (ring : RingState) (place size : ℕ) : Type 0 where
  pub from : ring_start ≤ place
  pub to : place + size ≤ ring.hand

-- a range that was written in the lap before, and lies between the evict mark and the top
pub record IsUpper (ring : RingState) (place size : ℕ) : Type 0 where
  pub from : ring.evict ≤ place
  pub to : place + size ≤ ring.top

-- the part of the ring in which a range lies wholly; what lies in neither is dead
abbrev pub IsInPart : RingState → ℕ → ℕ → Part → Type 0
IsInPart ring place size Lower = IsLower ring place size
IsInPart ring place size Upper = IsUpper ring place size
IsInPart ring place size Dead = (¬ IsLower ring place size) × ¬ IsUpper ring place size

-- numbers of bytes that a plan may be made for
pub record IsRoom (ring : RingState) (n : ℕ) : Type 0 where
  pub some : 0 < n
  pub aligned : n % sector ≡ 0
  pub fits : n ≤ ring.end - ring_start

-- the plan for n bytes that fit between the hand and the end
abbrev pub straight_plan : RingState → ℕ → Plan
straight_plan ring n = record { hand = ring.hand; evict = max ring.evict (ring.hand + n); top = ring.top; lap = ring.lap }

-- the plan for n bytes that do not: the ring begins its next lap
abbrev pub wrapped_plan : RingState → ℕ → Plan
wrapped_plan ring n =
    record { hand = ring_start; evict = ring_start + n; top = ring.hand; lap = min (ring.lap + 1) last_lap }

-- this is the plan for n bytes
pub record IsPlanFor (ring : RingState) (n : ℕ) (plan : Plan) : Type 0 where
  pub room : IsRoom ring n
  pub straight : ring.hand + n ≤ ring.end → plan ≡ straight_plan ring n
  pub wrapped : ring.end < ring.hand + n → plan ≡ wrapped_plan ring n

-- the plan is the ring's, for some number of bytes
abbrev pub IsPlan : RingState → Plan → Type 0
IsPlan ring plan = (n : ℕ) × IsPlanFor ring n plan

-- the numbers that a ring has, as a plan
abbrev pub numbers_of : RingState → Plan
numbers_of ring = record { hand = ring.hand; evict = ring.evict; top = ring.top; lap = ring.lap }

-- the same numbers with another hand
abbrev pub with_hand : Plan → ℕ → Plan
with_hand plan hand = record { hand = hand; evict = plan.evict; top = plan.top; lap = plan.lap }

-- the numbers of a ring are sound
abbrev pub IsSound : RingState → Type 0
IsSound ring = IsRing ring.end ring.hand ring.evict ring.top ring.lap

-- the ring has the plan's numbers
pub record HasPlan (plan : Plan) (old new : RingState) : Type 0 where
  pub end : new.end ≡ old.end
  pub hand : new.hand ≡ plan.hand
  pub evict : new.evict ≡ plan.evict
  pub top : new.top ≡ plan.top
  pub lap : new.lap ≡ plan.lap

-- both rings have the same numbers
pub record IsSameRing (old new : RingState) : Type 0 where
  pub end : new.end ≡ old.end
  pub hand : new.hand ≡ old.hand
  pub evict : new.evict ≡ old.evict
  pub top : new.top ≡ old.top
  pub lap : new.lap ≡ old.lap
