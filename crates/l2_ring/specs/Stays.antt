-- Which live entries a plan keeps.
use Rattle.std.specs.Prelude.{◌≡◌, ◌==◌, ◌&&◌, ◌||◌, ℕ, ◌+◌, List, Bool, true, not, nat_le}
use Rattle.std.specs.List.{All}
use Rattle.l2_log.specs.Rules.{ring_start}
use Rattle.l2_ring.specs.declared.live.Written.{Written}
use Rattle.l2_ring.specs.declared.live.Live.{Live}
use Rattle.l2_ring.specs.declared.plan.Plan.{Plan}

-- the range lies wholly between the two places
abbrev pub lies_within : ℕ → ℕ → ℕ → ℕ → Bool
lies_within from to place size = nat_le from place && nat_le (place + size) to

-- a range that was written in this lap lies in the part of the plan that the lap asks for: the lower one if it is the plan's
-- lap, the upper one if it is the lap before that
abbrev pub stays_at : Plan → ℕ → ℕ → ℕ → Bool
stays_at plan lap place size =
    (lies_within ring_start plan.hand place size && (lap == plan.lap))
    || (lies_within plan.evict plan.top place size && (lap + 1 == plan.lap))

-- the entry's range lies in the part of the plan that its own lap asks for
abbrev pub stays : Plan → Written → Bool
stays plan written = stays_at plan written.lap written.live.place written.live.key.size

-- it does not
abbrev pub falls : Plan → Written → Bool
falls plan written = not (stays plan written)

-- the entry without its lap
abbrev pub live_of : Written → Live
live_of written = written.live

-- each of the entries lies in the part of these numbers that its own lap asks for
abbrev pub AreLive : Plan → List Written → Type 0
AreLive plan entries = All (λ written. stays plan written ≡ true) entries
