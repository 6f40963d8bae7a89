-- How the target moves when a ghost is asked for (arc_adapt of arc.c; Megiddo and Modha's adaptation, in bytes).
use Rattle.std.specs.Prelude.{ℕ, ◌+◌, ◌-◌, ◌*◌, ◌/◌, ◌^◌, ◌≤◌, min, max, if◌then◌else◌, nat_le}
use Rattle.blk_ptr.specs.declared.state.State.{State}
use Rattle.blk_ptr.specs.declared.state.State.TheVariants as state
use Rattle.arc_lists.specs.declared.ghost_list.Ghost.{Ghost}
use Rattle.arc_lists.specs.declared.ghost_list.Ghost.TheVariants.{Mru, Mfu}

-- a capacity that the lists may have, in bytes (this project's own range)
pub record IsCapacity (c : ℕ) : Type 0 where
  pub least : 4096 ≤ c
  pub most : c ≤ 2 ^ 32

-- the state of which it is the ghost list
abbrev pub state_of : Ghost → State
state_of Mru = state.MruGhost
state_of Mfu = state.MfuGhost

-- the least that the target may be; the most is the capacity less this (arc_p_min_shift 4)
abbrev pub least_target : ℕ → ℕ
least_target c = c / 16

-- The target under a new capacity: no lower than its least, and no higher than what that leaves. (In arc.c the target starts anew;
-- that it stays as far as it may is this project's choice.)
abbrev pub clamped_target : (c p : ℕ) → ℕ
clamped_target c p = min (max p (least_target c)) (c - least_target c)

-- How much a byte of the one ghost weighs, where the two ghosts have these sizes: 1 where it is the larger one, else how many
-- times the other is larger, but no more than 10 (the limit is optional in arc.c, and here it is always applied).
abbrev pub weight : ℕ → ℕ → ℕ
weight this other = if nat_le other this then 1 else min (other / this) 10

-- the target after z bytes of a ghost were asked for: up for the MRU ghost, down for the MFU ghost
abbrev pub adapted : Ghost → (z mru_ghost mfu_ghost p c : ℕ) → ℕ
adapted Mru z mru_ghost mfu_ghost p c = min (c - least_target c) (p + z * weight mru_ghost mfu_ghost)
adapted Mfu z mru_ghost mfu_ghost p c = max (least_target c) (p - min (z * weight mfu_ghost mru_ghost) p)
