-- The states of an entry of the cache, compared (arc_state_t of arc_impl.h).
use Rattle.std.specs.Prelude.{Bool, true, false}
use Rattle.blk_ptr.specs.declared.state.State.{State}
use Rattle.blk_ptr.specs.declared.state.State.TheVariants.{Anon, Mru, MruGhost, Mfu, MfuGhost, L2Only}

-- the two states are one
abbrev pub is_same_state : State → State → Bool
is_same_state Anon Anon = true
is_same_state Mru Mru = true
is_same_state MruGhost MruGhost = true
is_same_state Mfu Mfu = true
is_same_state MfuGhost MfuGhost = true
is_same_state L2Only L2Only = true
is_same_state _ _ = false

-- its bytes are cached: MRU or MFU
abbrev pub is_cached : State → Bool
is_cached Mru = true
is_cached Mfu = true
is_cached _ = false

-- only its name is kept: one of the two ghosts
abbrev pub is_ghost : State → Bool
is_ghost MruGhost = true
is_ghost MfuGhost = true
is_ghost _ = false
