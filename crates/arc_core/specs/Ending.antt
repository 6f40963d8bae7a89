-- Room and trim go on until nothing is left for them to do: as many turns as there are entries always suffice.
use Rattle.std.specs.Prelude.{◌≡◌, ℕ, None}
use Rattle.arc_core.specs.PlainShard.{PlainShard}
use Rattle.arc_core.specs.Rules.{next_dropped, next_evicted, trimmed, with_room}
use Rattle.arc_core.specs.Sound.{IsTidy}

-- after room for z bytes was made, nothing is to be evicted for them: they fit, or no key may go
abbrev pub IsRoomEnding : Type 0
IsRoomEnding = (s : PlainShard) (z : ℕ) → IsTidy s → next_evicted z (with_room z s) ≡ None

-- after the ghosts were trimmed, none is to be dropped
abbrev pub IsTrimEnding : Type 0
IsTrimEnding = (s : PlainShard) → IsTidy s → next_dropped (trimmed s) ≡ None
