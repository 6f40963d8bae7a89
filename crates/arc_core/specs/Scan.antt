-- What decides which keys room and trim take: the keys that may go, the oldest first, and the sizes.
use Rattle.std.specs.Prelude.{ℕ, ◌+◌, ◌-◌, Bool, false, not, ◌&&◌, if◌then◌else◌, nat_lt, List, [], ◌∷◌, ◌++◌, filter, Option, Some, None}
use Rattle.std.specs.Option.{option_map_or}
use Rattle.blk_ptr.specs.declared.key.Key.{Key}
use Rattle.blk_ptr.specs.declared.state.State.{State}
use Rattle.blk_ptr.specs.declared.state.State.TheVariants.{Anon, Mru, MruGhost, Mfu, MfuGhost}
use Rattle.blk_ptr.specs.Order.{key_eq}
use Rattle.arc_lists.specs.Room.{or_else}
use Rattle.arc_lists.specs.Sequences.{without_key}
use Rattle.arc_lists.specs.Walks.{first_of, oldest_first}
use Rattle.arc_core.specs.PlainShard.{PlainShard, is_passed, size_in}

-- MRU or MFU, with its ghost
pub record PlainKind : Type 0 where
  -- the keys that may be evicted, and those that may be dropped, the oldest first
  pub keys : List Key
  pub ghosts : List Key
  pub size : ℕ
  pub ghost_size : ℕ

pub record PlainScan : Type 0 where
  pub mru : PlainKind
  pub mfu : PlainKind
  pub anon : ℕ
  pub c : ℕ
  pub p : ℕ

-- the keys of a state's sequence that may go, the oldest first
abbrev pub going : State → PlainShard → List Key
going state s = filter (λ k. not (is_passed s k)) (oldest_first state s.sequences)

abbrev pub kind_in : (state ghost : State) → PlainShard → PlainKind
kind_in state ghost s = record { keys = going state s; ghosts = going ghost s; size = size_in state s; ghost_size = size_in ghost s }

abbrev pub scan_in : PlainShard → PlainScan
scan_in s = record { mru = kind_in Mru MruGhost s; mfu = kind_in Mfu MfuGhost s; anon = size_in Anon s; c = s.c; p = s.p }

-- the key that is evicted next for z bytes, and the ghost that is dropped next
abbrev pub evicted_next : (z : ℕ) → PlainScan → Option Key
evicted_next z v =
    let mru = first_of v.mru.keys in
    let mfu = first_of v.mfu.keys in
    if nat_lt v.c (v.anon + v.mru.size + v.mfu.size + z)
    then or_else (if nat_lt v.p (v.anon + v.mru.size) then mru else None) (or_else mfu mru)
    else None

abbrev pub dropped_next : PlainScan → Option Key
dropped_next v =
    or_else
    (if nat_lt v.c (v.mru.size + v.mru.ghost_size) then first_of v.mru.ghosts else None)
    (if nat_lt v.c (v.mru.ghost_size + v.mfu.ghost_size) then first_of v.mfu.ghosts else None)

-- the kind from which a key was evicted, and the one from which a ghost was dropped
abbrev pub evicting_from : Key → PlainKind → PlainKind
evicting_from k v = record { keys = without_key k v.keys; ghosts = v.ghosts ++ k ∷ []; size = v.size - k.size; ghost_size = v.ghost_size + k.size }

abbrev pub dropping_from : Key → PlainKind → PlainKind
dropping_from k v = record v { ghosts = without_key k v.ghosts; ghost_size = v.ghost_size - k.size }

-- ---- the scan of a shard in which the event's own key is left out

-- the key may go: it was not passed, and is not the event's own
abbrev pub may_go : Option Key → PlainShard → Key → Bool
may_go about s k = not (is_passed s k) && not (option_map_or (key_eq k) about false)

abbrev pub going_but : Option Key → State → PlainShard → List Key
going_but about state s = filter (may_go about s) (oldest_first state s.sequences)

-- the keys from one key on
abbrev pub from_key : Key → List Key → List Key
from_key k [] = []
from_key k (x ∷ xs) = if key_eq x k then x ∷ xs else from_key k xs

-- the same, where there may be none to go on from
abbrev pub from_next : Option Key → List Key → List Key
from_next None xs = []
from_next (Some k) xs = from_key k xs

-- the first key that may go, from this one on toward the head
abbrev pub first_going : Option Key → (from : Option Key) → State → PlainShard → Option Key
first_going about from state s = first_of (filter (may_go about s) (from_next from (oldest_first state s.sequences)))
