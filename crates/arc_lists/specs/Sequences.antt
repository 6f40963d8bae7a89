-- The four sequences of the cache: MRU, MFU and their ghosts, each a list of keys with the newest first (arcs_list of arc.c, by
-- state; Megiddo and Modha's T1, T2, B1 and B2).
use Rattle.std.specs.Prelude.{Bool, true, false, not, ◌&&◌, ◌||◌, List, [], ◌∷◌, Option, filter, find, reverse}
use Rattle.blk_ptr.specs.declared.key.Key.{Key}
use Rattle.blk_ptr.specs.declared.state.State.{State}
use Rattle.blk_ptr.specs.declared.state.State.TheVariants.{Anon, Mru, MruGhost, Mfu, MfuGhost, L2Only}
use Rattle.blk_ptr.specs.Order.{key_eq}

pub record Sequences : Type 0 where
  pub mru : List Key
  pub mru_ghost : List Key
  pub mfu : List Key
  pub mfu_ghost : List Key

-- no key stands on any of them
abbrev pub no_keys : Sequences
no_keys = record { mru = []; mru_ghost = []; mfu = []; mfu_ghost = [] }

-- the sequence of a state; anonymous and L2-only entries have none
abbrev pub sequence_of : State → Sequences → List Key
sequence_of Mru q = q.mru
sequence_of MruGhost q = q.mru_ghost
sequence_of Mfu q = q.mfu
sequence_of MfuGhost q = q.mfu_ghost
sequence_of _ q = []

-- entries of the state stand on a sequence
abbrev pub has_sequence : State → Bool
has_sequence Anon = false
has_sequence L2Only = false
has_sequence _ = true

-- the key stands on this sequence
abbrev pub stands_on : Key → List Key → Bool
stands_on k [] = false
stands_on k (x ∷ xs) = key_eq x k || stands_on k xs

-- no key stands twice
abbrev pub is_distinct : List Key → Bool
is_distinct [] = true
is_distinct (k ∷ ks) = not (stands_on k ks) && is_distinct ks

-- the key stands on one of the four
abbrev pub stands : Key → Sequences → Bool
stands k q = stands_on k q.mru || (stands_on k q.mru_ghost || (stands_on k q.mfu || stands_on k q.mfu_ghost))

-- the key put at the head of the sequence of a state, where that state has one
abbrev pub put_at_head : State → Key → Sequences → Sequences
put_at_head Mru k q = record q { mru = k ∷ q.mru }
put_at_head MruGhost k q = record q { mru_ghost = k ∷ q.mru_ghost }
put_at_head Mfu k q = record q { mfu = k ∷ q.mfu }
put_at_head MfuGhost k q = record q { mfu_ghost = k ∷ q.mfu_ghost }
put_at_head _ k q = q

-- a list of keys without the key
abbrev pub without_key : Key → List Key → List Key
without_key k = filter (λ x. not (key_eq x k))

-- the key taken off the sequence that it stands on
abbrev pub taken_off : Key → Sequences → Sequences
taken_off k q = record { mru = without_key k q.mru; mru_ghost = without_key k q.mru_ghost; mfu = without_key k q.mfu; mfu_ghost = without_key k q.mfu_ghost }

-- the oldest key that isn't skipped: the last of the sequence without the skipped keys
abbrev pub oldest_unskipped : (Key → Bool) → List Key → Option Key
oldest_unskipped skips keys = find (λ k. not (skips k)) (reverse keys)
