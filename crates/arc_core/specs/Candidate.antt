-- Which key the feed of the cache device picks next (l2arc_write_buffers of arc.c: from the lists' ends, as far as the headroom).
use Rattle.std.specs.Prelude.{ℕ, ◌+◌, ◌*◌, Bool, not, ◌&&◌, if◌then◌else◌, nat_le, List, [], ◌∷◌, reverse, sum_by, Option, Some, None, is_some, option_and_then}
use Rattle.blk_ptr.specs.declared.key.Key.{Key}
use Rattle.arc_lists.specs.Room.{or_else}
use Rattle.arc_core.specs.PlainShard.{PlainShard, is_passed, place_of}
use Rattle.arc_core.specs.Changes.{pick_of}

-- the feed may pick the key: it has no place on the cache device yet, is not picked, and was not passed
abbrev pub may_be_picked : PlainShard → Key → Bool
may_be_picked s k = not (is_some (place_of k s)) && (not (is_some (pick_of k s.picked)) && not (is_passed s k))

-- A walk over keys, the oldest first, that met so many bytes already: the first key that is wanted. It ends before the key with
-- which the bytes met exceed the limit.
abbrev pub walk : (limit met : ℕ) → (Key → Bool) → List Key → Option Key
walk limit met wanted [] = None
walk limit met wanted (k ∷ ks) =
    if nat_le (met + k.size) limit then (if wanted k then Some k else walk limit (met + k.size) wanted ks) else None

-- how many bytes are picked
abbrev pub picked_bytes : PlainShard → ℕ
picked_bytes s = sum_by (λ pick. pick.key.size) s.picked

-- the key that the two walks choose: over MFU first, then over MRU
abbrev pub chosen : PlainShard → Option Key
chosen s =
    let limit = s.bounds.write_max * s.bounds.headroom in
    or_else (walk limit 0 (may_be_picked s) (reverse s.sequences.mfu)) (walk limit 0 (may_be_picked s) (reverse s.sequences.mru))

-- the chosen key, where what is picked and it together are within the bound of one feed
abbrev pub candidate : PlainShard → Option Key
candidate s = option_and_then (λ k. if nat_le (picked_bytes s + k.size) s.bounds.write_max then Some k else None) (chosen s)
