-- Which key makes room next, and which ghost is dropped next.
use Rattle.std.specs.Prelude.{ℕ, ◌+◌, Bool, if◌then◌else◌, nat_lt, Option, Some, None}
use Rattle.blk_ptr.specs.declared.key.Key.{Key}
use Rattle.arc_lists.specs.Sequences.{Sequences, oldest_unskipped}

-- the first of two that is there
abbrev pub or_else : Option Key → Option Key → Option Key
or_else None second = second
or_else (Some k) second = Some k

-- Which key is evicted next so that z bytes fit, where anonymous, MRU and MFU blocks have these sizes (arc_evict of arc.c).
-- None where they fit, or where no key may go: then the cache overshoots. Else the oldest of MRU where anonymous and MRU blocks
-- are above their target, else the oldest of MFU, else the oldest of MRU.
abbrev pub next_eviction : (c p z anon mru mfu : ℕ) → (Key → Bool) → Sequences → Option Key
next_eviction c p z anon mru mfu skips q =
    let oldest_mru = oldest_unskipped skips q.mru in
    let oldest_mfu = oldest_unskipped skips q.mfu in
    if nat_lt c (anon + mru + mfu + z)
    then or_else (if nat_lt p (anon + mru) then oldest_mru else None) (or_else oldest_mfu oldest_mru)
    else None

-- Which ghost is dropped next, where MRU and the two ghosts have these sizes: the oldest MRU ghost while MRU and its ghost are
-- above the capacity, then the oldest MFU ghost while the two ghosts are (Megiddo and Modha's bounds on T1 + B1 and on the whole
-- directory, in bytes; arc_evict of arc.c). That room goes first and trim after it is this project's choice.
abbrev pub next_drop : (c mru mru_ghost mfu_ghost : ℕ) → (Key → Bool) → Sequences → Option Key
next_drop c mru mru_ghost mfu_ghost skips q =
    or_else
    (if nat_lt c (mru + mru_ghost) then oldest_unskipped skips q.mru_ghost else None)
    (if nat_lt c (mru_ghost + mfu_ghost) then oldest_unskipped skips q.mfu_ghost else None)
