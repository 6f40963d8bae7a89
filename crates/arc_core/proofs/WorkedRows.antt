-- Worked traces, computed from the definitions alone: the ends of a shard after a history.
use Rattle.std.proofs.Common.{◌≡◌, ℕ, ◌*◌, true, false, List, [], ◌∷◌, ◌++◌, None, Some, refl}
use Rattle.blk_ptr.specs.declared.key.Key.{Key}
use Rattle.blk_ptr.specs.declared.digest.Digest.{Digest}
use Rattle.blk_ptr.specs.declared.state.State.TheVariants.{Anon, Mru, MruGhost, Mfu, MfuGhost, L2Only}
use Rattle.arc_core.specs.declared.entry.Phase.TheVariants.{Idle}
use Rattle.arc_core.specs.declared.event.Event.{Event}
use Rattle.arc_core.specs.declared.event.Event.TheVariants.{Pass, Hit, Miss, Arrive, Fail, Drop, Past, Hand, Insert, Release, Pick, FeedEnd, Set, Leave, Clear, Restore, Resize}
use Rattle.arc_core.specs.declared.event.Origin.TheVariants as origin
use Rattle.arc_core.specs.declared.event.FailedAt.TheVariants as failed
use Rattle.arc_core.specs.declared.event.Why.TheVariants as why
use Rattle.arc_core.specs.PlainShard.{PlainShard, opening_shard, size_in}
use Rattle.arc_core.specs.Replay.{replay, is_legal_history}
use Rattle.arc_core.specs.Sparing.{next_victim, victims}

-- the target and the six sizes
abbrev ends : PlainShard → List ℕ
ends s = s.p ∷ (size_in Anon s ∷ (size_in Mru s ∷ (size_in MruGhost s ∷ (size_in Mfu s ∷ (size_in MfuGhost s ∷ (size_in L2Only s ∷ []))))))

-- the i-th of blocks of one size, one after the other
abbrev block : ℕ → ℕ → Key
block size i = record { offset = size * i; size = size; birth = 1 }

abbrev zeros : Digest
zeros = record { 0 = 0 ∷ [] }

abbrev shard : ℕ → PlainShard
shard mintime = opening_shard 4096 mintime (record { write_max = 8388608; headroom = 2 })

-- a read that misses, from the pool or the device, and one that hits
abbrev fetch : Key → ℕ → List Event
fetch k t = Miss 0 k t ∷ (Arrive 0 k zeros origin.Pool ∷ (Drop 0 k ∷ []))

abbrev fetch_l2 : Key → ℕ → List Event
fetch_l2 k t = Miss 0 k t ∷ (Arrive 0 k zeros origin.L2 ∷ (Drop 0 k ∷ []))

abbrev reuse : Key → ℕ → List Event
reuse k t = Hit 0 k t ∷ (Drop 0 k ∷ [])

-- the history is legal and has these ends
abbrev HasEnds : PlainShard → List Event → List ℕ → Type 0
HasEnds s es figures = (is_legal_history s es ≡ true) × (ends (replay s es) ≡ figures)

-- two reads of one block: the second makes it MFU
twice : HasEnds (shard 0) (fetch (block 512 0) 1 ++ reuse (block 512 0) 2) (2048 ∷ (0 ∷ (0 ∷ (0 ∷ (512 ∷ (0 ∷ (0 ∷ [])))))))
twice = (refl, refl)

-- five blocks of a quarter of the capacity, and the first again: it is an MRU ghost, and the target rises by its size
mru_ghost : HasEnds (shard 0) (fetch (block 1024 0) 1 ++ fetch (block 1024 1) 2 ++ fetch (block 1024 2) 3 ++ fetch (block 1024 3) 4 ++ fetch (block 1024 4) 5 ++ fetch (block 1024 0) 6) (3072 ∷ (0 ∷ (3072 ∷ (1024 ∷ (1024 ∷ (0 ∷ (0 ∷ [])))))))
mru_ghost = (refl, refl)

-- blocks of half of the capacity: the third evicts the first from MFU, and asking for that ghost lowers the target to its floor
mfu_ghost : HasEnds (shard 0) (fetch (block 2048 0) 1 ++ reuse (block 2048 0) 2 ++ fetch (block 2048 1) 3 ++ fetch (block 2048 2) 4 ++ fetch (block 2048 0) 5) (256 ∷ (0 ∷ (2048 ∷ (2048 ∷ (2048 ∷ (0 ∷ (0 ∷ [])))))))
mfu_ghost = (refl, refl)

-- a hit within the least time stays MRU and does not move the last access
mintime : HasEnds (shard 10) (fetch (block 512 0) 5 ++ reuse (block 512 0) 15) (2048 ∷ (0 ∷ (512 ∷ (0 ∷ (0 ∷ (0 ∷ (0 ∷ [])))))))
mintime = (refl, refl)

mintime_over : HasEnds (shard 10) (fetch (block 512 0) 5 ++ reuse (block 512 0) 15 ++ reuse (block 512 0) 16) (2048 ∷ (0 ∷ (0 ∷ (0 ∷ (512 ∷ (0 ∷ (0 ∷ [])))))))
mintime_over = (refl, refl)

-- three held blocks of half of the capacity: nothing is evictable, and the cache overshoots
overshoot : HasEnds (shard 0) (Miss 0 (block 2048 0) 1 ∷ (Arrive 0 (block 2048 0) zeros origin.Pool ∷ (Miss 0 (block 2048 1) 2 ∷ (Arrive 0 (block 2048 1) zeros origin.Pool ∷ [])))
    ++ fetch (block 2048 2) 3 ++ Drop 0 (block 2048 0) ∷ (Drop 0 (block 2048 1) ∷ [])) (2048 ∷ (0 ∷ (6144 ∷ (0 ∷ (0 ∷ (0 ∷ (0 ∷ [])))))))
overshoot = (refl, refl)

-- a failed read leaves nothing
failed_read : HasEnds (shard 0) (Miss 0 (block 512 0) 1 ∷ (Fail 0 (block 512 0) failed.Pool ∷ [])) (2048 ∷ (0 ∷ (0 ∷ (0 ∷ (0 ∷ (0 ∷ (0 ∷ [])))))))
failed_read = (refl, refl)

-- one key is passed, since its bucket is in another party's hands, and the next one is evicted
passing : (is_legal_history (shard 0) (fetch (block 2048 0) 1 ++ fetch (block 2048 1) 2 ++ Pass 0 (block 2048 0) 1 ∷ [] ++ fetch (block 2048 2) 3) ≡ true)
    × ((replay (shard 0) (fetch (block 2048 0) 1 ++ fetch (block 2048 1) 2 ++ Pass 0 (block 2048 0) 1 ∷ [] ++ fetch (block 2048 2) 3)).sequences
    ≡ record { mru = block 2048 2 ∷ (block 2048 0 ∷ []); mru_ghost = block 2048 1 ∷ []; mfu = []; mfu_ghost = [] })
passing = (refl, refl)

-- a block that was written to the cache device, evicted, and trimmed to L2-only comes back from the device as MFU
from_device : HasEnds (shard 0) (fetch (block 2048 0) 1 ++ Pick 1 (block 2048 0) ∷ (FeedEnd 1 ∷ (Set 1 (block 2048 0) 4096 ∷ []))
    ++ fetch (block 2048 1) 2 ++ fetch (block 2048 2) 3 ++ fetch (block 2048 3) 4 ++ fetch_l2 (block 2048 0) 5) (2048 ∷ (0 ∷ (2048 ∷ (2048 ∷ (2048 ∷ (0 ∷ (0 ∷ [])))))))
from_device = (refl, refl)

-- a dbuf takes a block over, and makes it private: the only hold goes, and the entry with it
made_private : HasEnds (shard 0) (Miss 0 (block 512 0) 1 ∷ (Arrive 0 (block 512 0) zeros origin.Pool ∷ (Hand 0 (block 512 0) 2 ∷ (Release 2 (block 512 0) true ∷ []))) ++ fetch (block 512 0) 3)
    (2048 ∷ (0 ∷ (512 ∷ (0 ∷ (0 ∷ (0 ∷ (0 ∷ [])))))))
made_private = (refl, refl)

-- a block that a sync wrote
written : HasEnds (shard 0) (Insert 2 (block 512 0) zeros 4 ∷ (Drop 2 (block 512 0) ∷ [])) (2048 ∷ (0 ∷ (512 ∷ (0 ∷ (0 ∷ (0 ∷ (0 ∷ [])))))))
written = (refl, refl)

-- an empty shard gives the feed nothing
empty_feed : (is_legal_history (shard 0) (FeedEnd 1 ∷ []) ≡ true) × ((replay (shard 0) (FeedEnd 1 ∷ [])).phase ≡ Idle)
empty_feed = (refl, refl)

-- a restored key loses its place once, and then it is gone
restored : (is_legal_history (shard 0) (Restore 1 (block 512 0) 4096 None ∷ (Clear 1 (block 512 0) ∷ [])) ≡ true)
    × (is_legal_history (shard 0) (Restore 1 (block 512 0) 4096 None ∷ (Clear 1 (block 512 0) ∷ (Clear 1 (block 512 0) ∷ []))) ≡ false)
restored = (refl, refl)

abbrev five : List Event
five = fetch (block 1024 0) 1 ++ fetch (block 1024 1) 2 ++ fetch (block 1024 2) 3 ++ fetch (block 1024 3) 4 ++ fetch (block 1024 4) 5

abbrev wide : PlainShard
wide = opening_shard 8192 0 (record { write_max = 8388608; headroom = 2 })

-- a capacity that shrinks evicts a block, and the target goes no higher than it may
shrinks : HasEnds wide (five ++ fetch (block 1024 5) 6 ++ Resize 1 4096 ∷ []) (3840 ∷ (0 ∷ (4096 ∷ (0 ∷ (0 ∷ (0 ∷ (0 ∷ [])))))))
shrinks = (refl, refl)

-- and one that grows evicts nothing more
grows : HasEnds (shard 0) (five ++ Resize 1 8192 ∷ fetch (block 1024 5) 6) (2048 ∷ (0 ∷ (5120 ∷ (1024 ∷ (0 ∷ (0 ∷ (0 ∷ [])))))))
grows = (refl, refl)

-- bytes of another digest are read past the cache
past : HasEnds (shard 0) (fetch (block 512 0) 1 ++ Past 1 (block 512 0) zeros ∷ []) (2048 ∷ (0 ∷ (512 ∷ (0 ∷ (0 ∷ (0 ∷ (0 ∷ [])))))))
past = (refl, refl)

-- a picked block that the device fails to take leaves the picked list, and the feed has ended
left : (is_legal_history (shard 0) (fetch (block 512 0) 1 ++ Pick 1 (block 512 0) ∷ (FeedEnd 1 ∷ (Leave 1 (block 512 0) why.Device ∷ []))) ≡ true)
    × ((replay (shard 0) (fetch (block 512 0) 1 ++ Pick 1 (block 512 0) ∷ (FeedEnd 1 ∷ (Leave 1 (block 512 0) why.Device ∷ [])))).phase ≡ Idle)
left = (refl, refl)

-- a block of half of the capacity takes the two oldest ones of a quarter, and then the ghost that there was is above its bound
victims_of_a_half : victims (replay (shard 0) five) (Miss 0 (block 2048 9) 6) ≡ block 1024 1 ∷ (block 1024 2 ∷ (block 1024 0 ∷ []))
victims_of_a_half = refl

-- where the first is marked, the second is named; where all are, none
second_victim : next_victim (replay (shard 0) five) (block 1024 1 ∷ []) (Miss 0 (block 2048 9) 6) ≡ Some (block 1024 2)
second_victim = refl

no_victim : next_victim (replay (shard 0) five) (block 1024 0 ∷ (block 1024 1 ∷ (block 1024 2 ∷ []))) (Miss 0 (block 2048 9) 6) ≡ None
no_victim = refl
