-- How one caller's read finds its block in a shard, and which events that makes (arc_read of arc.c, for a single thread).
use Rattle.std.specs.Prelude.{◌≡◌, ◌⊎◌, ℕ, if◌then◌else◌, List, [], ◌∷◌, Option, Some, None}
use Rattle.blk_ptr.specs.declared.digest.Digest.{Digest}
use Rattle.blk_ptr.specs.declared.key.Key.{Key}
use Rattle.blk_ptr.specs.declared.ptr.Ptr.{Ptr}
use Rattle.blk_ptr.specs.Order.{digest_eq}
use Rattle.arc_core.specs.declared.event.Event.{Event}
use Rattle.arc_core.specs.declared.event.Event.TheVariants as event
use Rattle.arc_core.specs.declared.event.FailedAt.TheVariants as failed_at
use Rattle.arc_core.specs.declared.event.Origin.{Origin}
use Rattle.arc_core.specs.declared.event.Origin.TheVariants as origin
use Rattle.arc_core.specs.declared.served.Served.{Served}
use Rattle.arc_core.specs.declared.served.Served.TheVariants as served
use Rattle.arc_core.specs.PlainShard.{PlainShard, resident_digest}

-- how a read finds its block
pub data Access : Type 0 where
  -- its bytes are cached, with the digest that is asked for
  Hit : Access
  -- bytes of this other digest are cached under its key: the read goes past the cache
  Past : (kept : Digest) → Access
  -- its bytes are not cached
  Miss : Access

-- bytes of this digest were asked for, and bytes of that digest are cached, or none
abbrev pub access_by : Digest → Option Digest → Access
access_by asked None = Miss
access_by asked (Some kept) = if digest_eq kept asked then Hit else Past kept

-- A read finds its block cached with the pointer's digest, or cached with another one, and then it goes past the cache, or not cached.
abbrev pub access_of : PlainShard → Ptr → Access
access_of s ptr = access_by ptr.digest (resident_digest ptr.key s)

-- the bytes have to come from the pool
abbrev pub AsksPool : Access → Type 0
AsksPool Hit = ⊥
AsksPool (Past kept) = Unit {0}
AsksPool Miss = Unit {0}

-- where the bytes may come from, where the read is answered: those of a miss come from the pool or from the cache device
abbrev pub MayComeFrom : Access → Served → Type 0
MayComeFrom Hit from = from ≡ served.Hit
MayComeFrom (Past kept) from = from ≡ served.Past
MayComeFrom Miss from = (from ≡ served.Pool) ⊎ (from ≡ served.L2)

-- where the bytes of an answered miss came from: from the cache device exactly where the answer says so
abbrev pub origin_of : Served → Origin
origin_of served.L2 = origin.L2
origin_of served.Pool = origin.Pool
origin_of served.Hit = origin.Pool
origin_of served.Past = origin.Pool

-- the key of the entry that an answered read holds: one past the cache holds none
abbrev pub held_by_access : Ptr → Access → Option Key
held_by_access ptr (Past kept) = None
held_by_access ptr Hit = Some ptr.key
held_by_access ptr Miss = Some ptr.key

-- the events of a read that is answered from here, as long as it is kept
abbrev pub events_of_answered : (n t : ℕ) → Ptr → Served → Access → List Event
events_of_answered n t ptr from Hit = event.Hit n ptr.key t ∷ []
events_of_answered n t ptr from (Past kept) = event.Past n ptr.key kept ∷ []
events_of_answered n t ptr from Miss = event.Miss n ptr.key t ∷ (event.Arrive n ptr.key ptr.digest (origin_of from) ∷ [])

-- the events of a read for which the pool failed or gave other bytes
abbrev pub events_of_refused : (n t : ℕ) → Ptr → Access → List Event
events_of_refused n t ptr Hit = []
events_of_refused n t ptr (Past kept) = event.Past n ptr.key kept ∷ []
events_of_refused n t ptr Miss = event.Miss n ptr.key t ∷ (event.Fail n ptr.key failed_at.Pool ∷ [])

-- the events of a kept read that is given back
abbrev pub events_of_drop : (n : ℕ) → Option Key → List Event
events_of_drop n None = []
events_of_drop n (Some key) = event.Drop n key ∷ []
