-- What the steps of a cursor do.
use Rattle.l2_log.specs.declared.entry.LogEntry.{LogEntry}
use Rattle.std.specs.Prelude.{◌≡◌, ℕ, ◌+◌, List, [], ◌∷◌, ◌++◌, false, map, length, Some}
use Rattle.std.specs.List.{filter}
use Rattle.blk_ptr.specs.Ptr.{sha256_of}
use Rattle.l2_log.specs.Rules.{log_len}
use Rattle.l2_log.specs.Bytes.{AreBytes}
use Rattle.l2_log.specs.LogBytes.{IsLogBlock}
use Rattle.l2_log.specs.declared.header.DevHeader.{DevHeader}
use Rattle.l2_log.specs.declared.pointer.LogPtr.{LogPtr}
use Rattle.l2_log.specs.declared.log_block.LogBlock.{LogBlock}
use Rattle.l2_ring.specs.declared.plan.Plan.{Plan}
use Rattle.l2_ring.specs.Ring.{IsPlanFor, HasPlan, with_hand}
use Rattle.l2_ring.specs.Stays.{stays}
use Rattle.l2_dev.specs.Chain.{numbers_in}
use Rattle.l2_dev.specs.Restoring.{written_in}
use Rattle.l2_dev.specs.Cursor.{CursorState, numbers_from}

-- the cursor has taken the plan for n bytes
pub record HasPlanned (n : ℕ) (old new : CursorState) : Type 0 where
  pub plan : Plan
  pub plan_for : IsPlanFor old.ring n plan
  pub numbers : HasPlan plan old.ring new.ring
  pub live : new.ring.live ≡ filter (stays plan) old.ring.live
  pub base : new.base ≡ plan.hand
  pub newest : new.newest ≡ old.newest
  pub second : new.second ≡ old.second
  pub pending : new.pending ≡ []

-- a header of version 2 behind the log block of this pointer at the hand
pub record IsHeaderWith (cursor : CursorState) (ptr : LogPtr) (header : DevHeader) : Type 0 where
  pub end : header.end ≡ cursor.ring.end
  pub numbers : numbers_in header ≡ with_hand (numbers_from cursor) (cursor.ring.hand + log_len)
  pub newest : header.newest ≡ Some ptr
  pub second : header.second ≡ cursor.newest
  pub version : header.version ≡ 2

-- these bytes are the one spelling of the log block of the pending entries, and this is the pointer to it at the hand
pub record IsBlockOf (cursor : CursorState) (bytes : List ℕ) (ptr : LogPtr) (block : LogBlock) : Type 0 where
  pub bytes_of : IsLogBlock bytes block
  pub are_bytes : AreBytes bytes
  pub version : block.version ≡ 2
  pub lap : block.lap ≡ cursor.ring.lap
  pub prev : block.prev ≡ cursor.second
  pub entries : block.entries ≡ cursor.pending
  pub place : ptr.place ≡ cursor.ring.hand
  pub count : ptr.count ≡ length cursor.pending
  pub digest : ptr.digest ≡ sha256_of bytes

-- the pending entries are live, and the pointers name the log block of this pointer
pub record HasSettled (ptr : LogPtr) (old new : CursorState) : Type 0 where
  pub end : new.ring.end ≡ old.ring.end
  pub hand : new.ring.hand ≡ old.ring.hand + log_len
  pub evict : new.ring.evict ≡ old.ring.evict
  pub top : new.ring.top ≡ old.ring.top
  pub lap : new.ring.lap ≡ old.ring.lap
  pub base : new.base ≡ new.ring.hand
  pub live : new.ring.live ≡ old.ring.live ++ map (written_in old.ring.lap) old.pending
  pub newest : new.newest ≡ Some ptr
  pub second : new.second ≡ old.newest
  pub pending : new.pending ≡ []
  pub ready : new.ready ≡ old.ready

-- one more entry is pending, and the hand has passed its block
pub record HasPushed (entry : LogEntry) (old new : CursorState) : Type 0 where
  pub pending : new.pending ≡ old.pending ++ entry ∷ []
  pub hand : new.ring.hand ≡ old.ring.hand + entry.key.size
  pub end : new.ring.end ≡ old.ring.end
  pub evict : new.ring.evict ≡ old.ring.evict
  pub top : new.ring.top ≡ old.ring.top
  pub lap : new.ring.lap ≡ old.ring.lap
  pub live : new.ring.live ≡ old.ring.live
  pub base : new.base ≡ old.base
  pub newest : new.newest ≡ old.newest
  pub second : new.second ≡ old.second
  pub ready : new.ready ≡ old.ready

-- nothing is pending, and the hand stands at the base
pub record IsForgotten (old new : CursorState) : Type 0 where
  pub pending : new.pending ≡ []
  pub hand : new.ring.hand ≡ old.base
  pub end : new.ring.end ≡ old.ring.end
  pub evict : new.ring.evict ≡ old.ring.evict
  pub top : new.ring.top ≡ old.ring.top
  pub lap : new.ring.lap ≡ old.ring.lap
  pub live : new.ring.live ≡ old.ring.live
  pub base : new.base ≡ old.base
  pub newest : new.newest ≡ old.newest
  pub second : new.second ≡ old.second
  pub ready : new.ready ≡ false

-- the same cursor, perhaps with more room
pub record IsReserved (old new : CursorState) : Type 0 where
  pub end : new.ring.end ≡ old.ring.end
  pub hand : new.ring.hand ≡ old.ring.hand
  pub evict : new.ring.evict ≡ old.ring.evict
  pub top : new.ring.top ≡ old.ring.top
  pub lap : new.ring.lap ≡ old.ring.lap
  pub live : new.ring.live ≡ old.ring.live
  pub base : new.base ≡ old.base
  pub newest : new.newest ≡ old.newest
  pub second : new.second ≡ old.second
  pub pending : new.pending ≡ old.pending
  pub ready : new.ready ≡ old.ready
