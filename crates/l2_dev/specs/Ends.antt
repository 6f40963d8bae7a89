-- What stands behind the log blocks of a header: nothing, or a pointer to a log block that was written and was dropped since.
use Rattle.std.specs.Prelude.{◌≡◌, ◌≢◌, ℕ, ◌<◌, ◌⊎◌, List, Option, None, Some}
use Rattle.std.specs.List.{AllByRecursion}
use Rattle.blk_ptr.specs.Ptr.{sha256_of}
use Rattle.l2_log.specs.Rules.{log_len}
use Rattle.l2_log.specs.LogBytes.{IsLogBlock}
use Rattle.l2_log.specs.declared.header.DevHeader.{DevHeader}
use Rattle.l2_log.specs.declared.log_block.LogBlock.{LogBlock}
use Rattle.l2_log.specs.declared.pointer.LogPtr.{LogPtr}
use Rattle.l2_ring.specs.declared.plan.Plan.{Plan}
use Rattle.l2_ring.specs.Ranges.{Stays}
use Rattle.l2_dev.specs.Chain.{Visit, IsHeld, numbers_in, log_range, bytes_at, pointer_behind}
use Rattle.l2_dev.specs.Restoring.{IsHeaderOf, first_sector}
use Rattle.l2_dev.specs.Standing.{Candidate, IsStanding}
use Rattle.l2_dev.specs.Cursor.{CursorState, numbers_from}
use Rattle.l2_dev.specs.Promise.{Promise}

-- The log blocks that were ever written to the device: those of its life before the start, and one of each commit.
module _ (Made : LogBlock → Type 0) where
  -- the pointer names a log block that was written in an earlier lap, and no longer lies where its lap asks for
  pub record IsDropped (numbers : Plan) (ptr : LogPtr) : Type 0 where
    pub block : LogBlock
    pub made : Made block
    pub bytes : List ℕ
    pub is : IsLogBlock bytes block
    pub digest : sha256_of bytes ≡ ptr.digest
    pub older : block.lap < numbers.lap
    pub gone : ¬ Stays numbers (log_range ptr block.lap)

  -- behind these log blocks there is no pointer, or one to a log block that was dropped
  abbrev pub EndsBehind : Plan → Option LogPtr → Option LogPtr → List Visit → Type 0
  EndsBehind numbers newest second blocks =
      (pointer_behind newest second blocks ≡ None) ⊎ ((ptr : LogPtr) × (pointer_behind newest second blocks ≡ Some ptr) × IsDropped numbers ptr)

  -- all of these log blocks were written
  abbrev pub AreMade : List Visit → Type 0
  AreMade blocks = AllByRecursion (λ (v : Visit). Made v.block) blocks

  -- the candidate's log blocks were written, and so it ends behind them, if its sector is a header
  pub record EndsAt (end : ℕ) (candidate : Candidate) : Type 0 where
    pub made : AreMade candidate.blocks
    pub ends : (header : DevHeader) → IsHeaderOf end candidate.sector header → EndsBehind (numbers_in header) header.newest header.second candidate.blocks

  -- so it is with the cursor and the list of the promise, and with each candidate
  pub record AllEnd (cursor : CursorState) (p : Promise) : Type 0 where
    pub made : AreMade p.blocks
    pub behind : EndsBehind (numbers_from cursor) cursor.newest cursor.second p.blocks
    pub headers : AllByRecursion (EndsAt cursor.ring.end) p.candidates

  -- an image that these calls made: its header, if it has one, has a standing list of log blocks that were written, and ends behind it
  abbrev pub IsMade : ℕ → List ℕ → Type 0
  IsMade end image = (header : DevHeader) → IsHeaderOf end (first_sector image) header
      → (blocks : List Visit) × IsStanding header blocks × AllByRecursion (IsHeld image) blocks × AreMade blocks
      × EndsBehind (numbers_in header) header.newest header.second blocks

  -- a log block that was written, and other bytes that the image has now, have one digest
  pub record HasCollision (image : List ℕ) : Type 0 where
    pub block : LogBlock
    pub made : Made block
    pub bytes : List ℕ
    pub is : IsLogBlock bytes block
    pub place : ℕ
    pub digest : sha256_of bytes ≡ sha256_of (bytes_at image place log_len)
    pub apart : bytes ≢ bytes_at image place log_len
