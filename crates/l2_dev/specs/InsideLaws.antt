-- A crash at any moment of a begin, a put or a commit leaves an image that these calls made, and a rebuild of it finds no more than
-- one of the headers restores, unless two contents have one digest.
use Rattle.std.specs.Prelude.{◌≡◌, ◌≢◌, ℕ, ◌<◌, ◌⊎◌, List, ◌∷◌, ◌++◌, Bool, Option}
use Rattle.l2_log.specs.declared.log_block.LogBlock.{LogBlock}
use Rattle.l2_ring.specs.Ring.{last_lap}
use Rattle.arc_core.specs.declared.served.Restored.{Restored}
use Rattle.l2_dev.specs.declared.stop.Stop.{Stop}
use Rattle.l2_dev.specs.declared.stop.Stop.TheVariants as stop
use Rattle.l2_dev.specs.Chain.{Visit}
use Rattle.l2_dev.specs.Restoring.{IsRebuilt}
use Rattle.l2_dev.specs.Standing.{Candidate, AnyOf, restored_by, leading, staying}
use Rattle.l2_dev.specs.Cursor.{CursorState, numbers_from}
use Rattle.l2_dev.specs.Planned.{HasPlanned, IsHeaderWith}
use Rattle.l2_dev.specs.Promise.{Promise, KeepsPromise, LeftAmong, LeavesOnlyWith}
use Rattle.l2_dev.specs.PromiseLaws.{IsHeaderFrom}
use Rattle.l2_dev.specs.Calls.{LeavesWith, IsCommitBlock}
use Rattle.l2_dev.specs.Ends.{AllEnd, IsMade, HasCollision}

-- The log blocks that were ever written to the device.
module _ (Made : LogBlock → Type 0) where
  -- the image was made by these calls, and each rebuild of it that meets no fault of the device restores what one of these headers
  -- restores and no more, or has met two contents of one digest
  pub record IsFound (end : ℕ) (candidates : List Candidate) (image : List ℕ) : Type 0 where
    pub made : IsMade Made end image
    pub rebuilt : (restored : List Restored) (why : Stop) → IsRebuilt end image restored why → why ≢ stop.DevFault
        → AnyOf (λ (k : Candidate). restored ≡ restored_by k) candidates ⊎ HasCollision Made image

  module _ {D : Type 0} (tells : D → Option (List ℕ)) (has_sectors : D → Bool) (leaves : D → List ℕ → Type 0) (moment : D → ℕ) (since : D → ℕ → List ℕ → Type 0) where
    -- each image that a crash may have left at some moment since the old device
    abbrev pub AreFoundSince : ℕ → List Candidate → (old new : D) → Type 0
    AreFoundSince end candidates old new = (image : List ℕ) → since new (moment old) image → IsFound end candidates image

    -- a crash inside a begin
    abbrev pub BeginCrashes : Type 0
    BeginCrashes = (n : ℕ) (old new : D) (cursor after : CursorState) (p : Promise) (k : Candidate) → KeepsPromise tells has_sectors leaves old cursor p → cursor.base ≡ cursor.ring.hand
        → HasPlanned n cursor after → after.ring.lap < last_lap
        → LeavesWith moment since (IsHeaderFrom after) after.ring.end old new p (leading (numbers_from after) p.blocks) (staying (numbers_from after) p.kept) (staying (numbers_from after) p.kept) k
        → AllEnd Made cursor p → AreFoundSince after.ring.end (k ∷ p.candidates) old new

    -- a crash inside a put, or inside a commit that has not written its header
    abbrev pub PutCrashes : Type 0
    PutCrashes = (old new : D) (cursor : CursorState) (p : Promise) → KeepsPromise tells has_sectors leaves old cursor p → AllEnd Made cursor p
        → LeavesOnlyWith moment since old new (LeftAmong cursor.ring.end p.candidates) → AreFoundSince cursor.ring.end p.candidates old new

    -- a crash inside a commit
    abbrev pub CommitCrashes : Type 0
    CommitCrashes = (old new : D) (cursor after : CursorState) (p : Promise) (v : Visit) (k : Candidate) → IsCommitBlock cursor v → Made v.block
        → LeavesWith moment since (IsHeaderWith cursor v.ptr) after.ring.end old new p (v ∷ p.blocks) (p.pending ++ p.kept) p.kept k → AllEnd Made cursor p
        → AreFoundSince after.ring.end (k ∷ p.candidates) old new
