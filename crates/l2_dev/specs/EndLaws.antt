-- That each call leaves the log blocks of every header with an end behind them, and that a rebuild which finds more has met two
-- contents of one digest.
use Rattle.std.specs.Prelude.{◌≡◌, ◌≢◌, ℕ, ◌<◌, ◌⊎◌, List, [], ◌∷◌, ◌++◌, Bool, Option}
use Rattle.vdev_io.specs.Calls.{DeviceCall}
use Rattle.l2_log.specs.declared.entry.LogEntry.{LogEntry}
use Rattle.l2_log.specs.declared.log_block.LogBlock.{LogBlock}
use Rattle.l2_log.specs.declared.pointer.LogPtr.{LogPtr}
use Rattle.l2_ring.specs.Ring.{last_lap}
use Rattle.arc_core.specs.declared.served.Restored.{Restored}
use Rattle.l2_dev.specs.declared.stop.Stop.{Stop}
use Rattle.l2_dev.specs.declared.stop.Stop.TheVariants as stop
use Rattle.l2_dev.specs.Chain.{Visit}
use Rattle.l2_dev.specs.Restoring.{IsRebuilt}
use Rattle.l2_dev.specs.Standing.{Candidate, Kept, IsCandidate, IsLeftBy, restored_by, leading, staying}
use Rattle.l2_dev.specs.Cursor.{CursorState, numbers_from}
use Rattle.l2_dev.specs.Planned.{HasPlanned, HasPushed, HasSettled, IsForgotten, IsHeaderWith}
use Rattle.l2_dev.specs.Promise.{Promise, KeepsPromise}
use Rattle.l2_dev.specs.PromiseLaws.{left_by, with_block, IsHeaderFrom}
use Rattle.l2_dev.specs.Calls.{LeavesWith, IsCommitBlock, forgotten, with_put}
use Rattle.l2_dev.specs.Starting.{IsStartOf, opening}
use Rattle.l2_dev.specs.Rebuilding.{IsOpened, IsStarted}
use Rattle.l2_dev.specs.Ends.{EndsAt, AllEnd, IsMade, HasCollision}

module _ (Made : LogBlock → Type 0) where
  module _ {D : Type 0} (tells : D → Option (List ℕ)) (has_sectors : D → Bool) (leaves : D → List ℕ → Type 0) (moment : D → ℕ) (since : D → ℕ → List ℕ → Type 0) where
    -- a begin keeps the ends
    abbrev pub BeginEnds : Type 0
    BeginEnds = (n : ℕ) (old new : D) (cursor after : CursorState) (p : Promise) (k : Candidate) → KeepsPromise tells has_sectors leaves old cursor p → cursor.base ≡ cursor.ring.hand
        → HasPlanned n cursor after → after.ring.lap < last_lap
        → LeavesWith moment since (IsHeaderFrom after) after.ring.end old new p (leading (numbers_from after) p.blocks) (staying (numbers_from after) p.kept) (staying (numbers_from after) p.kept) k
        → AllEnd Made cursor p
        → AllEnd Made after (left_by (numbers_from after) p (k ∷ [])) × AllEnd Made after (left_by (numbers_from after) p (k ∷ p.candidates))

    -- a commit keeps them, and its log block was written
    abbrev pub CommitEnds : Type 0
    CommitEnds = (old new : D) (cursor after : CursorState) (p : Promise) (v : Visit) (k : Candidate) → IsCommitBlock cursor v → Made v.block
        → LeavesWith moment since (IsHeaderWith cursor v.ptr) after.ring.end old new p (v ∷ p.blocks) (p.pending ++ p.kept) p.kept k → AllEnd Made cursor p
        → ((ptr : LogPtr) → HasSettled ptr cursor after → AllEnd Made after (with_block v p (k ∷ []))) × (IsForgotten cursor after → AllEnd Made after (forgotten p (k ∷ p.candidates)))

    -- an image that a crash leaves was made by these calls
    abbrev pub CrashesAreMade : Type 0
    CrashesAreMade = (device : D) (cursor : CursorState) (p : Promise) → KeepsPromise tells has_sectors leaves device cursor p → AllEnd Made cursor p → (image : List ℕ) → leaves device image → IsMade Made cursor.ring.end image

  -- a put, or what is forgotten after an error, keeps the ends
  abbrev pub PutEnds : Type 0
  PutEnds = (cursor after : CursorState) (p : Promise) (entry : LogEntry) (k : Kept) → AllEnd Made cursor p
      → (HasPushed entry cursor after → AllEnd Made after (with_put k p)) × (IsForgotten cursor after → AllEnd Made after (forgotten p p.candidates))

  -- a start on an image that these calls made begins with ends, or has met two contents of one digest
  abbrev pub StartEnds : Type 0
  StartEnds = (end : ℕ) (image : List ℕ) (reads : List DeviceCall) (cursor : CursorState) (restored : List Restored) (why : Stop) (k : Candidate) → IsMade Made end image → IsOpened end cursor restored
      → IsStarted end image reads cursor restored why → IsStartOf end image restored why k → why ≢ stop.DevFault → AllEnd Made cursor (opening k) ⊎ HasCollision Made image

  -- a rebuild of what a candidate left restores what the candidate restores and no more, or has met two contents of one digest
  abbrev pub MoreCollides : Type 0
  MoreCollides = (end : ℕ) (image : List ℕ) (k : Candidate) (restored : List Restored) (why : Stop) → IsCandidate end k → IsLeftBy image k → EndsAt Made end k → IsRebuilt end image restored why
      → why ≢ stop.DevFault → (restored ≡ restored_by k) ⊎ HasCollision Made image
