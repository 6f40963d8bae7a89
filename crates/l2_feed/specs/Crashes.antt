-- What a feed keeps of every crash of the device, and which calls of the device it makes.
use Rattle.std.specs.Prelude.{List, Bool, ℕ, Option, Result, Ok, Err}
use Rattle.std.specs.List.{AllByRecursion}
use Rattle.vdev_io.specs.declared.device.CacheDev.{Ghosts}
use Rattle.vdev_io.specs.Calls.{Asked, MakesAll, MakesUpTo}
use Rattle.l2_dev.specs.declared.fault.DevErr.{DevErr}
use Rattle.l2_dev.specs.declared.report.FeedStop.{FeedStop}
use Rattle.l2_dev.specs.declared.report.FeedStop.TheVariants as stop
use Rattle.l2_dev.specs.Cursor.{CursorState}
use Rattle.l2_dev.specs.Promise.{IsOf, KeepsPromise, Promise}

-- each header that a crash may leave was written with what would be live at the next one
abbrev pub IsOwnPromise : Promise → Type 0
IsOwnPromise p = AllByRecursion (IsOf p.blocks p.kept) p.candidates

module _ {D : Type 0} (tells : D → Option (List ℕ)) (has_sectors : D → Bool) (leaves : D → List ℕ → Type 0) (old new : D) (before after : CursorState) where
  -- where a promise of every crash was kept, one is kept
  abbrev pub KeepsSome : Type 0
  KeepsSome = (p : Promise) → KeepsPromise tells has_sectors leaves old before p → (q : Promise) × KeepsPromise tells has_sectors leaves new after q

  -- and where each crash restored just what was live, each restores just what is live
  abbrev pub KeepsOwn : Type 0
  KeepsOwn = (p : Promise) → KeepsPromise tells has_sectors leaves old before p → (q : Promise) × KeepsPromise tells has_sectors leaves new after q × (IsOwnPromise p → IsOwnPromise q)

  -- what was answered so keeps this of every crash
  abbrev pub KeepsSo : {T : Type 0} → Result T DevErr → Type 0
  KeepsSo (Ok value) = KeepsOwn
  KeepsSo (Err fault) = KeepsSome

  -- a feed that ended so
  abbrev pub FeedKeeps : FeedStop → Type 0
  FeedKeeps stop.Done = KeepsOwn
  FeedKeeps stop.DevFault = KeepsSome
  FeedKeeps stop.NoMemory = KeepsSome

module _ {D : Type 0} (device : Ghosts D) (old new : D) where
  -- the device was asked for some things, one after another, and each was done
  abbrev pub AllDone : Type 0
  AllDone = (asked : List Asked) × MakesAll device asked old new

  -- it was asked for some things, one after another, up to one that failed; behind that it was asked for nothing
  abbrev pub LastFailed : Type 0
  LastFailed = (asked : List Asked) × MakesUpTo device asked old new

  -- a feed that ended so: a call that failed is the last one, and the end tells of it
  abbrev pub FeedAsks : FeedStop → Type 0
  FeedAsks stop.Done = AllDone
  FeedAsks stop.DevFault = LastFailed
  FeedAsks stop.NoMemory = AllDone
