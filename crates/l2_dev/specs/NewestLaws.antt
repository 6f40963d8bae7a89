-- That a rebuild restores the newest live entry of each key, where every header that a crash may leave was written with what is live now.
use Rattle.std.specs.Prelude.{◌≡◌, ◌≢◌, ℕ, ◌++◌, List, map, reverse, Bool, Option}
use Rattle.std.specs.List.{AllByRecursion}
use Rattle.arc_core.specs.declared.served.Restored.{Restored}
use Rattle.l2_dev.specs.declared.stop.Stop.{Stop}
use Rattle.l2_dev.specs.declared.stop.Stop.TheVariants as stop
use Rattle.l2_dev.specs.Restoring.{IsRebuilt, firsts, restored_of}
use Rattle.l2_dev.specs.Cursor.{CursorState}
use Rattle.l2_dev.specs.Promise.{Promise, KeepsPromise, IsOf}

-- of each key with a live entry the newest one, with its place, as it is told; the newest entry of all stands first
abbrev pub newest_live : CursorState → List Restored
newest_live cursor = map restored_of (firsts (reverse cursor.ring.live))

-- each rebuild of what a crash leaves now, where it meets no fault of the device, restores the newest live entry of each key, and behind
-- them perhaps more
abbrev pub NewestIsRestored : {D : Type 0} → (D → Option (List ℕ)) → (D → Bool) → (D → List ℕ → Type 0) → Type 0
NewestIsRestored {D} tells has_sectors leaves =
    (device : D) (cursor : CursorState) (p : Promise) → KeepsPromise tells has_sectors leaves device cursor p → AllByRecursion (IsOf p.blocks p.kept) p.candidates
    → (image : List ℕ) → leaves device image → (restored : List Restored) (why : Stop) → IsRebuilt cursor.ring.end image restored why → why ≢ stop.DevFault
    → (more : List Restored) × (restored ≡ newest_live cursor ++ more)
