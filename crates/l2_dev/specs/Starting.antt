-- What a start answers, and what it keeps of every crash.
use Rattle.std.specs.Prelude.{◌≡◌, ℕ, ◌⊎◌, List, [], ◌∷◌, IsTrue, Bool, Option, Some}
use Rattle.std.specs.List.{AllByRecursion}
use Rattle.vdev_io.specs.Device.{LeavesOnly}
use Rattle.l2_log.specs.declared.header.DevHeader.{DevHeader}
use Rattle.arc_core.specs.declared.served.Restored.{Restored}
use Rattle.l2_dev.specs.declared.stop.Stop.{Stop}
use Rattle.l2_dev.specs.declared.device.L2Dev.{L2Dev}
use Rattle.l2_dev.specs.declared.start.Started.{Started}
use Rattle.l2_dev.specs.declared.start.Started.TheVariants.{Ready, Short, NoMemory}
use Rattle.l2_dev.specs.Chain.{Visit, IsChain, numbers_in}
use Rattle.l2_dev.specs.Restoring.{IsUnread, IsHeaderOf, first_sector}
use Rattle.l2_dev.specs.Standing.{Candidate, IsOrderly, IsKeptIn, restored_by}
use Rattle.l2_dev.specs.Cursor.{CursorState}
use Rattle.l2_dev.specs.Promise.{Promise, KeepsPromise}

module _ {D : Type 0} where
  -- a fact of what a start answers, where the device may be used
  abbrev pub OnReady : Started D → (L2Dev D → List Restored → Stop → Type 0) → Type 0
  OnReady (Ready l2 restored why) P = P l2 restored.items why
  OnReady (Short dev len) P = Unit {0}
  OnReady (NoMemory dev) P = Unit {0}

  -- where it is too short
  abbrev pub OnShort : Started D → (D → ℕ → Type 0) → Type 0
  OnShort (Ready l2 restored why) P = Unit {0}
  OnShort (Short dev len) P = P dev len
  OnShort (NoMemory dev) P = Unit {0}

  -- where memory was refused
  abbrev pub OnRefused : Started D → (D → Type 0) → Type 0
  OnRefused (Ready l2 restored why) P = Unit {0}
  OnRefused (Short dev len) P = Unit {0}
  OnRefused (NoMemory dev) P = P dev

  -- it is too short
  abbrev pub IsShort : Started D → Type 0
  IsShort (Ready l2 restored why) = ⊥
  IsShort (Short dev len) = Unit {0}
  IsShort (NoMemory dev) = ⊥

-- the chain that a walk visits is orderly, as it is on every image that these calls left
abbrev pub IsOrderlyChain : ℕ → List ℕ → Stop → Type 0
IsOrderlyChain end image why = (header : DevHeader) (visits : List Visit) → IsHeaderOf end (first_sector image) header → IsChain image header visits why → IsOrderly (numbers_in header) visits

-- the header that a crash leaves after a start: the first sector, with the log blocks that the walk visited, and with what was
-- restored along them, whose bytes are the image's
pub record IsStartOf (end : ℕ) (image : List ℕ) (restored : List Restored) (why : Stop) (k : Candidate) : Type 0 where
  pub sector : k.sector ≡ first_sector image
  pub chain : (IsUnread end image why × (k.blocks ≡ [])) ⊎ ((header : DevHeader) × IsHeaderOf end (first_sector image) header × IsChain image header k.blocks why)
  pub list : restored ≡ restored_by k
  pub kept : AllByRecursion (IsKeptIn image) k.kept

-- the promise with which a device begins
abbrev pub opening : Candidate → Promise
opening k = record { candidates = k ∷ []; blocks = k.blocks; kept = k.kept; pending = [] }

-- what a start keeps: where a crash leaves what a read gives, and the chain is orderly, a crash after it leaves the first sector with its list
abbrev pub StartKeeps : {D : Type 0} → (D → Option (List ℕ)) → (D → Bool) → (D → List ℕ → Type 0) → ℕ → D → D → CursorState → List Restored → Stop → Type 0
StartKeeps tells has_sectors leaves end old new cursor restored why =
    (image : List ℕ) → IsTrue (has_sectors old) → tells old ≡ Some image → LeavesOnly image (leaves old) → IsOrderlyChain end image why
    → (k : Candidate) × IsStartOf end image restored why k × KeepsPromise tells has_sectors leaves new cursor (opening k)
