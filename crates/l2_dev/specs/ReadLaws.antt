-- What a caller who reads the device, forks it or takes a fork back leaves of a promise: all of it.
use Rattle.std.specs.Prelude.{◌≡◌, ℕ, List, Bool, Option}
use Rattle.std.specs.List.{AllByRecursion}
use Rattle.vdev_io.specs.declared.device.CacheDev.{Ghosts}
use Rattle.vdev_io.specs.Calls.{Read, DeviceCall, MakesDeviceCalls}
use Rattle.vdev_io.specs.Device.{LeavesSame}
use Rattle.l2_dev.specs.Cursor.{CursorState}
use Rattle.l2_dev.specs.Promise.{Promise, KeepsPromise}

-- whatever promise a device kept, one keeps that tells the same, is of the same kind, and of which a crash leaves the same
abbrev pub ReadsKeepPromises : {D : Type 0} → (D → Option (List ℕ)) → (D → Bool) → (D → List ℕ → Type 0) → Type 0
ReadsKeepPromises {D} tells has_sectors leaves =
    (old new : D) (cursor : CursorState) (p : Promise) → tells new ≡ tells old → has_sectors new ≡ has_sectors old → LeavesSame (leaves old) (leaves new)
    → KeepsPromise tells has_sectors leaves old cursor p → KeepsPromise tells has_sectors leaves new cursor p

-- nothing but reads was asked for
abbrev pub AreOnlyReads : List DeviceCall → Type 0
AreOnlyReads calls = AllByRecursion (λ (call : DeviceCall). (at : ℕ) × (n : ℕ) × (call.asked ≡ Read at n)) calls

-- so a device of which only reads were asked keeps every promise
abbrev pub CallsKeepPromises : {D : Type 0} → Ghosts D → Type 0
CallsKeepPromises {D} device =
    (calls : List DeviceCall) (old new : D) (cursor : CursorState) (p : Promise) → MakesDeviceCalls device calls old new → AreOnlyReads calls
    → KeepsPromise device.told device.has_sectors device.may_leave old cursor p → KeepsPromise device.told device.has_sectors device.may_leave new cursor p
