-- What becomes of the cache device that is handed in.
use Rattle.std.specs.Prelude.{◌≡◌, ◌<◌, ◌≤◌, ℕ, nat_lt, if◌then◌else◌, List, [], Option, None, Some, IfSome, min}
use Rattle.vdev_io.specs.Calls.{DeviceCall, MakesDeviceCalls}
use Rattle.vdev_io.specs.Device.{LeavesSame, LeavesNothingNew}
use Rattle.vdev_io.specs.Faults.{Rose, last_count}
use Rattle.vdev_io.specs.declared.device.CacheDev.{Ghosts}
use Rattle.l2_log.specs.Rules.{least_ring_end}
use Rattle.l2_dev.specs.declared.stop.Stop.TheVariants as stops
use Rattle.l2_dev.specs.Cursor.{CursorState}
use Rattle.l2_dev.specs.Rebuilding.{HaveKeys, IsOpened, IsStarted, ring_end_of}
use Rattle.l2_dev.specs.Restoring.{IsRebuilt}
use Rattle.l2_dev.specs.Starting.{StartKeeps}
use Rattle.trace_text.specs.declared.rebuilt.Rebuilt.{Rebuilt}
use Rattle.trace_run.specs.declared.device.Device.{Device}
use Rattle.trace_run.specs.declared.device.Device.TheVariants as device

-- the device that is handed back in the end
abbrev pub device_of : {D : Type 0} → Device D → Option D
device_of device.None = None
device_of (device.Short dev) = Some dev
device_of (device.Ready l2) = Some l2.dev

-- where it is written, where it was started
abbrev pub cursor_in : {D : Type 0} → Device D → Option CursorState
cursor_in device.None = None
cursor_in (device.Short dev) = None
cursor_in (device.Ready l2) = Some l2.cursor

-- the device that is lent to callers, where it was started
abbrev pub lent_in : {D : Type 0} → Device D → Option D
lent_in device.None = None
lent_in (device.Short dev) = None
lent_in (device.Ready l2) = Some l2.dev

module _ {D : Type 0} (devices : Ghosts D) where
  -- The device was read, forked and given forks back, and nothing else: its length, its kind, the bytes that it tells and what a crash may leave of it are
  -- as they were. Its count of faults has not fallen, as far as a count goes: a fork is taken back by a sum of counts, which ends there.
  pub record WasOnlyRead (before after : D) : Type 0 where
    pub size : devices.size after ≡ devices.size before
    pub told : devices.told after ≡ devices.told before
    pub kind : devices.has_sectors after ≡ devices.has_sectors before
    pub crash : LeavesSame (devices.may_leave before) (devices.may_leave after)
    pub time : LeavesNothingNew (devices.moment before) (devices.moment after) (devices.left_since before) (devices.left_since after)
    pub faults : min (devices.faults before) last_count ≤ devices.faults after

  -- The device has its length and its kind, and its count of faults has not fallen, as far as a count goes; or it is lost. None is made up.
  abbrev pub MayLose : Option D → Option D → Type 0
  MayLose before None = Unit {0}
  MayLose None (Some after) = ⊥
  MayLose (Some before) (Some after) = (devices.size after ≡ devices.size before) × (devices.has_sectors after ≡ devices.has_sectors before) × (min (devices.faults before) last_count ≤ devices.faults after)

  -- it was only read, or it is lost
  abbrev pub MayLoseUnfed : Option D → Option D → Type 0
  MayLoseUnfed before None = Unit {0}
  MayLoseUnfed None (Some after) = ⊥
  MayLoseUnfed (Some before) (Some after) = WasOnlyRead before after

  -- one that was only read is not lost
  abbrev pub IsHandedBack : Option D → Option D → Type 0
  IsHandedBack None None = Unit {0}
  IsHandedBack None (Some after) = ⊥
  IsHandedBack (Some before) None = ⊥
  IsHandedBack (Some before) (Some after) = WasOnlyRead before after

  -- the device that was handed in, where callers may read it: it is long enough
  abbrev pub usable : Option D → Option D
  usable None = None
  usable (Some dev) = if nat_lt (devices.size dev) least_ring_end then None else Some dev

  -- a device is told as too short exactly where it is
  abbrev pub IsRightKind : Device D → Type 0
  IsRightKind device.None = Unit {0}
  IsRightKind (device.Short dev) = devices.size dev < least_ring_end
  IsRightKind (device.Ready l2) = least_ring_end ≤ devices.size l2.dev

  -- A device was lent: one that was started was only read meanwhile, and all else of it is as it was; any other is as it was.
  abbrev pub WasLent : Device D → Device D → Type 0
  WasLent device.None device.None = Unit {0}
  WasLent (device.Short before) (device.Short after) = after ≡ before
  WasLent (device.Ready before) (device.Ready after) = (after.cursor ≡ before.cursor) × (after.alloc ≡ before.alloc) × WasOnlyRead before.dev after.dev
  WasLent _ _ = ⊥

  -- What the start of a device found on it, and how the start left it: exactly a device that is too short is told so, and it is not looked at. Of any other
  -- one the list and the stop are those of the bytes that it tells, it was asked for just the reads that lead there, each once, and its ring is written from this cursor on.
  -- The stop says that it failed only where it did. No key stands twice in the list. Of every crash the start keeps what was there.
  pub record IsFoundOn (before after : D) (first : Option CursorState) (rebuilt : Rebuilt) : Type 0 where
    pub short : devices.size before < least_ring_end → (rebuilt.list ≡ []) × (rebuilt.stop ≡ stops.Short (devices.size before)) × (after ≡ before) × (first ≡ None)
    pub long : (len : ℕ) → rebuilt.stop ≡ stops.Short len → (devices.size before < least_ring_end) × (len ≡ devices.size before)
    pub image : least_ring_end ≤ devices.size before → IfSome (devices.told before) (λ image. IsRebuilt (ring_end_of (devices.size before)) image rebuilt.list rebuilt.stop)
    pub reads : least_ring_end ≤ devices.size before → (calls : List DeviceCall) × MakesDeviceCalls devices calls before after × (cursor : CursorState) × (first ≡ Some cursor) × IsOpened (ring_end_of (devices.size before)) cursor rebuilt.list
        × IfSome (devices.told before) (λ image. IsStarted (ring_end_of (devices.size before)) image calls cursor rebuilt.list rebuilt.stop)
    pub cause : rebuilt.stop ≡ stops.DevFault → Rose (devices.faults before) (devices.faults after)
    pub keys : HaveKeys rebuilt.list
    pub only : WasOnlyRead before after
    pub crash : (cursor : CursorState) → first ≡ Some cursor → StartKeeps devices.told devices.has_sectors devices.may_leave (ring_end_of (devices.size before)) before after cursor rebuilt.list rebuilt.stop

  -- something is reported of a device exactly where one was handed in, and this is that device behind its start
  abbrev pub Finds : Option D → Option D → Option CursorState → Option Rebuilt → Type 0
  Finds None after first rebuilt = (after ≡ None) × (first ≡ None) × (rebuilt ≡ None)
  Finds (Some before) None first rebuilt = ⊥
  Finds (Some before) (Some after) first None = ⊥
  Finds (Some before) (Some after) first (Some rebuilt) = IsFoundOn before after first rebuilt
