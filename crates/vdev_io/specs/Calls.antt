-- The calls that are made of a pool or of a cache device, one after another, and which of them failed.
use Rattle.std.specs.Prelude.{◌≡◌, ℕ, ◌≤◌, Bool, true, false, List, [], ◌∷◌, ◌++◌, length, map, Option, None, Some, IfSome, IsTrue, Result, Ok, Err}
use Rattle.vdev_io.specs.declared.pool.Pool.{Ghosts}
use Rattle.vdev_io.specs.declared.device.CacheDev.{Ghosts as DeviceGhosts}
use Rattle.vdev_io.specs.Device.{put, IsTorn, FollowsBySector, LeavesNoMore, LeavesOnly, LeavesSame}
use Rattle.vdev_io.specs.Faults.{CountsOne, sum_of_counts}

-- how a call was answered
pub data Call : Type 0 where
  -- it was done
  Gave : Call
  Failed : Call

abbrev pub is_failed : Call → Bool
is_failed Gave = false
is_failed Failed = true

abbrev pub answer_of : {T E : Type 0} → Result T E → Call
answer_of (Ok value) = Gave
answer_of (Err error) = Failed

-- one more fault was counted exactly where the call failed
abbrev pub CountsCall : Call → (before now : ℕ) → Type 0
CountsCall Gave before now = now ≡ before
CountsCall Failed before now = CountsOne before now

-- the pool has its length and the bytes that it tells, counts no fewer faults, and was asked for no write and no fork
pub record KeepsPool {P : Type 0} (pool : Ghosts P) (old new : P) : Type 0 where
  pub size : pool.size new ≡ pool.size old
  pub told : pool.told new ≡ pool.told old
  pub faults : pool.faults old ≤ pool.faults new
  pub others : pool.other_calls new ≡ pool.other_calls old

-- the pool was read once, and answered so
pub record MakesCall {P : Type 0} (pool : Ghosts P) (call : Call) (old new : P) : Type 0 where
  pub keeps : KeepsPool pool old new
  pub reads : CountsOne (pool.reads old) (pool.reads new)
  pub faults : CountsCall call (pool.faults old) (pool.faults new)

-- The pool was read once for each of these, one after another, and answered so; nothing else was done with it.
abbrev pub MakesCalls : {P : Type 0} → Ghosts P → List Call → (old new : P) → Type 0
MakesCalls pool [] old new = new ≡ old
MakesCalls {P} pool (call ∷ calls) old new = (next : P) × MakesCall pool call old next × MakesCalls pool calls next new

-- what a cache device is asked for
pub data Asked : Type 0 where
  -- to read so many bytes from a place on
  Read : (at n : ℕ) → Asked
  -- to write these bytes from a place on
  Write : (at : ℕ) → List ℕ → Asked
  Flush : Asked

-- a call of a device, and how it was answered
pub record DeviceCall : Type 0 where
  pub asked : Asked
  pub answer : Call

-- a read was counted, and no other call was
abbrev pub CountsRead : Asked → (before now : ℕ) → Type 0
CountsRead (Read at n) before now = CountsOne before now
CountsRead (Write at bytes) before now = now ≡ before
CountsRead Flush before now = now ≡ before

-- a write or a flush was counted among the other calls, and no read was
abbrev pub others_after : Asked → ℕ → ℕ
others_after (Read at n) before = before
others_after (Write at bytes) before = sum_of_counts before 1
others_after Flush before = sum_of_counts before 1

-- what the image that was told is after a call: a write puts its bytes there, or any where it failed, and no other call changes it
abbrev pub IsImageAfter : Asked → Call → (old new : List ℕ) → Type 0
IsImageAfter (Read at n) answer old new = new ≡ old
IsImageAfter (Write at bytes) Gave old new = new ≡ put at bytes old
IsImageAfter (Write at bytes) Failed old new = IsTorn at (length bytes) old new
IsImageAfter Flush answer old new = new ≡ old

-- what is told is told still, and is what the call makes of it
abbrev pub IsToldAfter : Asked → Call → (old new : Option (List ℕ)) → Type 0
IsToldAfter asked answer None new = new ≡ None
IsToldAfter asked answer (Some old) None = ⊥
IsToldAfter asked answer (Some old) (Some new) = IsImageAfter asked answer old new

-- what a crash may leave after a call: what it might before, but for the sectors of a write; and only what is told, after a flush that was done
abbrev pub LeavesAfter : Asked → Call → Option (List ℕ) → (sectors : Bool) → (old new : List ℕ → Type 0) → Type 0
LeavesAfter (Read at n) answer told sectors old new = LeavesSame old new
LeavesAfter (Write at bytes) answer told sectors old new = IsTrue sectors → FollowsBySector at bytes old new
LeavesAfter Flush Gave told sectors old new = LeavesNoMore old new × IfSome told (λ image. LeavesOnly image new)
LeavesAfter Flush Failed told sectors old new = LeavesSame old new

-- the device was asked for this once, and answered so
pub record MakesDeviceCall {D : Type 0} (device : DeviceGhosts D) (call : DeviceCall) (old new : D) : Type 0 where
  pub size : device.size new ≡ device.size old
  pub kind : device.has_sectors new ≡ device.has_sectors old
  pub told : IsToldAfter call.asked call.answer (device.told old) (device.told new)
  pub crash : LeavesAfter call.asked call.answer (device.told old) (device.has_sectors old) (device.may_leave old) (device.may_leave new)
  pub reads : CountsRead call.asked (device.reads old) (device.reads new)
  pub others : device.other_calls new ≡ others_after call.asked (device.other_calls old)
  pub faults : CountsCall call.answer (device.faults old) (device.faults new)

-- The device was asked for each of these once, one after another, and answered so; nothing else was done with it.
abbrev pub MakesDeviceCalls : {D : Type 0} → DeviceGhosts D → List DeviceCall → (old new : D) → Type 0
MakesDeviceCalls device [] old new = new ≡ old
MakesDeviceCalls {D} device (call ∷ calls) old new = (next : D) × MakesDeviceCall device call old next × MakesDeviceCalls device calls next new

-- it was asked for this, and answered so
abbrev pub answered : Call → Asked → DeviceCall
answered answer asked = record { asked = asked; answer = answer }

-- the device was asked for all of these, one after another, and each was done
abbrev pub MakesAll : {D : Type 0} → DeviceGhosts D → List Asked → (old new : D) → Type 0
MakesAll device asked old new = MakesDeviceCalls device (map (answered Gave) asked) old new

-- The device was asked for these, one after another, up to the one that failed: those before it were done, and those behind it were
-- not asked for.
pub record MakesUpTo {D : Type 0} (device : DeviceGhosts D) (asked : List Asked) (old new : D) : Type 0 where
  pub done : List Asked
  pub failed : Asked
  pub left : List Asked
  pub whole : asked ≡ done ++ failed ∷ left
  pub calls : MakesDeviceCalls device (map (answered Gave) done ++ answered Failed failed ∷ []) old new

-- the device was asked for these, all of them where the answer is no error, and else up to the one that failed
abbrev pub MakesAsked : {D T E : Type 0} → DeviceGhosts D → List Asked → (old new : D) → Result T E → Type 0
MakesAsked device asked old new (Ok value) = MakesAll device asked old new
MakesAsked device asked old new (Err error) = MakesUpTo device asked old new
