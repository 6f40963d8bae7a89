-- What is as before where a device was read and no more.
use Rattle.std.specs.Prelude.{◌≡◌, ℕ, ◌≤◌, List, Bool, Option}
use Rattle.vdev_io.specs.Device.{LeavesSame, LeavesNothingNew}

-- what a read of the device leaves as it was: all that it tells, and what a crash may leave, now and since any moment
pub record OnlyRead {D : Type 0} (size_of : D → ℕ) (tells : D → Option (List ℕ)) (has_sectors : D → Bool) (leaves : D → List ℕ → Type 0) (moment : D → ℕ) (since : D → ℕ → List ℕ → Type 0) (faults_of : D → ℕ)
    (old new : D) : Type 0 where
  pub size : size_of new ≡ size_of old
  pub told : tells new ≡ tells old
  pub kind : has_sectors new ≡ has_sectors old
  pub crash : LeavesSame (leaves old) (leaves new)
  pub time : LeavesNothingNew (moment old) (moment new) (since old) (since new)
  pub faults : faults_of old ≤ faults_of new
