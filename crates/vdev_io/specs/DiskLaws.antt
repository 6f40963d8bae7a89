-- The laws of a cache device at the disk of sectors.
use Rattle.std.specs.Prelude.{◌≡◌, ℕ, ◌≤◌, List, length, Bool, true, false, Option, Some, None, if◌then◌else◌}
use Rattle.std.proofs.Common.{sym, ap, subst}
use Rattle.vdev_io.specs.Untold.{untold}
use Rattle.vdev_io.specs.SectorDisk.{Disk, DiskMayLeave, DiskLeftSince, images, told_image}
use Rattle.vdev_io.specs.SectorLaws.{crash_leaves_told, left_counts_now, left_only_now, left_since_earlier}

or_else : List ℕ → Option (List ℕ) → List ℕ
or_else bytes None = bytes
or_else bytes (Some image) = image

told_is : (tells : Bool) (now image : List ℕ) → (if tells then Some now else None) ≡ Some image → now ≡ image
unfolding or_else
told_is true now image e = ap (or_else now) e
told_is false now image e = untold image e

pub told_has_len : (disk : Disk) (image : List ℕ) → told_image disk ≡ Some image → length image ≡ length (images disk).now
told_has_len disk image e = ap length (sym (told_is disk.tells (images disk).now image e))

pub told_is_left : (disk : Disk) (image : List ℕ) → told_image disk ≡ Some image → DiskMayLeave disk image
told_is_left disk image e = subst (λ (c : List ℕ). DiskMayLeave disk c) (told_is disk.tells (images disk).now image e) (crash_leaves_told (images disk))

pub counts_now : (disk : Disk) (t : ℕ) (c : List ℕ) → t ≤ length disk.calls → DiskMayLeave disk c → DiskLeftSince disk t c
counts_now disk t c le crash = left_counts_now record { flushed = disk.opening; now = disk.opening } disk.calls t c le crash

pub only_now : (disk : Disk) (c : List ℕ) → DiskLeftSince disk (length disk.calls) c → DiskMayLeave disk c
only_now disk c left = left_only_now record { flushed = disk.opening; now = disk.opening } disk.calls c left

pub since_earlier : (disk : Disk) (s t : ℕ) (c : List ℕ) → s ≤ t → DiskLeftSince disk t c → DiskLeftSince disk s c
since_earlier disk s t c le left = left_since_earlier record { flushed = disk.opening; now = disk.opening } disk.calls s t c le left
