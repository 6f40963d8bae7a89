-- The disk of sectors: until a flush is answered Ok, each sector that was written is old or new, each by itself, and
-- everything else is what a read gives. It tells what a crash now, or at a moment since an earlier one, may leave.
use Rattle.std.specs.Prelude.{◌≡◌, ◌==◌, ℕ, ◌+◌, ◌*◌, ◌<◌, ◌≤◌, ◌⊎◌, List, [], ◌∷◌, length, take, fold, slice_index, slice_index_or, Bool, false, ◌&&◌, ◌||◌, nat_lt, not, Option, Some, None, if◌then◌else◌}
use Rattle.std.proofs.Common.{zero, suc}
use Rattle.blk_ptr.specs.Size.{sector}
use Rattle.vdev_io.specs.Device.{put}

-- a call that changes the disk, and was not refused
pub data DiskCall : Type 0 where
  Write : ℕ → List ℕ → DiskCall
  Flush : DiskCall

-- the image as of the last flush, and the one that a read gives
pub record SectorImages : Type 0 where
  pub flushed : List ℕ
  pub now : List ℕ

-- the disk after a call
abbrev pub after_call : SectorImages → DiskCall → SectorImages
after_call disk (Write at bytes) = record { flushed = disk.flushed; now = put at bytes disk.now }
after_call disk Flush = record { flushed = disk.now; now = disk.now }

-- the disk after these calls
abbrev pub after_calls : SectorImages → List DiskCall → SectorImages
after_calls disk [] = disk
after_calls disk (call ∷ calls) = after_calls (after_call disk call) calls

-- both images have the same bytes in sector k
abbrev pub IsSameSector : ℕ → List ℕ → List ℕ → Type 0
IsSameSector k a b = (i : ℕ) → k * sector ≤ i → i < (k + 1) * sector → slice_index a i ≡ slice_index b i

-- they have the same bytes outside sector k
abbrev pub IsSameBut : ℕ → List ℕ → List ℕ → Type 0
IsSameBut k a b = (i : ℕ) → (i < k * sector) ⊎ ((k + 1) * sector ≤ i) → slice_index b i ≡ slice_index a i

-- what a crash of the disk may leave: each sector as of the last flush, or as a read gives it
pub record IsCrash (disk : SectorImages) (c : List ℕ) : Type 0 where
  pub len : length c ≡ length disk.now
  pub sectors : (k : ℕ) → IsSameSector k c disk.flushed ⊎ IsSameSector k c disk.now

-- what a crash may have left at the moment t, counted in calls from the opening, or at a later one
abbrev pub MayHaveLeft : SectorImages → List DiskCall → ℕ → List ℕ → Type 0
MayHaveLeft opening calls t c =
    (k : ℕ) × (t ≤ k) × (k ≤ length calls) × IsCrash (after_calls opening (take k calls)) c

-- The disk: the image that it opened with, the calls that changed it, whether it tells what it holds, how many writes and
-- flushes it still takes, and how many bytes, whether it was asked to write more than that, how many calls failed, how many
-- reads were asked for, and how many writes, flushes and forks. Each write and each flush that was done is one call.
pub record Disk : Type 0 where
  pub opening : List ℕ
  pub calls : List DiskCall
  pub tells : Bool
  pub left : ℕ
  pub room : ℕ
  pub full : Bool
  pub faults : ℕ
  pub reads : ℕ
  pub other_calls : ℕ

-- its images
abbrev pub images : Disk → SectorImages
images disk = after_calls record { flushed = disk.opening; now = disk.opening } disk.calls

-- every call fails from now on
abbrev pub is_stopped : Disk → Bool
is_stopped disk = disk.full || disk.left == 0

-- the image that it tells
abbrev pub told_image : Disk → Option (List ℕ)
told_image disk = if disk.tells then Some (images disk).now else None

-- what a crash of it may leave
abbrev pub DiskMayLeave : Disk → List ℕ → Type 0
DiskMayLeave disk c = IsCrash (images disk) c

-- what a crash of it may have left since a moment
abbrev pub DiskLeftSince : Disk → ℕ → List ℕ → Type 0
DiskLeftSince disk t c = MayHaveLeft record { flushed = disk.opening; now = disk.opening } disk.calls t c

-- a write of n bytes at this place touches a byte of the sector that begins there
abbrev pub touches : ℕ → ℕ → ℕ → Bool
touches start at n = nat_lt 0 n && (nat_lt at (start + sector) && nat_lt start (at + n))

-- whether sector k was written and not flushed since, after one call more
abbrev pub written_after : ℕ → Bool → DiskCall → Bool
written_after k written (Write at bytes) = written || touches (k * sector) at (length bytes)
written_after k written Flush = false

-- sector k was written since the last flush
abbrev pub is_written : List DiskCall → ℕ → Bool
is_written calls k = fold (written_after k) false calls

-- how many sectors before the k-th were written since the last flush
abbrev pub written_before : List DiskCall → ℕ → ℕ
written_before calls zero = 0
written_before calls (suc k) = written_before calls k + (if is_written calls k then 1 else 0)

-- the flag of sector k: each sector that was written has one, by rising place, and one that is missing is false
abbrev pub flag_of : List DiskCall → List Bool → ℕ → Bool
flag_of calls kept k = slice_index_or kept (written_before calls k) false

-- sector k is as a read gives it: it was not written since the last flush, or its flag is true
abbrev pub is_new : List DiskCall → List Bool → ℕ → Bool
is_new calls kept k = not (is_written calls k) || flag_of calls kept k

-- the image that these flags say, sector by sector
pub record IsCrashBy (disk : SectorImages) (calls : List DiskCall) (kept : List Bool) (c : List ℕ) : Type 0 where
  pub len : length c ≡ length disk.now
  pub sectors : (k : ℕ) → IsSameSector k c (if is_new calls kept k then disk.now else disk.flushed)

-- each write lies inside a disk of this length
abbrev pub AreInside : ℕ → List DiskCall → Type 0
AreInside n [] = Unit {0}
AreInside n (Write at bytes ∷ calls) = (at + length bytes ≤ n) × AreInside n calls
AreInside n (Flush ∷ calls) = AreInside n calls

-- what the disk keeps beside its record: each write was inside, and these are the images
pub record KeepsImages (opening : List ℕ) (calls : List DiskCall) (flushed now : List ℕ) : Type 0 where
  pub inside : AreInside (length opening) calls
  pub images : after_calls record { flushed = opening; now = opening } calls ≡ record { flushed = flushed; now = now }

-- each image that a crash may leave is the one that some flags say
abbrev pub HasFlags : Type 0
HasFlags = (opening : List ℕ) (calls : List DiskCall) (c : List ℕ) → AreInside (length opening) calls
    → IsCrash (after_calls record { flushed = opening; now = opening } calls) c
    → (kept : List Bool) × IsCrashBy (after_calls record { flushed = opening; now = opening } calls) calls kept c
