-- What a write of the device, flushed or not, may leave after a crash.
use Rattle.std.specs.Prelude.{◌≡◌, ℕ, ◌≤◌, ◌⊎◌, List, Bool, IsTrue, Option, Some, Result, OnOk, IfSome}
use Rattle.vdev_io.specs.Device.{IsTornBySector, IsWritten, LeavesOnly, put}
use Rattle.l2_log.specs.HeaderBytes.{IsHeader}
use Rattle.l2_log.specs.declared.header.DevHeader.{DevHeader}

-- an image that could be left before, with some sectors of the range written
pub record TornFrom (leaves : List ℕ → Type 0) (at : ℕ) (bytes c : List ℕ) : Type 0 where
  pub from : List ℕ
  pub left : leaves from
  pub torn : IsTornBySector at bytes from c

-- a disk of sectors on which these bytes were written, or in part: what a crash may leave now, and since any earlier moment
pub record Wrote {D : Type 0} (tells : D → Option (List ℕ)) (has_sectors : D → Bool) (leaves : D → List ℕ → Type 0) (moment : D → ℕ) (since : D → ℕ → List ℕ → Type 0)
    (at : ℕ) (bytes : List ℕ) (old new : D) : Type 0 where
  pub kind : has_sectors new ≡ has_sectors old
  pub told : (image : List ℕ) → tells old ≡ Some image → (now : List ℕ) × (tells new ≡ Some now)
  pub later : moment old ≤ moment new
  pub torn : IsTrue (has_sectors old) → (c : List ℕ) → leaves new c → TornFrom (leaves old) at bytes c
  pub past : IsTrue (has_sectors old) → (t : ℕ) (c : List ℕ) → t ≤ moment old → since new t c → since old t c ⊎ TornFrom (leaves old) at bytes c

-- the device tells this image, and a crash leaves it alone
pub record HasFlushed {D : Type 0} (tells : D → Option (List ℕ)) (leaves : D → List ℕ → Type 0) (new : D) (image : List ℕ) : Type 0 where
  pub told : tells new ≡ Some image
  pub only : LeavesOnly image (leaves new)

-- the header was written to the first sector, or in part, and at Ok flushed: of the image that is told only that sector may be another
pub record HeaderWritten {D T E : Type 0} (tells : D → Option (List ℕ)) (has_sectors : D → Bool) (leaves : D → List ℕ → Type 0) (moment : D → ℕ) (since : D → ℕ → List ℕ → Type 0)
    (header : DevHeader) (old new : D) (result : Result T E) : Type 0 where
  pub sector : List ℕ
  pub is : IsHeader sector header
  pub wrote : Wrote tells has_sectors leaves moment since 0 sector old new
  pub image : IsWritten 0 sector (tells old) (tells new) result
  pub done : OnOk result (IfSome (tells old) (λ image. HasFlushed tells leaves new (put 0 sector image)))
