-- What a write and a flush do to the disk of sectors.
use Rattle.std.proofs.Common.{◌≡◌, ℕ, ◌+◌, ◌≤◌, Bool, true, false, List, [], ◌∷◌, ◌++◌, length, Option, None, Some, Ok, refl, sym, ap, subst, ◌∙◌, arith, if◌then◌else◌}
use Rattle.vdev_io.specs.Device.{put, IsWritten, LeavesOnly, LeavesNoMore, FollowsBySector, LeavesNothingNew}
use Rattle.vdev_io.specs.SectorDisk.{Disk, DiskCall, Write, Flush, SectorImages, after_call, after_calls, AreInside, KeepsImages, IsCrash, DiskMayLeave, DiskLeftSince, MayHaveLeft, images, told_image}
use Rattle.vdev_io.specs.SectorLaws.{crash_leaves_told}
use Rattle.vdev_io.proofs.SectorLaws.{put_length, crash_of_write, crash_of_flush}
use Rattle.vdev_io.proofs.CrashLaws.{images_len}

after_calls-push : (disk : SectorImages) (calls : List DiskCall) (call : DiskCall) → after_calls disk (calls ++ call ∷ []) ≡ after_call (after_calls disk calls) call
after_calls-push disk [] call = refl
after_calls-push disk (c ∷ calls) call = after_calls-push (after_call disk c) calls call

inside-write : (n : ℕ) (calls : List DiskCall) (at : ℕ) (bytes : List ℕ) → AreInside n calls → at + length bytes ≤ n → AreInside n (calls ++ Write at bytes ∷ [])
inside-write n [] at bytes inside le = (le, tt)
inside-write n (Write place old ∷ calls) at bytes inside le = (inside.0, inside-write n calls at bytes inside.1 le)
inside-write n (Flush ∷ calls) at bytes inside le = inside-write n calls at bytes inside le

inside-flush : (n : ℕ) (calls : List DiskCall) → AreInside n calls → AreInside n (calls ++ Flush ∷ [])
inside-flush n [] inside = tt
inside-flush n (Write place old ∷ calls) inside = (inside.0, inside-flush n calls inside.1)
inside-flush n (Flush ∷ calls) inside = inside-flush n calls inside

-- both images have the length of the one that the disk opened with
pub kept_lens : (opening : List ℕ) (calls : List DiskCall) (flushed now : List ℕ) → KeepsImages opening calls flushed now
    → (length flushed ≡ length opening) × (length now ≡ length opening)
kept_lens opening calls flushed now keeps =
    let lens = images_len (length opening) record { flushed = opening; now = opening } calls keeps.inside refl refl in
    (ap (λ (d : SectorImages). length d.flushed) (sym keeps.images) ∙ lens.0, ap (λ (d : SectorImages). length d.now) (sym keeps.images) ∙ lens.1)

pub keeps-write : (opening : List ℕ) (calls : List DiskCall) (flushed now : List ℕ) (at : ℕ) (bytes : List ℕ) → KeepsImages opening calls flushed now
    → at + length bytes ≤ length now → KeepsImages opening (calls ++ Write at bytes ∷ []) flushed (put at bytes now)
keeps-write opening calls flushed now at bytes keeps le =
    let lens = kept_lens opening calls flushed now keeps in
    record {
      inside = inside-write (length opening) calls at bytes keeps.inside (subst (λ (n : ℕ). at + length bytes ≤ n) lens.1 le);
      images = after_calls-push record { flushed = opening; now = opening } calls (Write at bytes) ∙ ap (λ (d : SectorImages). after_call d (Write at bytes)) keeps.images;
    }

pub keeps-flush : (opening : List ℕ) (calls : List DiskCall) (flushed now : List ℕ) → KeepsImages opening calls flushed now
    → KeepsImages opening (calls ++ Flush ∷ []) now now
keeps-flush opening calls flushed now keeps = record {
  inside = inside-flush (length opening) calls keeps.inside;
  images = after_calls-push record { flushed = opening; now = opening } calls Flush ∙ ap (λ (d : SectorImages). after_call d Flush) keeps.images;
}

-- one call more was recorded
pub record Records (old new : Disk) (call : DiskCall) : Type 0 where
  pub opening : new.opening ≡ old.opening
  pub tells : new.tells ≡ old.tells
  pub calls : new.calls ≡ old.calls ++ call ∷ []

images-push : (old new : Disk) (call : DiskCall) → Records old new call → images new ≡ after_call (images old) call
images-push old new call r =
    ap (λ (image : List ℕ). after_calls record { flushed = image; now = image } new.calls) r.opening
    ∙ ap (λ (calls : List DiskCall). after_calls record { flushed = old.opening; now = old.opening } calls) r.calls
    ∙ after_calls-push record { flushed = old.opening; now = old.opening } old.calls call

written_if_told : (T E : Type 0) (x : T) (tells : Bool) (at : ℕ) (bytes old : List ℕ)
    → IsWritten {T = T} {E = E} at bytes (if tells then Some old else None) (if tells then Some (put at bytes old) else None) (Ok x)
written_if_told T E x true at bytes old = refl
written_if_told T E x false at bytes old = refl

pub told-write : (T E : Type 0) (x : T) (old new : Disk) (at : ℕ) (bytes : List ℕ) → Records old new (Write at bytes)
    → IsWritten {T = T} {E = E} at bytes (told_image old) (told_image new) (Ok x)
told-write T E x old new at bytes r =
    subst (λ (told : Option (List ℕ)). IsWritten {T = T} {E = E} at bytes (told_image old) told (Ok x))
    (sym (ap (λ (tells : Bool). let told : Option (List ℕ) = (if tells then Some (images new).now else None) in told) r.tells
    ∙ ap (λ (d : SectorImages). let told : Option (List ℕ) = (if old.tells then Some d.now else None) in told) (images-push old new (Write at bytes) r)))
    (written_if_told T E x old.tells at bytes (images old).now)

pub size-write : (old new : Disk) (at : ℕ) (bytes : List ℕ) → Records old new (Write at bytes) → at + length bytes ≤ length (images old).now
    → length (images new).now ≡ length (images old).now
size-write old new at bytes r le = ap (λ (d : SectorImages). length d.now) (images-push old new (Write at bytes) r) ∙ put_length at bytes (images old).now le

pub crash-write : (old new : Disk) (at : ℕ) (bytes : List ℕ) → Records old new (Write at bytes) → length (images old).flushed ≡ length (images old).now
    → at + length bytes ≤ length (images old).now → FollowsBySector at bytes (DiskMayLeave old) (DiskMayLeave new)
crash-write old new at bytes r lens le c crash =
    crash_of_write (images old) at bytes c lens le (subst (λ (d : SectorImages). IsCrash d c) (images-push old new (Write at bytes) r) crash)

pub told-flush : (old new : Disk) → Records old new Flush → told_image new ≡ told_image old
told-flush old new r =
    ap (λ (tells : Bool). let told : Option (List ℕ) = (if tells then Some (images new).now else None) in told) r.tells
    ∙ ap (λ (d : SectorImages). let told : Option (List ℕ) = (if old.tells then Some d.now else None) in told) (images-push old new Flush r)

pub size-flush : (old new : Disk) → Records old new Flush → length (images new).now ≡ length (images old).now
size-flush old new r = ap (λ (d : SectorImages). length d.now) (images-push old new Flush r)

pub durable-flush : (old new : Disk) → Records old new Flush → LeavesOnly (images old).now (DiskMayLeave new)
durable-flush old new r c crash = crash_of_flush (images old) c (subst (λ (d : SectorImages). IsCrash d c) (images-push old new Flush r) crash)

pub crash-flush : (old new : Disk) → Records old new Flush → LeavesNoMore (DiskMayLeave old) (DiskMayLeave new)
crash-flush old new r c crash = subst (λ (image : List ℕ). IsCrash (images old) image) (sym (durable-flush old new r c crash)) (crash_leaves_told (images old))

-- where nothing was recorded, time stands still
stands : (calls : List DiskCall) (opening : List ℕ) (disk : Disk) → disk.calls ≡ calls → disk.opening ≡ opening
    → LeavesNothingNew (length disk.calls) (length calls) (DiskLeftSince disk) (MayHaveLeft record { flushed = opening; now = opening } calls)
stands calls opening disk same_calls same_opening =
    subst (λ (cs : List DiskCall). LeavesNothingNew (length disk.calls) (length cs) (DiskLeftSince disk) (MayHaveLeft record { flushed = opening; now = opening } cs)) same_calls
    (subst (λ (image : List ℕ). LeavesNothingNew (length disk.calls) (length disk.calls) (DiskLeftSince disk) (MayHaveLeft record { flushed = image; now = image } disk.calls)) same_opening
    record { later = omega arith; same = λ t c le. (λ x. x, λ x. x) })

pub stands-same : (old new : Disk) → old.calls ≡ new.calls → old.opening ≡ new.opening → LeavesNothingNew (length old.calls) (length new.calls) (DiskLeftSince old) (DiskLeftSince new)
stands-same old new calls opening = stands new.calls new.opening old calls opening
