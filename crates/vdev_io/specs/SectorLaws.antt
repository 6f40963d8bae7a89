-- That the disk of sectors keeps what is asked of a cache device: what a write, a flush and the passing of time do to
-- what a crash of it may leave.
use Rattle.std.proofs.Common.{◌≡◌, ℕ, ◌≤◌, inr, List, length, take, refl, sym, subst, arith}
use Rattle.std.proofs.lemmas.List.{take_all}
use Rattle.vdev_io.specs.SectorDisk.{DiskCall, SectorImages, after_calls, IsCrash, MayHaveLeft}

-- what a read gives is among what a crash may leave
pub crash_leaves_told : (disk : SectorImages) → IsCrash disk disk.now
crash_leaves_told disk = record { len = refl; sectors = λ k. inr (λ i ge lt. refl) }

-- this moment counts
pub left_counts_now : (opening : SectorImages) (calls : List DiskCall) (t : ℕ) (c : List ℕ) → t ≤ length calls
    → IsCrash (after_calls opening calls) c → MayHaveLeft opening calls t c
left_counts_now opening calls t c le crash =
    let all : take (length calls) calls ≡ calls = take_all (length calls) calls (omega arith) in
    (length calls, le, omega arith, subst (λ (done : List DiskCall). IsCrash (after_calls opening done) c) (sym all) crash)

-- since this moment there is no other
pub left_only_now : (opening : SectorImages) (calls : List DiskCall) (c : List ℕ) → MayHaveLeft opening calls (length calls) c
    → IsCrash (after_calls opening calls) c
left_only_now opening calls c left =
    let all : take left.0 calls ≡ calls = take_all left.0 calls left.1 in
    subst (λ (done : List DiskCall). IsCrash (after_calls opening done) c) all left.3

-- a crash since a moment is one since each earlier moment
pub left_since_earlier : (opening : SectorImages) (calls : List DiskCall) (s t : ℕ) (c : List ℕ) → s ≤ t → MayHaveLeft opening calls t c → MayHaveLeft opening calls s c
left_since_earlier opening calls s t c le left = let since = left.1 in (left.0, omega arith, left.2, left.3)
