-- What a write that a crash cuts short leaves of what stands beside its range.
use Rattle.std.specs.Prelude.{◌≡◌, ℕ, ◌+◌, ◌-◌, ◌<◌, ◌≤◌, ◌⊎◌, List, ◌++◌, length, take, drop}
use Rattle.std.proofs.Common.{inl, inr, refl, sym, ap, subst, ◌∙◌, get_or, append_assoc, arith}
use Rattle.std.proofs.lemmas.List.{get_or-take, get_or-drop, ext_get_or, length-take, length-drop, length-append, take_at, drop_at}
use Rattle.std.specs.List.{AllByRecursion}
use Rattle.blk_ptr.specs.Ptr.{sha256_of}
use Rattle.vdev_io.specs.Device.{IsTorn, IsTornBySector, put}
use Rattle.l2_log.specs.Rules.{log_len, header_len}
use Rattle.l2_log.specs.LogBytes.{IsLogBlock}
use Rattle.l2_log.specs.Bytes.{AreSame}
use Rattle.l2_log.proofs.Numbers.{part_from_same}
use Rattle.l2_dev.specs.Chain.{Visit, IsHeld, bytes_at}
use Rattle.l2_dev.specs.Restoring.{first_sector}
use Rattle.l2_dev.specs.Standing.{Candidate, Kept, IsKeptIn, IsLeftBy}
use Rattle.l2_dev.proofs.ListLaws.{all_two}

-- a range beside the one that is written
abbrev pub IsAside : ℕ → ℕ → ℕ → ℕ → Type 0
IsAside at n place size = (place + size ≤ at) ⊎ (at + n ≤ place)

byte_before : (at n : ℕ) (old new : List ℕ) (k : ℕ) → IsTorn at n old new → k < at → get_or new k 0 ≡ get_or old k 0
byte_before at n old new k torn lt =
    sym (get_or-take at new k 0 lt) ∙ ap (λ (xs : List ℕ). get_or xs k 0) torn.before ∙ get_or-take at old k 0 lt

byte_behind : (at n : ℕ) (old new : List ℕ) (k : ℕ) → IsTorn at n old new → at + n ≤ k → get_or new k 0 ≡ get_or old k 0
byte_behind at n old new k torn ge =
    let place : at + n + (k - (at + n)) ≡ k = omega arith in
    sym (ap (λ (m : ℕ). get_or new m 0) place) ∙ sym (get_or-drop (at + n) new (k - (at + n)) 0)
    ∙ ap (λ (xs : List ℕ). get_or xs (k - (at + n)) 0) torn.behind ∙ get_or-drop (at + n) old (k - (at + n)) 0 ∙ ap (λ (m : ℕ). get_or old m 0) place

same_aside : (at n place size : ℕ) (old new : List ℕ) → IsTorn at n old new → IsAside at n place size → AreSame place (place + size) new old
same_aside at n place size old new torn (inl below) k ge lt = byte_before at n old new k torn (omega arith)
same_aside at n place size old new torn (inr above) k ge lt = byte_behind at n old new k torn (omega arith)

-- the bytes beside the range are as they were
pub bytes_aside : (at n place size : ℕ) (old new : List ℕ) → IsTorn at n old new → IsAside at n place size → bytes_at new place size ≡ bytes_at old place size
bytes_aside at n place size old new torn aside = part_from_same place size new old (same_aside at n place size old new torn aside) torn.len

pub held_aside : (at n : ℕ) (old new : List ℕ) (v : Visit) → IsTorn at n old new → IsAside at n v.ptr.place log_len → IsHeld old v → IsHeld new v
held_aside at n old new v torn aside held =
    let same : bytes_at old v.ptr.place log_len ≡ bytes_at new v.ptr.place log_len = sym (bytes_aside at n v.ptr.place log_len old new torn aside) in
    record {
      digest = subst (λ (bytes : List ℕ). sha256_of bytes ≡ v.ptr.digest) same held.digest;
      bytes = subst (λ (bytes : List ℕ). IsLogBlock bytes v.block) same held.bytes;
    }

pub kept_aside : (at n : ℕ) (old new : List ℕ) (k : Kept) → IsTorn at n old new → IsAside at n k.written.live.place k.written.live.key.size → IsKeptIn old k → IsKeptIn new k
kept_aside at n old new k torn aside is = bytes_aside at n k.written.live.place k.written.live.key.size old new torn aside ∙ is

-- each log block, and each entry, lies beside the range
abbrev pub BlocksAside : ℕ → ℕ → List Visit → Type 0
BlocksAside at n vs = AllByRecursion (λ (v : Visit). IsAside at n v.ptr.place log_len) vs

abbrev pub EntriesAside : ℕ → ℕ → List Kept → Type 0
EntriesAside at n ks = AllByRecursion (λ (k : Kept). IsAside at n k.written.live.place k.written.live.key.size) ks

pub all_held_aside : (at n : ℕ) (old new : List ℕ) (vs : List Visit) → IsTorn at n old new → BlocksAside at n vs → AllByRecursion (IsHeld old) vs → AllByRecursion (IsHeld new) vs
all_held_aside at n old new vs torn aside held =
    all_two (λ (v : Visit). IsAside at n v.ptr.place log_len) (IsHeld old) (IsHeld new) vs (λ v a h. held_aside at n old new v torn a h) aside held

pub all_kept_aside : (at n : ℕ) (old new : List ℕ) (ks : List Kept) → IsTorn at n old new → EntriesAside at n ks → AllByRecursion (IsKeptIn old) ks → AllByRecursion (IsKeptIn new) ks
all_kept_aside at n old new ks torn aside is =
    all_two (λ (k : Kept). IsAside at n k.written.live.place k.written.live.key.size) (IsKeptIn old) (IsKeptIn new) ks (λ k a h. kept_aside at n old new k torn a h) aside is

-- the first sector is as it was, where all that is written lies behind it
pub sector_aside : (at n : ℕ) (old new : List ℕ) → IsTorn at n old new → header_len ≤ at → first_sector new ≡ first_sector old
sector_aside at n old new torn le = bytes_aside at n 0 header_len old new torn (inl (omega arith))

-- what a candidate left, it has left still
pub left_aside : (at n : ℕ) (old new : List ℕ) (k : Candidate) → IsTorn at n old new → header_len ≤ at → BlocksAside at n k.blocks → EntriesAside at n k.kept → IsLeftBy old k → IsLeftBy new k
left_aside at n old new k torn le blocks entries left = record {
  sector = sector_aside at n old new torn le ∙ left.sector;
  blocks = all_held_aside at n old new k.blocks torn blocks left.blocks;
  kept = all_kept_aside at n old new k.kept torn entries left.kept;
}

sector_of_bytes : (sector image : List ℕ) → length sector ≡ header_len → header_len ≤ length image → ((i : ℕ) → i < header_len → get_or image i 0 ≡ get_or sector i 0) → first_sector image ≡ sector
sector_of_bytes sector image len long same =
    ext_get_or 0 (first_sector image) sector (omega (arith, length-take header_len image))
    (λ i lt. let below : i < header_len = omega (arith, length-take header_len image) in get_or-take header_len image i 0 below ∙ same i below)

sector_of_old : (old new : List ℕ) → length new ≡ length old → ((i : ℕ) → i < header_len → get_or new i 0 ≡ get_or old i 0) → first_sector new ≡ first_sector old
sector_of_old old new len same = part_from_same 0 header_len new old (λ k ge lt. same k lt) len

-- the first sector is one sector: a crash of its write leaves it old or new
pub sector_torn : (sector old new : List ℕ) → length sector ≡ header_len → header_len ≤ length old → IsTornBySector 0 sector old new
    → (first_sector new ≡ first_sector old) ⊎ (first_sector new ≡ sector)
sector_torn sector old new len long torn =
    elim (torn.sectors 0) [
      | inl was ↦ inl (sector_of_old old new torn.torn.len (λ i lt. was i record { from = omega arith; to = omega arith; least = omega arith; most = omega arith }))
      | inr now ↦ let same_len = torn.torn.len in inr (sector_of_bytes sector new len (omega arith) (λ i lt. let none : i - 0 ≡ i = omega arith in
          now i record { from = omega arith; to = omega arith; least = omega arith; most = omega arith } ∙ ap (λ (m : ℕ). get_or sector m 0) none))
    ]

-- a write that was made is one that a crash may cut short at its end
pub put_torn : (at : ℕ) (bytes image : List ℕ) → at + length bytes ≤ length image → IsTorn at (length bytes) image (put at bytes image)
put_torn at bytes image inside =
    let front : List ℕ = take at image in
    let rest : List ℕ = drop (at + length bytes) image in
    let len : length front ≡ at = omega (arith, length-take at image) in
    let both : length (front ++ bytes) ≡ at + length bytes = omega (arith, length-append front bytes) in
    record {
      len = omega (arith, length-append (front ++ bytes) rest, length-drop (at + length bytes) image);
      before = ap (λ (xs : List ℕ). take at xs) (append_assoc front bytes rest) ∙ take_at front (bytes ++ rest) at len;
      behind = drop_at (front ++ bytes) rest (at + length bytes) both;
    }

-- and its bytes stand there
pub put_there : (at : ℕ) (bytes image : List ℕ) → at + length bytes ≤ length image → bytes_at (put at bytes image) at (length bytes) ≡ bytes
put_there at bytes image inside =
    let front : List ℕ = take at image in
    let rest : List ℕ = drop (at + length bytes) image in
    let len : length front ≡ at = omega (arith, length-take at image) in
    ap (λ (xs : List ℕ). take (length bytes) (drop at xs)) (append_assoc front bytes rest)
    ∙ ap (λ (xs : List ℕ). take (length bytes) xs) (drop_at front (bytes ++ rest) at len) ∙ take_at bytes rest (length bytes) refl
