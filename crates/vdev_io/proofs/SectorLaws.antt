-- That the disk of sectors keeps what is asked of a cache device: what a write, a flush and the passing of time do to
-- what a crash of it may leave.
use Rattle.std.proofs.Common.{◌≡◌, ℕ, zero, suc, ◌+◌, ◌-◌, ◌*◌, ◌/◌, ◌<◌, ◌≤◌, ◌⊎◌, inl, inr, min, List, [], ◌∷◌, ◌++◌, length, take, drop, get_or, refl, sym, ap, subst, ◌∙◌, arith}
use Rattle.std.proofs.lemmas.List.{ext_get_or, get_or_past, get_or-take, get_or-drop, length-take, length-drop, length-append, get_or_append_left, get_or-append_right, take_all, take-append-le}
use Rattle.std.proofs.lemmas.Bool.{cases_lt}
use Rattle.vdev_io.specs.Device.{put, IsInSector, IsTornBySector, LeavesOnly}
use Rattle.vdev_io.specs.SectorDisk.{DiskCall, Write, Flush, SectorImages, after_call, after_calls, IsSameSector, IsCrash, MayHaveLeft}

-- the list with these numbers at its places
abbrev pub from_places : (ℕ → ℕ) → ℕ → List ℕ
from_places f zero = []
from_places f (suc n) = f 0 ∷ from_places (λ i. f (suc i)) n

length-from_places : (f : ℕ → ℕ) (n : ℕ) → length (from_places f n) ≡ n
length-from_places f zero = refl
length-from_places f (suc n) = ap suc (length-from_places (λ i. f (suc i)) n)

get_or-from_places : (f : ℕ → ℕ) (n i : ℕ) → i < n → get_or (from_places f n) i 0 ≡ f i
get_or-from_places f zero i lt = absurd (omega arith)
get_or-from_places f (suc n) zero lt = refl
get_or-from_places f (suc n) (suc i) lt = get_or-from_places (λ i. f (suc i)) n i (omega arith)

-- the first or the second number, by which of two facts holds
abbrev pub chosen : {A B : Type 0} → A ⊎ B → ℕ → ℕ → ℕ
chosen (inl _) x y = x
chosen (inr _) x y = y

-- a written image at a place
pub put_length : (at : ℕ) (bytes image : List ℕ) → at + length bytes ≤ length image → length (put at bytes image) ≡ length image
put_length at bytes image h =
    omega (
      arith,
      length-append (take at image ++ bytes) (drop (at + length bytes) image),
      length-append (take at image) bytes,
      length-take at image,
      length-drop (at + length bytes) image,
    )

front_length : (at : ℕ) (image : List ℕ) → at ≤ length image → length (take at image) ≡ at
front_length at image h = omega (arith, length-take at image)

pub put_before : (at : ℕ) (bytes image : List ℕ) (i : ℕ) → at + length bytes ≤ length image → i < at → get_or (put at bytes image) i 0 ≡ get_or image i 0
put_before at bytes image i h lt =
    let front = front_length at image (omega arith) in
    get_or_append_left (take at image ++ bytes) (drop (at + length bytes) image) 0 i (omega (arith, length-append (take at image) bytes))
    ∙ get_or_append_left (take at image) bytes 0 i (omega arith) ∙ get_or-take at image i 0 lt

pub put_inside : (at : ℕ) (bytes image : List ℕ) (i : ℕ) → at + length bytes ≤ length image → at ≤ i → i < at + length bytes → get_or (put at bytes image) i 0 ≡ get_or bytes (i - at) 0
put_inside at bytes image i h ge lt =
    let front = front_length at image (omega arith) in
    get_or_append_left (take at image ++ bytes) (drop (at + length bytes) image) 0 i (omega (arith, length-append (take at image) bytes))
    ∙ get_or-append_right (take at image) bytes at i 0 front ge

pub put_behind : (at : ℕ) (bytes image : List ℕ) (i : ℕ) → at + length bytes ≤ length image → at + length bytes ≤ i → get_or (put at bytes image) i 0 ≡ get_or image i 0
put_behind at bytes image i h ge =
    let front = front_length at image (omega arith) in
    let place : at + length bytes + (i - (at + length bytes)) ≡ i = omega arith in
    get_or-append_right (take at image ++ bytes) (drop (at + length bytes) image) (at + length bytes) i 0 (omega (arith, length-append (take at image) bytes)) ge
    ∙ get_or-drop (at + length bytes) image (i - (at + length bytes)) 0 ∙ ap (λ (m : ℕ). get_or image m 0) place

-- lists of one length with the same bytes before a place, and from one on
front_same : (at : ℕ) (a b : List ℕ) → length a ≡ length b → ((i : ℕ) → i < length a → i < at → get_or a i 0 ≡ get_or b i 0) → take at a ≡ take at b
front_same at a b len same =
    ext_get_or 0 (take at a) (take at b) (length-take at a ∙ ap (λ (m : ℕ). min at m) len ∙ sym (length-take at b))
    (λ i lt. let below : i < at = omega (arith, length-take at a) in let inside : i < length a = omega (arith, length-take at a) in
    get_or-take at a i 0 below ∙ same i inside below ∙ sym (get_or-take at b i 0 below))

rest_same : (at : ℕ) (a b : List ℕ) → length a ≡ length b → ((i : ℕ) → i < length a → at ≤ i → get_or a i 0 ≡ get_or b i 0) → drop at a ≡ drop at b
rest_same at a b len same =
    ext_get_or 0 (drop at a) (drop at b) (length-drop at a ∙ ap (λ (m : ℕ). m - at) len ∙ sym (length-drop at b))
    (λ i lt. let inside : at + i < length a = omega (arith, length-drop at a) in
    get_or-drop at a i 0 ∙ same (at + i) inside (omega arith) ∙ sym (get_or-drop at b i 0))

-- the choices of a crash, sector by sector, make an image that a crash before the write may have left
sector_before : (disk : SectorImages) (c new d : List ℕ) (k : ℕ) (s : IsSameSector k c disk.flushed ⊎ IsSameSector k c new)
    → length d ≡ length disk.now → length disk.flushed ≡ length disk.now
    → ((i : ℕ) → k * 512 ≤ i → i < (k + 1) * 512 → i < length disk.now → get_or d i 0 ≡ chosen s (get_or disk.flushed i 0) (get_or disk.now i 0))
    → IsSameSector k d disk.flushed ⊎ IsSameSector k d disk.now
sector_before disk c new d k (inl same) d_len same_len there = inl (λ i ge lt.
    elim (cases_lt i (length disk.now)) [
      | inl below ↦ there i ge lt below
      | inr past ↦ get_or_past d i 0 (omega arith) ∙ sym (get_or_past disk.flushed i 0 (omega arith))
    ])
sector_before disk c new d k (inr same) d_len same_len there = inr (λ i ge lt.
    elim (cases_lt i (length disk.now)) [
      | inl below ↦ there i ge lt below
      | inr past ↦ get_or_past d i 0 (omega arith) ∙ sym (get_or_past disk.now i 0 past)
    ])

-- a byte outside the range of the write
outside : (disk : SectorImages) (c new d : List ℕ) (k i : ℕ) (s : IsSameSector k c disk.flushed ⊎ IsSameSector k c new)
    → k * 512 ≤ i → i < (k + 1) * 512 → get_or d i 0 ≡ chosen s (get_or disk.flushed i 0) (get_or disk.now i 0)
    → get_or new i 0 ≡ get_or disk.now i 0 → get_or c i 0 ≡ get_or d i 0
outside disk c new d k i (inl same) ge lt there kept = same i ge lt ∙ sym there
outside disk c new d k i (inr same) ge lt there kept = same i ge lt ∙ kept ∙ sym there

-- a sector of the range is old or new
sector_after : (disk : SectorImages) (at : ℕ) (bytes c d : List ℕ) (k : ℕ) (s : IsSameSector k c disk.flushed ⊎ IsSameSector k c (put at bytes disk.now))
    → at + length bytes ≤ length disk.now
    → ((i : ℕ) → k * 512 ≤ i → i < (k + 1) * 512 → i < length disk.now → get_or d i 0 ≡ chosen s (get_or disk.flushed i 0) (get_or disk.now i 0))
    → ((i : ℕ) → IsInSector at (length bytes) k i → get_or c i 0 ≡ get_or d i 0)
    ⊎ ((i : ℕ) → IsInSector at (length bytes) k i → get_or c i 0 ≡ get_or bytes (i - at) 0)
sector_after disk at bytes c d k (inl same) inside there = inl (λ i is. let to = is.to in same i is.least is.most ∙ sym (there i is.least is.most (omega arith)))
sector_after disk at bytes c d k (inr same) inside there = inr (λ i is. same i is.least is.most ∙ put_inside at bytes disk.now i inside is.from is.to)

-- what a crash after a write may leave is what one before it may have left, with some sectors of the range written
pub crash_of_write : (disk : SectorImages) (at : ℕ) (bytes c : List ℕ) → length disk.flushed ≡ length disk.now → at + length bytes ≤ length disk.now
    → IsCrash (after_call disk (Write at bytes)) c → (d : List ℕ) × IsCrash disk d × IsTornBySector at bytes d c
crash_of_write disk at bytes c same_len inside crash =
    let n : ℕ = length disk.now in
    let new : List ℕ = put at bytes disk.now in
    let len : length c ≡ n = crash.len ∙ put_length at bytes disk.now inside in
    let h : (k : ℕ) → IsSameSector k c disk.flushed ⊎ IsSameSector k c new = crash.sectors in
    let pick : ℕ → ℕ = λ i. chosen (h (i / 512)) (get_or disk.flushed i 0) (get_or disk.now i 0) in
    let d : List ℕ = from_places pick n in
    let d_len : length d ≡ n = length-from_places pick n in
    let both : length c ≡ length d = len ∙ sym d_len in
    let there : (k i : ℕ) → k * 512 ≤ i → i < (k + 1) * 512 → i < n → get_or d i 0 ≡ chosen (h k) (get_or disk.flushed i 0) (get_or disk.now i 0) =
    λ k i ge lt below.
    let q : i / 512 ≡ k = omega arith in
    get_or-from_places pick n i below ∙ ap (λ (m : ℕ). chosen (h m) (get_or disk.flushed i 0) (get_or disk.now i 0)) q in
    let elsewhere : (i : ℕ) → i < n → get_or new i 0 ≡ get_or disk.now i 0 → get_or c i 0 ≡ get_or d i 0 =
    λ i below kept.
    let k : ℕ = i / 512 in
    let ge : k * 512 ≤ i = omega arith in
    let lt : i < (k + 1) * 512 = omega arith in
    outside disk c new d k i (h k) ge lt (there k i ge lt below) kept in (
      d,
      record {
        len = d_len;
        sectors = λ k. sector_before disk c new d k (h k) d_len same_len (there k);
      },
      record {
        torn = record {
          len = both;
          before = front_same at c d both (λ i below lt. elsewhere i (subst (λ (m : ℕ). i < m) len below) (put_before at bytes disk.now i inside lt));
          behind = rest_same (at + length bytes) c d both (λ i below ge. elsewhere i (subst (λ (m : ℕ). i < m) len below) (put_behind at bytes disk.now i inside ge));
        };
        sectors = λ k. sector_after disk at bytes c d k (h k) inside (there k);
      },
    )

either_same : (k i : ℕ) (c now : List ℕ) → k * 512 ≤ i → i < (k + 1) * 512 → IsSameSector k c now ⊎ IsSameSector k c now → get_or c i 0 ≡ get_or now i 0
either_same k i c now ge lt (inl same) = same i ge lt
either_same k i c now ge lt (inr same) = same i ge lt

-- after a flush a crash leaves what a read gives
pub crash_of_flush : (disk : SectorImages) → LeavesOnly disk.now (IsCrash (after_call disk Flush))
crash_of_flush disk c crash = ext_get_or 0 c disk.now crash.len (λ i lt.
    let k : ℕ = i / 512 in
    let ge : k * 512 ≤ i = omega arith in
    let below : i < (k + 1) * 512 = omega arith in
    either_same k i c disk.now ge below (crash.sectors k))

-- one more call: a crash leaves what it may have left before, or what it may leave now
pub left_elapses : (opening : SectorImages) (calls : List DiskCall) (call : DiskCall) (t : ℕ) (c : List ℕ)
    → MayHaveLeft opening (calls ++ call ∷ []) t c → MayHaveLeft opening calls t c ⊎ IsCrash (after_calls opening (calls ++ call ∷ [])) c
left_elapses opening calls call t c left =
    let len = length-append calls (call ∷ []) in
    let most = left.2 in
    elim (cases_lt left.0 (length calls + 1)) [
      | inl before ↦
          let same : take left.0 (calls ++ call ∷ []) ≡ take left.0 calls = take-append-le left.0 calls (call ∷ []) (omega arith) in
          inl (left.0, left.1, omega arith, subst (λ (done : List DiskCall). IsCrash (after_calls opening done) c) same left.3)
      | inr last ↦
          let all : take left.0 (calls ++ call ∷ []) ≡ calls ++ call ∷ [] = take_all left.0 (calls ++ call ∷ []) (omega (arith, len)) in
          inr (subst (λ (done : List DiskCall). IsCrash (after_calls opening done) c) all left.3)
    ]

-- and what it may have left before it may have left still
pub left_keeps : (opening : SectorImages) (calls : List DiskCall) (call : DiskCall) (t : ℕ) (c : List ℕ)
    → MayHaveLeft opening calls t c → MayHaveLeft opening (calls ++ call ∷ []) t c
left_keeps opening calls call t c left =
    let len = length-append calls (call ∷ []) in
    let most = left.2 in
    let same : take left.0 (calls ++ call ∷ []) ≡ take left.0 calls = take-append-le left.0 calls (call ∷ []) left.2 in
    (left.0, left.1, omega (arith, len), subst (λ (done : List DiskCall). IsCrash (after_calls opening done) c) (sym same) left.3)
