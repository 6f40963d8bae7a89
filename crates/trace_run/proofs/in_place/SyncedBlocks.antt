-- What a sync makes readable: each of its blocks, as it stands in what the pool tells then. No byte in front of its place is changed.
use Rattle.std.proofs.Common.{◌≡◌, ℕ, ◌+◌, ◌%◌, ◌<◌, ◌≤◌, List, [], ◌∷◌, ◌++◌, length, take, drop, refl, sym, ap, ◌∙◌, subst, arith, Bool}
use Rattle.std.specs.List.{AllByRecursion}
use Rattle.std.proofs.lemmas.List.{append_assoc, length-take-le}
use Rattle.std.proofs.Math.Seq.{drop-append_seam, take-append_seam}
use Rattle.blk_ptr.specs.declared.ptr.Ptr.{Ptr}
use Rattle.blk_ptr.specs.Key.{key_end}
use Rattle.blk_ptr.specs.Ptr.{IsOf, range_of}
use Rattle.blk_ptr.specs.Size.{sector}
use Rattle.vdev_io.specs.Device.{put}
use Rattle.vdev_io.proofs.SectorLaws.{put_length}
use Rattle.dbuf_cells.specs.Turns.{OnHeap}
use Rattle.txg_sync.specs.Items.{SyncItem, bytes_of_due, items_from, need_of, ptr_at, written_over}
use Rattle.txg_sync.specs.Syncing.{AreSized}
use Rattle.txg_sync.specs.declared.due.Due.{Due}
use Rattle.trace_run.specs.InPlace.{IsReadable}
use Rattle.trace_run.proofs.callers.FrontLemmas.{range-front}
use Rattle.trace_run.proofs.syncs.SyncFront.{written-from}

-- it has as many bytes, and the same up to the place
pub record KeepsUpTo (place : ℕ) (old new : List ℕ) : Type 0 where
  pub long : length new ≡ length old
  pub front : take place new ≡ take place old

-- what was put stands there
put-there : (at : ℕ) (bytes image : List ℕ) → at ≤ length image → take (length bytes) (drop at (put at bytes image)) ≡ bytes
put-there at bytes image inside =
    let front : List ℕ = take at image in
    let rest : List ℕ = drop (at + length bytes) image in
    let long : length front ≡ at = length-take-le at image inside in
    let behind : drop at ((front ++ bytes) ++ rest) ≡ bytes ++ rest =
    ap (λ (n : ℕ). drop n ((front ++ bytes) ++ rest)) (sym long) ∙ (ap (drop (length front)) (append_assoc front bytes rest) ∙ drop-append_seam front (bytes ++ rest)) in
    ap (take (length bytes)) behind ∙ take-append_seam bytes rest

pub next-aligned : (next : ℕ) (cells : List OnHeap) (dues : List Due) → next % sector ≡ 0 → AreSized cells dues → (next + need_of cells dues) % sector ≡ 0
next-aligned next cells [] aligned sized = let same : next + 0 ≡ next = omega arith in ap (λ (n : ℕ). n % sector) same ∙ aligned
next-aligned next cells (due ∷ dues) aligned sized =
    let size : ℕ = length (bytes_of_due cells due) in
    let whole = sized.0.0 in
    let same : next + (size + need_of cells dues) ≡ (next + size) + need_of cells dues = omega arith in
    ap (λ (n : ℕ). n % sector) same ∙ next-aligned (next + size) cells dues (omega (arith, aligned, whole)) sized.1

pub written-front : (held : Due → Bool) (group next : ℕ) (cells : List OnHeap) (dues : List Due) (image : List ℕ) → next + need_of cells dues ≤ length image → KeepsUpTo next image (written_over (items_from held group next cells dues) image)
written-front held group next cells dues image inside = let w = written-from held group next next cells dues image (omega arith) inside in record { long = w.long; front = w.front }

-- a block that a sync wrote can be read behind it, and ends before this place
abbrev pub IsReadableBlock : (len end : ℕ) (now : List ℕ) → SyncItem → Type 0
IsReadableBlock len end now x = IsReadable len now x.ptr × (key_end x.ptr.key ≤ end)

pub items-readable : (len : ℕ) (held : Due → Bool) (group next : ℕ) (cells : List OnHeap) (dues : List Due) (image : List ℕ) → length image ≡ len → next % sector ≡ 0 → 0 < group → AreSized cells dues → next + need_of cells dues ≤ len
    → AllByRecursion (IsReadableBlock len (next + need_of cells dues) (written_over (items_from held group next cells dues) image)) (items_from held group next cells dues)
items-readable len held group next cells [] image long aligned born sized inside = tt
items-readable len held group next cells (due ∷ dues) image long aligned born sized inside =
    let bytes : List ℕ = bytes_of_due cells due in
    let behind : ℕ = next + length bytes in
    let ptr : Ptr = ptr_at group next bytes in
    let first : List ℕ = put next bytes image in
    let whole = sized.0.0 in
    let longer : length first ≡ length image = put_length next bytes image (omega (arith, inside, long)) in
    let fits : behind + need_of cells dues ≤ length first = omega (arith, inside, long, longer) in
    let front = written-front held group behind cells dues first fits in
    let range : range_of (written_over (items_from held group behind cells dues) first) ptr.key ≡ bytes =
    range-front behind ptr.key (written_over (items_from held group behind cells dues) first) first (omega arith) front.front ∙ put-there next bytes image (omega (arith, inside, long)) in
    let is_of : IsOf bytes ptr = record { size = refl; digest = refl } in
    let here : IsReadableBlock len (behind + need_of cells dues) (written_over (items_from held group behind cells dues) first) (record { due = due; bytes = bytes; ptr = ptr; held = held due }) = (
      record {
        valid = record { formed = record { aligned = aligned; sized = sized.0; born = born }; inside = omega (arith, inside) };
        of = subst (λ (l : List ℕ). IsOf l ptr) (sym range) is_of;
      },
      omega arith,
    ) in
    let rest = items-readable len held group behind cells dues first (longer ∙ long) (omega (arith, aligned, whole)) born sized.1 (omega (arith, inside)) in
    let same : behind + need_of cells dues ≡ next + (length bytes + need_of cells dues) = omega arith in
    subst (λ (end : ℕ). AllByRecursion (IsReadableBlock len end (written_over (items_from held group behind cells dues) first)) (items_from held group next cells (due ∷ dues))) same (here, rest)
