-- What each crash of the device leaves: one of the headers that may stand in the first sector, with its list and the bytes of
-- its entries.
use Rattle.std.specs.Prelude.{◌≡◌, ℕ, ◌<◌, ◌≤◌, ◌⊎◌, List, ◌++◌, map, reverse, Bool, true, IsTrue, Option, Some}
use Rattle.std.specs.List.{AllByRecursion}
use Rattle.l2_ring.specs.Ranges.{Range, Stays, IsInOrder, range_of}
use Rattle.l2_dev.specs.Chain.{Visit, IsHeld, IsPlaced, IsLinked}
use Rattle.l2_dev.specs.Restoring.{found_in, firsts, written_in}
use Rattle.l2_dev.specs.Standing.{Candidate, Kept, written_of, IsCandidate, IsKeptIn, IsLeftBy, IsOrderly, Rebuilds, AnyOf}
use Rattle.l2_dev.specs.Cursor.{CursorState, numbers_from}

-- what is known of a device between two calls: the headers that a crash may leave, the newest first; the standing list and
-- the live entries, the newest first, of the header that would be written next; and the entries that are pending, the
-- newest first
pub record Promise : Type 0 where
  pub candidates : List Candidate
  pub blocks : List Visit
  pub kept : List Kept
  pub pending : List Kept

abbrev pub kept_range : Kept → Range
kept_range k = range_of k.written

-- the list and the live entries are those of the cursor: its pointers lead along the list, each log block is placed, all is
-- in order, what is found along the list is what is live, of each key the newest, and the ring has these live entries
pub record IsUpheld (cursor : CursorState) (p : Promise) : Type 0 where
  pub linked : IsLinked cursor.newest cursor.second p.blocks
  pub placed : AllByRecursion (IsPlaced cursor.ring.end (numbers_from cursor)) p.blocks
  pub ordered : IsOrderly (numbers_from cursor) p.blocks
  pub same : firsts (found_in (numbers_from cursor) p.blocks) ≡ firsts (map written_of p.kept)
  pub stays : AllByRecursion (λ (k : Kept). Stays (numbers_from cursor) (kept_range k)) p.kept
  pub in_order : IsInOrder (map kept_range p.kept)
  pub some : AllByRecursion (λ (k : Kept). 0 < k.written.live.key.size) p.kept
  pub live : cursor.ring.live ≡ reverse (map written_of p.kept)
  pub pending : map written_of p.pending ≡ map (written_in cursor.ring.lap) (reverse cursor.pending)

-- what a header restores, from the newest entry on: later puts, then all that is live, and then what was live before them
-- and is no longer
abbrev pub Covers : List Kept → List Kept → Type 0
Covers restored live = (later : List Kept) × (older : List Kept) × (restored ≡ later ++ live ++ older)

-- what a crash leaves: one of these headers, of which each rebuild restores what it named
abbrev pub LeftAmong : ℕ → List Candidate → List ℕ → Type 0
LeftAmong end candidates image = AnyOf (λ (k : Candidate). IsLeftBy image k × Rebuilds end image k) candidates

-- what a crash leaves holds the list and has the bytes of the live entries
pub record IsBacked (p : Promise) (image : List ℕ) : Type 0 where
  pub left : AnyOf (IsLeftBy image) p.candidates
  pub blocks : AllByRecursion (IsHeld image) p.blocks
  pub kept : AllByRecursion (IsKeptIn image) p.kept

-- the candidates are headers with their lists, and each restores all that is live
pub record AreGood (end : ℕ) (live : List Kept) (candidates : List Candidate) : Type 0 where
  pub each : AllByRecursion (IsCandidate end) candidates
  pub cover : AllByRecursion (λ (k : Candidate). Covers k.kept live) candidates

-- the candidate has this list and these entries
pub record IsOf (blocks : List Visit) (kept : List Kept) (k : Candidate) : Type 0 where
  pub list : k.blocks ≡ blocks
  pub entries : k.kept ≡ kept

-- a disk of sectors whose every crash keeps the promise; the image that it tells has the bytes of the pending entries
pub record KeepsPromise {D : Type 0} (tells : D → Option (List ℕ)) (has_sectors : D → Bool) (leaves : D → List ℕ → Type 0) (device : D) (cursor : CursorState) (p : Promise) : Type 0 where
  pub upheld : IsUpheld cursor p
  pub sectors : IsTrue (has_sectors device)
  pub image : List ℕ
  pub told : tells device ≡ Some image
  pub pending : AllByRecursion (IsKeptIn image) p.pending
  pub backed : (c : List ℕ) → leaves device c → IsBacked p c
  pub good : AreGood cursor.ring.end p.kept p.candidates
  pub begun : cursor.ready ≡ true → AllByRecursion (IsOf p.blocks p.kept) p.candidates

-- A crash at any moment since the old device leaves an image with P.
pub record LeavesOnlyWith {D : Type 0} (moment : D → ℕ) (since : D → ℕ → List ℕ → Type 0) (old new : D) (P : List ℕ → Type 0) : Type 0 where
  pub later : moment old ≤ moment new
  pub each : (c : List ℕ) → since new (moment old) c → P c
  -- for a run that began earlier
  pub before : (t : ℕ) (c : List ℕ) → t ≤ moment old → since new t c → since old t c ⊎ P c
