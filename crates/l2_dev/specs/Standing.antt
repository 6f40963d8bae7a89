-- What a header stands for: a list of log blocks, and the entries that it restores whatever else the image holds.
use Rattle.std.specs.Prelude.{◌≡◌, ◌≢◌, ℕ, ◌+◌, ◌≤◌, ◌⊎◌, List, [], ◌∷◌, ◌++◌, cond, map, Some}
use Rattle.std.specs.List.{AllByRecursion, filter, flat_map}
use Rattle.blk_ptr.specs.Ptr.{sha256_of}
use Rattle.l2_log.specs.Rules.{ring_start, log_len}
use Rattle.l2_log.specs.declared.pointer.LogPtr.{LogPtr}
use Rattle.l2_log.specs.declared.header.DevHeader.{DevHeader}
use Rattle.l2_ring.specs.declared.live.Written.{Written}
use Rattle.l2_ring.specs.declared.plan.Plan.{Plan}
use Rattle.l2_ring.specs.Stays.{stays, stays_at}
use Rattle.l2_ring.specs.Ranges.{Range, IsInOrder, range_of}
use Rattle.arc_core.specs.declared.served.Restored.{Restored}
use Rattle.l2_dev.specs.declared.stop.Stop.{Stop}
use Rattle.l2_dev.specs.declared.stop.Stop.TheVariants as stop
use Rattle.l2_dev.specs.Chain.{Visit, IsPassed, IsHeld, IsLinked, pointer_behind, numbers_in, log_range, bytes_at}
use Rattle.l2_dev.specs.Restoring.{valid_of, found_in, firsts, restored_of, first_sector, IsHeaderOf, IsRebuilt}

-- the range of a log block
abbrev pub block_range : Visit → Range
block_range visit = log_range visit.ptr visit.block.lap

-- the ranges that a walk over these log blocks passes: each log block, and behind it its valid entries from the last to
-- the first
abbrev pub passed_ranges : Plan → List Visit → List Range
passed_ranges numbers visits = flat_map (λ visit. block_range visit ∷ map range_of (valid_of numbers visit)) visits

-- the log blocks and their valid entries were written one before the other, the newest first: so each log block was written
-- earlier than the one before it on the list, and its valid entries between the next log block and itself
abbrev pub IsOrderly : Plan → List Visit → Type 0
IsOrderly numbers visits = IsInOrder (passed_ranges numbers visits)

-- a standing list of a header: its pointers lead along these log blocks, the walk stops at none of them, and they are
-- orderly
pub record IsStanding (header : DevHeader) (visits : List Visit) : Type 0 where
  pub linked : IsLinked header.newest header.second visits
  pub passed : AllByRecursion (IsPassed header) visits
  pub ordered : IsOrderly (numbers_in header) visits

-- an entry that a header restores, with the bytes that were written in its range
pub record Kept : Type 0 where
  pub written : Written
  pub bytes : List ℕ

abbrev pub written_of : Kept → Written
written_of kept = kept.written

-- the image has the entry's bytes in its range
abbrev pub IsKeptIn : List ℕ → Kept → Type 0
IsKeptIn image kept = bytes_at image kept.written.live.place kept.written.live.key.size ≡ kept.bytes

-- a header that a crash may leave: its sector, its standing list, and the entries that were live when it was written, the
-- newest first
pub record Candidate : Type 0 where
  pub sector : List ℕ
  pub blocks : List Visit
  pub kept : List Kept

-- the sector is this header, its list is standing, and what is found along it is what was live: of each key the newest
pub record IsNamed (end : ℕ) (candidate : Candidate) (header : DevHeader) : Type 0 where
  pub named : IsHeaderOf end candidate.sector header
  pub standing : IsStanding header candidate.blocks
  pub same : firsts (found_in (numbers_in header) candidate.blocks) ≡ firsts (map written_of candidate.kept)
  pub inside : AllByRecursion (λ (k : Kept). ring_start ≤ k.written.live.place) candidate.kept

-- a candidate is a header with its standing list and what it restores; or a sector with an empty list and no entries, as the
-- first sector is at a start that refused it as a header, or could not read it
abbrev pub IsCandidate : ℕ → Candidate → Type 0
IsCandidate end candidate =
    ((header : DevHeader) × IsNamed end candidate header) ⊎ ((candidate.blocks ≡ []) × (candidate.kept ≡ []))

-- what the candidate restores
abbrev pub restored_by : Candidate → List Restored
restored_by candidate = map restored_of (firsts (map written_of candidate.kept))

-- the image has the candidate's sector, holds its list, and has the bytes of its entries
pub record IsLeftBy (image : List ℕ) (candidate : Candidate) : Type 0 where
  pub sector : first_sector image ≡ candidate.sector
  pub blocks : AllByRecursion (IsHeld image) candidate.blocks
  pub kept : AllByRecursion (IsKeptIn image) candidate.kept

-- a rebuild found a log block behind these ones: the pointer behind them has the digest of the bytes at its place
pub record IsFoundBeyond (image : List ℕ) (blocks : List Visit) (header : DevHeader) (ptr : LogPtr) : Type 0 where
  pub next : pointer_behind header.newest header.second blocks ≡ Some ptr
  pub digest : sha256_of (bytes_at image ptr.place log_len) ≡ ptr.digest

-- a rebuild of the image restores what the candidate restores, and then more only where it found a log block behind the
-- candidate's list
pub record IsRestoredBy (end : ℕ) (image : List ℕ) (candidate : Candidate) (restored more : List Restored) : Type 0 where
  pub list : restored ≡ restored_by candidate ++ more
  pub beyond : (more ≡ []) ⊎ ((header : DevHeader) × IsHeaderOf end candidate.sector header × (ptr : LogPtr) × IsFoundBeyond image candidate.blocks header ptr)

-- each rebuild of the image that meets no fault of the device
abbrev pub Rebuilds : ℕ → List ℕ → Candidate → Type 0
Rebuilds end image candidate = (restored : List Restored) (why : Stop) → IsRebuilt end image restored why → why ≢ stop.DevFault
    → (more : List Restored) × IsRestoredBy end image candidate restored more

-- some element of the list has the property
abbrev pub AnyOf : {X : Type 0} → (X → Type 0) → List X → Type 0
AnyOf P [] = ⊥
AnyOf P (x ∷ xs) = P x ⊎ AnyOf P xs

-- the front of the list as far as the plan leaves each log block in a part of the ring
abbrev pub leading : Plan → List Visit → List Visit
leading plan [] = []
leading plan (visit ∷ visits) =
    cond (stays_at plan visit.block.lap visit.ptr.place log_len) (visit ∷ leading plan visits) []

-- the entries that the plan keeps
abbrev pub staying : Plan → List Kept → List Kept
staying plan kept = filter (λ k. stays plan k.written) kept

-- the entries, the newest first, lie one behind the other from the first place to the second
abbrev pub IsRow : ℕ → ℕ → List Written → Type 0
IsRow base hand [] = base ≡ hand
IsRow base hand (written ∷ rest) = (written.live.place + written.live.key.size ≡ hand) × IsRow base written.live.place rest
