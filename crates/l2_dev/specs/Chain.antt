-- The chain of log blocks of a device, as a rebuild walks it over a whole image (l2arc_rebuild of arc.c; the order of the
-- tests is this project's).
use Rattle.std.specs.Prelude.{◌≡◌, ◌≢◌, ℕ, ◌+◌, ◌-◌, ◌*◌, ◌%◌, ◌<◌, ◌≤◌, ◌⊎◌, List, [], ◌∷◌, length, take, drop, Option, None, Some}
use Rattle.std.specs.List.{AllByRecursion}
use Rattle.blk_ptr.specs.Size.{sector}
use Rattle.blk_ptr.specs.Ptr.{sha256_of}
use Rattle.l2_log.specs.Rules.{ring_start, log_len}
use Rattle.l2_log.specs.LogBytes.{IsLogBlock, IsFirstLogFault}
use Rattle.l2_log.specs.declared.pointer.LogPtr.{LogPtr}
use Rattle.l2_log.specs.declared.log_block.LogBlock.{LogBlock}
use Rattle.l2_log.specs.declared.header.DevHeader.{DevHeader}
use Rattle.l2_log.specs.declared.fault.LogFault.{LogFault}
use Rattle.l2_log.specs.declared.fault.LogFault.TheVariants as fault
use Rattle.l2_ring.specs.declared.plan.Plan.{Plan}
use Rattle.l2_ring.specs.Ranges.{Range, IsWithin, Stays}
use Rattle.l2_dev.specs.declared.stop.Stop.{Stop}
use Rattle.l2_dev.specs.declared.stop.Stop.TheVariants as stop

-- a log block that the walk visits, and the pointer that names it
pub record Visit : Type 0 where
  pub ptr : LogPtr
  pub block : LogBlock

-- the bytes of an image from a place on
abbrev pub bytes_at : List ℕ → ℕ → ℕ → List ℕ
bytes_at image place n = take n (drop place image)

-- the numbers of a header's ring
abbrev pub numbers_in : DevHeader → Plan
numbers_in header = record { hand = header.hand; evict = header.evict; top = header.top; lap = header.lap }

-- the range of the log block that a pointer names, where it was written in this lap
abbrev pub log_range : LogPtr → ℕ → Range
log_range ptr lap = record { lap = lap; place = ptr.place; size = log_len }

-- the pointer's log block lies inside the ring, at a place where one may begin
pub record IsInRing (end : ℕ) (ptr : LogPtr) : Type 0 where
  pub aligned : ptr.place % sector ≡ 0
  pub inside : IsWithin ring_start end (log_range ptr 0)

-- it lies in the lower part or in the upper part
abbrev pub IsInPart : Plan → LogPtr → Type 0
IsInPart numbers ptr =
    IsWithin ring_start numbers.hand (log_range ptr 0) ⊎ IsWithin numbers.evict numbers.top (log_range ptr 0)

-- it lies in the ring with this end, in the part that its lap asks for, and it has as many entries as the pointer tells
pub record IsPlaced (end : ℕ) (numbers : Plan) (visit : Visit) : Type 0 where
  pub ring : IsInRing end visit.ptr
  pub part : Stays numbers (log_range visit.ptr visit.block.lap)
  pub count : length visit.block.entries ≡ visit.ptr.count

-- the walk does not stop at this log block for what the header and the block say: it is placed, and of no later version
-- than the header
pub record IsPassed (header : DevHeader) (visit : Visit) : Type 0 where
  pub placed : IsPlaced header.end (numbers_in header) visit
  pub version : visit.block.version ≤ header.version

-- the image has the log block at its place, with the pointer's digest
pub record IsHeld (image : List ℕ) (visit : Visit) : Type 0 where
  pub digest : sha256_of (bytes_at image visit.ptr.place log_len) ≡ visit.ptr.digest
  pub bytes : IsLogBlock (bytes_at image visit.ptr.place log_len) visit.block

-- Two pointers lead on at each moment: to the next log block, and to the one behind that. The pointer inside a log block leads
-- past its neighbour, to the one after. So the chain is two lists, one into the other.
abbrev pub IsLinked : Option LogPtr → Option LogPtr → List Visit → Type 0
IsLinked newest second [] = Unit {0}
IsLinked newest second (visit ∷ visits) = (newest ≡ Some visit.ptr) × IsLinked second visit.block.prev visits

-- the pointer at which the walk stands behind these log blocks
abbrev pub pointer_behind : Option LogPtr → Option LogPtr → List Visit → Option LogPtr
pointer_behind newest second [] = newest
pointer_behind newest second (visit ∷ visits) = pointer_behind second visit.block.prev visits

-- the bytes of the ring
abbrev pub ring_len : DevHeader → ℕ
ring_len header = header.end - ring_start

-- the pointer passes the tests before its log block is read, after so many bytes of log blocks
pub record IsReached (header : DevHeader) (walked : ℕ) (ptr : LogPtr) : Type 0 where
  pub ring : IsInRing header.end ptr
  pub part : IsInPart (numbers_in header) ptr
  pub short : walked + log_len ≤ ring_len header

-- what the header and the pointer refuse a log block for, the first of this order: a later version than the header's;
-- another lap than its part asks for; another count than the pointer tells
abbrev pub IsMisfit : DevHeader → LogPtr → LogBlock → LogFault → Type 0
IsMisfit header ptr block (fault.Field at) =
    ((at ≡ 24) × (header.version < block.version))
    ⊎ ((at ≡ 8) × (block.version ≤ header.version) × ¬ Stays (numbers_in header) (log_range ptr block.lap))
    ⊎ ((at ≡ 16) × (block.version ≤ header.version) × Stays (numbers_in header) (log_range ptr block.lap) × (length block.entries ≢ ptr.count))
IsMisfit header ptr block _ = ⊥

-- what these bytes are refused for as the log block of the pointer: another digest; else what the bytes say by themselves;
-- else what the header and the pointer say
abbrev pub IsBlockFault : DevHeader → LogPtr → List ℕ → LogFault → Type 0
IsBlockFault header ptr bytes (fault.Digest kept found) = (kept ≡ ptr.digest) × (found ≡ sha256_of bytes) × (kept ≢ found)
IsBlockFault header ptr bytes fault =
    (sha256_of bytes ≡ ptr.digest)
    × (IsFirstLogFault bytes fault ⊎ ((block : LogBlock) × IsLogBlock bytes block × IsMisfit header ptr block fault))

-- why the walk ends at a pointer, after so many bytes of log blocks: the first test of the order that it fails
abbrev pub IsStop : List ℕ → DevHeader → ℕ → Option LogPtr → Stop → Type 0
IsStop image header walked pointer stop.Zero = pointer ≡ None
IsStop image header walked pointer (stop.Outside place) =
    (ptr : LogPtr) × (pointer ≡ Some ptr) × (place ≡ ptr.place) × ¬ IsInRing header.end ptr
IsStop image header walked pointer (stop.Evicted place) =
    (ptr : LogPtr) × (pointer ≡ Some ptr) × (place ≡ ptr.place) × IsInRing header.end ptr × ¬ IsInPart (numbers_in header) ptr
IsStop image header walked pointer (stop.Length bytes) =
    (ptr : LogPtr) × (pointer ≡ Some ptr) × (bytes ≡ walked) × IsInRing header.end ptr × IsInPart (numbers_in header) ptr
    × (ring_len header < walked + log_len)
IsStop image header walked pointer (stop.Block fault) =
    (ptr : LogPtr) × (pointer ≡ Some ptr) × IsReached header walked ptr
    × IsBlockFault header ptr (bytes_at image ptr.place log_len) fault
IsStop image header walked pointer stop.DevFault = (ptr : LogPtr) × (pointer ≡ Some ptr) × IsReached header walked ptr
IsStop image header walked pointer _ = ⊥

-- the walk from this header visits these log blocks, and ends for this reason. Where the device failed, it ended at a log
-- block that could not be read.
pub record IsChain (image : List ℕ) (header : DevHeader) (visits : List Visit) (end : Stop) : Type 0 where
  pub linked : IsLinked header.newest header.second visits
  pub passed : AllByRecursion (IsPassed header) visits
  pub held : AllByRecursion (IsHeld image) visits
  pub short : log_len * length visits ≤ ring_len header
  pub stops : IsStop image header (log_len * length visits) (pointer_behind header.newest header.second visits) end
