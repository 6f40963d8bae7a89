-- Where a device is written after a start, and what was restored there.
use Rattle.std.specs.Prelude.{◌≡◌, ◌≢◌, ◌∷◌, ℕ, ◌*◌, ◌/◌, ◌⊎◌, List, [], map, reverse, false, None}
use Rattle.std.specs.List.{AllByRecursion}
use Rattle.blk_ptr.specs.Size.{sector}
use Rattle.blk_ptr.specs.Key.{IsWellFormed}
use Rattle.vdev_io.specs.Calls.{DeviceCall, Gave}
use Rattle.l2_log.specs.Rules.{ring_start}
use Rattle.l2_log.specs.declared.header.DevHeader.{DevHeader}
use Rattle.l2_ring.specs.declared.live.Written.{Written}
use Rattle.l2_ring.specs.Ring.{numbers_of}
use Rattle.arc_core.specs.declared.served.Restored.{Restored}
use Rattle.l2_dev.specs.declared.stop.Stop.{Stop}
use Rattle.l2_dev.specs.Chain.{Visit, numbers_in}
use Rattle.l2_dev.specs.Restoring.{IsUnread, IsWalked, firsts, found_in, restored_of}
use Rattle.l2_dev.specs.Cursor.{CursorState}
use Rattle.l2_dev.specs.Asking.{header_read, unread_answer, walk_reads}

-- where the ring of a device of this many bytes ends: at its last whole sector
abbrev pub ring_end_of : ℕ → ℕ
ring_end_of size = size / sector * sector

-- no two of the restored entries have one key, and each key is one of a block
abbrev pub HaveKeys : List Restored → Type 0
HaveKeys [] = Unit {0}
HaveKeys (r ∷ rs) = IsWellFormed r.key × AllByRecursion (λ (s : Restored). s.key ≢ r.key) rs × HaveKeys rs

-- nothing is pending and no plan was taken, and the restored entries are the ring's live ones, whose newest stands last
pub record IsOpened (end : ℕ) (cursor : CursorState) (restored : List Restored) : Type 0 where
  pub ends : cursor.ring.end ≡ end
  pub base : cursor.base ≡ cursor.ring.hand
  pub pending : cursor.pending ≡ []
  pub ready : cursor.ready ≡ false
  pub live : restored ≡ map restored_of (reverse cursor.ring.live)

-- the cursor of a ring of which nothing was written
pub record IsFresh (end : ℕ) (cursor : CursorState) : Type 0 where
  pub ends : cursor.ring.end ≡ end
  pub numbers : numbers_of cursor.ring ≡ record { hand = ring_start; evict = ring_start; top = ring_start; lap = 1 }
  pub live : cursor.ring.live ≡ []
  pub newest : cursor.newest ≡ None
  pub second : cursor.second ≡ None

-- the cursor of this header's ring and pointers, where these entries were found
pub record IsBuilt (header : DevHeader) (found : List Written) (cursor : CursorState) (restored : List Restored) : Type 0 where
  pub end : cursor.ring.end ≡ header.end
  pub numbers : numbers_of cursor.ring ≡ numbers_in header
  pub live : cursor.ring.live ≡ reverse (firsts found)
  pub newest : cursor.newest ≡ header.newest
  pub second : cursor.second ≡ header.second
  pub list : restored ≡ map restored_of (firsts found)

-- the cursor of this header's ring and pointers, with what these log blocks tell of
pub record IsAlong (header : DevHeader) (visits : List Visit) (cursor : CursorState) : Type 0 where
  pub end : cursor.ring.end ≡ header.end
  pub numbers : numbers_of cursor.ring ≡ numbers_in header
  pub live : cursor.ring.live ≡ reverse (firsts (found_in (numbers_in header) visits))
  pub newest : cursor.newest ≡ header.newest
  pub second : cursor.second ≡ header.second

-- What a start finds on an image by these reads, made one after another: no header, by one read, and then the ring is fresh and
-- nothing is restored; or a header, and then the ring is the header's, and what is restored stands along the chain of the log
-- blocks that were read.
abbrev pub IsStarted : ℕ → List ℕ → List DeviceCall → CursorState → List Restored → Stop → Type 0
IsStarted end image reads cursor restored why =
    (IsUnread end image why × IsFresh end cursor × (restored ≡ []) × (reads ≡ header_read (unread_answer why) ∷ []))
    ⊎ ((header : DevHeader) × (visits : List Visit) × IsWalked end image header visits restored why × IsAlong header visits cursor
    × (reads ≡ header_read Gave ∷ walk_reads header visits why))
