-- Where a device is written: its ring, the pointers to its newest log blocks, and the entries that no log block tells of yet.
use Rattle.std.specs.Prelude.{◌≡◌, ℕ, ◌+◌, ◌%◌, ◌<◌, ◌≤◌, List, length, Bool, true, map, reverse, Option}
use Rattle.std.specs.List.{All}
use Rattle.blk_ptr.specs.Size.{sector}
use Rattle.l2_log.specs.Rules.{ring_start, log_len, is_there, most_with}
use Rattle.l2_log.specs.declared.pointer.LogPtr.{LogPtr}
use Rattle.l2_log.specs.declared.entry.LogEntry.{LogEntry}
use Rattle.l2_ring.specs.declared.plan.Plan.{Plan}
use Rattle.l2_ring.specs.Ring.{RingState, IsSound, numbers_of, with_hand}
use Rattle.l2_ring.specs.Stays.{AreLive}
use Rattle.l2_dev.specs.Restoring.{written_in}
use Rattle.l2_dev.specs.Standing.{IsRow}

-- the ring; where its hand stood after the last commit, or else the last begin; the two pointers of the next header; the
-- entries that are pending, in the order of their puts; and whether more may be put
pub record CursorState : Type 0 where
  pub ring : RingState
  pub base : ℕ
  pub newest : Option LogPtr
  pub second : Option LogPtr
  pub pending : List LogEntry
  pub ready : Bool

-- what a cursor keeps: the live entries lie before the base, the pending ones lie in a row from there to the hand, and
-- there is room for their log block
pub record IsCursor (ring : RingState) (base : ℕ) (pending : List LogEntry) (ready : Bool) : Type 0 where
  pub sound : IsSound ring
  pub aligned : base % sector ≡ 0
  pub from : ring_start ≤ base
  pub live : AreLive (with_hand (numbers_of ring) base) ring.live
  pub row : IsRow base ring.hand (map (written_in ring.lap) (reverse pending))
  pub room : 0 < length pending → ring.hand + log_len ≤ ring.evict
  pub begun : 0 < length pending → ready ≡ true
  pub digests : All (λ entry. is_there entry.digest ≡ true) pending
  pub few : length pending ≤ most_with true

-- the numbers of the next header
abbrev pub numbers_from : CursorState → Plan
numbers_from cursor = with_hand (numbers_of cursor.ring) cursor.base
