-- The record of a disk's writes and flushes, as it stands in memory: the calls by their lengths, and the bytes one after another.
use Rattle.std.specs.Prelude.{ℕ, ◌+◌, List, [], ◌∷◌, take, drop, Bool, false, ◌||◌}
use Rattle.vdev_io.specs.SectorDisk.{DiskCall, Write, Flush, touches}
use Rattle.vdev_io.specs.declared.memory.journal.Recorded.{Recorded}
use Rattle.vdev_io.specs.declared.memory.journal.Recorded.TheVariants.{Wrote, Flushed}

-- a record: its calls, and for how many calls and how many bytes there is room yet
pub record Recording : Type 0 where
  pub calls : List DiskCall
  pub left : ℕ
  pub room : ℕ

-- the calls with their bytes
abbrev pub recorded_calls : List Recorded → List ℕ → List DiskCall
recorded_calls [] bytes = []
recorded_calls (Wrote at len ∷ calls) bytes = Write at (take len bytes) ∷ recorded_calls calls (drop len bytes)
recorded_calls (Flushed ∷ calls) bytes = Flush ∷ recorded_calls calls bytes

-- how many bytes the calls wrote
abbrev pub recorded_len : List Recorded → ℕ
recorded_len [] = 0
recorded_len (Wrote at len ∷ calls) = len + recorded_len calls
recorded_len (Flushed ∷ calls) = recorded_len calls

-- whether the sector that begins at this place was written and not flushed since, after one call more
abbrev pub touched_after : ℕ → Bool → Recorded → Bool
touched_after start written (Wrote at len) = written || touches start at len
touched_after start written Flushed = false
