-- The bound of one feed: at most half of the ring of the cache device.
use Rattle.std.specs.Prelude.{ℕ, ◌-◌, ◌/◌, min, nat_lt, if◌then◌else◌, Option, None, Some}
use Rattle.l2_dev.specs.Rebuilding.{ring_end_of}
use Rattle.l2_log.specs.Rules.{least_ring_end, ring_start}
use Rattle.trace_text.specs.declared.trace.Trace.{Trace}

-- the bytes of the device that was handed in; none has no bytes
abbrev pub device_len : {D : Type 0} → (D → ℕ) → Option D → ℕ
device_len size None = 0
device_len size (Some device) = size device

-- How many bytes one feed may write to a device of so many, where w is asked for: at most half of its ring, which ends at the last whole
-- sector. A device that is too short to be used bounds nothing, and neither does none.
abbrev pub feed_bound : (w size : ℕ) → ℕ
feed_bound w size = if nat_lt size least_ring_end then w else min w ((ring_end_of size - ring_start) / 2)

-- the trace with that bound of a feed: the shards open with its sizes
abbrev pub with_bound : Trace → (size : ℕ) → Trace
with_bound trace size = record trace { config = record trace.config { bounds = record trace.config.bounds { write_max = feed_bound trace.config.bounds.write_max size } } }
