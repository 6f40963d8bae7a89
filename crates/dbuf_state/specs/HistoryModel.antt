-- What the parts of a cell's history mean, and what they keep.
use Rattle.std.specs.Prelude.{◌≡◌, ◌+◌, ◌*◌, ◌≤◌, vec_len, vec_capacity}
use Rattle.std.specs.List.{AllByRecursion}
use Rattle.dbuf_state.specs.declared.history.CellHistory.TheInside.{Inside}
use Rattle.dbuf_state.specs.declared.packed.writing.TheConstants.{LONGEST_EVENT}
use Rattle.dbuf_state.specs.HistoryLog.{HistoryLog, bytes_of, events_in}
use Rattle.dbuf_state.specs.Packed.{IsPackable}

abbrev pub log_of : Inside → HistoryLog
log_of h = record { events = events_in h.len h.bytes.items; room = h.room }

pub record HistoryKeeps (h : Inside) : Type 0 where
  -- there is nothing but the events, and each is read back
  pub bytes : h.bytes.items ≡ bytes_of (events_in h.len h.bytes.items)
  pub packable : AllByRecursion IsPackable (events_in h.len h.bytes.items)
  -- there is room for as many of the longest
  pub room : h.room * LONGEST_EVENT + vec_len h.bytes ≤ vec_capacity h.bytes
