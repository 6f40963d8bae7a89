-- The events of a cell in their order, and the bytes in which they lie one behind the other.
use Rattle.std.specs.Prelude.{ℕ, zero, suc, List, [], ◌∷◌, ◌++◌}
use Rattle.dbuf_state.specs.declared.event.CellEvent.{CellEvent}
use Rattle.dbuf_state.specs.Packed.{event_bytes, taken_event}

pub record HistoryLog : Type 0 where
  pub events : List CellEvent
  -- for how many more events there is room
  pub room : ℕ

abbrev pub bytes_of : List CellEvent → List ℕ
bytes_of [] = []
bytes_of (e ∷ es) = event_bytes e ++ bytes_of es

-- so many events that stand at the front
abbrev pub events_in : ℕ → List ℕ → List CellEvent
events_in zero xs = []
events_in (suc n) xs = (taken_event xs).0 ∷ events_in n (taken_event xs).1
