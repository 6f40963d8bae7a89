-- Events in their order, and the bytes in which they lie one behind the other.
use Rattle.std.specs.Prelude.{ℕ, zero, suc, List, [], ◌∷◌, ◌++◌}
use Rattle.arc_core.specs.declared.event.Event.{Event}
use Rattle.arc_core.specs.Packed.{event_of, packed_bytes, packed_of, taken_packed}

pub record EventLog : Type 0 where
  pub events : List Event
  -- for how many more events there is room
  pub room : ℕ

abbrev pub bytes_of : List Event → List ℕ
bytes_of [] = []
bytes_of (e ∷ es) = packed_bytes (packed_of e) ++ bytes_of es

-- so many events that stand at the front
abbrev pub events_in : ℕ → List ℕ → List Event
events_in zero xs = []
events_in (suc n) xs = event_of (taken_packed xs).0 ∷ events_in n (taken_packed xs).1

-- what is left behind so many events
abbrev pub after_events : ℕ → List ℕ → List ℕ
after_events zero xs = xs
after_events (suc n) xs = (taken_packed (after_events n xs)).1
