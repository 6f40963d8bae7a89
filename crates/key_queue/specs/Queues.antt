-- What a queue keeps of its slots and places. No public clause cites this module.
use Rattle.std.specs.Prelude.{ℕ, ◌+◌, ◌^◌, ◌<◌, List, length}
use Rattle.key_queue.specs.declared.queue.Queue.TheInside.{Inside}
use Rattle.key_queue.specs.Places.{IsFound}
use Rattle.key_queue.specs.Slots.{IsTrimmed, pairs, places}

module _ {T : Type 0} where
  abbrev pub pairs_of : Inside T → List (ℕ × T)
  pairs_of q = pairs q.slots.items

  pub record IsQueue (q : Inside T) : Type 0 where
    -- each number's row has the places of the values under it
    pub found : (n : ℕ) → IsFound n q.places.rows (places n q.base q.slots.items)
    -- and every place is a `usize`
    pub fits : q.base + length q.slots.items < 2 ^ 64
    -- what was taken from the front is gone: the first slot has a value
    pub trimmed : IsTrimmed q.slots.items
