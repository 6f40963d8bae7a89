-- Which dbufs of a cell keep a hold of an entry of the cache: its history tells it.
use Rattle.std.specs.Prelude.{◌≡◌, Bool, List}
use Rattle.dbuf_state.specs.Held.{held_by}
use Rattle.dbuf_state.specs.declared.event.CellEvent.{CellEvent}
use Rattle.dbuf_state.specs.declared.oid.Oid.{Oid}

-- these are the dbufs that keep one behind what was done to their cell
abbrev pub AreHolders : List CellEvent → (held : Oid → Bool) → Type 0
AreHolders history held = (at : Oid) → held at ≡ held_by at history
