-- What a contract sees of a cell.
use Rattle.std.specs.Prelude.{ℕ, ◌+◌, ◌-◌, List, [], ◌∷◌, ◌++◌, length, Option, Some, None}
use Rattle.dbuf_state.specs.declared.dbuf.Content.{Content}
use Rattle.dbuf_state.specs.declared.dbuf.Dbuf.{Dbuf}
use Rattle.dbuf_state.specs.declared.event.CellEvent.{CellEvent}
use Rattle.dbuf_state.specs.declared.oid.Oid.{Oid}
use Rattle.dbuf_state.specs.declared.state.DbState.{DbState}
use Rattle.dbuf_state.specs.declared.state.Mapping.{Mapping}
use Rattle.dbuf_state.specs.Dbufs.{used_at, with_dbuf}
use Rattle.dbuf_state.specs.Objects.{use_of}

pub record CellLog (H : Type 0) : Type 0 where
  -- how many bytes of clean blocks that are not pinned the dbufs keep
  pub limit : ℕ
  -- the object map at the start, and the dbufs now, in the order in which they came
  pub opening : List Mapping
  pub dbufs : List (Dbuf H)
  pub history : List CellEvent
  -- for how many more dbufs and events there is room
  pub dbuf_room : ℕ
  pub event_room : ℕ

module _ {H : Type 0} where
  abbrev pub opening_log : ℕ → CellLog H
  opening_log limit = record { limit = limit; opening = []; dbufs = []; history = []; dbuf_room = 0; event_room = 0 }

  -- a dbuf of a block that nobody has used yet
  abbrev pub fresh : Oid → Content → DbState → Dbuf H
  fresh at content state = record { at = at; content = content; state = state; kept = None; pins = []; used = 0 }

  -- the dbuf that was used gets the tick
  abbrev pub touched : ℕ → Option Oid → List (Dbuf H) → List (Dbuf H)
  touched tick None ds = ds
  touched tick (Some at) ds = with_dbuf at (used_at tick) ds

  -- an event is appended, and where it is a use, its Oid is the last used one
  abbrev pub noted : CellEvent → CellLog H → CellLog H
  noted e c = record c {
    dbufs = touched (length c.history + 1) (use_of e) c.dbufs;
    history = c.history ++ e ∷ [];
    event_room = c.event_room - 1;
  }
