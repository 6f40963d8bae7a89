-- What a get answers at a cell: the size of the block, and the bytes of a window of it.
use Rattle.std.specs.Prelude.{◌≡◌, ℕ, ◌+◌, ◌≤◌, List, length, Option, Some, None}
use Rattle.blk_ptr.specs.Ptr.{IsSameOrCollides}
use Rattle.dbuf_state.specs.declared.event.CellEvent.{CellEvent}
use Rattle.dbuf_state.specs.declared.oid.Oid.{Oid}
use Rattle.dbuf_state.specs.declared.state.Mapping.{Mapping}
use Rattle.dbuf_state.specs.declared.window.Window.{Window}
use Rattle.dbuf_state.specs.Dbufs.{window_of}
use Rattle.dbuf_state.specs.History.{Leads}
use Rattle.dbuf_state.specs.Objects.{AreBytesOf, PlainCell, PlainDbuf, dbuf_at, opening_cell}

-- the Oid is mapped, and these may be its block's bytes
abbrev pub AreBytesAt : List ℕ → Option PlainDbuf → Type 0
AreBytesAt bytes None = ⊥
AreBytesAt bytes (Some d) = AreBytesOf bytes d.block

-- this size and these bytes are an answer to a get of the window: they are those of the dirty list, or of a list of the pointer
pub record IsAnswer (c : PlainCell) (at : Oid) (w : Window) (size : ℕ) (shown : List ℕ) : Type 0 where
  pub bytes : List ℕ
  pub of : AreBytesAt bytes (dbuf_at at c)
  pub sized : size ≡ length bytes
  pub inside : w.at + w.len ≤ size
  pub window : shown ≡ window_of w bytes

-- after these events this is an answer: some legal replay of them leads to a cell where it is
pub record IsAnswerAfter (limit : ℕ) (opening : List Mapping) (front : List CellEvent) (at : Oid) (w : Window) (size : ℕ) (shown : List ℕ) : Type 0 where
  pub bases : List (List ℕ)
  pub cell : PlainCell
  pub legal : Leads (opening_cell limit opening) front bases cell
  pub answer : IsAnswer cell at w size shown

-- two answers at one cell are of the same bytes, or of two lists that share a digest
abbrev pub AnswersAlike : Type 0
AnswersAlike = (c : PlainCell) (at : Oid) (w : Window) (size other_size : ℕ) (shown other_shown : List ℕ)
    (one : IsAnswer c at w size shown) (other : IsAnswer c at w other_size other_shown) → IsSameOrCollides one.bytes other.bytes
