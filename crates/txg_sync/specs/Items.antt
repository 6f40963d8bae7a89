-- The dirty blocks of all cells, and where a sync writes them.
use Rattle.std.specs.Prelude.{ℕ, suc, ◌+◌, ◌≤◌, ◌==◌, Bool, ◌&&◌, ◌||◌, nat_lt, false, List, [], ◌∷◌, ◌++◌, length, map, count_by, slice_get, Option}
use Rattle.std.specs.Option.{option_map, option_map_or}
use Rattle.blk_ptr.specs.Ptr.{sha256_of}
use Rattle.blk_ptr.specs.declared.ptr.Ptr.{Ptr}
use Rattle.vdev_io.specs.Device.{put}
use Rattle.dbuf_state.specs.Dbufs.{dbuf_at, dirty_oids}
use Rattle.dbuf_state.specs.Oids.{oid_eq, oid_lt}
use Rattle.dbuf_state.specs.declared.dbuf.Content.{Content}
use Rattle.dbuf_state.specs.declared.dbuf.Content.TheVariants.{Clean, Dirty}
use Rattle.dbuf_state.specs.declared.dbuf.Dbuf.{Dbuf}
use Rattle.dbuf_state.specs.declared.oid.Oid.{Oid}
use Rattle.dbuf_cells.specs.Turns.{OnHeap}
use Rattle.dbuf_cells.specs.declared.kept.Kept.{Kept}
use Rattle.txg_sync.specs.declared.due.Due.{Due}

-- ---- which blocks

-- a block of the cell of this number
abbrev pub due_in : ℕ → Oid → Due
due_in i at = record { at = at; cell = i }

-- the dirty blocks of that cell, in the order in which they came
abbrev pub dues_in : ℕ → List (Dbuf Kept) → List Due
dues_in i ds = map (due_in i) (dirty_oids ds)

-- those of these cells, which have the numbers from this one on
abbrev pub dues_from : ℕ → List OnHeap → List Due
dues_from i [] = []
dues_from i (c ∷ cs) = dues_in i c.value.dbufs ++ dues_from (suc i) cs

-- by rising Oids, and then by cells
abbrev pub due_lt : Due → Due → Bool
due_lt a b = oid_lt a.at b.at || (oid_eq a.at b.at && nat_lt a.cell b.cell)

-- ---- their bytes

abbrev pub written_in : Content → List ℕ
written_in (Clean ptr) = []
written_in (Dirty bytes) = bytes

-- the bytes of a dirty block among these dbufs; there are none where it isn't dirty
abbrev pub dirty_bytes_at : Oid → List (Dbuf Kept) → List ℕ
dirty_bytes_at at ds = option_map_or (λ d. written_in d.content) (dbuf_at at ds) []

-- those of a block of one of these cells
abbrev pub bytes_of_due : List OnHeap → Due → List ℕ
bytes_of_due cells due = option_map_or (λ (c : OnHeap). dirty_bytes_at due.at c.value.dbufs) (slice_get cells due.cell) []

-- how many bytes these blocks have
abbrev pub need_of : List OnHeap → List Due → ℕ
need_of cells [] = 0
need_of cells (due ∷ dues) = length (bytes_of_due cells due) + need_of cells dues

-- ---- where they are written

-- a block as a sync writes it: which one, its bytes, the pointer that names it then, and whether its dbuf keeps a hold
pub record SyncItem : Type 0 where
  pub due : Due
  pub bytes : List ℕ
  pub ptr : Ptr
  pub held : Bool

-- the pointer of these bytes, written at a place in a transaction group
abbrev pub ptr_at : (group place : ℕ) → List ℕ → Ptr
ptr_at group place bytes = record { key = record { offset = place; size = length bytes; birth = group }; digest = sha256_of bytes }

-- the block of these cells, written at a place; whether its dbuf keeps a hold is told by a function
abbrev pub at_place : (held : Due → Bool) → (group place : ℕ) → List OnHeap → Due → SyncItem
at_place held group place cells due = record { due = due; bytes = bytes_of_due cells due; ptr = ptr_at group place (bytes_of_due cells due); held = held due }

-- these blocks, one behind the other from a place on
abbrev pub items_from : (held : Due → Bool) → (group place : ℕ) → List OnHeap → List Due → List SyncItem
items_from held group place cells [] = []
items_from held group place cells (due ∷ dues) = at_place held group place cells due ∷ items_from held group (place + length (bytes_of_due cells due)) cells dues

-- the bytes that a pool tells once they are written, and no other byte is changed
abbrev pub written_over : List SyncItem → List ℕ → List ℕ
written_over [] image = image
written_over (x ∷ xs) image = written_over xs (put x.ptr.key.offset x.bytes image)

abbrev pub tells_written : List SyncItem → Option (List ℕ) → Option (List ℕ)
tells_written xs told = option_map (written_over xs) told

-- the dbuf keeps no hold of a block that was not written
abbrev pub none_held : Due → Bool
none_held due = false

-- ---- apart

abbrev pub due_eq : Due → Due → Bool
due_eq a b = oid_eq a.at b.at && a.cell == b.cell

-- no block stands twice among them
abbrev pub AreApart : List Due → Type 0
AreApart dues = (due : Due) → count_by (due_eq due) dues ≤ 1
