-- Laws of cells: what is mapped and pinned, and its size, as the opening and the events tell it without any bytes.
use Rattle.std.specs.Prelude.{◌≡◌, ◌↔◌, ℕ, Bool, true, false, not, IsTrue, nat_lt, if◌then◌else◌, List, [], ◌∷◌, count_by, Option, Some, None}
use Rattle.std.specs.List.{list_all}
use Rattle.std.specs.Option.{option_map, option_map_or}
use Rattle.dbuf_state.specs.Oids.{oid_eq}
use Rattle.dbuf_state.specs.Outline.{Outline, has_pin_at, is_end, is_pin_of, is_unpin_of, mapped_at, mapped_size}
use Rattle.dbuf_state.specs.Soundness.{IsSound}
use Rattle.dbuf_state.specs.declared.event.CellEvent.{CellEvent}
use Rattle.dbuf_state.specs.declared.event.CellEvent.TheVariants.{Get, Put, Patch, Pin, Unpin, Load, Evict, Synced, End}
use Rattle.dbuf_state.specs.declared.oid.Oid.{Oid}
use Rattle.dbuf_state.specs.declared.state.Mapping.{Mapping}
use Rattle.dbuf_cells.specs.Turns.{OnHeap, outline_in}

-- ---- the size of a block

-- how many bytes the object map has of the block
abbrev pub size_at : Oid → Outline → Option ℕ
size_at at o = option_map mapped_size (mapped_at at o)

-- the size of the pointer with which it opened
abbrev pub opened_size : Oid → List Mapping → Option ℕ
opened_size at [] = None
opened_size at (m ∷ ms) = if oid_eq at m.at then Some m.ptr.key.size else opened_size at ms

-- a whole write gives the block its size, and nothing else does
abbrev pub size_after : Oid → Option ℕ → CellEvent → Option ℕ
size_after at size (Get n b) = size
size_after at size (Put n b most fill) = if oid_eq at b then Some most else size
size_after at size (Patch n b from bytes) = size
size_after at size (Pin n b) = size
size_after at size (Unpin n b) = size
size_after at size (Load n b held) = size
size_after at size (Evict n b) = size
size_after at size (Synced n b ptr held) = size
size_after at size (End n) = size

abbrev pub told_size : Oid → Option ℕ → List CellEvent → Option ℕ
told_size at size [] = size
told_size at size (e ∷ es) = told_size at (size_after at size e) es

-- ---- a block that was never mapped

abbrev pub is_put_of : Oid → CellEvent → Bool
is_put_of at (Get n b) = false
is_put_of at (Put n b most fill) = oid_eq at b
is_put_of at (Patch n b from bytes) = false
is_put_of at (Pin n b) = false
is_put_of at (Unpin n b) = false
is_put_of at (Load n b held) = false
is_put_of at (Evict n b) = false
is_put_of at (Synced n b ptr held) = false
is_put_of at (End n) = false

-- the opening has no pointer of the Oid, and none of these events is a whole write of it
pub record IsNeverMapped (at : Oid) (first : List Mapping) (es : List CellEvent) : Type 0 where
  pub opening : IsTrue (list_all (λ m. not (oid_eq at m.at)) first)
  pub puts : IsTrue (list_all (λ e. not (is_put_of at e)) es)

-- ---- the law

-- What is told of a block of a cell. NoBlock comes where it was never mapped, Range goes by the size told so, and NoPin, until the end, by the pins told so.
pub record IsTold (at : Oid) (b : OnHeap) : Type 0 where
  pub size : size_at at (outline_in b) ≡ told_size at (opened_size at b.value.opening) b.value.history
  pub none : mapped_at at (outline_in b) ≡ None ↔ IsNeverMapped at b.value.opening b.value.history
  pub pins : (n : ℕ) → IsTrue (list_all (λ e. not (is_end e)) b.value.history)
      → has_pin_at n at (outline_in b) ≡ nat_lt (count_by (is_unpin_of n at) b.value.history) (count_by (is_pin_of n at) b.value.history)

-- so is what each sound cell has of a block
abbrev pub CellsAreTold : Type 0
CellsAreTold = (b : OnHeap) (at : Oid) → IsSound b.value → IsTold at b

-- the size of a whole write
abbrev pub put_size : CellEvent → Option ℕ
put_size (Get n b) = None
put_size (Put n b most fill) = Some most
put_size (Patch n b from bytes) = None
put_size (Pin n b) = None
put_size (Unpin n b) = None
put_size (Load n b held) = None
put_size (Evict n b) = None
put_size (Synced n b ptr held) = None
put_size (End n) = None

-- each size with which a block opened, and each size of a whole write, passes this test
pub record SizesPass (test : ℕ → Bool) (first : List Mapping) (es : List CellEvent) : Type 0 where
  pub opening : IsTrue (list_all (λ m. test m.ptr.key.size) first)
  pub puts : IsTrue (list_all (λ e. option_map_or test (put_size e) true) es)

-- then the size of each block that a sound cell maps passes it
abbrev pub MappedSizesPass : Type 0
MappedSizesPass = (test : ℕ → Bool) (b : OnHeap) (at : Oid) (size : ℕ) → IsSound b.value → SizesPass test b.value.opening b.value.history → size_at at (outline_in b) ≡ Some size → IsTrue (test size)
