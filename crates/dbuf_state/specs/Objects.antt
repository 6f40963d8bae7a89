-- One cell of dbufs as plain data: its part of the object map, the dbufs with their pins and last uses, and what each event does
-- (dbuf.c of OpenZFS: dbuf_hold, dbuf_read, dbuf_dirty, dbuf_sync_list, dbuf_evict_one; the object map is what a dnode's block pointers say).
use Rattle.std.specs.Prelude.{◌≡◌, ℕ, ◌+◌, Bool, true, false, not, ◌&&◌, IsTrue, nat_le, if◌then◌else◌, List, [], ◌∷◌, ◌++◌, length, map, replicate, take, drop, Option, Some, None}
use Rattle.std.specs.Option.{option_map_or}
use Rattle.blk_ptr.specs.Ptr.{IsOf}
use Rattle.blk_ptr.specs.declared.ptr.Ptr.{Ptr}
use Rattle.dbuf_state.specs.declared.event.CellEvent.{CellEvent}
use Rattle.dbuf_state.specs.declared.event.CellEvent.TheVariants.{Get, Put, Patch, Pin, Unpin, Load, Evict, Synced, End}
use Rattle.dbuf_state.specs.declared.oid.Oid.{Oid}
use Rattle.dbuf_state.specs.declared.pins.PinCount.{PinCount}
use Rattle.dbuf_state.specs.declared.standing.Standing.{Standing}
use Rattle.dbuf_state.specs.declared.state.Mapping.{Mapping}
use Rattle.dbuf_state.specs.Oids.{item_at, with_change, with_item}
use Rattle.dbuf_state.specs.Pins.{are_none, has_pin, pinned, unpinned}
use Rattle.dbuf_state.specs.Standings.{is_evictable, is_over}

-- what a block is: clean, where the map has a pointer and the dbuf has no bytes or has them; or dirty, where the map has bytes
pub data Block : Type 0 where
  Uncached : Ptr → Block
  Cached : Ptr → Block
  Dirty : List ℕ → Block

pub record PlainDbuf : Type 0 where
  pub at : Oid
  pub block : Block
  pub pins : List PinCount
  -- how many events there had been when it was last used, that use included; 0 where it was never used
  pub used : ℕ

-- whether dbufs may be evicted just now, or have to be where the limit is passed
pub data Evicting : Type 0 where
  Never : Evicting
  May : Evicting
  Must : Evicting

pub record PlainCell : Type 0 where
  -- how many bytes of clean, unpinned blocks the dbufs keep (dbuf_cache_max_bytes)
  pub limit : ℕ
  -- every mapped Oid's dbuf, in the order in which they were mapped
  pub dbufs : List PlainDbuf
  -- how many events there have been
  pub events : ℕ
  pub evicting : Evicting

-- ---- the opening: every block is clean and uncached, and nothing is pinned

abbrev pub opened : Mapping → PlainDbuf
opened m = record { at = m.at; block = Uncached m.ptr; pins = []; used = 0 }

abbrev pub opening_cell : ℕ → List Mapping → PlainCell
opening_cell limit mappings = record { limit = limit; dbufs = map opened mappings; events = 0; evicting = Never }

-- ---- reading a cell

abbrev pub dbuf_oid : PlainDbuf → Oid
dbuf_oid d = d.at

abbrev pub dbuf_at : Oid → PlainCell → Option PlainDbuf
dbuf_at at c = item_at dbuf_oid at c.dbufs

-- the Oid is mapped, and its dbuf passes this test
abbrev pub dbuf_is : (PlainDbuf → Bool) → Oid → PlainCell → Bool
dbuf_is test at c = option_map_or test (dbuf_at at c) false

-- how many bytes the block has
abbrev pub size_of : Block → ℕ
size_of (Uncached ptr) = ptr.key.size
size_of (Cached ptr) = ptr.key.size
size_of (Dirty bytes) = length bytes

-- its bytes are there: it is dirty, or clean and cached
abbrev pub has_bytes : Block → Bool
has_bytes (Uncached ptr) = false
has_bytes (Cached ptr) = true
has_bytes (Dirty bytes) = true

-- it is clean, and its dbuf has no bytes; it has
abbrev pub is_uncached : Block → Bool
is_uncached (Uncached ptr) = true
is_uncached (Cached ptr) = false
is_uncached (Dirty bytes) = false

abbrev pub is_cached : Block → Bool
is_cached (Uncached ptr) = false
is_cached (Cached ptr) = true
is_cached (Dirty bytes) = false

-- the bytes from `from` on are replaced by these
abbrev pub patched : ℕ → List ℕ → List ℕ → List ℕ
patched from bytes whole = take from whole ++ bytes ++ drop (from + length bytes) whole

-- ---- evictions

-- how a dbuf stands when something is to be evicted
abbrev pub standing : PlainDbuf → Standing
standing d = record {
  at = d.at;
  used = d.used;
  size = if is_cached d.block then size_of d.block else 0;
  kept = is_cached d.block;
  pinned = not (are_none d.pins);
}

abbrev pub standings : PlainCell → List Standing
standings c = map standing c.dbufs

abbrev pub may_evict : Evicting → Bool
may_evict Never = false
may_evict May = true
may_evict Must = true

abbrev pub must_evict : Evicting → Bool
must_evict Never = false
must_evict May = false
must_evict Must = true

-- something has to be evicted before anything else is done
abbrev pub is_due : PlainCell → Bool
is_due c = must_evict c.evicting && is_over c.limit (standings c)

-- ---- where an event is legal

-- the dirty bytes are of the pointer
abbrev pub IsWritten : Ptr → Block → Type 0
IsWritten ptr (Uncached old) = ⊥
IsWritten ptr (Cached old) = ⊥
IsWritten ptr (Dirty bytes) = IsOf bytes ptr

abbrev pub IsWrittenAt : Ptr → Option PlainDbuf → Type 0
IsWrittenAt ptr None = ⊥
IsWrittenAt ptr (Some d) = IsWritten ptr d.block

abbrev pub IsLegal : PlainCell → CellEvent → Type 0
IsLegal c (Get n at) = IsTrue (not (is_due c) && dbuf_is (λ d. has_bytes d.block) at c)
IsLegal c (Put n at size fill) = IsTrue (not (is_due c))
IsLegal c (Patch n at from bytes) = IsTrue (not (is_due c) && dbuf_is (λ d. has_bytes d.block && nat_le (from + length bytes) (size_of d.block)) at c)
IsLegal c (Pin n at) = IsTrue (not (is_due c) && dbuf_is (λ d. has_bytes d.block) at c)
IsLegal c (Unpin n at) = IsTrue (not (is_due c) && dbuf_is (λ d. has_pin n d.pins) at c)
IsLegal c (Load n at held) = IsTrue (not (is_due c) && dbuf_is (λ d. is_uncached d.block) at c)
IsLegal c (Evict n at) = IsTrue (may_evict c.evicting && is_evictable c.limit at (standings c))
IsLegal c (Synced n at ptr held) = IsTrue (not (is_due c)) × IsWrittenAt ptr (dbuf_at at c)
IsLegal c (End n) = IsTrue (not (is_due c))

-- ---- what an event does. A patch of a clean block starts from a list that is of its pointer, which no event tells: `base`

-- these may be the bytes of the block: those of a dirty one, or a list of a clean one's pointer
abbrev pub AreBytesOf : List ℕ → Block → Type 0
AreBytesOf bytes (Uncached ptr) = IsOf bytes ptr
AreBytesOf bytes (Cached ptr) = IsOf bytes ptr
AreBytesOf bytes (Dirty written) = written ≡ bytes

-- this list may be the base of the event
abbrev pub IsBaseAt : List ℕ → Option PlainDbuf → Type 0
IsBaseAt base None = Unit {0}
IsBaseAt base (Some d) = AreBytesOf base d.block

abbrev pub IsBase : List ℕ → PlainCell → CellEvent → Type 0
IsBase base c (Patch n at from bytes) = IsBaseAt base (dbuf_at at c)
IsBase base c (Get n at) = Unit {0}
IsBase base c (Put n at size fill) = Unit {0}
IsBase base c (Pin n at) = Unit {0}
IsBase base c (Unpin n at) = Unit {0}
IsBase base c (Load n at held) = Unit {0}
IsBase base c (Evict n at) = Unit {0}
IsBase base c (Synced n at ptr held) = Unit {0}
IsBase base c (End n) = Unit {0}

-- the list from which a change starts, where no event and no event before it tells it: the base of a patch of a clean block
abbrev pub untold : PlainCell → CellEvent → List ℕ → List (List ℕ)
untold c (Patch n at from bytes) base = if dbuf_is (λ d. is_cached d.block) at c then base ∷ [] else []
untold c (Get n at) base = []
untold c (Put n at size fill) base = []
untold c (Pin n at) base = []
untold c (Unpin n at) base = []
untold c (Load n at held) base = []
untold c (Evict n at) base = []
untold c (Synced n at ptr held) base = []
untold c (End n) base = []

abbrev pub loaded : Block → Block
loaded (Uncached ptr) = Cached ptr
loaded (Cached ptr) = Cached ptr
loaded (Dirty bytes) = Dirty bytes

abbrev pub evicted : Block → Block
evicted (Uncached ptr) = Uncached ptr
evicted (Cached ptr) = Uncached ptr
evicted (Dirty bytes) = Dirty bytes

abbrev pub with_block : (Block → Block) → PlainDbuf → PlainDbuf
with_block change d = record d { block = change d.block }

abbrev pub with_pins : (List PinCount → List PinCount) → PlainDbuf → PlainDbuf
with_pins change d = record d { pins = change d.pins }

abbrev pub fresh_dbuf : Oid → Block → PlainDbuf
fresh_dbuf at block = record { at = at; block = block; pins = []; used = 0 }

-- at the end every clean block is uncached, and every pin goes
abbrev pub ended : PlainDbuf → PlainDbuf
ended d = with_pins (λ _. []) (with_block evicted d)

abbrev pub changed : Oid → (PlainDbuf → PlainDbuf) → List PlainDbuf → List PlainDbuf
changed = with_change dbuf_oid

abbrev pub effect : List ℕ → List PlainDbuf → CellEvent → List PlainDbuf
effect base ds (Get n at) = ds
effect base ds (Put n at size fill) = with_item dbuf_oid at (with_block (λ _. Dirty (replicate size fill))) (fresh_dbuf at (Dirty (replicate size fill))) ds
effect base ds (Patch n at from bytes) = changed at (with_block (λ _. Dirty (patched from bytes base))) ds
effect base ds (Pin n at) = changed at (with_pins (pinned n)) ds
effect base ds (Unpin n at) = changed at (with_pins (unpinned n)) ds
effect base ds (Load n at held) = changed at (with_block loaded) ds
effect base ds (Evict n at) = changed at (with_block evicted) ds
effect base ds (Synced n at ptr held) = changed at (with_block (λ _. Cached ptr)) ds
effect base ds (End n) = map ended ds

-- the Oid that an event uses; an Evict, a Synced and an End use none
abbrev pub use_of : CellEvent → Option Oid
use_of (Get n at) = Some at
use_of (Put n at size fill) = Some at
use_of (Patch n at from bytes) = Some at
use_of (Pin n at) = Some at
use_of (Unpin n at) = Some at
use_of (Load n at held) = Some at
use_of (Evict n at) = None
use_of (Synced n at ptr held) = None
use_of (End n) = None

abbrev pub used_at : ℕ → PlainDbuf → PlainDbuf
used_at tick d = record d { used = tick }

abbrev pub touched : ℕ → Option Oid → List PlainDbuf → List PlainDbuf
touched tick None ds = ds
touched tick (Some at) ds = changed at (used_at tick) ds

-- after a Get, Put, Patch, Pin or Unpin stand Evicts until none is legal; behind a Load there may be some, and behind an Evict more
abbrev pub evicting_after : Evicting → CellEvent → Evicting
evicting_after before (Get n at) = Must
evicting_after before (Put n at size fill) = Must
evicting_after before (Patch n at from bytes) = Must
evicting_after before (Pin n at) = Must
evicting_after before (Unpin n at) = Must
evicting_after before (Load n at held) = May
evicting_after before (Evict n at) = before
evicting_after before (Synced n at ptr held) = Never
evicting_after before (End n) = Never

abbrev pub after : List ℕ → PlainCell → CellEvent → PlainCell
after base c e = record {
  limit = c.limit;
  dbufs = touched (c.events + 1) (use_of e) (effect base c.dbufs e);
  events = c.events + 1;
  evicting = evicting_after c.evicting e;
}
