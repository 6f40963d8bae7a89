-- The outline of a cell: what is mapped, what is cached and pinned, and when each dbuf was last used, but no bytes. Unlike the bytes, it
-- follows from the opening and the events alone.
use Rattle.std.specs.Prelude.{◌≡◌, ℕ, ◌+◌, Bool, true, false, not, ◌&&◌, ◌==◌, IsTrue, nat_lt, if◌then◌else◌, List, [], ◌∷◌, length, map, count_by, Option, Some, None}
use Rattle.std.specs.List.{list_all}
use Rattle.std.specs.Option.{option_map, option_map_or}
use Rattle.dbuf_state.specs.declared.event.CellEvent.{CellEvent}
use Rattle.dbuf_state.specs.declared.event.CellEvent.TheVariants.{Get, Put, Patch, Pin, Unpin, Load, Evict, Synced, End}
use Rattle.dbuf_state.specs.declared.oid.Oid.{Oid}
use Rattle.dbuf_state.specs.declared.pins.PinCount.{PinCount}
use Rattle.dbuf_state.specs.declared.standing.Standing.{Standing}
use Rattle.dbuf_state.specs.declared.state.Mapped.{Mapped}
use Rattle.dbuf_state.specs.declared.state.Mapped.TheVariants.{Clean, Dirty}
use Rattle.dbuf_state.specs.declared.state.Mapping.{Mapping}
use Rattle.dbuf_state.specs.CellLog.{CellLog}
use Rattle.dbuf_state.specs.Dbufs.{mapped_of}
use Rattle.dbuf_state.specs.Dbufs as concrete
use Rattle.dbuf_state.specs.History.{Leads}
use Rattle.dbuf_state.specs.Objects.{Block, Evicting, IsBase, IsLegal, PlainCell, PlainDbuf, evicting_after, opening_cell, use_of}
use Rattle.dbuf_state.specs.Objects as plain
use Rattle.dbuf_state.specs.Oids.{item_at, oid_eq, with_change, with_item}
use Rattle.dbuf_state.specs.Pins.{are_none, has_pin, pinned, pins_of, unpinned}
use Rattle.dbuf_state.specs.Soundness.{plain_cell}

pub record OutlineDbuf : Type 0 where
  pub at : Oid
  -- the pointer of a clean block, the size of a dirty one
  pub mapped : Mapped
  -- the block is clean, and its dbuf has the bytes
  pub cached : Bool
  pub pins : List PinCount
  pub used : ℕ

pub record Outline : Type 0 where
  pub limit : ℕ
  pub dbufs : List OutlineDbuf
  pub events : ℕ
  pub evicting : Evicting

-- ---- the outline of a plain cell

abbrev pub mapped_in : Block → Mapped
mapped_in (plain.Uncached ptr) = Clean ptr
mapped_in (plain.Cached ptr) = Clean ptr
mapped_in (plain.Dirty bytes) = Dirty (length bytes)

abbrev pub outline_dbuf : PlainDbuf → OutlineDbuf
outline_dbuf d = record { at = d.at; mapped = mapped_in d.block; cached = plain.is_cached d.block; pins = d.pins; used = d.used }

abbrev pub outline_of : PlainCell → Outline
outline_of c = record { limit = c.limit; dbufs = map outline_dbuf c.dbufs; events = c.events; evicting = c.evicting }

-- ---- reading an outline

abbrev pub dbuf_oid : OutlineDbuf → Oid
dbuf_oid d = d.at

abbrev pub dbuf_at : Oid → Outline → Option OutlineDbuf
dbuf_at at o = item_at dbuf_oid at o.dbufs

-- what the object map has of the Oid
abbrev pub mapped_at : Oid → Outline → Option Mapped
mapped_at at o = option_map (λ d. d.mapped) (dbuf_at at o)

-- its block is clean and cached
abbrev pub is_cached_at : Oid → Outline → Bool
is_cached_at at o = option_map_or (λ d. d.cached) (dbuf_at at o) false

-- how many pins a number has there, and whether it has one
abbrev pub pins_at : ℕ → Oid → Outline → ℕ
pins_at n at o = option_map_or (λ d. pins_of n d.pins) (dbuf_at at o) 0

abbrev pub has_pin_at : ℕ → Oid → Outline → Bool
has_pin_at n at o = option_map_or (λ d. has_pin n d.pins) (dbuf_at at o) false

abbrev pub mapped_size : Mapped → ℕ
mapped_size (Clean ptr) = ptr.key.size
mapped_size (Dirty size) = size

abbrev pub is_clean : Mapped → Bool
is_clean (Clean ptr) = true
is_clean (Dirty size) = false

-- how the dbufs stand when something is to be evicted
abbrev pub standing : OutlineDbuf → Standing
standing d = record { at = d.at; used = d.used; size = if d.cached then mapped_size d.mapped else 0; kept = d.cached; pinned = not (are_none d.pins) }

abbrev pub standings : Outline → List Standing
standings o = map standing o.dbufs

-- ---- what an event does to it

abbrev pub changed : Oid → (OutlineDbuf → OutlineDbuf) → List OutlineDbuf → List OutlineDbuf
changed = with_change dbuf_oid

abbrev pub with_pins : (List PinCount → List PinCount) → OutlineDbuf → OutlineDbuf
with_pins change d = record d { pins = change d.pins }

-- the block is dirty, and has so many bytes
abbrev pub dirtied : ℕ → OutlineDbuf → OutlineDbuf
dirtied size d = record d { mapped = Dirty size; cached = false }

-- at the end no block is cached, and every pin goes
abbrev pub ended : OutlineDbuf → OutlineDbuf
ended d = record d { cached = false; pins = [] }

abbrev pub effect : List OutlineDbuf → CellEvent → List OutlineDbuf
effect ds (Get n at) = ds
effect ds (Put n at size fill) = with_item dbuf_oid at (dirtied size) (record { at = at; mapped = Dirty size; cached = false; pins = []; used = 0 }) ds
effect ds (Patch n at from bytes) = changed at (λ d. dirtied (mapped_size d.mapped) d) ds
effect ds (Pin n at) = changed at (with_pins (pinned n)) ds
effect ds (Unpin n at) = changed at (with_pins (unpinned n)) ds
effect ds (Load n at held) = changed at (λ d. record d { cached = is_clean d.mapped }) ds
effect ds (Evict n at) = changed at (λ d. record d { cached = false }) ds
effect ds (Synced n at ptr held) = changed at (λ d. record d { mapped = Clean ptr; cached = true }) ds
effect ds (End n) = map ended ds

abbrev pub touched : ℕ → Option Oid → List OutlineDbuf → List OutlineDbuf
touched tick None ds = ds
touched tick (Some at) ds = changed at (λ d. record d { used = tick }) ds

abbrev pub after : Outline → CellEvent → Outline
after o e = record {
  limit = o.limit;
  dbufs = touched (o.events + 1) (use_of e) (effect o.dbufs e);
  events = o.events + 1;
  evicting = evicting_after o.evicting e;
}

abbrev pub after_all : Outline → List CellEvent → Outline
after_all o [] = o
after_all o (e ∷ es) = after_all (after o e) es

-- the outline of a cell that opened so, after these events
abbrev pub outline_after : ℕ → List Mapping → List CellEvent → Outline
outline_after limit opening es = after_all (outline_of (opening_cell limit opening)) es

-- ---- laws

-- what an event does to the plain cell it does to the outline, whatever bytes a patch starts from
abbrev pub OutlineFollows : Type 0
OutlineFollows = (c : PlainCell) (e : CellEvent) (base : List ℕ) → IsLegal c e → IsBase base c e → outline_of (plain.after base c e) ≡ after (outline_of c) e

-- the cell to which a legal history leads has the outline that the history tells
abbrev pub OutlineIsTold : Type 0
OutlineIsTold = (limit : ℕ) (opening : List Mapping) (es : List CellEvent) (bases : List (List ℕ)) (end : PlainCell)
    → Leads (opening_cell limit opening) es bases end → outline_of end ≡ outline_after limit opening es

-- what is evicted is chosen by the outline
abbrev pub StandingsAlike : Type 0
StandingsAlike = (c : PlainCell) → standings (outline_of c) ≡ plain.standings c

abbrev pub is_end : CellEvent → Bool
is_end (End n) = true
is_end _ = false

-- the event is a pin, or an unpin, of this number and this Oid
abbrev pub is_pin_of : ℕ → Oid → CellEvent → Bool
is_pin_of n at (Pin m b) = m == n && oid_eq at b
is_pin_of n at _ = false

abbrev pub is_unpin_of : ℕ → Oid → CellEvent → Bool
is_unpin_of n at (Unpin m b) = m == n && oid_eq at b
is_unpin_of n at _ = false

-- Until the end, a number's pins on an Oid are its pins there less its unpins, and it has one exactly where these are more.
pub record ArePinsCounted (n : ℕ) (at : Oid) (es : List CellEvent) (o : Outline) : Type 0 where
  pub count : pins_at n at o + count_by (is_unpin_of n at) es ≡ count_by (is_pin_of n at) es
  pub some : has_pin_at n at o ≡ nat_lt 0 (pins_at n at o)

abbrev pub PinsAreCounted : Type 0
PinsAreCounted = (limit : ℕ) (opening : List Mapping) (es : List CellEvent) (bases : List (List ℕ)) (end : PlainCell) (n : ℕ) (at : Oid)
    → Leads (opening_cell limit opening) es bases end → IsTrue (list_all (λ e. not (is_end e)) es) → ArePinsCounted n at es (outline_after limit opening es)

-- what the calls of a cell answer of a block stands in the outline
pub record IsInOutline {H : Type 0} (evicting : Evicting) (c : CellLog H) (at : Oid) : Type 0 where
  pub mapped : option_map (λ d. mapped_of d.content) (concrete.dbuf_at at c.dbufs) ≡ mapped_at at (outline_of (plain_cell evicting c))
  pub cached : concrete.dbuf_is (concrete.is_clean_in concrete.is_cached) at c.dbufs ≡ is_cached_at at (outline_of (plain_cell evicting c))
  pub pinned : (n : ℕ) → concrete.dbuf_is (λ d. has_pin n d.pins) at c.dbufs ≡ has_pin_at n at (outline_of (plain_cell evicting c))
  pub standings : map concrete.standing_of c.dbufs ≡ standings (outline_of (plain_cell evicting c))

abbrev pub CellIsInOutline : Type 0 → Type 0
CellIsInOutline H = (evicting : Evicting) (c : CellLog H) (at : Oid) → IsInOutline evicting c at
