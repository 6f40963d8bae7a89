-- The dbufs of a cell: what they are as plain data, what they keep, and what the calls change of them.
use Rattle.std.specs.Prelude.{◌≡◌, ℕ, ◌+◌, ◌≤◌, Bool, true, false, not, ◌&&◌, ◌||◌, IsTrue, if◌then◌else◌, List, [], ◌∷◌, length, take, drop, Option, Some, None, is_none}
use Rattle.std.specs.Option.{option_map_or}
use Rattle.blk_ptr.specs.Ptr.{IsOf}
use Rattle.blk_ptr.specs.Size.{IsBlockSize}
use Rattle.blk_ptr.specs.declared.key.Key.{Key}
use Rattle.blk_ptr.specs.declared.ptr.Ptr.{Ptr}
use Rattle.dbuf_state.specs.declared.change.Change.{Change}
use Rattle.dbuf_state.specs.declared.change.Change.TheVariants as change
use Rattle.dbuf_state.specs.declared.dbuf.Content.{Content}
use Rattle.dbuf_state.specs.declared.dbuf.Content.TheVariants.{Clean, Dirty}
use Rattle.dbuf_state.specs.declared.dbuf.Dbuf.{Dbuf}
use Rattle.dbuf_state.specs.declared.oid.Oid.{Oid}
use Rattle.dbuf_state.specs.declared.state.DbState.{DbState}
use Rattle.dbuf_state.specs.declared.state.DbState.TheVariants.{Uncached, Read, Fill, Cached, Evicting}
use Rattle.dbuf_state.specs.declared.state.Mapped.{Mapped}
use Rattle.dbuf_state.specs.declared.state.Mapped.TheVariants as mapped
use Rattle.dbuf_state.specs.declared.standing.Standing.{Standing}
use Rattle.dbuf_state.specs.declared.window.Window.{Window}
use Rattle.dbuf_state.specs.Objects.{PlainDbuf, patched}
use Rattle.dbuf_state.specs.Objects as plain
use Rattle.dbuf_state.specs.Oids.{item_at, with_change}
use Rattle.dbuf_state.specs.Pins.{pinned, unpinned}

-- ---- states

abbrev pub is_uncached : DbState → Bool
is_uncached Uncached = true
is_uncached (Read n) = false
is_uncached Fill = false
is_uncached Cached = false
is_uncached Evicting = false

abbrev pub is_reading : DbState → Bool
is_reading Uncached = false
is_reading (Read n) = true
is_reading Fill = false
is_reading Cached = false
is_reading Evicting = false

abbrev pub is_cached : DbState → Bool
is_cached Uncached = false
is_cached (Read n) = false
is_cached Fill = false
is_cached Cached = true
is_cached Evicting = false

abbrev pub is_evicting : DbState → Bool
is_evicting Uncached = false
is_evicting (Read n) = false
is_evicting Fill = false
is_evicting Cached = false
is_evicting Evicting = true

-- it stands between two states that outlast a turn of the cell
abbrev pub is_passing : DbState → Bool
is_passing Uncached = false
is_passing (Read n) = false
is_passing Fill = true
is_passing Cached = false
is_passing Evicting = true

-- ---- what a block is

abbrev pub is_clean : Content → Bool
is_clean (Clean ptr) = true
is_clean (Dirty bytes) = false

abbrev pub mapped_of : Content → Mapped
mapped_of (Clean ptr) = mapped.Clean ptr
mapped_of (Dirty bytes) = mapped.Dirty (length bytes)

abbrev pub size_of : Content → ℕ
size_of (Clean ptr) = ptr.key.size
size_of (Dirty bytes) = length bytes

-- a clean block is cached where the dbuf has its bytes; while they are being read, or taken out, it counts as uncached
abbrev pub plain_block : Content → DbState → plain.Block
plain_block (Clean ptr) state = if is_cached state then plain.Cached ptr else plain.Uncached ptr
plain_block (Dirty bytes) state = plain.Dirty bytes

-- the bytes are of the pointer, where the block is clean
abbrev pub AreOf : List ℕ → Content → Type 0
AreOf bytes (Clean ptr) = IsOf bytes ptr
AreOf bytes (Dirty written) = bytes ≡ written

-- the dirty bytes are of the pointer
abbrev pub IsDirtyOf : Ptr → Content → Type 0
IsDirtyOf ptr (Clean old) = ⊥
IsDirtyOf ptr (Dirty bytes) = IsOf bytes ptr

-- the bytes of a window
abbrev pub window_of : Window → List ℕ → List ℕ
window_of w bytes = take w.len (drop w.at bytes)

abbrev pub written : ℕ → List ℕ → Content → Content
written from bytes (Clean ptr) = Clean ptr
written from bytes (Dirty old) = Dirty (patched from bytes old)

-- a dbuf whose bytes are taken out, or not there yet, is uncached; one that is being read stays so
abbrev pub emptied : Content → DbState → DbState
emptied (Clean ptr) Uncached = Uncached
emptied (Clean ptr) (Read n) = Read n
emptied (Clean ptr) Fill = Uncached
emptied (Clean ptr) Cached = Uncached
emptied (Clean ptr) Evicting = Uncached
emptied (Dirty bytes) state = state

module _ {H : Type 0} where
  abbrev pub dbuf_oid : Dbuf H → Oid
  dbuf_oid d = d.at

  abbrev pub plain_dbuf : Dbuf H → PlainDbuf
  plain_dbuf d = record { at = d.at; block = plain_block d.content d.state; pins = d.pins; used = d.used }

  abbrev pub standing_of : Dbuf H → Standing
  standing_of d = plain.standing (plain_dbuf d)

  -- the dbuf of an Oid
  abbrev pub dbuf_at : Oid → List (Dbuf H) → Option (Dbuf H)
  dbuf_at = item_at dbuf_oid

  abbrev pub dbuf_is : (Dbuf H → Bool) → Oid → List (Dbuf H) → Bool
  dbuf_is test at ds = option_map_or test (dbuf_at at ds) false

  abbrev pub DbufHas : (Dbuf H → Type 0) → Option (Dbuf H) → Type 0
  DbufHas P None = ⊥
  DbufHas P (Some d) = P d

  abbrev pub with_dbuf : Oid → (Dbuf H → Dbuf H) → List (Dbuf H) → List (Dbuf H)
  with_dbuf = with_change dbuf_oid

  -- it is clean, and its dbuf is in a state that passes the test
  abbrev pub is_clean_in : (DbState → Bool) → Dbuf H → Bool
  is_clean_in test d = is_clean d.content && test d.state

  abbrev pub is_dirty : Dbuf H → Bool
  is_dirty d = not (is_clean d.content)

  -- nothing is kept of the Oid, and nobody brings its bytes just now: it has no dbuf, or is dirty, or is clean and its dbuf is uncached
  -- or on its way out
  abbrev pub may_dirty : Oid → List (Dbuf H) → Bool
  may_dirty at ds = option_map_or (λ d. not (is_clean d.content) || (is_uncached d.state || is_evicting d.state)) (dbuf_at at ds) true

  -- the Oids of the dirty blocks, in the order in which they came
  abbrev pub dirty_oids : List (Dbuf H) → List Oid
  dirty_oids [] = []
  dirty_oids (d ∷ ds) = if is_dirty d then d.at ∷ dirty_oids ds else dirty_oids ds

  -- ---- changes

  abbrev pub reading_by : ℕ → Dbuf H → Dbuf H
  reading_by n d = record d { state = Read n }

  abbrev pub unread : Dbuf H → Dbuf H
  unread d = record d { state = Uncached }

  abbrev pub cached_with : H → Dbuf H → Dbuf H
  cached_with kept d = record d { state = Cached; kept = Some kept }

  abbrev pub without_kept : DbState → Dbuf H → Dbuf H
  without_kept state d = record d { state = state; kept = None }

  abbrev pub dirty_with : List ℕ → Dbuf H → Dbuf H
  dirty_with bytes d = record d { content = Dirty bytes; state = Cached; kept = None }

  abbrev pub written_at : ℕ → List ℕ → Dbuf H → Dbuf H
  written_at from bytes d = record d { content = written from bytes d.content }

  abbrev pub synced_to : Ptr → H → Dbuf H → Dbuf H
  synced_to ptr kept d = record d { content = Clean ptr; state = Cached; kept = Some kept }

  abbrev pub pinned_by : ℕ → Dbuf H → Dbuf H
  pinned_by n d = record d { pins = pinned n d.pins }

  abbrev pub unpinned_by : ℕ → Dbuf H → Dbuf H
  unpinned_by n d = record d { pins = unpinned n d.pins }

  abbrev pub used_at : ℕ → Dbuf H → Dbuf H
  used_at tick d = record d { used = tick }

  abbrev pub cleared : Dbuf H → Dbuf H
  cleared d = record d { state = emptied d.content d.state; pins = [] }

  abbrev pub applied : Change H → Dbuf H → Dbuf H
  applied (change.Reading n) d = reading_by n d
  applied change.Unread d = unread d
  applied (change.Keep kept) d = cached_with kept d
  applied (change.Unkeep state) d = without_kept state d
  applied (change.Dirty bytes) d = dirty_with bytes d
  applied (change.Written from bytes) d = written_at from bytes d
  applied (change.Synced ptr kept) d = synced_to ptr kept d
  applied (change.Pin n) d = pinned_by n d
  applied (change.Unpin n) d = unpinned_by n d
  applied (change.Used tick) d = used_at tick d
  applied change.Clear d = cleared d

  -- what is taken out
  abbrev pub given : Change H → Dbuf H → Option H
  given (change.Reading n) d = None
  given change.Unread d = None
  given (change.Keep kept) d = None
  given (change.Unkeep state) d = d.kept
  given (change.Dirty bytes) d = None
  given (change.Written from bytes) d = None
  given (change.Synced ptr kept) d = None
  given (change.Pin n) d = None
  given (change.Unpin n) d = None
  given (change.Used tick) d = None
  given change.Clear d = None

  -- only a pin takes memory
  abbrev pub takes_memory : Change H → Bool
  takes_memory (change.Reading n) = false
  takes_memory change.Unread = false
  takes_memory (change.Keep kept) = false
  takes_memory (change.Unkeep state) = false
  takes_memory (change.Dirty bytes) = false
  takes_memory (change.Written from bytes) = false
  takes_memory (change.Synced ptr kept) = false
  takes_memory (change.Pin n) = true
  takes_memory (change.Unpin n) = false
  takes_memory (change.Used tick) = false
  takes_memory change.Clear = false

  -- a write has to end inside the dirty bytes
  abbrev pub IsInside : Change H → Content → Type 0
  IsInside (change.Written from bytes) content = from + length bytes ≤ size_of content
  IsInside (change.Reading n) content = Unit {0}
  IsInside change.Unread content = Unit {0}
  IsInside (change.Keep kept) content = Unit {0}
  IsInside (change.Unkeep state) content = Unit {0}
  IsInside (change.Dirty bytes) content = Unit {0}
  IsInside (change.Synced ptr kept) content = Unit {0}
  IsInside (change.Pin n) content = Unit {0}
  IsInside (change.Unpin n) content = Unit {0}
  IsInside (change.Used tick) content = Unit {0}
  IsInside change.Clear content = Unit {0}

  module _ (key_of : H → Key) (bytes_of : H → List ℕ) where
    -- what is kept is the pointer's block: it has the pointer's key, and bytes that are of the pointer
    pub record IsKeptOf (kept : H) (ptr : Ptr) : Type 0 where
      pub key : key_of kept ≡ ptr.key
      pub bytes : IsOf (bytes_of kept) ptr

    abbrev pub IsOfContent : H → Content → Type 0
    IsOfContent kept (Clean ptr) = IsKeptOf kept ptr
    IsOfContent kept (Dirty bytes) = ⊥

    abbrev pub FitsClean : Ptr → DbState → Option H → Type 0
    FitsClean ptr state None = IsTrue (not (is_cached state))
    FitsClean ptr state (Some kept) = IsTrue (is_cached state) × IsKeptOf kept ptr

    -- a dbuf keeps a block exactly where it is clean and cached, and the block is of its pointer; a dirty one is cached, and has a
    -- block's size
    abbrev pub Fits : Content → DbState → Option H → Type 0
    Fits (Clean ptr) state kept = FitsClean ptr state kept
    Fits (Dirty bytes) state kept = IsTrue (is_cached state && is_none kept) × IsBlockSize (length bytes)

    abbrev pub IsFit : Dbuf H → Type 0
    IsFit d = Fits d.content d.state d.kept

  module _ (bytes_of : H → List ℕ) where
    -- the bytes of a dbuf's block, where they are there
    abbrev pub bytes_in : Content → Option H → List ℕ
    bytes_in (Clean ptr) None = []
    bytes_in (Clean ptr) (Some kept) = bytes_of kept
    bytes_in (Dirty bytes) kept = bytes
