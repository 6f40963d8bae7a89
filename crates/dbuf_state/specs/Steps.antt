-- Laws of histories and of cells: what a cell's calls do is what its events say.
use Rattle.std.specs.Prelude.{◌≡◌, ℕ, Bool, true, List, [], ◌∷◌, ◌++◌, replicate, map}
use Rattle.blk_ptr.specs.declared.ptr.Ptr.{Ptr}
use Rattle.dbuf_state.specs.declared.dbuf.Content.TheVariants.{Clean, Dirty}
use Rattle.dbuf_state.specs.declared.dbuf.Dbuf.{Dbuf}
use Rattle.dbuf_state.specs.declared.event.CellEvent.{CellEvent}
use Rattle.dbuf_state.specs.declared.event.CellEvent.TheVariants.{Get, Put, Patch, Pin, Unpin, Load, Evict, Synced, End}
use Rattle.dbuf_state.specs.declared.oid.Oid.{Oid}
use Rattle.dbuf_state.specs.declared.state.DbState.TheVariants as state
use Rattle.dbuf_state.specs.CellLog.{CellLog, fresh, noted}
use Rattle.dbuf_state.specs.Dbufs.{DbufHas, cached_with, cleared, dbuf_at, dbuf_is, dbuf_oid, dirty_with, is_clean_in, is_cached, is_reading, is_uncached, pinned_by, plain_dbuf, reading_by, synced_to, unpinned_by, unread, with_dbuf, without_kept, written_at}
use Rattle.dbuf_state.specs.History.{Leads}
use Rattle.dbuf_state.specs.Objects.{Evicting, IsBase, IsLegal, PlainCell, after, evicting_after, opening_cell, untold}
use Rattle.dbuf_state.specs.Oids.{with_item}
use Rattle.dbuf_state.specs.Soundness.{IsSound, plain_cell}

-- a legal event more leads on
abbrev pub GoesOn : Type 0
GoesOn = (c end : PlainCell) (es : List CellEvent) (bases : List (List ℕ)) (e : CellEvent) (base : List ℕ)
    → Leads c es bases end → IsLegal end e → IsBase base end e → Leads c (es ++ e ∷ []) (bases ++ untold end e base) (after base end e)

-- the cell after these changes of its dbufs and this event is what the event leads to from the cell before
abbrev pub Follows : {H : Type 0} → List ℕ → CellLog H → CellEvent → List (Dbuf H) → Type 0
Follows base c e ds = (evicting : Evicting)
    → plain_cell (evicting_after evicting e) (noted e (record c { dbufs = ds })) ≡ after base (plain_cell evicting c) e

-- a call with its event takes a legal history of a cell on
abbrev pub CallGoesOn : Type 0 → Type 0
CallGoesOn H = (c : CellLog H) (evicting : Evicting) (bases : List (List ℕ)) (base : List ℕ) (e : CellEvent) (ds : List (Dbuf H))
    → Leads (opening_cell c.limit c.opening) c.history bases (plain_cell evicting c)
    → IsLegal (plain_cell evicting c) e → IsBase base (plain_cell evicting c) e → Follows base c e ds
    → Leads (opening_cell c.limit c.opening) (c.history ++ e ∷ []) (bases ++ untold (plain_cell evicting c) e base) (plain_cell (evicting_after evicting e) (noted e (record c { dbufs = ds })))

-- a cell to which nothing was done but to map Oids is sound
abbrev pub MappedIsSound : Type 0 → Type 0
MappedIsSound H = (c : CellLog H) → c.history ≡ [] → c.dbufs ≡ map (λ m. fresh m.at (Clean m.ptr) state.Uncached) c.opening → IsSound c

-- a get changes no dbuf
abbrev pub GetFollows : Type 0 → Type 0
GetFollows H = (c : CellLog H) (n : ℕ) (at : Oid) → Follows [] c (Get n at) c.dbufs

-- what was brought is kept
abbrev pub LoadFollows : Type 0 → Type 0
LoadFollows H = (c : CellLog H) (n : ℕ) (at : Oid) (held : Bool) (kept : H) → dbuf_is (is_clean_in is_reading) at c.dbufs ≡ true
    → Follows [] c (Load n at held) (with_dbuf at (cached_with kept) c.dbufs)

-- what is evicted is taken out
abbrev pub EvictFollows : Type 0 → Type 0
EvictFollows H = (c : CellLog H) (n : ℕ) (at : Oid) → dbuf_is (is_clean_in is_cached) at c.dbufs ≡ true
    → Follows [] c (Evict n at) (with_dbuf at (without_kept state.Uncached) c.dbufs)

-- a put is a write of a whole block
abbrev pub PutFollows : Type 0 → Type 0
PutFollows H = (c : CellLog H) (n : ℕ) (at : Oid) (size fill : ℕ)
    → Follows [] c (Put n at size fill) (with_item dbuf_oid at (dirty_with (replicate size fill)) (fresh at (Dirty (replicate size fill)) state.Cached) c.dbufs)

-- a patch is a write over the bytes that it starts from: those of the dirty block, or those that a clean one kept
abbrev pub PatchFollows : Type 0 → Type 0
PatchFollows H = (c : CellLog H) (n : ℕ) (at : Oid) (from : ℕ) (bytes base : List ℕ)
    → DbufHas (λ d. d.content ≡ Dirty base) (dbuf_at at c.dbufs)
    → Follows base c (Patch n at from bytes) (with_dbuf at (written_at from bytes) c.dbufs)

abbrev pub PatchOfCleanFollows : Type 0 → Type 0
PatchOfCleanFollows H = (c : CellLog H) (n : ℕ) (at : Oid) (from : ℕ) (bytes base : List ℕ)
    → Follows base c (Patch n at from bytes) (with_dbuf at (written_at from bytes) (with_dbuf at (dirty_with base) c.dbufs))

abbrev pub PinFollows : Type 0 → Type 0
PinFollows H = (c : CellLog H) (n : ℕ) (at : Oid) → Follows [] c (Pin n at) (with_dbuf at (pinned_by n) c.dbufs)

abbrev pub UnpinFollows : Type 0 → Type 0
UnpinFollows H = (c : CellLog H) (n : ℕ) (at : Oid) → Follows [] c (Unpin n at) (with_dbuf at (unpinned_by n) c.dbufs)

abbrev pub SyncedFollows : Type 0 → Type 0
SyncedFollows H = (c : CellLog H) (n : ℕ) (at : Oid) (ptr : Ptr) (held : Bool) (kept : H)
    → Follows [] c (Synced n at ptr held) (with_dbuf at (synced_to ptr kept) c.dbufs)

-- the end empties the dbufs, whatever was taken out of them for it
abbrev pub EndFollows : Type 0 → Type 0
EndFollows H = (c : CellLog H) (n : ℕ) (ds : List (Dbuf H)) → map plain_dbuf (map cleared ds) ≡ map plain_dbuf (map cleared c.dbufs)
    → Follows [] c (End n) (map cleared ds)

-- while a clean block is being brought, or is on its way out and back, it counts as it did
abbrev pub ReadingAlike : Type 0 → Type 0
ReadingAlike H = (c : CellLog H) (n : ℕ) (at : Oid) (evicting : Evicting) → dbuf_is (is_clean_in is_uncached) at c.dbufs ≡ true
    → plain_cell evicting (record c { dbufs = with_dbuf at (reading_by n) c.dbufs }) ≡ plain_cell evicting c

abbrev pub UnreadAlike : Type 0 → Type 0
UnreadAlike H = (c : CellLog H) (at : Oid) (evicting : Evicting) → dbuf_is (is_clean_in is_reading) at c.dbufs ≡ true
    → plain_cell evicting (record c { dbufs = with_dbuf at unread c.dbufs }) ≡ plain_cell evicting c
