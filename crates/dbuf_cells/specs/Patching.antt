-- What `patch` answers, and what is so on the way.
use Rattle.std.specs.Prelude.{◌≡◌, ◌≢◌, ℕ, ◌+◌, ◌≤◌, Bool, false, not, IsTrue, List, [], ◌∷◌, ◌++◌, length, Option, Some, IfNone, IfSome, Result, Ok, Err}
use Rattle.blk_ptr.specs.Key.{IsFirstKeyFault}
use Rattle.blk_ptr.specs.Size.{IsBlockSize}
use Rattle.blk_ptr.specs.declared.ptr.Ptr.{Ptr}
use Rattle.vdev_io.specs.declared.device.CacheDev.{Ghosts as DeviceGhosts}
use Rattle.vdev_io.specs.declared.pool.Pool.{Ghosts as PoolGhosts}
use Rattle.arc_core.specs.declared.config.Config.{Config}
use Rattle.arc_core.specs.declared.event.Event.{Event}
use Rattle.arc_core.specs.declared.served.ReadFault.{ReadFault}
use Rattle.arc_core.specs.declared.served.ReadFault.TheVariants as read
use Rattle.arc_table.specs.Cache.{Cache, IsPartyOf}
use Rattle.arc_table.specs.Fronts.{list_at}
use Rattle.arc_table.specs.Geometry.{cell_number}
use Rattle.arc_table.specs.Reading.{Outside}
use Rattle.dbuf_state.specs.CellLog.{CellLog, noted}
use Rattle.dbuf_state.specs.Dbufs.{DbufHas, IsOfContent, dbuf_at, dbuf_is, dirty_with, is_cached, is_clean_in, is_dirty, with_dbuf, written_at}
use Rattle.dbuf_state.specs.Objects.{Evicting, is_due}
use Rattle.dbuf_state.specs.Outline.{after_all}
use Rattle.dbuf_state.specs.Soundness.{plain_cell}
use Rattle.dbuf_state.specs.declared.dbuf.Dbuf.{Dbuf}
use Rattle.dbuf_state.specs.declared.event.CellEvent.{CellEvent}
use Rattle.dbuf_state.specs.declared.event.CellEvent.TheVariants.{Patch}
use Rattle.dbuf_state.specs.declared.fault.DbufFault.{DbufFault}
use Rattle.dbuf_state.specs.declared.fault.DbufFault.TheVariants as fault
use Rattle.dbuf_state.specs.declared.oid.Oid.{Oid}
use Rattle.dbuf_state.specs.declared.state.Mapped.{Mapped}
use Rattle.dbuf_state.specs.declared.state.Mapped.TheVariants as mapped
use Rattle.dbuf_cells.specs.Accessing.{EndsInside, EndsPast, HasNoBlock, NotAccessed}
use Rattle.dbuf_cells.specs.Bringing.{Brings, held_behind}
use Rattle.dbuf_cells.specs.InHand.{InHand, IsRoomier}
use Rattle.dbuf_cells.specs.Kept.{bytes_of, key_of}
use Rattle.dbuf_cells.specs.Loading.{mapped_in}
use Rattle.dbuf_cells.specs.Places.{cell_of}
use Rattle.dbuf_cells.specs.Putting.{Releases}
use Rattle.dbuf_cells.specs.Turns.{OnHeap, OnceAtRest, Operates, PartyPlace, held_at, held_in, outline_in}
use Rattle.dbuf_cells.specs.declared.kept.Kept.{Kept}

-- ---- on the way

-- where the block is clean, its pointer's size is one that a block may have
abbrev pub IsSizedIn : Oid → List (Dbuf Kept) → Type 0
IsSizedIn at ds = (ptr : Ptr) → mapped_in at ds ≡ Some (mapped.Clean ptr) → IsBlockSize ptr.key.size

-- the key of a clean block names one of a pool of this length, or this is the first test that it fails
abbrev pub ChecksKey : {T : Type 0} → (len : ℕ) → Option Mapped → Result T ReadFault → Type 0
ChecksKey len (Some (mapped.Clean ptr)) (Ok done) = IsBlockSize ptr.key.size
ChecksKey len (Some (mapped.Clean ptr)) (Err (read.Key why)) = IsFirstKeyFault len ptr.key why
ChecksKey len (Some (mapped.Clean ptr)) (Err _) = ⊥
ChecksKey len _ (Ok done) = Unit {0}
ChecksKey len _ (Err why) = ⊥

-- the block is dirty with a copy of what its dbuf kept, which was taken out; or it was dirty, and is as it was
pub record TakesOver (at : Oid) (kept : Option Kept) (old new : CellLog Kept) : Type 0 where
  pub taken : IfSome kept (λ k. new ≡ record old { dbufs = with_dbuf at (dirty_with (bytes_of k)) old.dbufs; dbuf_room = new.dbuf_room })
  pub cached : IfSome kept (λ k. IsTrue (dbuf_is (is_clean_in is_cached) at old.dbufs))
  pub there : IfSome kept (λ k. DbufHas (λ d. d.kept ≡ Some k) (dbuf_at at old.dbufs))
  pub of : IfSome kept (λ k. DbufHas (λ d. IsOfContent key_of bytes_of k d.content) (dbuf_at at old.dbufs))
  pub same : IfNone kept (new ≡ old)
  pub dirty : IfNone kept (IsTrue (dbuf_is is_dirty at old.dbufs))
  pub loose : IfNone kept (held_at old.dbufs at ≡ false)

-- n wrote over a part of the block, and that is noted
pub record IsPatched (n : ℕ) (at : Oid) (from : ℕ) (bytes : List ℕ) (kept : Option Kept) (old new : CellLog Kept) : Type 0 where
  pub roomy : CellLog Kept
  pub made : IsRoomier old roomy
  pub room : 1 + length old.dbufs ≤ roomy.event_room
  pub owned : CellLog Kept
  pub over : TakesOver at kept roomy owned
  pub noted_is : new ≡ noted (Patch n at from bytes) (record owned { dbufs = with_dbuf at (written_at from bytes) owned.dbufs })

-- in the turn in which these things were done, the part was written, what was kept released, and dbufs evicted, and the cell was given back
pub record HasPatched (cache : Cache) (i : ℕ) (at : Oid) (from : ℕ) (bytes : List ℕ) (n : ℕ) (p : PartyPlace) (before : OnHeap) (holding : Oid → Bool) (news : List CellEvent) (es : List Event) (r : PartyPlace) : Type 0 where
  pub released : List Event
  pub releases : Releases (cell_number cache.config i) at (holding at) (after_all (outline_in before) news) released
  pub operates : Operates cache.config i before holding (news ++ Patch n at from bytes ∷ []) (es ++ released) p r
  pub party : IsPartyOf cache r
  pub held : r.held ≡ p.held
  pub number : r.number ≡ p.number
  pub others : (j : ℕ) → j ≢ i → list_at j r.own.ledger.claims ≡ list_at j p.own.ledger.claims

abbrev pub EndsPatch : Cache → (i : ℕ) → Oid → (from : ℕ) → (bytes : List ℕ) → CellLog Kept → (q r : PartyPlace) → Type 0
EndsPatch cache i at from bytes old q r = (p : PartyPlace) (before : OnHeap) (evicting : Evicting) (news : List CellEvent) (es : List Event)
    → IsTrue (not (is_due (plain_cell evicting old))) → InHand cache i p before evicting news es old q → HasPatched cache i at from bytes q.number p before (held_at old.dbufs) news es r

-- ---- the answer

module _ {P D : Type 0} (pools : PoolGhosts P) (devices : DeviceGhosts D) (g : Config) (i : ℕ) (at : Oid) (t : ℕ) (before now : Outside P D) where
  -- The block's bytes were there, or were brought; and in one turn of the cell, right behind the Load where there is one, the part was written, the
  -- hold of a clean block was released, and then what was over the limit was evicted.
  pub record Patches (from : ℕ) (bytes : List ℕ) (cell : OnHeap) (p q : PartyPlace) : Type 0 where
    pub back : PartyPlace
    pub mid : OnHeap
    pub loads : List CellEvent
    pub hands : List Event
    pub brings : Brings pools devices g i at t before now cell p back mid loads hands
    pub es : List Event
    pub releases : Releases (cell_number g i) at (held_behind at loads hands (held_in mid) at) (after_all (outline_in mid) loads) es
    pub operates : Operates g i mid (held_behind at loads hands (held_in mid)) (loads ++ Patch p.number at from bytes ∷ []) (hands ++ es) back q

  abbrev pub Writes : {T : Type 0} → (from : ℕ) → List ℕ → OnHeap → (p q : PartyPlace) → Result T DbufFault → Type 0
  Writes from bytes cell p q (Ok done) = Patches from bytes cell p q
  Writes from bytes cell p q (Err (fault.NoBlock named)) = HasNoBlock pools devices g i at t before now cell p q named
  Writes from bytes cell p q (Err (fault.Range end size)) = EndsPast pools devices g i at t before now (from + length bytes) cell p q end size
  Writes from bytes cell p q (Err (fault.NoPin named)) = ⊥
  Writes from bytes cell p q (Err (fault.Read why)) = EndsInside pools devices g i at t before now (from + length bytes) cell × NotAccessed pools devices g i at t before now cell p q (fault.Read why)
  Writes from bytes cell p q (Err fault.NoMemory) = EndsInside pools devices g i at t before now (from + length bytes) cell × NotAccessed pools devices g i at t before now cell p q fault.NoMemory

module _ {P D : Type 0} (pools : PoolGhosts P) (devices : DeviceGhosts D) (g : Config) (at : Oid) (t : ℕ) (before now : Outside P D) where
  -- the party waited so often, took the block's cell, which was so then, and had its answer
  abbrev pub AnswersPatch : {T : Type 0} → (from : ℕ) → List ℕ → (p q : PartyPlace) → Result T DbufFault → Type 0
  AnswersPatch from bytes p q result = OnceAtRest g at p q (λ cell r s. Writes pools devices g (cell_of g.cells at) at t before now from bytes cell r s result)
