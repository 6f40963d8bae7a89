-- What the write of one block does, with its cell in hand.
use Rattle.std.specs.Prelude.{◌≡◌, ◌⊎◌, ℕ, suc, ◌+◌, false, List, [], ◌∷◌, ◌++◌, length, slice_index_or, slice_set, Option, Result, Ok, Err, Bool}
use Rattle.std.specs.List.{AllByRecursion}
use Rattle.blk_ptr.specs.Ptr.{sha256_of}
use Rattle.blk_ptr.specs.declared.ptr.Ptr.{Ptr}
use Rattle.vdev_io.specs.Faults.{counted_more}
use Rattle.vdev_io.specs.declared.pool.Pool.{Ghosts}
use Rattle.vdev_io.specs.declared.fault.IoFault.{IoFault}
use Rattle.vdev_io.specs.declared.fault.IoFault.TheVariants as io
use Rattle.arc_core.specs.Step.{is_new_here}
use Rattle.arc_core.specs.declared.config.Config.{Config}
use Rattle.arc_core.specs.declared.event.Event.TheVariants.{Insert}
use Rattle.arc_table.specs.Both.{Does}
use Rattle.arc_table.specs.Cache.{Cache}
use Rattle.arc_table.specs.scans.Ending.{DoesRoomy}
use Rattle.arc_table.specs.Geometry.{cell_number}
use Rattle.arc_table.specs.Telling.{Tells}
use Rattle.arc_table.specs.declared.front.Front.{Front}
use Rattle.dbuf_state.specs.CellLog.{CellLog, noted}
use Rattle.dbuf_state.specs.Dbufs.{IsFit, synced_to, with_dbuf}
use Rattle.dbuf_state.specs.declared.event.CellEvent.TheVariants.{Synced}
use Rattle.dbuf_state.specs.declared.oid.Oid.{Oid}
use Rattle.dbuf_cells.specs.InHand.{IsRoomier}
use Rattle.dbuf_cells.specs.Kept.{bytes_of, key_of, is_held}
use Rattle.dbuf_cells.specs.Turns.{OnHeap, PartyPlace, dbuf_meanings}
use Rattle.dbuf_cells.specs.declared.kept.Kept.{Kept}
use Rattle.dbuf_cells.specs.declared.kept.Kept.TheVariants.{Held, Loose}
use Rattle.txg_sync.specs.InHand.{InSync}
use Rattle.txg_sync.specs.Items.{SyncItem, at_place, dirty_bytes_at, items_from, need_of, ptr_at, tells_written, none_held}
use Rattle.txg_sync.specs.Syncing.{HasFailedOnce, IsUnharmed, Looked, Same, TellsTorn}
use Rattle.txg_sync.specs.declared.due.Due.{Due}
use Rattle.txg_sync.specs.declared.syncing.SyncFault.{SyncFault}
use Rattle.txg_sync.specs.declared.syncing.SyncFault.TheVariants as fault

-- the block as it is written at a place
abbrev pub item_in : (group place i : ℕ) → Oid → CellLog Kept → (held : Bool) → SyncItem
item_in group place i at c held = record { due = record { at = at; cell = i }; bytes = dirty_bytes_at at c.dbufs; ptr = ptr_at group place (dirty_bytes_at at c.dbufs); held = held }

-- The block was inserted under its cell's number, and the cell keeps the hold; or its key was there, and the cell keeps the block without one. What it
-- keeps has the key and the bytes.
abbrev pub KeepsItem : Config → (tick : ℕ) → SyncItem → Kept → PartyPlace → PartyPlace → Type 0
KeepsItem g tick x (Held hold) p q = DoesRoomy dbuf_meanings g x.ptr.key (Insert (cell_number g x.due.cell) x.ptr.key x.ptr.digest tick) p q
    × (hold.key ≡ x.ptr.key) × (hold.block.value ≡ x.bytes)
KeepsItem g tick x (Loose key block) p q = Does dbuf_meanings g x.ptr.key [] p q
    × ((front : Front) × Tells (λ s. is_new_here x.ptr.key s ≡ false) g x.ptr.key p q front) × (key ≡ x.ptr.key) × (block.value ≡ x.bytes)

-- the cell keeps it, and n noted that it was written, and whether it keeps a hold
pub record IsSyncedTo (n : ℕ) (at : Oid) (ptr : Ptr) (kept : Kept) (old new : CellLog Kept) : Type 0 where
  pub roomy : CellLog Kept
  pub made : IsRoomier old roomy
  pub noted_is : new ≡ noted (Synced n at ptr (is_held kept)) (record roomy { dbufs = with_dbuf at (synced_to ptr kept) roomy.dbufs })

pub record WritesBlock (g : Config) (group tick place i : ℕ) (at : Oid) (old new : CellLog Kept) (told now : Option (List ℕ)) (p q : PartyPlace) (size : ℕ) : Type 0 where
  pub fit : AllByRecursion (IsFit key_of bytes_of) old.dbufs
  pub size_is : size ≡ length (dirty_bytes_at at old.dbufs)
  pub kept : Kept
  pub keeps : KeepsItem g tick (item_in group place i at old (is_held kept)) kept p q
  pub synced : IsSyncedTo p.number at (item_in group place i at old (is_held kept)).ptr kept old new
  pub told_is : now ≡ tells_written (item_in group place i at old (is_held kept) ∷ []) told

-- the pointer has its bytes' digest, and its key their size
pub record IsSealed (x : SyncItem) : Type 0 where
  pub digest : x.ptr.digest ≡ sha256_of x.bytes
  pub size : x.ptr.key.size ≡ length x.bytes

-- it was not written: the write failed, or memory was refused; or it was, and memory was refused for its insertion
abbrev pub RefusesBlock : Config → SyncItem → (told now : Option (List ℕ)) → PartyPlace → PartyPlace → IoFault → Type 0
RefusesBlock g x told now p q io.Failed = (q ≡ p) × TellsTorn x told now
RefusesBlock g x told now p q io.NoMemory = ((q ≡ p) × (now ≡ told)) ⊎ (Looked g x p q × (now ≡ tells_written (x ∷ []) told))

abbrev pub AnswersBlock : Config → (group tick place i : ℕ) → Oid → (old new : CellLog Kept) → (told now : Option (List ℕ)) → (p q : PartyPlace) → Result ℕ IoFault → Type 0
AnswersBlock g group tick place i at old new told now p q (Ok size) = WritesBlock g group tick place i at old new told now p q size
AnswersBlock g group tick place i at old new told now p q (Err why) = IsRoomier old new × RefusesBlock g (item_in group place i at old false) told now p q why

-- one of several cells is so now, and the others are as before
pub record AltersCell (i : ℕ) (olds news : List OnHeap) (Does : (old new : CellLog Kept) → Type 0) : Type 0 where
  pub cell : OnHeap
  pub news_are : news ≡ slice_set olds i cell
  pub does : Does (slice_index_or olds i cell).value cell.value

-- ---- several blocks, one after another

abbrev pub sync_fault_of : IoFault → SyncFault
sync_fault_of io.Failed = fault.PoolFault
sync_fault_of io.NoMemory = fault.NoMemory

module _ {P : Type 0} (pool : Ghosts P) (cache : Cache) (group tick next : ℕ) (cells nows : List OnHeap) (dues : List Due) (before now : P) (p q : PartyPlace) where
  -- all of them were written
  pub record WritesDues (place : ℕ) : Type 0 where
    pub behind : place ≡ next + need_of cells dues
    pub held : Due → Bool
    pub sync : InSync cache tick cells nows p q (items_from held group next cells dues) Same
    pub told : pool.told now ≡ tells_written (items_from held group next cells dues) (pool.told before)
    pub outside : IsUnharmed pool before now
    pub others : pool.other_calls now ≡ counted_more (length dues) (pool.other_calls before)

  -- those before one were, and that one was not
  pub record StopsIn (Told : SyncItem → Option (List ℕ) → Type 0) (Besides : SyncItem → PartyPlace → PartyPlace → Type 0) : Type 0 where
    pub done : List Due
    pub due : Due
    pub rest : List Due
    pub whole : dues ≡ done ++ due ∷ rest
    pub held : Due → Bool
    pub sync : InSync cache tick cells nows p q (items_from held group next cells done) (Besides (at_place none_held group (next + need_of cells done) cells due))
    pub told : Told (at_place none_held group (next + need_of cells done) cells due) (tells_written (items_from held group next cells done) (pool.told before))

  abbrev pub AnswersDues : Result ℕ IoFault → Type 0
  AnswersDues (Ok place) = WritesDues place
  AnswersDues (Err io.Failed) = (stops : StopsIn (λ x old. TellsTorn x old (pool.told now)) (λ x. Same)) × HasFailedOnce pool before now × (pool.other_calls now ≡ counted_more (suc (length stops.done)) (pool.other_calls before))
  AnswersDues (Err io.NoMemory) = (StopsIn (λ x old. pool.told now ≡ old) (λ x. Same) ⊎ StopsIn (λ x old. pool.told now ≡ tells_written (x ∷ []) old) (Looked cache.config)) × IsUnharmed pool before now
