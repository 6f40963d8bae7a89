-- All cells in the hands of one party: what is so of them, and what a block more makes of them.
use Rattle.std.specs.Prelude.{◌≡◌, ℕ, suc, zero, ◌<◌, not, IsTrue, List, [], ◌∷◌, length, slice_index_or, Some}
use Rattle.std.specs.List.{AllByRecursion}
use Rattle.blk_ptr.specs.Size.{IsBlockSize}
use Rattle.arc_core.specs.Config.{IsConfig}
use Rattle.arc_table.specs.Cache.{Cache, IsPartyOf}
use Rattle.arc_table.specs.Fronts.{item_at, list_at}
use Rattle.arc_table.specs.Giving.{AreHolds}
use Rattle.arc_table.specs.Looking.{HasNoLook}
use Rattle.arc_table.specs.declared.item.Item.TheVariants as item
use Rattle.dbuf_state.specs.CellLog.{CellLog}
use Rattle.dbuf_state.specs.Dbufs.{IsFit, dbuf_is, dbuf_oid, is_dirty}
use Rattle.dbuf_state.specs.Objects.{Evicting, is_due}
use Rattle.dbuf_state.specs.Oids.{is_distinct}
use Rattle.dbuf_state.specs.Soundness.{plain_cell}
use Rattle.dbuf_cells.specs.InHand.{HasDone, ClaimsAre}
use Rattle.dbuf_cells.specs.Kept.{bytes_of, key_of}
use Rattle.dbuf_cells.specs.Turns.{OnHeap, PartyPlace, holds_of}
use Rattle.dbuf_cells.specs.declared.kept.Kept.{Kept}
use Rattle.txg_sync.specs.Items.{SyncItem, bytes_of_due}
use Rattle.txg_sync.specs.Turns.{InsertsAll, synced_in}
use Rattle.txg_sync.specs.declared.due.Due.{Due}

-- the turns of the cells below this number, the last one first: so a party holds them that took them by rising numbers
abbrev pub turns_below : ℕ → List ℕ
turns_below zero = []
turns_below (suc n) = n ∷ turns_below n

-- The cell i is in the party's hands: it was taken so, these blocks of it were noted as written, and it keeps just what is listed for it.
pub record IsInHand (i : ℕ) (before : OnHeap) (xs : List SyncItem) (now : CellLog Kept) (q : PartyPlace) : Type 0 where
  pub recorded : item_at i q.own.records ≡ Some (item.Cell before)
  pub evicting : Evicting
  pub done : HasDone q.number before.value evicting (synced_in q.number i xs) now
  pub settled : IsTrue (not (is_due (plain_cell evicting now)))
  pub holds : AreHolds (holds_of now) (list_at i q.own.listed)
  pub claimed : ClaimsAre i q.number now q
  pub owned : q.own.number ≡ q.number

abbrev pub AreInHand : (befores : List OnHeap) → List SyncItem → (nows : List OnHeap) → PartyPlace → Type 0
AreInHand befores xs nows q = (i : ℕ) (d : OnHeap) → i < length befores → IsInHand i (slice_index_or befores i d) xs (slice_index_or nows i d).value q

-- what is so of the party with these cells in hand, whatever it did
pub record IsHolding (cache : Cache) (p : PartyPlace) (count : ℕ) (q : PartyPlace) : Type 0 where
  pub valid : IsConfig cache.config
  pub party : IsPartyOf cache q
  pub look : HasNoLook cache q
  pub number : q.number ≡ p.number
  pub held : q.held ≡ turns_below count
  pub claims : q.own.ledger.claims ≡ p.own.ledger.claims

-- The party p had all cells in hand, which were so. It inserted these blocks and noted them, and did nothing else but what stands in `Besides`: it is q,
-- and the cells are so now.
pub record InSync (cache : Cache) (tick : ℕ) (befores nows : List OnHeap) (p q : PartyPlace) (xs : List SyncItem) (Besides : PartyPlace → PartyPlace → Type 0) : Type 0 where
  pub reached : PartyPlace
  pub inserts : InsertsAll cache.config tick xs p reached
  pub besides : Besides reached q
  pub holding : IsHolding cache p (length befores) q
  pub count : length nows ≡ length befores
  pub cells : AreInHand befores xs nows q

-- the same of all cells that a party had in hand, as the answer of a sync has it
abbrev pub SyncsInHand : Cache → (tick : ℕ) → (befores nows : List OnHeap) → (p q : PartyPlace) → List OnHeap → List SyncItem → (PartyPlace → PartyPlace → Type 0) → Type 0
SyncsInHand cache tick befores nows p q cells xs Besides = (cells ≡ befores) × InSync cache tick befores nows p q xs Besides

-- the party has these cells in hand, of the numbers from 0 on, and has done nothing to them
pub record HasTakenAll (cache : Cache) (befores : List OnHeap) (q : PartyPlace) : Type 0 where
  pub holding : IsHolding cache q (length befores) q
  pub cells : AreInHand befores [] befores q

-- ---- the blocks that are left

-- the block is dirty in its cell, which is one of these
pub record IsDueIn (cells : List OnHeap) (due : Due) : Type 0 where
  pub inside : due.cell < length cells
  pub dirty : (d : OnHeap) → IsTrue (dbuf_is is_dirty due.at (slice_index_or cells due.cell d).value.dbufs)
  pub sized : IsBlockSize (length (bytes_of_due cells due))

-- what is always so of a cell: each dbuf keeps a block exactly where it is clean and cached, and no two dbufs have one Oid
pub record IsKnown (c : OnHeap) : Type 0 where
  pub fit : AllByRecursion (IsFit key_of bytes_of) c.value.dbufs
  pub once : IsTrue (is_distinct dbuf_oid c.value.dbufs)

abbrev pub AreDueIn : List OnHeap → List Due → Type 0
AreDueIn cells dues = AllByRecursion (IsDueIn cells) dues

-- ---- giving

-- the party has these cells in hand, of the numbers from 0 on, and each may be given back, whatever was done to it
pub record MayGiveAll (cache : Cache) (nows : List OnHeap) (q : PartyPlace) : Type 0 where
  pub befores : List OnHeap
  pub xs : List SyncItem
  pub holding : IsHolding cache q (length nows) q
  pub cells : (i : ℕ) (d : OnHeap) → i < length nows → IsInHand i (slice_index_or befores i d) xs (slice_index_or nows i d).value q
