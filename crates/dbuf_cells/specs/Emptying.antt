-- What is so of a cell in hand while what its dbufs keep is given back.
use Rattle.std.specs.Prelude.{◌≡◌, ℕ, false, List, ◌++◌, map, IsTrue, IsPermutation, IsSortedBy}
use Rattle.std.specs.List.{AllByRecursion, filter}
use Rattle.arc_core.specs.declared.event.Event.{Event}
use Rattle.arc_table.specs.Cache.{Cache}
use Rattle.arc_table.specs.Fronts.{list_at}
use Rattle.arc_table.specs.Geometry.{cell_number}
use Rattle.arc_table.specs.Giving.{AreHolds}
use Rattle.dbuf_state.specs.CellLog.{CellLog}
use Rattle.dbuf_state.specs.Dbufs.{cleared, plain_dbuf}
use Rattle.dbuf_state.specs.InHand.{are_clean_or_rest}
use Rattle.dbuf_state.specs.Numbers.{claims_in}
use Rattle.dbuf_state.specs.Outline.{OutlineDbuf, outline_dbuf}
use Rattle.dbuf_state.specs.Held.{TellsHolds}
use Rattle.dbuf_state.specs.Soundness.{IsSound}
use Rattle.dbuf_state.specs.declared.dbuf.Dbuf.{Dbuf}
use Rattle.dbuf_cells.specs.Ending.{DropsEach, lower_oid}
use Rattle.dbuf_cells.specs.InHand.{HasTaken, HoldsStay}
use Rattle.dbuf_cells.specs.Turns.{OnHeap, PartyPlace, held_in, holds_of}
use Rattle.dbuf_cells.specs.declared.kept.Kept.{Kept}
use Rattle.dbuf_cells.specs.Kept.{is_held}

-- those of these dbufs that have the bytes of a clean block
abbrev pub cached_in : List (Dbuf Kept) → List OutlineDbuf
cached_in ds = filter (λ d. d.cached) (map outline_dbuf (map plain_dbuf ds))

-- none of the later ones has a lower Oid than one of these
abbrev pub AreLower : (ds later : List OutlineDbuf) → Type 0
AreLower ds later = AllByRecursion (λ y. AllByRecursion (λ x. lower_oid y x ≡ false) ds) later

-- The party p took the cell, which was so, and gave back what these dbufs kept, by rising Oids; nothing else was done. It is q, and the cell is so now.
pub record IsEnding (cache : Cache) (i : ℕ) (p : PartyPlace) (before : OnHeap) (now : CellLog Kept) (q : PartyPlace) : Type 0 where
  pub gone : List OutlineDbuf
  pub es : List Event
  pub party : HasTaken cache i p before es q
  pub sound : IsSound before.value
  pub told : TellsHolds is_held before.value
  pub same : now ≡ record before.value { dbufs = now.dbufs; dbuf_room = now.dbuf_room; event_room = now.event_room }
  pub hides : map plain_dbuf (map cleared now.dbufs) ≡ map plain_dbuf (map cleared before.value.dbufs)
  pub rest : IsTrue (are_clean_or_rest now.dbufs)
  pub claims : (n : ℕ) → claims_in n now.dbufs ≡ claims_in n before.value.dbufs
  pub holds : AreHolds (holds_of now) (list_at i q.own.listed)
  pub rising : IsSortedBy lower_oid gone
  pub lower : AreLower gone (cached_in now.dbufs)
  pub all : IsPermutation (cached_in before.value.dbufs) (gone ++ cached_in now.dbufs)
  pub dropped : DropsEach (cell_number cache.config i) (held_in before) gone es
  pub stay : HoldsStay before.value.dbufs now.dbufs

-- so it is with some party and some cell
abbrev pub MayEmpty : Cache → (i : ℕ) → (now : CellLog Kept) → (q : PartyPlace) → Type 0
MayEmpty cache i now q = (p : PartyPlace) × (before : OnHeap) × IsEnding cache i p before now q

-- whatever was taken, so it is still
abbrev pub Empties : Cache → (i : ℕ) → (old now : CellLog Kept) → (q r : PartyPlace) → Type 0
Empties cache i old now q r = (p : PartyPlace) (before : OnHeap) → IsEnding cache i p before old q → IsEnding cache i p before now r
