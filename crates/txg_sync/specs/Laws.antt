-- Laws of a sync: where it writes, and that its keys are new to the cache.
use Rattle.std.specs.Prelude.{◌≡◌, ℕ, ◌+◌, ◌<◌, ◌≤◌, IsTrue, List, [], ◌∷◌, ◌++◌, length, Bool, true}
use Rattle.std.specs.List.{AllByRecursion, list_any}
use Rattle.blk_ptr.specs.Key.{key_end}
use Rattle.blk_ptr.specs.declared.key.Key.{Key}
use Rattle.arc_core.specs.Config.{IsConfig}
use Rattle.arc_core.specs.Places.{takes_in}
use Rattle.arc_core.specs.declared.config.Config.{Config}
use Rattle.arc_core.specs.declared.event.Event.TheVariants.{Insert}
use Rattle.arc_table.specs.Geometry.{cell_number}
use Rattle.arc_table.specs.Seen.{HasAll, HasSeenBy, IsNumberOrCell, seen_of}
use Rattle.arc_table.specs.scans.Ending.{DoesRoomy}
use Rattle.dbuf_cells.specs.Turns.{OnHeap, PartyPlace, dbuf_meanings}
use Rattle.txg_sync.specs.Items.{SyncItem, at_place, bytes_of_due, items_from, need_of, written_over}
use Rattle.txg_sync.specs.Turns.{InsertsAll}
use Rattle.txg_sync.specs.declared.due.Due.{Due}

-- the bytes of these blocks, one behind the other
abbrev pub all_bytes : List OnHeap → List Due → List ℕ
all_bytes cells [] = []
all_bytes cells (due ∷ dues) = bytes_of_due cells due ++ all_bytes cells dues

-- The image has a front up to the first place, a part of as many bytes as the blocks have, and a rest. Once they are written, the front and the rest
-- are as before, and between them stand the blocks' bytes.
abbrev pub BlocksStandInARow : Type 0
BlocksStandInARow = (held : Due → Bool) (group next : ℕ) (cells : List OnHeap) (dues : List Due) (front part rest : List ℕ) → length front ≡ next → length part ≡ need_of cells dues
    → written_over (items_from held group next cells dues) ((front ++ part) ++ rest) ≡ (front ++ all_bytes cells dues) ++ rest

-- each block stands as many bytes behind the first place as those before it have
abbrev pub PlacesAddUp : Type 0
PlacesAddUp = (held : Due → Bool) (group next : ℕ) (cells : List OnHeap) (done : List Due) (due : Due) (left : List Due)
    → items_from held group next cells (done ++ due ∷ left)
    ≡ items_from held group next cells done ++ at_place held group (next + need_of cells done) cells due ∷ items_from held group (next + need_of cells done + length (bytes_of_due cells due)) cells left

-- ---- no key of a sync is in the cache already

-- each key that an event took in, of those that the party has seen, ends at or before this place
abbrev pub EndsBelow : Config → (place : ℕ) → PartyPlace → Type 0
EndsBelow g place p = (shard : ℕ) (k : Key) → IsTrue (list_any (takes_in k) (seen_of g shard p)) → key_end k ≤ place

-- the party has every number of this cache, and has seen all that it made of shards
pub record SeesAlone (g : Config) (p : PartyPlace) : Type 0 where
  pub config : p.own.about.config ≡ g
  pub all : HasAll p
  pub seen : HasSeenBy (IsNumberOrCell g) g p

-- each of these blocks was inserted, one after another: none of their keys was there
abbrev pub InsertsEach : Config → (tick : ℕ) → List SyncItem → PartyPlace → PartyPlace → Type 0
InsertsEach g tick [] p q = q ≡ p
InsertsEach g tick (x ∷ xs) p q = (r : PartyPlace) × DoesRoomy dbuf_meanings g x.ptr.key (Insert (cell_number g x.due.cell) x.ptr.key x.ptr.digest tick) p r × InsertsEach g tick xs r q

-- what is so once they were
pub record EndsInserted (g : Config) (tick place : ℕ) (xs : List SyncItem) (p q : PartyPlace) : Type 0 where
  pub each : InsertsEach g tick xs p q
  pub held : AllByRecursion (λ x. x.held ≡ true) xs
  pub below : EndsBelow g place q
  pub alone : SeesAlone g q

-- A party that has every number syncs from a place on, and no key reaches past that place which it has seen taken in. Then each block is inserted,
-- and no such key reaches past the place behind them.
abbrev pub NoneIsThere : Type 0
NoneIsThere = (g : Config) (held : Due → Bool) (group tick next : ℕ) (cells : List OnHeap) (dues : List Due) (p q : PartyPlace) → IsConfig g → SeesAlone g p → AllByRecursion (λ due. 0 < length (bytes_of_due cells due)) dues
    → EndsBelow g next p → InsertsAll g tick (items_from held group next cells dues) p q → EndsInserted g tick (next + need_of cells dues) (items_from held group next cells dues) p q
