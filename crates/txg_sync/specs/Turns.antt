-- A party takes all cells, has blocks of them inserted into the cache under their numbers, and gives all cells back.
use Rattle.std.specs.Prelude.{◌≡◌, ℕ, suc, ◌<◌, ◌==◌, if◌then◌else◌, false, List, [], ◌∷◌, ◌++◌, length, slice_index_or, true}
use Rattle.arc_core.specs.Step.{is_new_here}
use Rattle.arc_core.specs.declared.config.Config.{Config}
use Rattle.arc_core.specs.declared.event.Event.TheVariants.{Insert}
use Rattle.turn_table.specs.Places.{gave_back}
use Rattle.arc_table.specs.Both.{Does, Takes}
use Rattle.arc_table.specs.scans.Ending.{DoesRoomy}
use Rattle.arc_table.specs.Geometry.{cell_number}
use Rattle.arc_table.specs.Giving.{IsGivenCell}
use Rattle.arc_table.specs.Telling.{Tells}
use Rattle.arc_table.specs.Views.{after_cell}
use Rattle.arc_table.specs.declared.front.Front.{Front}
use Rattle.arc_table.specs.declared.item.Item.TheVariants as item
use Rattle.dbuf_state.specs.History.{Leads}
use Rattle.dbuf_state.specs.Objects.{Evicting}
use Rattle.dbuf_state.specs.Soundness.{IsSound, plain_cell}
use Rattle.dbuf_state.specs.declared.event.CellEvent.{CellEvent}
use Rattle.dbuf_state.specs.declared.event.CellEvent.TheVariants.{Synced}
use Rattle.dbuf_cells.specs.Turns.{OnHeap, PartyPlace, dbuf_meanings}
use Rattle.txg_sync.specs.Items.{SyncItem}

-- ---- taking and giving

-- the party p took these cells, one after another, of the numbers from this one on: it is q
abbrev pub TakesFrom : ℕ → List OnHeap → PartyPlace → PartyPlace → Type 0
TakesFrom i [] p q = q ≡ p
TakesFrom i (c ∷ cs) p q = (r : PartyPlace) × Takes dbuf_meanings i (item.Cell c) p r × TakesFrom (suc i) cs r q

-- the party p gave these cells back, of the numbers from this one on, the last of them first: it is q
abbrev pub GivesFrom : ℕ → List OnHeap → PartyPlace → PartyPlace → Type 0
GivesFrom i [] p q = q ≡ p
GivesFrom i (c ∷ cs) p q = (r : PartyPlace) × GivesFrom (suc i) cs p r × IsGivenCell dbuf_meanings r.number i c r.own × (q ≡ gave_back r i (after_cell dbuf_meanings i (item.Cell c) r.own))

-- ---- the shards

-- The block was inserted under its cell's number, behind the passes of the scan for room, and its dbuf keeps the hold. Or its key was there already, and there
-- is no event.
pub data InsertsItem (g : Config) (tick : ℕ) (x : SyncItem) (p q : PartyPlace) : Type 0 where
  inserted : x.held ≡ true → DoesRoomy dbuf_meanings g x.ptr.key (Insert (cell_number g x.due.cell) x.ptr.key x.ptr.digest tick) p q → InsertsItem g tick x p q
  there : x.held ≡ false → (front : Front) → Does dbuf_meanings g x.ptr.key [] p q → Tells (λ s. is_new_here x.ptr.key s ≡ false) g x.ptr.key p q front → InsertsItem g tick x p q

-- these blocks were, one after another, and nothing else was done to a shard
abbrev pub InsertsAll : Config → (tick : ℕ) → List SyncItem → PartyPlace → PartyPlace → Type 0
InsertsAll g tick [] p q = q ≡ p
InsertsAll g tick (x ∷ xs) p q = (r : PartyPlace) × InsertsItem g tick x p r × InsertsAll g tick xs r q

-- ---- the cells

-- what n noted in a cell: of each of its blocks, in the order of writing, that it was written, the pointer that names it, and whether its dbuf keeps a hold
abbrev pub synced_in : (n i : ℕ) → List SyncItem → List CellEvent
synced_in n i [] = []
synced_in n i (x ∷ xs) = if x.due.cell == i then (Synced n x.due.at x.ptr x.held ∷ synced_in n i xs) else synced_in n i xs

-- The cell was sound, and those are its new entries. They lead from what it was to what it is: each of the blocks is clean, and nothing else is
-- changed.
pub record IsSyncedCell (n i : ℕ) (xs : List SyncItem) (before after : OnHeap) : Type 0 where
  pub sound : IsSound before.value
  pub history : after.value.history ≡ before.value.history ++ synced_in n i xs
  pub evicting : Evicting
  pub bases : List (List ℕ)
  pub leads : Leads (plain_cell sound.evicting before.value) (synced_in n i xs) bases (plain_cell evicting after.value)

-- so are all of them
abbrev pub AreSynced : (n : ℕ) → List SyncItem → (befores afters : List OnHeap) → Type 0
AreSynced n xs befores afters = (i : ℕ) (d : OnHeap) → i < length befores → IsSyncedCell n i xs (slice_index_or befores i d) (slice_index_or afters i d)

-- The party p took all cells, which were so. With all of them in hand it inserted these blocks and noted them, and did nothing else, but what stands
-- in `Besides`; and it gave all cells back: it is q.
pub record SyncsCells (g : Config) (tick : ℕ) (befores : List OnHeap) (xs : List SyncItem) (Besides : PartyPlace → PartyPlace → Type 0) (p q : PartyPlace) : Type 0 where
  pub all : length befores ≡ g.cells
  pub taken : PartyPlace
  pub reached : PartyPlace
  pub worked : PartyPlace
  pub afters : List OnHeap
  pub takes : TakesFrom 0 befores p taken
  pub inserts : InsertsAll g tick xs taken reached
  pub besides : Besides reached worked
  pub count : length afters ≡ length befores
  pub synced : AreSynced p.number xs befores afters
  pub gives : GivesFrom 0 afters worked q
