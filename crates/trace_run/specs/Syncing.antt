-- The sync of a transaction group, which the feeder does while all callers have joined it.
use Rattle.std.specs.Prelude.{◌≡◌, ◌==◌, ◌&&◌, Bool, ℕ, if◌then◌else◌, List, [], ◌∷◌, ◌++◌, Result, Ok, Err, Some, false, length, map, slice_get, slice_index_or, true}
use Rattle.std.specs.List.{AllByRecursion}
use Rattle.blk_ptr.specs.Hash.{shard_of}
use Rattle.blk_ptr.specs.declared.digest.Digest.{Digest}
use Rattle.blk_ptr.specs.declared.key.Key.{Key}
use Rattle.arc_core.specs.Operations.{Act, moments, own_moments}
use Rattle.arc_core.specs.Replay.{replay}
use Rattle.arc_core.specs.Step.{is_new_here}
use Rattle.arc_core.specs.declared.config.Config.{Config}
use Rattle.arc_core.specs.declared.event.Event.{Event}
use Rattle.arc_core.specs.declared.event.Event.TheVariants.{Insert}
use Rattle.arc_table.specs.declared.view.Line.{Line}
use Rattle.arc_table.specs.declared.view.Line.TheVariants as line
use Rattle.arc_table.specs.Cache.{Cache}
use Rattle.arc_table.specs.Fronts.{StartsWith, front_of}
use Rattle.arc_table.specs.Geometry.{IsCell, cell_number}
use Rattle.arc_table.specs.Seen.{events_in, seen_of}
use Rattle.arc_table.specs.Telling.{opening_of}
use Rattle.dbuf_cells.specs.Turns.{OnHeap, PartyPlace}
use Rattle.dbuf_state.specs.Numbers.{event_numbers, opening_numbers}
use Rattle.dbuf_state.specs.Soundness.{IsSound}
use Rattle.dbuf_state.specs.declared.event.CellEvent.{CellEvent}
use Rattle.dbuf_state.specs.declared.event.CellEvent.TheVariants.{Get, Put, Patch, Pin, Unpin, Load, Evict, Synced as WasSynced, End}
use Rattle.txg_sync.specs.Items.{SyncItem}
use Rattle.txg_sync.specs.Syncing.{AnswersWith}
use Rattle.txg_sync.specs.Turns.{synced_in}
use Rattle.txg_sync.specs.declared.syncing.SyncFault.{SyncFault}
use Rattle.txg_sync.specs.declared.syncing.SyncFault.TheVariants as fault
use Rattle.txg_sync.specs.declared.syncing.Synced.{Synced}
use Rattle.vdev_io.specs.declared.pool.Pool.{Ghosts}
use Rattle.trace_run.specs.dbufs.CellEnds.{done_by}
use Rattle.trace_run.specs.Deeds.{HasToldOthers, Noted, acts_of_events, events_of_cell, events_there, lines_of_cell, KeepsCells, MakesFrom}
use Rattle.trace_run.specs.KeptBlocks.{Stands}
use Rattle.trace_run.specs.MadeLines.{made_of}
use Rattle.trace_run.specs.Making.{AreEventsSeen, AreNoEntries}
use Rattle.trace_run.specs.Meeting.{HasSettled, HaveMet, HaveParted, IsLevel, SeesEntries}

-- the event that takes a block in, under its cell's number
abbrev pub insert_of : Config → (tick : ℕ) → SyncItem → Event
insert_of g tick x = Insert (cell_number g x.due.cell) x.ptr.key x.ptr.digest tick

-- a block was taken in, under its cell's number
abbrev pub IsInsert : Config → Event → Type 0
IsInsert g e = (i : ℕ) × (k : Key) × (d : Digest) × (t : ℕ) × (e ≡ Insert (cell_number g i) k d t) × IsCell g i

-- the block is of this shard, whose history is this, and its key is new there
abbrev pub comes_in : Config → (shard : ℕ) → (history : List Event) → SyncItem → Bool
comes_in g shard history x = shard_of g.shards x.ptr.key == shard && is_new_here x.ptr.key (replay (opening_of g) history)

-- the Inserts of these blocks in a shard with this history, in the order of writing: of each whose key is new there when it was written
abbrev pub inserts_in : Config → (tick : ℕ) → List SyncItem → (shard : ℕ) → (history : List Event) → List Event
inserts_in g tick [] shard history = []
inserts_in g tick (x ∷ xs) shard history =
    if comes_in g shard history x then (insert_of g tick x ∷ inserts_in g tick xs shard (history ++ insert_of g tick x ∷ [])) else inserts_in g tick xs shard history

-- the same by what was noted: of each block that n wrote
abbrev pub insert_noted : Config → (tick cell shard : ℕ) → (history : List Event) → CellEvent → List Event
insert_noted g tick i shard history (WasSynced n at ptr held) =
    if shard_of g.shards ptr.key == shard && is_new_here ptr.key (replay (opening_of g) history) then (Insert (cell_number g i) ptr.key ptr.digest tick ∷ []) else []
insert_noted g tick i shard history (Get n at) = []
insert_noted g tick i shard history (Put n at size fill) = []
insert_noted g tick i shard history (Patch n at from bytes) = []
insert_noted g tick i shard history (Pin n at) = []
insert_noted g tick i shard history (Unpin n at) = []
insert_noted g tick i shard history (Load n at held) = []
insert_noted g tick i shard history (Evict n at) = []
insert_noted g tick i shard history (End n) = []

abbrev pub inserts_noted : Config → (tick : ℕ) → List Noted → (shard : ℕ) → (history : List Event) → List Event
inserts_noted g tick [] shard history = []
inserts_noted g tick (note ∷ noted) shard history =
    insert_noted g tick note.cell shard history note.event ++ inserts_noted g tick noted shard (history ++ insert_noted g tick note.cell shard history note.event)

-- in a shard with this history, a dbuf keeps a hold of its block where the block's key is new there
abbrev pub IsHeldNew : Config → (shard : ℕ) → (history : List Event) → CellEvent → Type 0
IsHeldNew g shard history (WasSynced n at ptr held) = shard_of g.shards ptr.key ≡ shard → held ≡ is_new_here ptr.key (replay (opening_of g) history)
IsHeldNew g shard history (Get n at) = Unit {0}
IsHeldNew g shard history (Put n at size fill) = Unit {0}
IsHeldNew g shard history (Patch n at from bytes) = Unit {0}
IsHeldNew g shard history (Pin n at) = Unit {0}
IsHeldNew g shard history (Unpin n at) = Unit {0}
IsHeldNew g shard history (Load n at held) = Unit {0}
IsHeldNew g shard history (Evict n at) = Unit {0}
IsHeldNew g shard history (End n) = Unit {0}

-- so it is of each that was noted, as it was written
abbrev pub AreHeldNew : Config → (tick : ℕ) → List Noted → (shard : ℕ) → (history : List Event) → Type 0
AreHeldNew g tick [] shard history = Unit {0}
AreHeldNew g tick (note ∷ noted) shard history =
    IsHeldNew g shard history note.event × AreHeldNew g tick noted shard (history ++ insert_noted g tick note.cell shard history note.event)

-- that these blocks were written, as n notes it of each in its cell
abbrev pub noted_of : (n : ℕ) → List SyncItem → List Noted
noted_of n xs = map (λ (x : SyncItem). record { cell = x.due.cell; event = WasSynced n x.due.at x.ptr x.held }) xs

-- these entries of a cell, as a party sees them
abbrev pub lines_of : List CellEvent → List Line
lines_of es = map line.Entry (map event_numbers es)

-- what is noted of a party is what it had done to these cells
abbrev pub HasDoneTo : Config → List OnHeap → PartyPlace → Type 0
HasDoneTo g cells p = (noted : List Noted) → ((i : ℕ) → IsCell g i → made_of i p ≡ lines_of_cell i noted) → (i : ℕ) (c : OnHeap) → slice_get cells i ≡ Some c → done_by p.number c.value.history ≡ events_of_cell i noted

-- The feeder took all cells, which were so, while all others had joined it. It inserted these blocks and noted them, and did nothing else; then they parted,
-- and all have seen that. Each cell began as the feeder knows, and just what all parties had seen of it was done to it before.
pub record SyncsJoined (cache : Cache) (tick : ℕ) (p : PartyPlace) (olds : List PartyPlace) (q : PartyPlace) (news : List PartyPlace) (cells : List OnHeap) (xs : List SyncItem) : Type 0 where
  pub lines : ℕ → List Line
  pub parted : HaveParted cache lines olds news
  pub level : IsLevel cache.config lines q
  pub number : q.number ≡ p.number
  pub about : q.own.about ≡ p.own.about
  pub alone : q.joined ≡ []
  pub stands : Stands cache q []
  -- the Inserts stand behind all that anybody had done in a shard
  pub front : ℕ → List Event
  pub seen : (shard : ℕ) → seen_of cache.config shard q ≡ front shard ++ inserts_in cache.config tick xs shard (front shard)
  pub held : (shard : ℕ) → AreHeldNew cache.config tick (noted_of p.number xs) shard (front shard)
  -- the front has of each just what it had done
  pub own : (shard : ℕ) → own_moments p.number (moments (opening_of cache.config) (front shard)) ≡ own_moments p.number (moments (opening_of cache.config) (seen_of cache.config shard p))
  pub others : (shard : ℕ)
      → AllByRecursion (λ o. own_moments o.number (moments (opening_of cache.config) (front shard)) ≡ own_moments o.number (moments (opening_of cache.config) (seen_of cache.config shard o))) olds
  pub since : (shard : ℕ) → StartsWith (front shard) (seen_of cache.config shard p)
  pub others_since : (shard : ℕ) → AllByRecursion (λ o. StartsWith (front shard) (seen_of cache.config shard o)) olds
  pub behind : MakesFrom cache.config (λ shard. length (front shard)) p q
  -- the feeder has settled all that it picked, where it had before
  pub settled : p.number ≡ cache.config.callers → HasSettled p → HasSettled q
  -- where one other party has seen all that both made, the front is what that one had seen
  pub one : (o : PartyPlace) → olds ≡ o ∷ [] → AreEventsSeen cache.config p.number p.own.mine o.own.seen → (shard : ℕ) → front shard ≡ seen_of cache.config shard o
  -- where all had seen the same, it is that
  pub same : (before : ℕ → List Line) → IsLevel cache.config before p → AllByRecursion (IsLevel cache.config before) olds → (shard : ℕ) → front shard ≡ events_in (before shard)
  pub same_cells : (entries : ℕ → List Line) → SeesEntries cache.config entries p → AllByRecursion (SeesEntries cache.config entries) olds → (i : ℕ) (c : OnHeap) → slice_get cells i ≡ Some c → lines_of c.value.history ≡ entries i
  -- each of them had seen no more of a cell than was done to it before
  pub known : (i : ℕ) (c : OnHeap) → slice_get cells i ≡ Some c → AllByRecursion (λ o. StartsWith (lines_of c.value.history) (front_of i o.own.seen)) olds
  pub count : length cells ≡ cache.config.cells
  pub sound : (i : ℕ) (c : OnHeap) → slice_get cells i ≡ Some c → IsSound c.value
  pub began : (i : ℕ) (c : OnHeap) → slice_get cells i ≡ Some c → opening_numbers c.value.limit c.value.opening ≡ slice_index_or p.own.about.openings i []
  pub noted : (i : ℕ) (c : OnHeap) → slice_get cells i ≡ Some c → front_of i q.own.seen ≡ lines_of c.value.history ++ lines_of (synced_in p.number i xs)
  pub met : HaveMet cache.config (p ∷ olds) (q ∷ news)
  -- it has seen of each cell and of each shard what it had
  pub keeps : KeepsCells cache.config p q
  -- and each had done just what is noted of it
  pub did : AllByRecursion (HasDoneTo cache.config cells) (p ∷ olds)
  -- where no party had made an entry of a cell, nothing was done to one before
  pub fresh : AreNoEntries cache.config p.own.mine → AllByRecursion (λ o. AreNoEntries cache.config o.own.mine) olds → (i : ℕ) (c : OnHeap) → slice_get cells i ≡ Some c → c.value.history ≡ []
  -- each block is one of these cells'
  pub inside : AllByRecursion (λ x. IsCell cache.config x.due.cell) xs
  -- What the feeder is told to have done more, and of what it did to cells: each Insert of a shard as it stands there, and each block as it was noted. They
  -- stand in the order of writing.
  pub inserts : List Event
  pub kinds : AllByRecursion (IsInsert cache.config) inserts
  pub are : (shard : ℕ) → events_there cache.config shard inserts ≡ inserts_in cache.config tick xs shard (front shard)
  pub told : (did : List Act) (had : List Noted) → HasToldOthers cache.config did had p → HasToldOthers cache.config (did ++ acts_of_events inserts) (had ++ noted_of p.number xs) q
  -- where nothing was written, the feeder made nothing of a cell
  pub entries : xs ≡ [] → AreNoEntries cache.config p.own.mine → AreNoEntries cache.config q.own.mine

-- a sync of a group from a place on: it was done, or it stopped for this reason
abbrev pub SyncedJoined : {P : Type 0} → Ghosts P → Cache → (group tick next : ℕ) → (before now : P) → PartyPlace → List PartyPlace → PartyPlace → List PartyPlace → Result Synced SyncFault → Type 0
SyncedJoined pools cache group tick next before now p olds q news came =
    AnswersWith pools group next before now cache.config (λ cells xs Besides. SyncsJoined cache tick p olds q news cells xs) came

-- the sync was refused memory
abbrev pub wants_memory : Result Synced SyncFault → Bool
wants_memory (Ok done) = false
wants_memory (Err fault.PoolFault) = false
wants_memory (Err (fault.PoolFull need left)) = false
wants_memory (Err fault.NoMemory) = true
