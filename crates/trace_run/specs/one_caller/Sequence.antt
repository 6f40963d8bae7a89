-- One caller's lines in sequence: what each finds of the shards, of the cells, of the pool and of the cache device, and what it leaves of them (arc_read, dmu_read, dmu_write, spa_sync and
-- l2arc_feed_thread, for a single thread). Each finds all that the lines before it did, and nothing else.
use Rattle.std.specs.Prelude.{◌≡◌, ◌≢◌, ℕ, zero, suc, List, [], ◌∷◌, ◌++◌, Option, None, Some, IfSome, length, map, slice_get}
use Rattle.std.specs.List.{AllByRecursion, range_with_len}
use Rattle.blk_ptr.specs.Hash.{shard_of}
use Rattle.arc_core.specs.PlainShard.{PlainShard}
use Rattle.arc_core.specs.Replay.{replay}
use Rattle.arc_core.specs.declared.config.Config.{Config}
use Rattle.arc_core.specs.declared.event.Event.{Event}
use Rattle.arc_core.specs.declared.served.Restored.{Restored}
use Rattle.arc_core.specs.declared.served.Served.TheVariants as served
use Rattle.arc_table.specs.Geometry.{IsCell, cell_number}
use Rattle.arc_table.specs.Telling.{opening_of}
use Rattle.dbuf_cells.specs.Places.{cell_of}
use Rattle.dbuf_cells.specs.Turns.{OnHeap}
use Rattle.dbuf_state.specs.Outline.{Outline, outline_after}
use Rattle.dbuf_state.specs.Soundness.{IsSound}
use Rattle.dbuf_state.specs.declared.event.CellEvent.{CellEvent}
use Rattle.dbuf_state.specs.declared.event.CellEvent.TheVariants.{End}
use Rattle.dbuf_state.specs.declared.oid.Oid.{Oid}
use Rattle.vdev_io.specs.Calls.{Call, MakesCalls}
use Rattle.vdev_io.specs.declared.device.CacheDev.{Ghosts as Devices}
use Rattle.vdev_io.specs.declared.pool.Pool.{Ghosts}
use Rattle.l2_dev.specs.declared.report.FeedStop.TheVariants as stop
use Rattle.l2_feed.specs.Alone.{AreOfShards}
use Rattle.l2_feed.specs.Plain.{IsPlainFeed}
use Rattle.l2_feed.specs.Shape.{NoneRefused}
use Rattle.txg_sync.specs.Items.{SyncItem}
use Rattle.txg_sync.specs.declared.syncing.SyncFault.{SyncFault}
use Rattle.txg_sync.specs.declared.syncing.SyncFault.TheVariants as sync_fault
use Rattle.trace_text.specs.declared.op.Op.{Op}
use Rattle.trace_text.specs.declared.op.Op.TheVariants as ops
use Rattle.trace_text.specs.declared.reply.Reply.{Reply}
use Rattle.trace_text.specs.declared.reply.Reply.TheVariants.{Capped}
use Rattle.trace_text.specs.declared.trace.Trace.{Trace}
use Rattle.trace_run.specs.declared.ran.Ending.{Ending}
use Rattle.trace_run.specs.declared.ran.Ending.TheVariants.{Fork, Full, Sync, Whole}
use Rattle.trace_run.specs.Answering.{IsReadOfImage}
use Rattle.trace_run.specs.Deeds.{HasAct, Noted, acts_of_events, events_of_cell, events_there}
use Rattle.trace_run.specs.Effects.{Answered, Effect, effect_of}
use Rattle.trace_run.specs.FeedEvents.{events_of_made}
use Rattle.trace_run.specs.Feeds.{AreFedReplies, AsksOfFeeds, FeedDone}
use Rattle.trace_run.specs.KeptBlocks.{held_in_shard}
use Rattle.trace_run.specs.KeptReads.{KeptRead}
use Rattle.trace_run.specs.Lines.{caller_of, shard_of_line}
use Rattle.trace_run.specs.Meeting.{resizes_in}
use Rattle.trace_run.specs.dbufs.CellEnds.{DropsKept}
use Rattle.trace_run.specs.dbufs.Holders.{AreHolders}
use Rattle.trace_run.specs.dbufs.ObjectLines.{OnObject, TellsBrought, brought_there, events_of_bringing, on_object}
use Rattle.trace_run.specs.dbufs.ObjectReplies.{ActsFor, AnswersObject, BringsAt}
use Rattle.trace_run.specs.dbufs.Objects.{Brought, Line, Loaded, Nothing, Refused, Work, no_work, own_event}
use Rattle.trace_run.specs.Openings.{opening_map}
use Rattle.trace_run.specs.Reads.{CameFromPool}
use Rattle.trace_run.specs.Restores.{restores_in}
use Rattle.trace_run.specs.Syncing.{AreHeldNew, inserts_noted, noted_of}
use Rattle.trace_run.specs.Tally.{AnswersNow}
use Rattle.trace_run.specs.callers.Together.{BetweenGroups, OfCells, StopsSync, SyncsGroup, between_groups}
use Rattle.trace_run.specs.callers.WorkLines.{AsksBrought, calls_of_lines, effect_with}
use Rattle.trace_run.specs.one_caller.Access.{AsksPool, MayComeFrom, access_of}
use Rattle.trace_run.specs.one_caller.Asking.{AsksLine}
use Rattle.trace_run.specs.one_caller.OneCaller.{IsFoundAs, events_of_drops, events_of_op_in as line_events, kept_after}

-- ---- what stands between two lines

-- The pool, the number of the next group, and the place from which its sync writes; the cache device, where one was started; all that was done so far to each shard and to each cell; and the
-- reads that the caller keeps.
pub record BetweenLines (P D : Type 0) : Type 0 where
  pub outside : BetweenGroups P
  pub device : Option D
  pub shards : ℕ → List Event
  pub cells : ℕ → List CellEvent
  pub kept : List KeptRead

-- before the first line: the shards have just their restores, and nothing was done to cells
abbrev pub begins_so : {P D : Type 0} → Config → List Restored → BetweenGroups P → Option D → BetweenLines P D
begins_so g restored outside device = record { outside = outside; device = device; shards = restores_in g restored; cells = λ i. []; kept = [] }

-- what this history has made of a shard
abbrev pub shard_behind : Config → (ℕ → List Event) → (shard : ℕ) → PlainShard
shard_behind g shards shard = replay (opening_of g) (shards shard)

-- of each shard and each cell this was done more
pub record GoesOn {P D : Type 0} (g : Config) (es : (shard : ℕ) → List Event) (noted : List Noted) (from to : BetweenLines P D) : Type 0 where
  pub shards : (shard : ℕ) → to.shards shard ≡ from.shards shard ++ es shard
  pub cells : (i : ℕ) → IsCell g i → to.cells i ≡ from.cells i ++ events_of_cell i noted

-- ---- the cache device

-- Where a device was lent, `asks` holds of it before and behind. Where none was, `none` holds, and none comes back.
abbrev pub IfLent : {D : Type 0} → (none : Type 0) → (asks : (old new : D) → Type 0) → (old new : Option D) → Type 0
IfLent none asks None None = none
IfLent none asks None (Some new) = ⊥
IfLent none asks (Some old) None = ⊥
IfLent none asks (Some old) (Some new) = asks old new

-- no bytes came from a device
abbrev pub NotFromDevice : Effect → Type 0
NotFromDevice effect = effect ≢ Answered served.L2

-- ---- what was brought

-- its bytes came from where an access to its shard finds them; of a block that was refused the pool had to be asked for them
abbrev pub IsFoundIn : Config → (ℕ → PlainShard) → Brought → Type 0
IsFoundIn g s Nothing = Unit {0}
IsFoundIn g s (Loaded ptr from) = MayComeFrom (access_of (s (shard_of g.shards ptr.key)) ptr) from
IsFoundIn g s (Refused ptr) = AsksPool (access_of (s (shard_of g.shards ptr.key)) ptr)

-- the events that the caller makes for it in this shard, whose access is at this tick, and whose hold goes to the cell of the number c
abbrev pub bringing_in : Config → (ℕ → PlainShard) → (n t c : ℕ) → Brought → (shard : ℕ) → List Event
bringing_in g s n t c brought shard = brought_there g.shards shard brought (events_of_bringing (s shard) n t c brought)

-- ---- cells

-- what was done to a cell has made this of it
abbrev pub outline_behind : Trace → (ℕ → List CellEvent) → (i : ℕ) → Outline
outline_behind trace cells i = outline_after trace.config.dbuf_bytes (opening_map trace i) (cells i)

-- ---- feeds

-- the feed is that of these shards, and where memory was refused for none of it, it is the plain one
pub record IsFeedHere (g : Config) (s : ℕ → PlainShard) (feed : FeedDone) : Type 0 where
  pub of_shards : AreOfShards g g.callers s feed.acts
  pub plain : feed.report.end ≢ stop.NoMemory → NoneRefused feed.acts → IsPlainFeed g g.callers s feed.before.ring feed.after.ring feed.acts feed.calls feed.report

-- ---- syncs

-- A sync took these cells just as the lines before it left them, and what it noted of them is this work.
pub record TakesCells (trace : Trace) (from : ℕ → List CellEvent) (work : Work) (cells : List OnHeap) (xs : List SyncItem) : Type 0 where
  pub many : length cells ≡ trace.config.cells
  pub limit : (i : ℕ) (c : OnHeap) → slice_get cells i ≡ Some c → c.value.limit ≡ trace.config.dbuf_bytes
  pub opening : (i : ℕ) (c : OnHeap) → slice_get cells i ≡ Some c → c.value.opening ≡ opening_map trace i
  pub sound : (i : ℕ) (c : OnHeap) → slice_get cells i ≡ Some c → IsSound c.value
  pub history : (i : ℕ) (c : OnHeap) → slice_get cells i ≡ Some c → c.value.history ≡ from i
  pub noted : work.noted ≡ noted_of trace.config.callers xs

abbrev pub TheseCells : Trace → (ℕ → List CellEvent) → OfCells
TheseCells trace from before tick work cells xs = TakesCells trace from work cells xs

-- what a sync's work makes of shards and cells, whatever it came to
pub record LeavesSynced {P D : Type 0} (g : Config) (t : ℕ) (work : Work) (from to : BetweenLines P D) : Type 0 where
  pub goes_on : GoesOn g (λ shard. inserts_noted g t work.noted shard (from.shards shard)) work.noted from to
  -- a block keeps a hold where its key was new
  pub held : (shard : ℕ) → AreHeldNew g t work.noted shard (from.shards shard)
  pub device : to.device ≡ from.device
  pub kept : to.kept ≡ from.kept

module _ {P D : Type 0} (pools : Ghosts P) (devices : Devices D) (trace : Trace) where
  -- ---- the caller's lines

  -- A read, a hold or a drop: its answer, its events and what it asked the device for go by the shard and by the kept reads as it found them. Bytes that came from the pool are those that it tells
  -- then.
  pub record DoesRead (l : Line) (from to : BetweenLines P D) : Type 0 where
    pub answer : AnswersNow (pools.size from.outside.pool) (pools.told from.outside.pool) trace.blocks from.kept l.op l.reply
    pub found : IsFoundAs trace.blocks (shard_behind trace.config from.shards (shard_of_line trace.config.shards trace.blocks l.op)) l.op l.reply
    pub range : CameFromPool (effect_of l.reply) → IfSome (pools.told from.outside.pool) (λ image. IsReadOfImage image trace.blocks l.op l.reply)
    pub work : l.work ≡ no_work
    pub goes_on : GoesOn trace.config (λ shard. line_events trace.config.shards trace.blocks shard (shard_behind trace.config from.shards shard) from.kept l.op l.reply) [] from to
    pub kept : to.kept ≡ kept_after trace.blocks l.op l.reply from.kept
    pub asks : IfLent (NotFromDevice (effect_of l.reply))
        (λ old new. (calls : List Call) × AsksLine devices trace.blocks (shard_behind trace.config from.shards (shard_of_line trace.config.shards trace.blocks l.op)) l.op l.reply calls old new) from.device to.device

  -- A line on an object: what was brought for it, what it did and what it is answered go by its block's cell, by the shards and by what the pool tells, as it found them. It makes the events for what was brought,
  -- and then these with the cell's number, which are its acts. Where the pool gave a block, the bytes that it tells there are of its pointer.
  pub record DoesObject (at : Oid) (tick : ℕ) (l : Line) (from to : BetweenLines P D) : Type 0 where
    pub brought : BringsAt (pools.size from.outside.pool) at (outline_behind trace from.cells (cell_of trace.config.cells at)) l.work.brought
    pub found : IsFoundIn trace.config (shard_behind trace.config from.shards) l.work.brought
    pub range : TellsBrought (pools.told from.outside.pool) l.work.brought
    pub acts : ActsFor trace.config 0 (AreHolders (from.cells (cell_of trace.config.cells at))) (own_event l.op) (outline_behind trace from.cells (cell_of trace.config.cells at)) l.work l.reply
    pub answer : AnswersObject (pools.size from.outside.pool) (pools.told from.outside.pool) trace.config.dbuf_bytes (opening_map trace (cell_of trace.config.cells at)) (from.cells (cell_of trace.config.cells at)) l.work.brought l.op l.reply
    pub made : List Event
    pub kinds : AllByRecursion HasAct made
    pub are : l.work.acts ≡ acts_of_events made
    pub goes_on : GoesOn trace.config (λ shard. bringing_in trace.config (shard_behind trace.config from.shards) 0 tick (cell_number trace.config (cell_of trace.config.cells at)) l.work.brought shard
        ++ events_there trace.config shard made) l.work.noted from to
    pub kept : to.kept ≡ from.kept
    pub asks : IfLent (NotFromDevice (effect_with l.work.brought l.reply)) (AsksBrought devices trace.config (shard_behind trace.config from.shards) l.work.brought l.reply) from.device to.device

  abbrev pub DoesOwn : Option OnObject → Line → (from to : BetweenLines P D) → Type 0
  DoesOwn None l from to = DoesRead l from to
  DoesOwn (Some on) l from to = DoesObject on.at on.tick l from to

  -- A line of the caller's reads the pool as it says, and does nothing else with it.
  pub record DoesLine (l : Line) (from to : BetweenLines P D) : Type 0 where
    pub did : DoesOwn (on_object l.op) l from to
    pub calls : MakesCalls pools (calls_of_lines (l ∷ [])) from.outside.pool to.outside.pool
    pub group : to.outside.group ≡ from.outside.group
    pub next : to.outside.next ≡ from.outside.next

  -- ---- the feeder's lines

  -- A line `feed`: the device was fed, where there is one, by the shards as the line found them, and asked for the feed's calls alone.
  pub record DoesFeed (reply : Reply) (feeds : List FeedDone) (from to : BetweenLines P D) : Type 0 where
    pub answered : AreFedReplies from.device (ops.Feed ∷ []) feeds (reply ∷ [])
    pub asked : AsksOfFeeds devices feeds from.device to.device
    pub here : AllByRecursion (IsFeedHere trace.config (shard_behind trace.config from.shards)) feeds
    pub goes_on : GoesOn trace.config (λ shard. events_of_made trace.config shard feeds) [] from to
    pub pool : to.outside ≡ from.outside
    pub kept : to.kept ≡ from.kept

  -- A line `txg`: all that was dirty by then was written, inserted and noted.
  pub record DoesSync (t : ℕ) (reply : Reply) (work : Work) (from to : BetweenLines P D) : Type 0 where
    pub synced : SyncsGroup pools trace.config (TheseCells trace from.cells) [] t reply work from.outside to.outside
    pub leaves : LeavesSynced trace.config t work from to

  -- A line `cap`: each shard has this capacity from now on, and the next group begins.
  pub record DoesCap (c : ℕ) (reply : Reply) (from to : BetweenLines P D) : Type 0 where
    pub replied : reply ≡ Capped c
    pub goes_on : GoesOn trace.config (resizes_in trace.config.shards trace.config.callers c) [] from to
    pub pool : to.outside ≡ between_groups from.outside.pool (suc from.outside.group) from.outside.next
    pub device : to.device ≡ from.device
    pub kept : to.kept ≡ from.kept

  abbrev pub DoesOther : Op → Reply → Work → List FeedDone → (from to : BetweenLines P D) → Type 0
  DoesOther ops.Feed reply work feeds from to = DoesFeed reply feeds from to
  DoesOther (ops.Txg t) reply work feeds from to = (feeds ≡ []) × DoesSync t reply work from to
  DoesOther (ops.Cap c) reply work feeds from to = (feeds ≡ []) × DoesCap c reply from to
  DoesOther (ops.Read n t x window) reply work feeds from to = ⊥
  DoesOther (ops.Hold n t x) reply work feeds from to = ⊥
  DoesOther (ops.Drop n x) reply work feeds from to = ⊥
  DoesOther (ops.Get n t at window) reply work feeds from to = ⊥
  DoesOther (ops.Put n t at size fill) reply work feeds from to = ⊥
  DoesOther (ops.Patch n t at start bytes) reply work feeds from to = ⊥
  DoesOther (ops.Pin n t at) reply work feeds from to = ⊥
  DoesOther (ops.Unpin n at) reply work feeds from to = ⊥

  -- ---- all lines

  abbrev pub DoesAnyLine : Option ℕ → Line → List FeedDone → (from to : BetweenLines P D) → Type 0
  DoesAnyLine (Some n) l feeds from to = (feeds ≡ []) × DoesLine l from to
  DoesAnyLine None l feeds from to = DoesOther l.op l.reply l.work feeds from to

  -- these lines were done in their order, with these feeds among them
  abbrev pub AreInSequence : List Line → List FeedDone → (from to : BetweenLines P D) → Type 0
  AreInSequence [] feeds from to = (feeds ≡ []) × (to ≡ from)
  AreInSequence (l ∷ ls) feeds from to = (next : BetweenLines P D) × (here behind : List FeedDone) × (feeds ≡ here ++ behind) × DoesAnyLine (caller_of l.op) l here from next × AreInSequence ls behind next to

  -- ---- how they end

  -- a sync stopped behind all lines, for this reason, once it had done this
  pub record StopsThere (replies : List Reply) (work : Work) (why : SyncFault) (from : BetweenLines P D) (after : P) (to : BetweenLines P D) : Type 0 where
    pub stops : StopsSync pools trace.config (TheseCells trace from.cells) trace replies [] work why from.outside after
    pub leaves : LeavesSynced trace.config stops.behind.tick work from to

  -- All lines were done; or a sync stopped, and none behind it was begun. The one caller makes no fork.
  abbrev pub EndsThere : List Reply → Work → Ending → (from : BetweenLines P D) → (after : P) → (to : BetweenLines P D) → Type 0
  EndsThere replies work Whole from after to = (work ≡ no_work) × (after ≡ from.outside.pool) × (to ≡ from)
  EndsThere replies work Fork from after to = ⊥
  EndsThere replies work Sync from after to = StopsThere replies work sync_fault.PoolFault from after to
  EndsThere replies work (Full need left) from after to = StopsThere replies work (sync_fault.PoolFull need left) from after to

-- ---- the close

-- Of so many cells, to which this was done, from the cell i on, each hold was dropped, of one cell after the other.
abbrev pub GivesAllKept : Trace → (cells : ℕ → List CellEvent) → (i count : ℕ) → List Event → Type 0
GivesAllKept trace cells i zero es = es ≡ []
GivesAllKept trace cells i (suc count) es = (drops : List Event) × (rest : List Event) × (es ≡ drops ++ rest) × DropsKept trace.config i (outline_behind trace cells i) (AreHolders (cells i)) drops
    × GivesAllKept trace cells (suc i) count rest

-- Behind them the caller's kept reads are dropped, the oldest first, and then what cells keep, which are these drops; then each cell is ended. That is all of the histories.
pub record ClosesThere {P D : Type 0} (trace : Trace) (at : BetweenLines P D) (ended : List Event) (closed : List OnHeap) (histories : List (List Event)) : Type 0 where
  pub shards : histories ≡ map (λ (shard : ℕ). (at.shards shard ++ events_of_drops 0 (held_in_shard trace.config shard at.kept)) ++ events_there trace.config shard ended) (range_with_len 0 trace.config.shards)
  pub gives : GivesAllKept trace at.cells 0 trace.config.cells ended
  pub cells : (i : ℕ) (cell : OnHeap) → slice_get closed i ≡ Some cell → cell.value.history ≡ at.cells i ++ End trace.config.callers ∷ []
