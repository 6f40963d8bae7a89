-- Two runs of one trace by one caller, over the same bytes, of which the same calls failed: they come to the same (arc_read, dmu_read, dmu_write, spa_sync and l2arc_feed_thread, for a single thread).
use Rattle.std.specs.Prelude.{◌≡◌, ◌≢◌, ◌⊎◌, ◌<◌, ◌≤◌, ℕ, Bool, zero, suc, true, false, List, [], ◌∷◌, ◌++◌, length, map, take, Option, None, Some, IfSome, slice_get}
use Rattle.blk_ptr.specs.Hash.{shard_of}
use Rattle.blk_ptr.specs.declared.key.Key.{Key}
use Rattle.blk_ptr.specs.declared.ptr.Ptr.{Ptr}
use Rattle.blk_ptr.specs.Ptr.{IsOf}
use Rattle.arc_core.specs.PlainShard.{PlainShard, place_of}
use Rattle.arc_core.specs.declared.config.Config.{Config}
use Rattle.arc_core.specs.declared.served.Served.{Served}
use Rattle.arc_table.specs.Ended.{Ended}
use Rattle.arc_table.specs.Fetching.{bytes_from}
use Rattle.arc_table.specs.Geometry.{IsCell}
use Rattle.dbuf_cells.specs.Places.{cell_of}
use Rattle.dbuf_cells.specs.Turns.{OnHeap}
use Rattle.dbuf_state.specs.Dbufs.{window_of}
use Rattle.dbuf_state.specs.History.{Collide, Leads}
use Rattle.dbuf_state.specs.Objects.{Dirty, PlainCell, PlainDbuf, dbuf_at, opening_cell}
use Rattle.dbuf_state.specs.Outline.{mapped_at}
use Rattle.dbuf_state.specs.declared.event.CellEvent.{CellEvent}
use Rattle.dbuf_state.specs.declared.event.CellEvent.TheVariants.{Synced as WasSynced}
use Rattle.dbuf_state.specs.declared.oid.Oid.{Oid}
use Rattle.dbuf_state.specs.declared.state.Mapped.TheVariants.{Clean}
use Rattle.dbuf_state.specs.declared.window.Window.{Window}
use Rattle.l2_log.specs.Rules.{least_ring_end}
use Rattle.l2_dev.specs.Cursor.{CursorState}
use Rattle.l2_dev.specs.Rebuilding.{IsOpened, IsStarted, ring_end_of}
use Rattle.l2_dev.specs.declared.report.FeedStop.TheVariants as stop
use Rattle.l2_dev.specs.declared.stop.Stop.TheVariants as stops
use Rattle.l2_feed.specs.Alike.{PicksTwo}
use Rattle.l2_feed.specs.Plain.{answers_of}
use Rattle.l2_feed.specs.Shape.{NoneRefused}
use Rattle.vdev_io.specs.Calls.{Call, DeviceCall, Failed, Gave, MakesDeviceCalls}
use Rattle.vdev_io.specs.declared.device.CacheDev.{Ghosts as Devices}
use Rattle.vdev_io.specs.declared.pool.Pool.{Ghosts}
use Rattle.trace_text.specs.Grammar.{IsFormed}
use Rattle.trace_text.specs.declared.op.Op.{Op}
use Rattle.trace_text.specs.declared.op.Op.TheVariants as ops
use Rattle.trace_text.specs.declared.rebuilt.Rebuilt.{Rebuilt}
use Rattle.trace_text.specs.declared.reply.Reply.{Reply}
use Rattle.trace_text.specs.declared.reply.Reply.TheVariants as replies
use Rattle.trace_text.specs.declared.report.Report.{Report}
use Rattle.trace_text.specs.declared.trace.Trace.{Trace}
use Rattle.trace_run.specs.declared.ran.Ending.{Ending}
use Rattle.trace_run.specs.declared.ran.Ending.TheVariants.{Fork, Full, Sync, Whole}
use Rattle.trace_run.specs.declared.status.Status.{Status}
use Rattle.trace_run.specs.Bounded.{device_len, with_bound}
use Rattle.trace_run.specs.Deeds.{Noted, events_of_cell}
use Rattle.trace_run.specs.Devices.{WasOnlyRead, usable}
use Rattle.trace_run.specs.Effects.{calls_of, effect_of}
use Rattle.trace_run.specs.FeedSeries.{GoOn}
use Rattle.trace_run.specs.Feeds.{FeedDone}
use Rattle.trace_run.specs.Lines.{caller_of, has_further, shard_of_line}
use Rattle.trace_run.specs.Openings.{opening_map}
use Rattle.trace_run.specs.Outcome.{HasRun, IsReport}
use Rattle.trace_run.specs.Restores.{found_keys}
use Rattle.trace_run.specs.States.{Handed}
use Rattle.trace_run.specs.callers.Together.{between_groups}
use Rattle.trace_run.specs.callers.WorkLines.{AsksBrought, effect_with}
use Rattle.trace_run.specs.dbufs.ObjectLines.{OnObject, on_object}
use Rattle.trace_run.specs.dbufs.Objects.{Brought, Line, Loaded, Nothing, Refused, Work, replies_of}
use Rattle.trace_run.specs.one_caller.Asking.{AsksLine}
use Rattle.trace_run.specs.one_caller.InTurn.{RunsInTurn}
use Rattle.trace_run.specs.one_caller.Sequence.{AreInSequence, BetweenLines, DoesAnyLine, DoesOwn, IfLent, NotFromDevice, begins_so, outline_behind, shard_behind}

-- ---- which calls failed

-- as far as both rows go they are the same
abbrev pub AreAlikeSoFar : {X : Type 0} → (xs ys : List X) → Type 0
AreAlikeSoFar [] ys = Unit {0}
AreAlikeSoFar (x ∷ xs) [] = Unit {0}
AreAlikeSoFar (x ∷ xs) (y ∷ ys) = (x ≡ y) × AreAlikeSoFar xs ys

-- the writes of a sync that was done: one of each block that it noted
abbrev pub writes_of : Op → Work → List Call
writes_of (ops.Txg t) work = map (λ note. Gave) work.noted
writes_of (ops.Read n t x window) work = []
writes_of (ops.Hold n t x) work = []
writes_of (ops.Drop n x) work = []
writes_of (ops.Get n t at window) work = []
writes_of (ops.Put n t at size fill) work = []
writes_of (ops.Patch n t at start bytes) work = []
writes_of (ops.Pin n t at) work = []
writes_of (ops.Unpin n at) work = []
writes_of ops.Feed work = []
writes_of (ops.Cap c) work = []

-- how the pool answered the calls of a line, and of all lines, in their order
abbrev pub pool_answers_to : Line → List Call
pool_answers_to l = calls_of (effect_with l.work.brought l.reply) ++ writes_of l.op l.work

abbrev pub pool_answers : List Line → List Call
pool_answers [] = []
pool_answers (l ∷ ls) = pool_answers_to l ++ pool_answers ls

-- and those of the sync that stopped: it wrote the blocks that it noted, and the next write failed; or there was no room, and it wrote none
abbrev pub answers_at_stop : Ending → Work → List Call
answers_at_stop Whole stopped = []
answers_at_stop Fork stopped = []
answers_at_stop Sync stopped = map (λ note. Gave) stopped.noted ++ Failed ∷ []
answers_at_stop (Full need left) stopped = []

-- how the device answered the calls of these feeds
abbrev pub feed_answers : List FeedDone → List Call
feed_answers [] = []
feed_answers (feed ∷ feeds) = answers_of feed.calls ++ feed_answers feeds

-- where a device was lent, what is named of its answers; where none was, none
abbrev pub lent_answers : {D : Type 0} (none : Type 0) (asks : D → D → Type 0) (calls : (old new : D) → asks old new → List Call) (old new : Option D) → IfLent none asks old new → List Call
lent_answers none asks calls None None did = []
lent_answers none asks calls None (Some new) did = []
lent_answers none asks calls (Some old) None did = []
lent_answers none asks calls (Some old) (Some new) did = calls old new did

module _ {P D : Type 0} (pools : Ghosts P) (devices : Devices D) (trace : Trace) where
  -- to the read that brings a block
  abbrev pub bringing_answers : (s : ℕ → PlainShard) (brought : Brought) (reply : Reply) (old new : D) → AsksBrought devices trace.config s brought reply old new → List Call
  bringing_answers s Nothing reply old new asks = []
  bringing_answers s (Loaded ptr from) reply old new asks = asks.0
  bringing_answers s (Refused ptr) reply old new asks = asks.0

  -- to a line of the caller
  abbrev pub own_answers : (on : Option OnObject) (l : Line) (from to : BetweenLines P D) → DoesOwn pools devices trace on l from to → List Call
  own_answers None l from to does = lent_answers (NotFromDevice (effect_of l.reply))
      (λ old new. (calls : List Call) × AsksLine devices trace.blocks (shard_behind trace.config from.shards (shard_of_line trace.config.shards trace.blocks l.op)) l.op l.reply calls old new)
      (λ old new asks. asks.0) from.device to.device does.asks
  own_answers (Some on) l from to does = lent_answers (NotFromDevice (effect_with l.work.brought l.reply)) (AsksBrought devices trace.config (shard_behind trace.config from.shards) l.work.brought l.reply)
      (bringing_answers (shard_behind trace.config from.shards) l.work.brought l.reply) from.device to.device does.asks

  -- to any line, with its feeds
  abbrev pub device_answers_to : (by : Option ℕ) (l : Line) (here : List FeedDone) (from to : BetweenLines P D) → DoesAnyLine pools devices trace by l here from to → List Call
  device_answers_to (Some n) l here from to does = own_answers (on_object l.op) l from to does.1.did
  device_answers_to None l here from to does = feed_answers here

  abbrev pub device_answers : (ls : List Line) (feeds : List FeedDone) (from to : BetweenLines P D) → AreInSequence pools devices trace ls feeds from to → List Call
  device_answers [] feeds from to did = []
  device_answers (l ∷ ls) feeds from to did = device_answers_to (caller_of l.op) l did.1 from did.0 did.4 ++ device_answers ls did.2 did.0 to did.5

  -- the feeds of the line at this place
  abbrev pub feeds_at : (ls : List Line) (feeds : List FeedDone) (from to : BetweenLines P D) → AreInSequence pools devices trace ls feeds from to → (place : ℕ) → List FeedDone
  feeds_at [] feeds from to did place = []
  feeds_at (l ∷ ls) feeds from to did zero = did.1
  feeds_at (l ∷ ls) feeds from to did (suc place) = feeds_at ls did.2 did.0 to did.5 place

-- ---- what stands between two lines is alike

-- Both devices are of one length and tell bytes, as many, that are the same at each place that a key has in these shards. What a write that failed left elsewhere may differ: no read looks there.
pub record TellAlike {D : Type 0} (devices : Devices D) (g : Config) (s : ℕ → PlainShard) (one other : D) : Type 0 where
  pub size : devices.size other ≡ devices.size one
  pub image : List ℕ
  pub other_image : List ℕ
  pub told : devices.told one ≡ Some image
  pub other_told : devices.told other ≡ Some other_image
  pub long : length other_image ≡ length image
  pub places : (k : Key) (x : ℕ) → place_of k (s (shard_of g.shards k)) ≡ Some x → bytes_from other_image x k ≡ bytes_from image x k

module _ {P D : Type 0} (pools : Ghosts P) (devices : Devices D) (trace : Trace) where
  -- both tell bytes that are the same at the places of these shards, or there is none
  abbrev pub AreDevicesAlike : (s : ℕ → PlainShard) → (one other : Option D) → Type 0
  AreDevicesAlike s None None = Unit {0}
  AreDevicesAlike s None (Some other) = ⊥
  AreDevicesAlike s (Some one) None = ⊥
  AreDevicesAlike s (Some one) (Some other) = TellAlike devices trace.config s one other

  -- The pools tell the same bytes, and so do the devices at each place that a key has; the next sync writes the same group, from the same place; the same was done to each shard and to each cell; and the same reads are kept. What
  -- pool and device have counted may differ.
  pub record AreAlike (one other : BetweenLines P D) : Type 0 where
    pub image : List ℕ
    pub told : pools.told one.outside.pool ≡ Some image
    pub other_told : pools.told other.outside.pool ≡ Some image
    pub group : other.outside.group ≡ one.outside.group
    pub next : other.outside.next ≡ one.outside.next
    pub device : AreDevicesAlike (shard_behind trace.config one.shards) one.device other.device
    pub shards : (shard : ℕ) → other.shards shard ≡ one.shards shard
    pub cells : (i : ℕ) → IsCell trace.config i → other.cells i ≡ one.cells i
    pub kept : other.kept ≡ one.kept

-- ---- the start of the cache device

module _ {D : Type 0} (devices : Devices D) where
  -- both tell the same bytes, or there is none
  abbrev pub TellTheSame : (one other : Option D) → Type 0
  TellTheSame None None = Unit {0}
  TellTheSame None (Some other) = ⊥
  TellTheSame (Some one) None = ⊥
  TellTheSame (Some one) (Some other) = (devices.size other ≡ devices.size one) × ((image : List ℕ) × (devices.told one ≡ Some image) × (devices.told other ≡ Some image))

  -- A start of this device left that one. One that is too short is not looked at. Any other one was asked for just these reads; the list and the stop are those of the bytes that it tells, and its ring is
  -- written from this cursor on.
  pub record StartsSo (before after : D) (reads : List DeviceCall) (first : Option CursorState) (rebuilt : Rebuilt) : Type 0 where
    pub short : devices.size before < least_ring_end → (rebuilt.list ≡ []) × (rebuilt.stop ≡ stops.Short (devices.size before)) × (first ≡ None) × (reads ≡ [])
    pub long : least_ring_end ≤ devices.size before → MakesDeviceCalls devices reads before after × (cursor : CursorState) × (first ≡ Some cursor) × IsOpened (ring_end_of (devices.size before)) cursor rebuilt.list
        × IfSome (devices.told before) (λ image. IsStarted (ring_end_of (devices.size before)) image reads cursor rebuilt.list rebuilt.stop)
    pub only : WasOnlyRead devices before after

  -- so it was of the device that was handed in, where there was one
  abbrev pub Starts : (handed started : Option D) → (reads : List DeviceCall) → (first : Option CursorState) → Option Rebuilt → Type 0
  Starts None started reads first rebuilt = (started ≡ None) × (reads ≡ []) × (first ≡ None) × (rebuilt ≡ None)
  Starts (Some before) None reads first rebuilt = ⊥
  Starts (Some before) (Some after) reads first None = ⊥
  Starts (Some before) (Some after) reads first (Some rebuilt) = StartsSo before after reads first rebuilt

-- the feeds of a run went on from this cursor; where no device was started there was none
abbrev pub GoOnFrom : Option CursorState → List FeedDone → Type 0
GoOnFrom None feeds = feeds ≡ []
GoOnFrom (Some first) feeds = (last : CursorState) × GoOn feeds first last

-- ---- where two runs may part

-- two contents of one pointer, so of one digest
pub record TwoContents (ptr : Ptr) : Type 0 where
  pub one : List ℕ
  pub other : List ℕ
  pub of : IsOf one ptr
  pub other_of : IsOf other ptr
  pub differ : one ≢ other

-- what these lines did to a cell
abbrev pub done_to : (i : ℕ) → List Line → List CellEvent
done_to i [] = []
done_to i (l ∷ ls) = events_of_cell i l.work.noted ++ done_to i ls

-- and what those before a place did
abbrev pub front_at : List Line → (place i : ℕ) → List CellEvent
front_at lines place i = done_to i (take place lines)

-- The lines of both before this place are answered the same, and did the same to each cell.
pub record SameUpTo (trace : Trace) (lines others : List Line) (place : ℕ) : Type 0 where
  pub replies : take place (replies_of others) ≡ take place (replies_of lines)
  pub cells : (i : ℕ) → IsCell trace.config i → front_at others place i ≡ front_at lines place i

-- The replies of two runs to this line show windows of these bytes, which differ, as those of the pointer: from one source, of the block that is read; or of the Oid that has the pointer, where the cells had come to this.
abbrev pub ShowsBoth : Trace → (cells : ℕ → List CellEvent) → Op → Ptr → (bytes others : List ℕ) → (reply other_reply : Reply) → Type 0
ShowsBoth trace cells (ops.Read n t x window) ptr bytes others reply other_reply = (slice_get trace.blocks x ≡ Some ptr)
    × ((from : Served) × (reply ≡ replies.Read from ptr.digest (window_of window bytes)) × (other_reply ≡ replies.Read from ptr.digest (window_of window others))) × (window_of window others ≢ window_of window bytes)
ShowsBoth trace cells (ops.Get n t at window) ptr bytes others reply other_reply = (mapped_at at (outline_behind trace cells (cell_of trace.config.cells at)) ≡ Some (Clean ptr))
    × (reply ≡ replies.Got (length bytes) (window_of window bytes)) × (other_reply ≡ replies.Got (length others) (window_of window others)) × (window_of window others ≢ window_of window bytes)
ShowsBoth trace cells (ops.Hold n t x) ptr bytes others reply other_reply = ⊥
ShowsBoth trace cells (ops.Drop n x) ptr bytes others reply other_reply = ⊥
ShowsBoth trace cells (ops.Put n t at size fill) ptr bytes others reply other_reply = ⊥
ShowsBoth trace cells (ops.Patch n t at start patched) ptr bytes others reply other_reply = ⊥
ShowsBoth trace cells (ops.Pin n t at) ptr bytes others reply other_reply = ⊥
ShowsBoth trace cells (ops.Unpin n at) ptr bytes others reply other_reply = ⊥
ShowsBoth trace cells ops.Feed ptr bytes others reply other_reply = ⊥
ShowsBoth trace cells (ops.Txg t) ptr bytes others reply other_reply = ⊥
ShowsBoth trace cells (ops.Cap c) ptr bytes others reply other_reply = ⊥

-- One line, before which both came to the same, is answered by both, with windows that differ of two contents of one digest.
pub record ShowsTwo (trace : Trace) (lines others : List Line) : Type 0 where
  pub place : ℕ
  pub before : SameUpTo trace lines others place
  pub line : Line
  pub other : Line
  pub at : slice_get lines place ≡ Some line
  pub other_at : slice_get others place ≡ Some other
  pub same : other.op ≡ line.op
  pub ptr : Ptr
  pub contents : TwoContents ptr
  pub shown : ShowsBoth trace (front_at lines place) line.op ptr contents.one contents.other line.reply other.reply

-- the reply to a get of this window shows the dirty bytes that this state has of the Oid
pub record GotDirty (state : PlainCell) (at : Oid) (window : Window) (reply : Reply) : Type 0 where
  pub dbuf : PlainDbuf
  pub there : dbuf_at at state ≡ Some dbuf
  pub bytes : List ℕ
  pub dirty : dbuf.block ≡ Dirty bytes
  pub got : reply ≡ replies.Got (length bytes) (window_of window bytes)

-- These dirty bytes of the Oid, which this state of the cell has, were written: it is noted at this place that its block is at a pointer of theirs.
pub record WroteFrom (i : ℕ) (state : PlainCell) (at : Oid) (bytes : List ℕ) (noted : List Noted) (k : ℕ) : Type 0 where
  pub dbuf : PlainDbuf
  pub there : dbuf_at at state ≡ Some dbuf
  pub dirty : dbuf.block ≡ Dirty bytes
  pub n : ℕ
  pub ptr : Ptr
  pub held : Bool
  pub of : IsOf bytes ptr
  pub note : slice_get noted k ≡ Some (record { cell = i; event = WasSynced n at ptr held })

-- of one Oid two syncs wrote bytes that differ, which two states of its cell have
pub record WritesTwo (i : ℕ) (state other_state : PlainCell) (noted other_noted : List Noted) : Type 0 where
  pub at : Oid
  pub k : ℕ
  pub bytes : List ℕ
  pub others : List ℕ
  pub differ : others ≢ bytes
  pub wrote : WroteFrom i state at bytes noted k
  pub other_wrote : WroteFrom i other_state at others other_noted k

-- What two runs make of two states of a cell at a line: a get shows their dirty bytes of an Oid, and not the same; or a sync wrote by them bytes that differ.
abbrev pub SeesBoth : Trace → (i : ℕ) → (state other_state : PlainCell) → Op → (reply other_reply : Reply) → (noted other_noted : List Noted) → Type 0
SeesBoth trace i state other_state (ops.Get n t at window) reply other_reply noted other_noted =
    (i ≡ cell_of trace.config.cells at) × GotDirty state at window reply × GotDirty other_state at window other_reply × (other_reply ≢ reply)
SeesBoth trace i state other_state (ops.Txg t) reply other_reply noted other_noted = WritesTwo i state other_state noted other_noted
SeesBoth trace i state other_state (ops.Read n t x window) reply other_reply noted other_noted = ⊥
SeesBoth trace i state other_state (ops.Hold n t x) reply other_reply noted other_noted = ⊥
SeesBoth trace i state other_state (ops.Drop n x) reply other_reply noted other_noted = ⊥
SeesBoth trace i state other_state (ops.Put n t at size fill) reply other_reply noted other_noted = ⊥
SeesBoth trace i state other_state (ops.Patch n t at start patched) reply other_reply noted other_noted = ⊥
SeesBoth trace i state other_state (ops.Pin n t at) reply other_reply noted other_noted = ⊥
SeesBoth trace i state other_state (ops.Unpin n at) reply other_reply noted other_noted = ⊥
SeesBoth trace i state other_state ops.Feed reply other_reply noted other_noted = ⊥
SeesBoth trace i state other_state (ops.Cap c) reply other_reply noted other_noted = ⊥

-- It is a line of both, or the sync behind all lines of both that stopped since a write failed.
pub data SeenAt (trace : Trace) (lines others : List Line) (stopped other_stopped : Work) (place i : ℕ) (state other_state : PlainCell) : Type 0 where
  at_line : (line other : Line) → slice_get lines place ≡ Some line → slice_get others place ≡ Some other → other.op ≡ line.op
      → SeesBoth trace i state other_state line.op line.reply other.reply line.work.noted other.work.noted → SeenAt trace lines others stopped other_stopped place i state other_state
  at_stop : place ≡ length lines → place ≡ length others → WritesTwo i state other_state stopped.noted other_stopped.noted → SeenAt trace lines others stopped other_stopped place i state other_state

-- A cell has come by one history, that of the lines before a place, to two states: patches of clean blocks began from two contents of one digest. At that place the runs make of these states what differs.
pub record ReplaysTwo (trace : Trace) (lines others : List Line) (stopped other_stopped : Work) : Type 0 where
  pub place : ℕ
  pub before : SameUpTo trace lines others place
  pub i : ℕ
  pub in_range : IsCell trace.config i
  pub bases : List (List ℕ)
  pub other_bases : List (List ℕ)
  pub state : PlainCell
  pub other_state : PlainCell
  pub leads : Leads (opening_cell trace.config.dbuf_bytes (opening_map trace i)) (front_at lines place i) bases state
  pub other_leads : Leads (opening_cell trace.config.dbuf_bytes (opening_map trace i)) (front_at lines place i) other_bases other_state
  pub collide : Collide bases other_bases
  pub seen : SeenAt trace lines others stopped other_stopped place i state other_state

-- Of one shard one feed picked the same keys in both, each with the same digest, and other bytes.
pub record FeedsPickTwo (feeds others : List FeedDone) : Type 0 where
  pub place : ℕ
  pub feed : FeedDone
  pub other : FeedDone
  pub at : slice_get feeds place ≡ Some feed
  pub other_at : slice_get others place ≡ Some other
  pub picks : PicksTwo feed.acts other.acts

-- memory was refused for one of these feeds, or for taking a place in it
pub record WantsMemory (feeds : List FeedDone) : Type 0 where
  pub place : ℕ
  pub feed : FeedDone
  pub at : slice_get feeds place ≡ Some feed
  pub wants : (feed.report.end ≡ stop.NoMemory) ⊎ (¬ NoneRefused feed.acts)

-- ---- the law

-- A run of one caller that came to a report, of a trace with a line on an object, a sync or a feed. Its device was started by these reads; its lines were done in sequence; its feeds went on from the cursor that the
-- start found.
pub record OneRun {P D : Type 0} (pools : Ghosts P) (devices : Devices D) (trace : Trace) : Type 0 where
  pub before : P
  pub after : P
  pub lent : Option D
  pub back : Option D
  pub ending : Ending
  pub closed : Ended OnHeap
  pub report : Report
  pub run : HasRun pools devices before after lent back trace ending closed report
  pub callers : trace.config.callers ≡ 1
  pub further : has_further trace.ops ≡ true
  pub in_turn : RunsInTurn pools devices before after lent back run.run.place trace ending run.work run.run.explained.owner closed.cells report
  pub in_turn_is : in_turn ≡ run.run.in_turn callers further
  pub handed : Option D
  pub started : Option D
  pub lent_is : lent ≡ usable devices started
  pub reads : List DeviceCall
  pub first : Option CursorState
  pub start : Starts devices handed started reads first report.rebuilt
  pub fed : GoOnFrom first run.work.feeds
  pub whole : report.short ≡ false

module _ {P D : Type 0} (pools : Ghosts P) (devices : Devices D) (trace : Trace) where
  -- how a run began, and how its calls were answered, in their order
  abbrev pub begun : OneRun pools devices trace → BetweenLines P D
  begun run = begins_so trace.config (found_keys run.report.rebuilt) (between_groups run.before 1 run.run.run.place) run.lent

  abbrev pub pool_row : OneRun pools devices trace → List Call
  pool_row run = pool_answers run.run.work.lines ++ answers_at_stop run.ending run.run.work.stopped

  abbrev pub device_row : OneRun pools devices trace → List Call
  device_row run = answers_of run.reads ++ device_answers pools devices trace run.run.work.lines run.run.work.feeds (begun run) run.in_turn.reached run.in_turn.lines

  -- the feeds of its line at this place
  abbrev pub feeds_of : OneRun pools devices trace → (place : ℕ) → List FeedDone
  feeds_of run place = feeds_at pools devices trace run.run.work.lines run.run.work.feeds (begun run) run.in_turn.reached run.in_turn.lines place

module _ {P D : Type 0} (pools : Ghosts P) (devices : Devices D) (trace : Trace) (one other : OneRun pools devices trace) where
  -- both began over the same bytes of the pool and of the device
  pub record BeginAlike : Type 0 where
    pub image : List ℕ
    pub told : pools.told one.before ≡ Some image
    pub other_told : pools.told other.before ≡ Some image
    pub device : TellTheSame devices one.handed other.handed

  -- as far as both made calls the same ones failed
  pub record FailAlike : Type 0 where
    pub pool : AreAlikeSoFar (pool_row pools devices trace one) (pool_row pools devices trace other)
    pub device : AreAlikeSoFar (device_row pools devices trace one) (device_row pools devices trace other)

  -- Of a line before which both came to the same, one feed picked in both the same keys of a shard, each with the same digest, and other bytes.
  pub record PicksThere : Type 0 where
    pub place : ℕ
    pub before : SameUpTo trace one.run.work.lines other.run.work.lines place
    pub picks : FeedsPickTwo (feeds_of pools devices trace one place) (feeds_of pools devices trace other place)

  -- At a line before which both came to the same, a feed of one of them wanted memory.
  pub record WantsMemoryThere : Type 0 where
    pub place : ℕ
    pub before : SameUpTo trace one.run.work.lines other.run.work.lines place
    pub wants : WantsMemory (feeds_of pools devices trace one place) ⊎ WantsMemory (feeds_of pools devices trace other place)

  -- the same report, so the same replies and histories of shards, the same end of the lines, and the same histories of cells
  pub record ComeToTheSame : Type 0 where
    pub report : other.report ≡ one.report
    pub ending : other.ending ≡ one.ending
    pub cells : (i : ℕ) (cell there : OnHeap) → slice_get one.closed.cells i ≡ Some cell → slice_get other.closed.cells i ≡ Some there → there.value.history ≡ cell.value.history

  -- At a line before which both came to the same, two contents of one digest are in hand, which a reply shows, a patch began from or a feed picked; or a feed wanted memory there.
  pub data MayPart : Type 0 where
    shows : ShowsTwo trace one.run.work.lines other.run.work.lines → MayPart
    replays : ReplaysTwo trace one.run.work.lines other.run.work.lines one.run.work.stopped other.run.work.stopped → MayPart
    picks : PicksThere → MayPart
    memory : WantsMemoryThere → MayPart

-- Two runs of one trace with one caller, over a pool and a device that tell the same bytes, of which the same calls failed, come to the same; but for these cases.
abbrev pub RunsAreAlike : {P D : Type 0} → Ghosts P → Devices D → Type 0
RunsAreAlike pools devices = (trace : Trace) (one other : OneRun pools devices trace) → IsFormed trace → trace.config.callers ≡ 1
    → BeginAlike pools devices trace one other → FailAlike pools devices trace one other → ComeToTheSame pools devices trace one other ⊎ MayPart pools devices trace one other

-- ---- the runs that `run` tells of

-- Each report with one caller, of a trace that has a line on an object, a sync or a feed, is of such a run: of the pool and the device that were handed in, of the trace with the bound of a feed that the device
-- gives, with the work that the report's clause has. (A report of any other trace of one caller is a plain function of what its calls were answered: `plain_report`.)
abbrev pub ReportsAreRuns : {P D : Type 0} → Ghosts P → Devices D → Type 0
ReportsAreRuns {P} {D} pool device = (before after : Handed P D) (answer : Status) (closed : Ended OnHeap) (report : Report) (r : IsReport pool device before after answer closed report)
    → r.trace.config.callers ≡ 1 → has_further r.trace.ops ≡ true
    → IsFormed (with_bound r.trace (device_len device.size before.cache)) × ((run : OneRun pool device (with_bound r.trace (device_len device.size before.cache)))
    × (run.before ≡ before.pool) × (run.after ≡ after.pool) × (run.handed ≡ before.cache) × (run.started ≡ r.started) × (run.back ≡ usable device after.cache) × (run.first ≡ r.first)
    × (run.ending ≡ r.ending) × (run.closed ≡ closed) × (run.report ≡ report) × (run.run.work ≡ r.run.work))
