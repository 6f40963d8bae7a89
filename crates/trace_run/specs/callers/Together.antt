-- A run of several callers, group by group: which operations were answered, what each caller's work did to its forks of the pool, and what the closed
-- cache tells.
use Rattle.std.specs.Prelude.{◌≡◌, ◌⊎◌, Ok, Err, ℕ, zero, suc, ◌+◌, ◌<◌, ◌≤◌, ◌==◌, ◌&&◌, Bool, IsTrue, true, false, if◌then◌else◌, List, [], ◌∷◌, ◌++◌, Option, None, Some, count_by, length, map, slice_get, slice_index_or, sum_by, take}
use Rattle.blk_ptr.specs.declared.ptr.Ptr.{Ptr}
use Rattle.blk_ptr.specs.Hash.{shard_of}
use Rattle.blk_ptr.specs.Key.{IsValid, key_end}
use Rattle.arc_core.specs.declared.config.Config.{Config}
use Rattle.arc_core.specs.declared.event.Event.{Event}
use Rattle.arc_core.specs.declared.event.Event.TheVariants.{Resize}
use Rattle.arc_core.specs.declared.served.Restored.{Restored}
use Rattle.arc_core.specs.Operations.{Act, Tell, acts_in, are_passes_placed, is_pool_read, moments, number_of, own_events, own_moments}
use Rattle.arc_table.specs.Geometry.{IsCell, cell_number, parties_of}
use Rattle.arc_table.specs.Telling.{opening_of}
use Rattle.arc_table.specs.Ended.{Ended}
use Rattle.dbuf_cells.specs.Turns.{OnHeap}
use Rattle.dbuf_state.specs.Soundness.{IsSound}
use Rattle.dbuf_state.specs.declared.event.CellEvent.{CellEvent}
use Rattle.txg_sync.specs.Items.{SyncItem}
use Rattle.txg_sync.specs.Syncing.{AnswersWith}
use Rattle.txg_sync.specs.Turns.{synced_in}
use Rattle.txg_sync.specs.declared.syncing.SyncFault.{SyncFault}
use Rattle.txg_sync.specs.declared.syncing.SyncFault.TheVariants as sync_fault
use Rattle.txg_sync.specs.declared.syncing.Synced.{Synced as SyncAnswer}
use Rattle.trace_text.specs.declared.op.Op.{Op}
use Rattle.trace_text.specs.declared.op.Op.TheVariants.{Read, Hold, Drop, Get, Put, Patch, Pin, Unpin, Feed, Cap, Txg}
use Rattle.trace_text.specs.declared.reply.Reply.{Reply}
use Rattle.trace_text.specs.declared.reply.Reply.TheVariants.{Synced}
use Rattle.trace_text.specs.declared.rebuilt.Rebuilt.{Rebuilt}
use Rattle.trace_text.specs.declared.report.Report.{Report}
use Rattle.trace_text.specs.declared.trace.Trace.{Trace}
use Rattle.vdev_io.specs.declared.pool.Pool.{Ghosts}
use Rattle.vdev_io.specs.Faults.{Rose, counted_more, last_count, sum_of_counts}
use Rattle.arc_check.specs.Judging.{end_of}
use Rattle.trace_run.specs.declared.ran.Ending.{Ending}
use Rattle.trace_run.specs.declared.ran.Ending.TheVariants.{Whole, Fork, Sync, Full}
use Rattle.trace_run.specs.Answers.{is_pool_fault}
use Rattle.trace_run.specs.dbufs.CellEnds.{done_by}
use Rattle.trace_run.specs.Deeds.{Noted, acts_of_events, events_of_cell, with_number}
use Rattle.trace_run.specs.Feeds.{FeedDone}
use Rattle.trace_run.specs.dbufs.Objects.{Line, Work, no_work, ops_of, replies_of}
use Rattle.trace_run.specs.one_caller.PlainRun.{status_of}
use Rattle.trace_run.specs.Restores.{events_by_feeder, found_keys}
use Rattle.trace_run.specs.RunWork.{RunWork, lines_of_caller, lines_of_feeder, lines_of_party}
use Rattle.trace_run.specs.Syncing.{inserts_noted, noted_of}
use Rattle.trace_run.specs.callers.WorkLines.{acts_of_work, calls_of_lines, noted_of_work}
use Rattle.vdev_io.specs.Calls.{MakesCalls}
use Rattle.trace_run.specs.MadeLines.{owned_from}

-- The report tells what the closed cache had: the history of each shard, and what the shard ends with.
pub record TellsClosed {C : Type 0} (closed : Ended C) (report : Report) : Type 0 where
  pub histories : report.histories ≡ map (λ log. log.history) closed.shards
  pub ends : report.ends ≡ map (λ log. end_of log.now) closed.shards

-- The operations that were answered: all of the trace; or those before the group for which a fork of the pool failed, or before the sync that stopped.
abbrev pub answered_ops : Trace → Ending → List Reply → List Op
answered_ops trace Whole replies = trace.ops
answered_ops trace Fork replies = take (length replies) trace.ops
answered_ops trace Sync replies = take (length replies) trace.ops
answered_ops trace (Full need left) replies = take (length replies) trace.ops

-- the status of a report: 6 where the pool failed in a fork or a sync, 8 where it had no room for a sync, and else 1 where some reply is a refusal, and 0
abbrev pub report_status : Ending → List Reply → ℕ
report_status Whole replies = status_of replies
report_status Fork replies = 6
report_status Sync replies = 6
report_status (Full need left) replies = 8

-- how many faults of the pool are told: one for each reply that says so, and one more where a fork or a sync failed
abbrev pub faults_told : Ending → List Reply → ℕ
faults_told Whole replies = count_by is_pool_fault replies
faults_told Fork replies = count_by is_pool_fault replies + 1
faults_told Sync replies = count_by is_pool_fault replies + 1
faults_told (Full need left) replies = count_by is_pool_fault replies

-- the report of a run with these replies, over a shared cache that closed so, where this was found on the cache device; no workers read for callers
abbrev pub report_of_closed : {C : Type 0} → Ending → Option Rebuilt → List Reply → Ended C → Report
report_of_closed ending rebuilt replies closed = record {
  replies = replies;
  histories = map (λ log. log.history) closed.shards;
  ends = map (λ log. end_of log.now) closed.shards;
  io = None;
  rebuilt = rebuilt;
  status = report_status ending replies;
  short = false;
}

-- f of each of the first so many callers, added up
abbrev pub over_callers : (callers : ℕ) → (ℕ → ℕ) → ℕ
over_callers zero f = 0
over_callers (suc n) f = over_callers n f + f n

-- A caller's work on a pool of its own: it read that pool once for each of its lines that says so, in their order, and was answered so;
-- and it did nothing else with it. So it was on a fork, which begins with counts of zero, or on the pool that was handed in.
pub record Works {P : Type 0} (pool : Ghosts P) (n : ℕ) (lines : List Line) (before after : P) : Type 0 where
  pub made : MakesCalls pool (calls_of_lines (lines_of_caller n lines)) before after

-- how many reads of the pool a caller's events stand for, over all shards
abbrev pub reads_of_caller : (n : ℕ) → List (List Event) → ℕ
reads_of_caller n histories = sum_by (λ history. count_by (λ e. is_pool_read e && number_of e == n) history) histories

-- ---- groups

-- The line ends its group, and is done once all callers have come back. A feed does not: the feeder does it while the callers do theirs.
abbrev pub ends_group : Op → Bool
ends_group (Read n t x window) = false
ends_group (Hold n t x) = false
ends_group (Drop n x) = false
ends_group (Get n t at window) = false
ends_group (Put n t at size fill) = false
ends_group (Patch n t at from bytes) = false
ends_group (Pin n t at) = false
ends_group (Unpin n at) = false
ends_group Feed = false
ends_group (Txg t) = true
ends_group (Cap c) = true

-- a group begins with the line of this number: it is the first line, or the one before it ends a group
abbrev pub BeginsGroup : List Op → ℕ → Type 0
BeginsGroup ops zero = Unit {0}
BeginsGroup ops (suc k) = (op : Op) × (slice_get ops k ≡ Some op) × (ends_group op ≡ true)

-- the replies end before a group: the line behind the last one that was answered is its first
pub record StopsAtGroup (trace : Trace) (replies : List Reply) : Type 0 where
  pub some : length replies < length trace.ops
  pub begins : BeginsGroup trace.ops (length replies)

-- the replies end before a sync: the line behind the last one that was answered is it
pub record StopsAtSync (trace : Trace) (replies : List Reply) : Type 0 where
  pub tick : ℕ
  pub at : slice_get trace.ops (length replies) ≡ Some (Txg tick)

-- the lines ended by a sync of this tick, which stopped
abbrev pub StoppedAt : Trace → List Reply → Ending → (tick : ℕ) → Type 0
StoppedAt trace replies Whole tick = ⊥
StoppedAt trace replies Fork tick = ⊥
StoppedAt trace replies Sync tick = slice_get trace.ops (length replies) ≡ Some (Txg tick)
StoppedAt trace replies (Full need left) tick = slice_get trace.ops (length replies) ≡ Some (Txg tick)

-- Where a run stopped: before a group for which a fork failed, or before a sync that failed or for which there was no room. The pool's faults rose where it
-- failed.
abbrev pub StopsSo : {P : Type 0} → Ghosts P → (before after : P) → Trace → List Reply → Ending → Type 0
StopsSo pool before after trace replies Whole = Unit {0}
StopsSo pool before after trace replies Fork = Rose (pool.faults before) (pool.faults after) × StopsAtGroup trace replies
StopsSo pool before after trace replies Sync = Rose (pool.faults before) (pool.faults after) × StopsAtSync trace replies
StopsSo pool before after trace replies (Full need left) = StopsAtSync trace replies

-- A fork of the pool for a caller failed: those that were made were taken back unread, and the pool has counted the fault. One fork more was asked for than were made, and no more than there are callers.
pub record ForkFailed {P : Type 0} (pool : Ghosts P) (callers : ℕ) (before after : P) : Type 0 where
  pub size : pool.size after ≡ pool.size before
  pub told : pool.told after ≡ pool.told before
  pub reads : pool.reads before ≤ last_count → pool.reads after ≡ pool.reads before
  pub faults : pool.faults before < last_count → pool.faults after ≡ pool.faults before + 1
  pub rose : Rose (pool.faults before) (pool.faults after)
  -- so many forks were made
  pub made : ℕ
  pub some : made < callers
  pub others : pool.other_calls after ≡ counted_more (suc made) (pool.other_calls before)

-- the lines of a group, and the line that ends it; the last group may have none
pub record GroupLines : Type 0 where
  pub lines : List Line
  pub end : Option Line

-- one line more, before these groups
abbrev pub with_first : Line → List GroupLines → List GroupLines
with_first l [] = record { lines = l ∷ []; end = None } ∷ []
with_first l (group ∷ groups) = record { lines = l ∷ group.lines; end = group.end } ∷ groups

-- The groups of lines that were answered. Behind the last line that ends one there is a group only where lines are.
abbrev pub groups_of : List Line → List GroupLines
groups_of [] = []
groups_of (l ∷ ls) = if ends_group l.op then (record { lines = []; end = Some l } ∷ groups_of ls) else with_first l (groups_of ls)

-- The same, and the last is one that no line ended, though it may have no line.
abbrev pub groups_begun : List Line → List GroupLines
groups_begun [] = record { lines = []; end = None } ∷ []
groups_begun (l ∷ ls) = if ends_group l.op then (record { lines = []; end = Some l } ∷ groups_begun ls) else with_first l (groups_begun ls)

-- The groups that were done where the lines ended so. Where a sync stopped, the lines of its group were done, though there may be none; the line of the sync is not answered.
abbrev pub groups_done : Ending → List Line → List GroupLines
groups_done Whole ls = groups_of ls
groups_done Fork ls = groups_of ls
groups_done Sync ls = groups_begun ls
groups_done (Full need left) ls = groups_begun ls

-- Callers did their lines of a group at once, each on a fork of the pool as it was then. The pool's counts rose by what the forks counted; a sum past the
-- last value of a count is that value.
pub record WorkAtOnce {P : Type 0} (pool : Ghosts P) (callers : ℕ) (group : GroupLines) (before after : P) : Type 0 where
  pub forks : ℕ → P
  pub done : ℕ → P
  pub size : (n : ℕ) → n < callers → pool.size (forks n) ≡ pool.size before
  pub told : (n : ℕ) → n < callers → pool.told (forks n) ≡ pool.told before
  pub fresh : (n : ℕ) → n < callers → (pool.reads (forks n) ≡ 0) × (pool.faults (forks n) ≡ 0)
  pub works : (n : ℕ) → n < callers → Works pool n group.lines (forks n) (done n)
  pub reads : pool.reads after ≡ sum_of_counts (pool.reads before) (over_callers callers (λ n. pool.reads (done n)))
  pub faults : pool.faults after ≡ sum_of_counts (pool.faults before) (over_callers callers (λ n. pool.faults (done n)))
  -- a fork was asked for once for each caller, and nothing else
  pub others : pool.other_calls after ≡ counted_more callers (pool.other_calls before)
  pub keeps : (pool.size after ≡ pool.size before) × (pool.told after ≡ pool.told before)

-- ---- between groups

-- what stands between two groups: the pool, the number of the next group, and the place from which its sync writes
pub record BetweenGroups (P : Type 0) : Type 0 where
  pub pool : P
  pub group : ℕ
  pub next : ℕ

abbrev pub between_groups : {P : Type 0} → P → (group next : ℕ) → BetweenGroups P
between_groups pool group next = record { pool = pool; group = group; next = next }

-- The first sync writes from this place on: the greatest end of the declared blocks whose keys name a block of a pool of this length; or 0, where
-- there are none.
pub record IsFirstPlace (pool_len : ℕ) (blocks : List Ptr) (place : ℕ) : Type 0 where
  pub behind : (k : ℕ) (ptr : Ptr) → slice_get blocks k ≡ Some ptr → IsValid pool_len ptr.key → key_end ptr.key ≤ place
  pub least : (place ≡ 0) ⊎ ((k : ℕ) × (ptr : Ptr) × (slice_get blocks k ≡ Some ptr) × IsValid pool_len ptr.key × (place ≡ key_end ptr.key))

-- What a sync is to say of cells: `Cells before tick work cells xs` that these are all cells as it took them behind these lines, and that it noted and inserted these blocks at the tick,
-- which is this work.
abbrev pub OfCells : Type 1
OfCells = (before : List Line) → (tick : ℕ) → Work → List OnHeap → List SyncItem → Type 0

-- lines, and the one that ends their group
abbrev pub lines_with_end : List Line → Option Line → List Line
lines_with_end ls None = ls
lines_with_end ls (Some l) = ls ++ l ∷ []

-- As the group of these lines began the pool told this, by the lines' places behind those before them.
abbrev pub ToldAsBegun : (told : (k : ℕ) → Option (List ℕ)) → (before lines : List Line) → Option (List ℕ) → Type 0
ToldAsBegun told before lines now = (j : ℕ) → j < length lines → told (length before + j) ≡ now

module _ {P : Type 0} (pool : Ghosts P) (config : Config) (Cells : OfCells) where
  -- All dirty blocks were written, from the place at which the sync before stopped, and the group's number is their birth; the reply tells how many.
  pub record SyncsGroup (before : List Line) (tick : ℕ) (reply : Reply) (work : Work) (from to : BetweenGroups P) : Type 0 where
    pub done : SyncAnswer
    pub answer : AnswersWith pool from.group from.next from.pool to.pool config (λ cells xs Besides. Cells before tick work cells xs) (Ok done)
    pub replied : reply ≡ Synced from.group done.blocks done.bytes
    pub group : to.group ≡ suc from.group
    pub next : to.next ≡ done.next

  -- a line that ends a group was done, behind these lines
  abbrev pub EndsBy : (before : List Line) → Op → Reply → Work → (from to : BetweenGroups P) → Type 0
  EndsBy before (Txg t) reply work from to = SyncsGroup before t reply work from to
  EndsBy before (Cap c) reply work from to = to ≡ between_groups from.pool (suc from.group) from.next
  EndsBy before Feed reply work from to = ⊥
  EndsBy before (Read n t x window) reply work from to = ⊥
  EndsBy before (Hold n t x) reply work from to = ⊥
  EndsBy before (Drop n x) reply work from to = ⊥
  EndsBy before (Get n t at window) reply work from to = ⊥
  EndsBy before (Put n t at size fill) reply work from to = ⊥
  EndsBy before (Patch n t at start bytes) reply work from to = ⊥
  EndsBy before (Pin n t at) reply work from to = ⊥
  EndsBy before (Unpin n at) reply work from to = ⊥

  abbrev pub EndsGroup : (before : List Line) → Option Line → (from to : BetweenGroups P) → Type 0
  EndsGroup before None from to = to ≡ from
  EndsGroup before (Some l) from to = EndsBy before l.op l.reply l.work from to

  -- A sync stopped at the line behind the last one that was answered, for this reason, and this is what it did. The blocks before the one in hand were written.
  pub record StopsSync (trace : Trace) (replies : List Reply) (before : List Line) (work : Work) (why : SyncFault) (from : BetweenGroups P) (after : P) : Type 0 where
    pub behind : StopsAtSync trace replies
    pub answer : AnswersWith pool from.group from.next from.pool after config (λ cells xs Besides. Cells before behind.tick work cells xs) (Err why)

  -- What the end of the lines did with the pool, behind the groups that were answered: nothing; but a fork may have failed, or a sync stopped, which did this.
  abbrev pub EndsRun : Trace → List Reply → (before : List Line) → Work → Ending → (from : BetweenGroups P) → (after : P) → Type 0
  EndsRun trace replies before work Whole from after = (work ≡ no_work) × (after ≡ from.pool)
  EndsRun trace replies before work Fork from after = (work ≡ no_work) × ForkFailed pool config.callers from.pool after
  EndsRun trace replies before work Sync from after = StopsSync trace replies before work sync_fault.PoolFault from after
  EndsRun trace replies before work (Full need left) from after = StopsSync trace replies before work (sync_fault.PoolFull need left) from after

  -- The callers did these groups, one after another, behind these lines: each at once, on forks of the pool as it was then, and then the line that ends it. By the lines' places this is what the pool
  -- told as the group of each began.
  abbrev pub WorkInGroups : (told : (k : ℕ) → Option (List ℕ)) → (before : List Line) → List GroupLines → (from to : BetweenGroups P) → Type 0
  WorkInGroups told before [] from to = to ≡ from
  WorkInGroups told before (group ∷ groups) from to =
      (worked : P) × (next : BetweenGroups P) × WorkAtOnce pool config.callers group from.pool worked × EndsGroup (before ++ group.lines) group.end (between_groups worked from.group from.next) next
      × ToldAsBegun told before group.lines (pool.told from.pool) × WorkInGroups told (lines_with_end (before ++ group.lines) group.end) groups next to

-- ---- what a line that ends a group puts into histories

-- The events that such a line asks of the feeder in a shard with this history: the new capacity; of a sync the Inserts of the blocks that it noted.
abbrev pub events_at_end : Config → (shard : ℕ) → Op → List Noted → (history : List Event) → List Event
events_at_end config shard (Cap c) noted history = Resize config.callers c ∷ []
events_at_end config shard (Txg t) noted history = inserts_noted config t noted shard history
events_at_end config shard Feed noted history = []
events_at_end config shard (Read n t x window) noted history = []
events_at_end config shard (Hold n t x) noted history = []
events_at_end config shard (Drop n x) noted history = []
events_at_end config shard (Get n t at window) noted history = []
events_at_end config shard (Put n t at size fill) noted history = []
events_at_end config shard (Patch n t at from bytes) noted history = []
events_at_end config shard (Pin n t at) noted history = []
events_at_end config shard (Unpin n at) noted history = []

-- At one place in the history of a shard stand these events, which go by what stands before. Before it stands all that these lines did there, by these feeds, and nothing else that a caller
-- or the feeder did, with its own number or with that of a cell. These acts of the feeder with the numbers of cells stand there.
pub record IsCut (config : Config) (restored : List Restored) (blocks : List Ptr) (shard : ℕ) (owner : (place : ℕ) → ℕ) (lines : List Line) (feeds : List FeedDone) (acts : List Act) (here : List Event → List Event) (history : List Event) : Type 0 where
  pub front : List Event
  pub rest : List Event
  pub whole : history ≡ front ++ (here front ++ rest)
  pub callers : (n : ℕ) → n < config.callers
      → Tell (acts_in (shard_of config.shards) shard n (acts_of_work config blocks [] (lines_of_caller n lines))) (own_moments n (moments (opening_of config) front))
  pub feeder : own_events config.callers front ≡ events_by_feeder config restored (ops_of lines) (replies_of lines) feeds shard
  pub cells : (n i : ℕ) → n < parties_of config → IsCell config i → acts_of_events (with_number (cell_number config i) (owned_from owner n 0 front))
      ≡ acts_in (shard_of config.shards) shard (cell_number config i) (acts_of_work config blocks [] (lines_of_party config n lines))
  pub inserted : (i : ℕ) → IsCell config i → acts_in (shard_of config.shards) shard (cell_number config i) acts ≡ acts_of_events (with_number (cell_number config i) (here front))
  -- nobody passes anybody just before these events: each pass of the front is followed there by what it was passed for
  pub quiet : IsTrue (are_passes_placed front)

-- Each line of these that ends a group cuts the history of a shard behind the lines before it. There stands what the line asks of the feeder.
abbrev pub AreCut : Config → List Restored → List Ptr → (shard : ℕ) → (owner : (place : ℕ) → ℕ) → RunWork → (history : List Event) → Type 0
AreCut config restored blocks shard owner work history =
    (k : ℕ) (l : Line) → slice_get work.lines k ≡ Some l → ends_group l.op ≡ true
    → IsCut config restored blocks shard owner (take k work.lines) work.feeds l.work.acts (events_at_end config shard l.op l.work.noted) history

-- So it is behind all lines, where a sync stopped there at this tick.
abbrev pub IsCutLast : Config → List Restored → List Ptr → (shard : ℕ) → (owner : (place : ℕ) → ℕ) → (tick : ℕ) → RunWork → (history : List Event) → Type 0
IsCutLast config restored blocks shard owner tick work history =
    IsCut config restored blocks shard owner work.lines work.feeds work.stopped.acts (inserts_noted config tick work.stopped.noted shard) history

-- ---- the cells at a sync

-- A cell of the closed cache stood so when a sync took it: it had begun in the same way, it was sound, and what had been done to it stands at the front of
-- what was done to it in all; just behind that stand these entries. Each caller, and the feeder, had done to it just what these lines did.
pub record HadThen (config : Config) (i : ℕ) (before : List Line) (news : List CellEvent) (cell closed : OnHeap) : Type 0 where
  pub limit : cell.value.limit ≡ closed.value.limit
  pub opening : cell.value.opening ≡ closed.value.opening
  pub sound : IsSound cell.value
  pub rest : List CellEvent
  pub whole : closed.value.history ≡ cell.value.history ++ (news ++ rest)
  pub did : (n : ℕ) → n < config.callers → done_by n cell.value.history ≡ events_of_cell i (noted_of_work (lines_of_caller n before))
  pub fed : done_by config.callers cell.value.history ≡ events_of_cell i (noted_of_work (lines_of_feeder before))

-- All cells did, and the feeder noted of each its blocks among these: that is the work.
pub record StoodThen (trace : Trace) (closed : List OnHeap) (before : List Line) (tick : ℕ) (work : Work) (cells : List OnHeap) (xs : List SyncItem) : Type 0 where
  pub count : length cells ≡ length closed
  pub each : (i : ℕ) (cell end : OnHeap) → slice_get cells i ≡ Some cell → slice_get closed i ≡ Some end → HadThen trace.config i before (synced_in trace.config.callers i xs) cell end
  pub noted : work.noted ≡ noted_of trace.config.callers xs

-- With two callers or more, each has a fork of the pool in each group, made as the group begins; the first sync writes from this place on. Where one fails, that group isn't begun, and the
-- pool has only counted that. Where a sync stops, the lines of its group are done, and none behind it is begun. By the lines' places this is what the pool told as the group of each began.
pub record RunsTogether {P : Type 0} (pool : Ghosts P) (before after : P) (place : ℕ) (told : (k : ℕ) → Option (List ℕ)) (trace : Trace) (ending : Ending) (work : RunWork) (owner : (shard place : ℕ) → ℕ) (closed : List OnHeap) (report : Report) : Type 0 where
  pub reached : BetweenGroups P
  pub groups : WorkInGroups pool trace.config (StoodThen trace closed) told [] (groups_done ending work.lines) (between_groups before 1 place) reached
  pub ended : EndsRun pool trace.config (StoodThen trace closed) trace report.replies work.lines work.stopped ending reached after
  -- each caller's reads of its forks are those that its events stand for
  pub counted : (n : ℕ) → n < trace.config.callers → length (calls_of_lines (lines_of_caller n work.lines)) ≡ reads_of_caller n report.histories
  -- a capacity is given to each shard, and a sync done, once all lines before it are done, and before any line behind it is begun
  pub cut : (shard : ℕ) → shard < length report.histories → AreCut trace.config (found_keys report.rebuilt) trace.blocks shard (owner shard) work (slice_index_or report.histories shard [])
  -- and so is a sync that stopped
  pub last : (t : ℕ) → StoppedAt trace report.replies ending t → (shard : ℕ) → shard < length report.histories → IsCutLast trace.config (found_keys report.rebuilt) trace.blocks shard (owner shard) t work (slice_index_or report.histories shard [])
