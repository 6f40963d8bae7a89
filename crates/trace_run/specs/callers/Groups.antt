-- Several callers between two groups of a trace: what all lines so far came to.
use Rattle.std.specs.Prelude.{◌≡◌, ◌⊎◌, ◌<◌, ◌≤◌, ◌+◌, ◌%◌, ◌^◌, ℕ, suc, Bool, true, false, List, [], ◌∷◌, Result, Ok, Err, Option, Some, None, count_by, length, map, slice_get, slice_index_or, take, ◌++◌}
use Rattle.std.specs.List.{AllByRecursion}
use Rattle.blk_ptr.specs.Size.{sector}
use Rattle.blk_ptr.specs.declared.ptr.Ptr.{Ptr}
use Rattle.turn_table.specs.Places.{Place}
use Rattle.arc_table.specs.declared.view.Known.{Known}
use Rattle.arc_core.specs.declared.served.Restored.{Restored}
use Rattle.arc_table.specs.Cache.{Cache}
use Rattle.arc_core.specs.declared.config.Config.{Config}
use Rattle.arc_table.specs.Fronts.{StartsWith, front_of}
use Rattle.arc_table.specs.Items.{Meanings}
use Rattle.arc_table.specs.Seen.{seen_of}
use Rattle.dbuf_cells.specs.Turns.{OnHeap, PartyPlace, dbuf_meanings}
use Rattle.dbuf_state.specs.Numbers.{opening_numbers}
use Rattle.dbuf_state.specs.Soundness.{IsSound}
use Rattle.txg_sync.specs.Items.{SyncItem}
use Rattle.txg_sync.specs.Turns.{synced_in}
use Rattle.txg_sync.specs.declared.syncing.SyncFault.{SyncFault}
use Rattle.txg_sync.specs.declared.syncing.SyncFault.TheVariants as sync_fault
use Rattle.txg_sync.specs.declared.syncing.Synced.{Synced as SyncAnswer}
use Rattle.trace_text.specs.declared.op.Op.{Op}
use Rattle.trace_text.specs.declared.op.Op.TheVariants.{Cap, Feed, Txg}
use Rattle.trace_text.specs.declared.reply.Reply.{Reply}
use Rattle.trace_text.specs.declared.reply.Reply.TheVariants.{Capped, Synced}
use Rattle.trace_text.specs.declared.trace.Trace.{Trace}
use Rattle.vdev_io.specs.declared.device.CacheDev.{Ghosts as Devices}
use Rattle.vdev_io.specs.declared.pool.Pool.{Ghosts}
use Rattle.trace_run.specs.declared.device.Device.{Device}
use Rattle.trace_run.specs.declared.groups.Crew.{Crew}
use Rattle.trace_run.specs.declared.ran.Ending.{Ending}
use Rattle.trace_run.specs.declared.ran.Ending.TheVariants.{Whole, Fork, Sync, Full}
use Rattle.trace_run.specs.declared.kept_blocks.KeptBlock.{KeptBlock}
use Rattle.trace_run.specs.Answers.{AnswersFeed, is_pool_fault}
use Rattle.trace_run.specs.dbufs.CellEnds.{done_by}
use Rattle.trace_run.specs.Deeds.{events_of_cell}
use Rattle.trace_run.specs.callers.Group.{AllWorked, HaveWorked, IsAt, LeavesFront}
use Rattle.trace_run.specs.Devices.{lent_in}
use Rattle.trace_run.specs.FeedSeries.{AreMadeSoFar}
use Rattle.trace_run.specs.Feeds.{is_feed}
use Rattle.trace_run.specs.KeptBlocks.{read_of}
use Rattle.trace_run.specs.Lines.{caller_of, replies_where}
use Rattle.trace_run.specs.Meeting.{IsFed, Resized, Waits}
use Rattle.trace_run.specs.dbufs.Objects.{Line, Work, no_work, replies_of}
use Rattle.trace_run.specs.Openings.{Knows, openings_of}
use Rattle.trace_run.specs.one_caller.OverShards.{AreNamed}
use Rattle.trace_run.specs.Restores.{events_by_feeder, restores_in}
use Rattle.trace_run.specs.Syncing.{SyncedJoined, lines_of, noted_of}
use Rattle.trace_run.specs.RunWork.{AllFit, IsRunWork, RunWork, acts_of_syncs, kept_after_lines, lines_of_caller, lines_of_feeder, noted_of_syncs}
use Rattle.trace_run.specs.callers.Beside.{FeedsBeside, WorksBeside}
use Rattle.trace_run.specs.callers.DeviceForks.{UsedInGroups}
use Rattle.trace_run.specs.callers.Looking.{HaveLooked}
use Rattle.trace_run.specs.callers.WorkLines.{AnswersLines, AreLinesOf, HasFront, acts_of_work, calls_of_lines, noted_of_work}
use Rattle.trace_run.specs.callers.Together.{AreCut, BeginsGroup, BetweenGroups, ForkFailed, IsCutLast, IsFirstPlace, StoppedAt, StopsSync, WorkInGroups, between_groups, groups_done, over_callers}
use Rattle.trace_run.specs.MadeLines.{IsMaker, OwnPasses}
use mathlib.Core.Option.{some}
use lib.ListN.{get_elem?}

-- the line gave a capacity, and is answered so; or it is a sync that is answered; or it asked for a feed, and is answered by its report, or by none
abbrev pub IsEndLine : Op → Reply → Type 0
IsEndLine op reply = ((c : ℕ) × (op ≡ Cap c) × (reply ≡ Capped c)) ⊎ (((t group blocks bytes : ℕ) × (op ≡ Txg t) × (reply ≡ Synced group blocks bytes)) ⊎ ((op ≡ Feed) × AnswersFeed reply))

-- the lines among these that are no caller's are
abbrev pub AreEndLines : List Op → List Reply → Type 0
AreEndLines ops replies = (k : ℕ) (op : Op) → slice_get ops k ≡ Some op → caller_of op ≡ None → (reply : Reply) × (slice_get replies k ≡ Some reply) × IsEndLine op reply

-- these callers keep nothing
abbrev pub KeepNothing : List (List KeptBlock) → Type 0
KeepNothing = AllByRecursion (λ reads. reads ≡ [])

-- the reads that these callers keep hold the entries of their blocks
abbrev pub AreNamedAll : List Ptr → List (List KeptBlock) → Type 0
AreNamedAll blocks = AllByRecursion (λ reads. AreNamed blocks (map read_of reads))

module _ {C : Type 0} where
  -- What a caller has come to by its own lines, each with its work: they are answered, what it did is told, and it stands by itself with what they say that
  -- it keeps. Syncs write from this place on.
  pub record HasCome (cache : Cache) (pool_len : ℕ) (image : Option (List ℕ)) (place : ℕ) (blocks : List Ptr) (n : ℕ) (lines : List Line) (kept : List KeptBlock) (p : Place (Known C)) : Type 0 where
    pub waits : Waits cache n (acts_of_work cache.config blocks [] lines) (noted_of_work lines) kept p
    pub keeps : map read_of kept ≡ kept_after_lines blocks [] lines
    pub answers : AnswersLines cache.config pool_len image place blocks p.own.about.openings p.own.seen n [] [] lines

  -- the caller of a number in a crew
  pub record ComesAt (cache : Cache) (pool_len : ℕ) (image : Option (List ℕ)) (place : ℕ) (blocks : List Ptr) (n : ℕ) (lines : List Line) (crew : Crew C) : Type 0 where
    pub reads : List KeptBlock
    pub party : Place (Known C)
    pub at : IsAt n crew.kept.items crew.parties.items reads party
    pub come : HasCome cache pool_len image place blocks n lines reads party

  -- Each place of a shard's history, as far as the parties of a crew have seen it, has the one of them as its owner that made what stands there. A pass has its number.
  pub record AreMakers (g : Config) (shard : ℕ) (owner : (place : ℕ) → ℕ) (crew : Crew C) : Type 0 where
    pub callers : (n : ℕ) (p : Place (Known C)) → get_elem? crew.parties.items n ≡ some p → IsMaker g shard owner n p
    pub feeder : IsMaker g shard owner g.callers crew.feeder
    pub passes : OwnPasses g owner (seen_of g shard crew.feeder)

  -- All callers and the feeder have come to this by these lines, with this work beside their replies, where these keys were restored. What the feeder
  -- has seen of each shard begins with the restores, and is cut by the lines that end groups.
  pub record HaveCome (cache : Cache) (restored : List Restored) (pool_len : ℕ) (image : Option (List ℕ)) (place : ℕ) (blocks : List Ptr) (ops : List Op) (replies : List Reply) (work : RunWork) (crew : Crew C) : Type 0 where
    pub did : IsRunWork cache.config ops replies work
    pub unended : work.ended ≡ []
    pub kepts : length crew.kept.items ≡ cache.config.callers
    pub parties : length crew.parties.items ≡ cache.config.callers
    pub each : (n : ℕ) → n < cache.config.callers → ComesAt cache pool_len image place blocks n (lines_of_caller n work.lines) crew
    pub ended : AreEndLines ops replies
    pub feeder : IsFed cache crew.feeder.own.about.openings (events_by_feeder cache.config restored ops replies work.feeds) (λ shard. seen_of cache.config shard crew.feeder)
        (acts_of_syncs cache.config blocks work) (noted_of_syncs work) crew.feeder
    pub begun : (shard : ℕ) → shard < cache.config.shards → StartsWith (seen_of cache.config shard crew.feeder) (restores_in cache.config restored shard)
    pub cut : (shard : ℕ) → shard < cache.config.shards → (owner : (place : ℕ) → ℕ) → AreMakers cache.config shard owner crew → AreCut cache.config restored blocks shard owner work (seen_of cache.config shard crew.feeder)

-- What the pool counts once the callers did these lines, group by group; it tells what it told up to the place from which syncs write.
pub record HaveCounted {P : Type 0} (pools : Ghosts P) (place callers : ℕ) (lines : List Line) (before now : P) : Type 0 where
  pub keeps : LeavesFront pools place before now
  pub reads : pools.reads before < 2 ^ 63 → pools.reads now ≡ pools.reads before + over_callers callers (λ n. length (calls_of_lines (lines_of_caller n lines)))
  pub faults : pools.faults before < 2 ^ 63 → pools.faults now ≡ pools.faults before + over_callers callers (λ n. count_by is_pool_fault (replies_of (lines_of_caller n lines)))

-- A sync took these cells behind these lines. Each began as the trace's lines say, and each caller, and the feeder, had done to it just what these lines did. What this party has seen of it
-- begins with that; behind it stand the sync's blocks, and what it noted of them is its work.
pub record StoodSo (openings : List (List ℕ)) (config : Config) (p : PartyPlace) (before : List Line) (tick : ℕ) (work : Work) (cells : List OnHeap) (xs : List SyncItem) : Type 0 where
  pub many : length cells ≡ config.cells
  pub sound : (i : ℕ) (c : OnHeap) → slice_get cells i ≡ Some c → IsSound c.value
  pub began : (i : ℕ) (c : OnHeap) → slice_get cells i ≡ Some c → opening_numbers c.value.limit c.value.opening ≡ slice_index_or openings i []
  pub seen : (i : ℕ) (c : OnHeap) → slice_get cells i ≡ Some c → StartsWith (front_of i p.own.seen) (lines_of c.value.history ++ lines_of (synced_in config.callers i xs))
  pub did : (i : ℕ) (c : OnHeap) → slice_get cells i ≡ Some c → (n : ℕ) → n < config.callers → done_by n c.value.history ≡ events_of_cell i (noted_of_work (lines_of_caller n before))
  pub fed : (i : ℕ) (c : OnHeap) → slice_get cells i ≡ Some c → done_by config.callers c.value.history ≡ events_of_cell i (noted_of_work (lines_of_feeder before))
  pub noted : work.noted ≡ noted_of config.callers xs

-- A sync that stopped, as the line that it would have been; it is not answered.
abbrev pub stopped_line : RunWork → Line
stopped_line work = record { op = Txg 0; reply = Synced 0 0 0; work = work.stopped }

-- the lines that were answered, and behind them a sync that stopped
abbrev pub lines_with_stop : Ending → RunWork → List Line
lines_with_stop Whole work = work.lines
lines_with_stop Fork work = work.lines
lines_with_stop Sync work = work.lines ++ stopped_line work ∷ []
lines_with_stop (Full need left) work = work.lines ++ stopped_line work ∷ []

-- The next group has a number, and its sync a place: they are such that it may be done.
pub record MaySync {P : Type 0} (pools : Ghosts P) (lines : ℕ) (now : BetweenGroups P) : Type 0 where
  pub born : 0 < now.group
  pub few : now.group ≤ suc lines
  pub aligned : now.next % sector ≡ 0
  pub inside : now.next ≤ pools.size now.pool

-- What the callers, the pool and the cache device have come to by the groups of a trace that were done, of which so many lines are answered. Before them these were so; the first sync
-- writes from the place `before.next` on; and so the lines ended, or they go on.
pub record HaveReached {P D : Type 0} (cache : Cache) (restored : List Restored) (pools : Ghosts P) (devices : Devices D) (trace : Trace) (before now : BetweenGroups P) (was is : Device D) (ending : Ending) (replies : List Reply) (work : RunWork) (crew : Crew OnHeap) : Type 0 where
  pub few : length replies ≤ length trace.ops
  pub come : HaveCome cache restored (pools.size before.pool) (pools.told before.pool) before.next trace.blocks (take (length replies) trace.ops) replies work crew
  -- the feeder knows how the cells began
  pub knows : Knows (openings_of trace) crew.feeder
  -- syncs write behind all declared blocks
  pub first : IsFirstPlace (pools.size before.pool) trace.blocks before.next
  pub behind : before.next ≤ now.next
  pub counted : HaveCounted pools before.next cache.config.callers work.lines before.pool now.pool
  -- what the pool told as the group of each line began, by the lines' places
  pub told : (k : ℕ) → Option (List ℕ)
  pub told_front : (k : ℕ) → HasFront before.next (pools.told before.pool) (told k)
  -- several callers did so group by group; what one caller did stands elsewhere
  pub groups : 2 ≤ cache.config.callers → WorkInGroups pools cache.config (StoodSo (openings_of trace) cache.config crew.feeder) told [] (groups_done ending work.lines) before now
  pub used : 2 ≤ cache.config.callers → UsedInGroups devices trace.blocks cache.config.callers (groups_done ending work.lines) work.feeds (lent_in was) (lent_in is)
  -- each feed went on where the one before it left the ring
  pub fed : AreMadeSoFar dbuf_meanings devices cache restored work.feeds was is crew.feeder
  -- each line on an object looked behind all groups before its own, and before all behind it; a sync that stopped ends one too
  pub looked : HaveLooked cache.config (pools.size before.pool) told (lines_with_stop ending work) crew.parties.items

-- The callers stand between two groups of a trace.
pub record AreBetween {P D : Type 0} (cache : Cache) (restored : List Restored) (pools : Ghosts P) (devices : Devices D) (trace : Trace) (before now : BetweenGroups P) (was is : Device D) (replies : List Reply) (work : RunWork) (crew : Crew OnHeap) : Type 0 where
  pub reached : HaveReached cache restored pools devices trace before now was is Whole replies work crew
  pub begins : length replies < length trace.ops → BeginsGroup trace.ops (length replies)
  pub goes_on : work.stopped ≡ no_work
  pub may_sync : MaySync pools (length replies) now

-- The lines of a group were done at once, and these are the replies to them in their order, each line with its work; those to the lines `feed` among them are the feeder's.
pub record DidLinesAtOnce {P D : Type 0} (m : Meanings OnHeap) (cache : Cache) (pools : Ghosts P) (devices : Devices D) (blocks : List Ptr) (ops : List Op) (before after : P) (was now : Device D) (old new : Crew OnHeap) (replies : List Reply) : Type 0 where
  pub lines : List Line
  pub are : AreLinesOf ops replies lines
  pub fits : AllFit cache.config lines
  pub worked : HaveWorked cache pools blocks (length old.parties.items) before after (λ n. lines_of_caller n lines) old.kept.items old.parties.items new.kept.items new.parties.items
  pub beside : WorksBeside m devices cache blocks ops (length old.parties.items) (λ n. lines_of_caller n lines) (replies_where is_feed ops replies) was now old.feeder new.feeder

-- Lines of callers and of the feeder were done, at once or one after another, and these are the replies to them in their order, each line with its work.
pub record DidLinesOfAll {P D : Type 0} (m : Meanings OnHeap) (cache : Cache) (pools : Ghosts P) (devices : Devices D) (blocks : List Ptr) (ops : List Op) (before : P) (was now : Device D) (old new : Crew OnHeap) (replies : List Reply) : Type 0 where
  pub lines : List Line
  pub are : AreLinesOf ops replies lines
  pub fits : AllFit cache.config lines
  pub worked : AllWorked cache pools blocks (length old.parties.items) before (λ n. lines_of_caller n lines) old.kept.items old.parties.items new.kept.items new.parties.items
  pub beside : FeedsBeside m devices cache ops (replies_where is_feed ops replies) was now old.feeder new.feeder

-- every shard was given a capacity
pub record DidCap {C P : Type 0} (cache : Cache) (c : ℕ) (from to : BetweenGroups P) (old new : Crew C) (came : Result Reply Ending) : Type 0 where
  pub answer : came ≡ Ok (Capped c)
  pub resized : Resized cache c old.feeder old.parties.items new.feeder new.parties.items
  pub stays : to ≡ between_groups from.pool (suc from.group) from.next

-- What a sync came to is told so: the next group stands behind it; or the lines end there.
abbrev pub TellsSync : {P : Type 0} → (from to : BetweenGroups P) → Result SyncAnswer SyncFault → Result Reply Ending → Type 0
TellsSync from to (Ok done) came = (came ≡ Ok (Synced from.group done.blocks done.bytes)) × (to.group ≡ suc from.group) × (to.next ≡ done.next) × (done.next % sector ≡ 0)
TellsSync from to (Err sync_fault.PoolFault) came = came ≡ Err Sync
TellsSync from to (Err (sync_fault.PoolFull need left)) came = came ≡ Err (Full need left)
TellsSync from to (Err sync_fault.NoMemory) came = ⊥

-- all dirty blocks were written at this tick, or the sync stopped
pub record DidSync {P : Type 0} (cache : Cache) (pools : Ghosts P) (t : ℕ) (from to : BetweenGroups P) (old new : Crew OnHeap) (came : Result Reply Ending) : Type 0 where
  pub sync : Result SyncAnswer SyncFault
  pub synced : SyncedJoined pools cache from.group t from.next from.pool to.pool old.feeder old.parties.items new.feeder new.parties.items sync
  -- what it left of the pool's bytes
  pub leaves : LeavesFront pools from.next from.pool to.pool
  pub told : TellsSync from to sync came

-- a line that ends a group was done, and this is the reply, or how the lines end
pub record DidEndLine {P : Type 0} (cache : Cache) (pools : Ghosts P) (op : Op) (from to : BetweenGroups P) (old new : Crew OnHeap) (came : Result Reply Ending) : Type 0 where
  pub did : ((c : ℕ) × (op ≡ Cap c) × DidCap cache c from to old new came) ⊎ ((t : ℕ) × (op ≡ Txg t) × DidSync cache pools t from to old new came)
  pub kept : new.kept.items ≡ old.kept.items

-- How the lines ended, behind the groups that were done, with this party of the feeder: all are answered; or a fork of the pool failed; or a sync stopped, which did this.
abbrev pub EndsLines : {P : Type 0} → Ghosts P → Cache → Trace → List Reply → PartyPlace → RunWork → Ending → (reached : BetweenGroups P) → (after : P) → Type 0
EndsLines pools cache trace replies p work Whole reached after = (work.stopped ≡ no_work) × (length replies ≡ length trace.ops) × (after ≡ reached.pool)
EndsLines pools cache trace replies p work Fork reached after = (work.stopped ≡ no_work) × (length replies < length trace.ops) × BeginsGroup trace.ops (length replies) × ForkFailed pools cache.config.callers reached.pool after
EndsLines pools cache trace replies p work Sync reached after =
    StopsSync pools cache.config (StoodSo (openings_of trace) cache.config p) trace replies work.lines work.stopped sync_fault.PoolFault reached after
EndsLines pools cache trace replies p work (Full need left) reached after =
    StopsSync pools cache.config (StoodSo (openings_of trace) cache.config p) trace replies work.lines work.stopped (sync_fault.PoolFull need left) reached after

-- All lines of the trace were done; or a fork of the pool failed before the group of the first line that isn't answered; or a sync stopped at that line.
pub record AreDone {P D : Type 0} (cache : Cache) (restored : List Restored) (pools : Ghosts P) (devices : Devices D) (trace : Trace) (before : BetweenGroups P) (after : P) (was is : Device D) (ending : Ending) (replies : List Reply) (work : RunWork) (crew : Crew OnHeap) : Type 0 where
  pub now : BetweenGroups P
  pub reached : HaveReached cache restored pools devices trace before now was is ending replies work crew
  pub ended : EndsLines pools cache trace replies crew.feeder work ending now after
  -- a sync that stopped has its place behind all lines
  pub last : (t : ℕ) → StoppedAt trace replies ending t → (shard : ℕ) → shard < cache.config.shards → (owner : (place : ℕ) → ℕ) → AreMakers cache.config shard owner crew
      → IsCutLast cache.config restored trace.blocks shard owner t work (seen_of cache.config shard crew.feeder)

-- the lines go on behind a group that came to this
abbrev pub goes_on : Ending → Bool
goes_on Whole = true
goes_on Fork = false
goes_on Sync = false
goes_on (Full need left) = false

-- The next group was done, and the lines go on; or none of it was begun, since a fork of the pool failed; or its lines were done, and its sync stopped.
abbrev pub StepsOn : {P D : Type 0} → Cache → List Restored → Ghosts P → Devices D → Trace → (start after : BetweenGroups P) → (was is : Device D) → (replied replies : List Reply) → Ending → Crew OnHeap → Type 0
StepsOn cache restored pools devices trace start after was is replied replies Whole new =
    (work : RunWork) × AreBetween cache restored pools devices trace start after was is replies work new × (length replied < length replies)
StepsOn cache restored pools devices trace start after was is replied replies Fork new = (work : RunWork) × AreDone cache restored pools devices trace start after.pool was is Fork replies work new
StepsOn cache restored pools devices trace start after was is replied replies Sync new = (work : RunWork) × AreDone cache restored pools devices trace start after.pool was is Sync replies work new
StepsOn cache restored pools devices trace start after was is replied replies (Full need left) new = (work : RunWork) × AreDone cache restored pools devices trace start after.pool was is (Full need left) replies work new
