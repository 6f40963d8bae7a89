-- One caller with any lines: what these did, one after another, with the pool and the cache device that were handed in.
use Rattle.std.specs.Prelude.{◌⊎◌, Result, Ok, ◌≡◌, ◌<◌, ℕ, List, [], ◌∷◌, Option, Some, length, map, slice_get, slice_index_or}
use Rattle.std.specs.List.{AllByRecursion}
use Rattle.blk_ptr.specs.declared.ptr.Ptr.{Ptr}
use Rattle.arc_core.specs.declared.config.Config.{Config}
use Rattle.arc_table.specs.Cache.{Cache}
use Rattle.arc_table.specs.Seen.{events_in, seen_of}
use Rattle.arc_table.specs.declared.view.Line.{Line as Seen}
use Rattle.arc_core.specs.declared.served.Restored.{Restored}
use Rattle.dbuf_cells.specs.Turns.{OnHeap, PartyPlace, dbuf_meanings}
use Rattle.vdev_io.specs.declared.device.CacheDev.{Ghosts as Devices}
use Rattle.vdev_io.specs.declared.pool.Pool.{Ghosts}
use Rattle.trace_text.specs.declared.op.Op.{Op}
use Rattle.trace_text.specs.declared.op.Op.TheVariants as ops
use Rattle.trace_text.specs.declared.reply.Reply.{Reply}
use Rattle.trace_text.specs.declared.report.Report.{Report}
use Rattle.trace_text.specs.declared.trace.Trace.{Trace}
use Rattle.trace_run.specs.declared.groups.Crew.{Crew}
use Rattle.trace_run.specs.declared.kept_blocks.KeptBlock.{KeptBlock}
use Rattle.trace_run.specs.declared.ran.Ending.{Ending}
use Rattle.trace_run.specs.declared.ran.Ending.TheVariants.{Fork, Full, Sync, Whole}
use Rattle.trace_run.specs.declared.device.Device.{Device}
use Rattle.trace_run.specs.Devices.{IsHandedBack, lent_in}
use Rattle.trace_run.specs.FeedEvents.{events_of_made}
use Rattle.trace_run.specs.Feeds.{DoesFeeds, FeedDone, IsIdleFeeder}
use Rattle.trace_run.specs.Lines.{caller_of}
use Rattle.trace_run.specs.KeptBlocks.{read_of}
use Rattle.trace_run.specs.Meeting.{HasParted, IsLevel, MadeJoined, SeesEntries}
use Rattle.trace_run.specs.dbufs.Objects.{Line, no_work}
use Rattle.trace_run.specs.Openings.{AllKnow, openings_of}
use Rattle.trace_run.specs.Restores.{found_keys}
use Rattle.trace_run.specs.RunWork.{RunWork, lines_of_caller}
use Rattle.trace_run.specs.Syncing.{lines_of}
use Rattle.trace_run.specs.callers.Group.{HasWorked}
use Rattle.trace_run.specs.callers.Groups.{AreDone, DidEndLine, HaveReached, MaySync}
use Rattle.trace_run.specs.callers.Together.{AreCut, BetweenGroups, IsCutLast, StoppedAt, between_groups, reads_of_caller}
use Rattle.trace_run.specs.callers.WorkLines.{AreLinesOf, AsksGiven, calls_of_lines}
use Rattle.trace_run.specs.one_caller.Sequence.{AreInSequence, BetweenLines, ClosesThere, EndsThere, begins_so}

-- ---- what the parties have seen

-- All parties have seen of each shard and of each cell just what was done there by then, and the caller keeps these reads.
pub record StandAt {P D : Type 0} (g : Config) (at : BetweenLines P D) (crew : Crew OnHeap) : Type 0 where
  pub lines : ℕ → List Seen
  pub events : (shard : ℕ) → events_in (lines shard) ≡ at.shards shard
  pub level : AllByRecursion (IsLevel g lines) (crew.feeder ∷ crew.parties.items)
  pub entries : AllByRecursion (SeesEntries g (λ i. lines_of (at.cells i))) (crew.feeder ∷ crew.parties.items)
  pub kept : AllByRecursion (λ reads. map read_of reads ≡ at.kept) crew.kept.items

-- These lines were done in sequence, with these feeds among them, from where the parties stood on: then they stand behind them.
abbrev pub GoInSequence : {P D : Type 0} → Ghosts P → Devices D → Trace → List Line → List FeedDone → (from to : BetweenGroups P) → (was now : Option D) → (old new : Crew OnHeap) → Type 0
GoInSequence {P} {D} pools devices trace lines feeds from to was now old new =
    (at : BetweenLines P D) → at.outside ≡ from → at.device ≡ was → StandAt trace.config at old
    → (next : BetweenLines P D) × (next.outside ≡ to) × (next.device ≡ now) × StandAt trace.config next new × AreInSequence pools devices trace lines feeds at next

-- the cache is that of the trace, and these parties know how its cells began
pub record IsOfTrace (cache : Cache) (trace : Trace) (crew : Crew OnHeap) : Type 0 where
  pub config : cache.config ≡ trace.config
  pub callers : trace.config.callers ≡ 1
  pub knows : AllKnow (openings_of trace) (crew.feeder ∷ crew.parties.items)

-- ---- the caller's lines

-- these lines are the one caller's
abbrev pub AreOwn : List Op → Type 0
AreOwn lines = (k : ℕ) (op : Op) → slice_get lines k ≡ Some op → caller_of op ≡ Some 0

-- The one caller did these lines, each with its work, on the pool and the cache device that were handed in, while the feeder had joined it.
pub record DidOwnLines {P D : Type 0} (cache : Cache) (pools : Ghosts P) (devices : Devices D) (blocks : List Ptr) (lines_done : List Op) (before after : P) (was now : Option D) (old new : Crew OnHeap) (replies : List Reply) : Type 0 where
  pub lines : List Line
  pub are : AreLinesOf lines_done replies lines
  pub had : List KeptBlock
  pub from : PartyPlace
  pub kept : List KeptBlock
  pub to : PartyPlace
  pub old_is : (old.kept.items ≡ had ∷ []) × (old.parties.items ≡ from ∷ [])
  pub new_is : (new.kept.items ≡ kept ∷ []) × (new.parties.items ≡ to ∷ [])
  pub worked : HasWorked cache pools blocks 0 before after lines had from kept to
  pub asked : AsksGiven devices blocks lines was now
  -- the feeder joined the caller for that time: it has made nothing, and both have seen the same then
  pub seen : ℕ → List Seen
  pub parted : HasParted cache seen old.feeder new.feeder
  pub level : IsLevel cache.config seen to
  pub sequence : (trace : Trace) → IsOfTrace cache trace old → blocks ≡ trace.blocks → (group next : ℕ)
      → GoInSequence pools devices trace lines [] (between_groups before group next) (between_groups after group next) was now old new

-- ---- between two lines

-- What the one caller, the pool and the cache device have come to by the lines that were done.
pub record HaveComeInTurn {P D : Type 0} (cache : Cache) (restored : List Restored) (pools : Ghosts P) (devices : Devices D) (trace : Trace) (before now : BetweenGroups P) (was is : Device D) (replies : List Reply) (work : RunWork) (crew : Crew OnHeap) : Type 0 where
  pub reached : HaveReached cache restored pools devices trace before now was is Whole replies work crew
  pub goes_on : work.stopped ≡ no_work
  pub may_sync : MaySync pools (length replies) now
  -- all parties know how the cells began
  pub knows : AllKnow (openings_of trace) (crew.feeder ∷ crew.parties.items)
  pub at : BetweenLines P D
  pub pool : at.outside ≡ now
  pub device : at.device ≡ lent_in is
  pub stands : StandAt cache.config at crew
  pub lines : AreInSequence pools devices trace work.lines work.feeds (begins_so trace.config restored before (lent_in was)) at
  -- where no feed was made the device was only read
  pub unfed : work.feeds ≡ [] → IsHandedBack devices (lent_in was) (lent_in is)

-- All lines are done, or a sync stopped at the line behind the last one that was answered.
pub record AreDoneInTurn {P D : Type 0} (cache : Cache) (restored : List Restored) (pools : Ghosts P) (devices : Devices D) (trace : Trace) (before : BetweenGroups P) (after : P) (was is : Device D) (ending : Ending) (replies : List Reply) (work : RunWork) (crew : Crew OnHeap) : Type 0 where
  pub done : AreDone cache restored pools devices trace before after was is ending replies work crew
  pub at : BetweenLines P D
  pub lines : AreInSequence pools devices trace work.lines work.feeds (begins_so trace.config restored before (lent_in was)) at
  pub last : BetweenLines P D
  pub ends : EndsThere pools devices trace replies work.stopped ending at after last
  pub device : last.device ≡ lent_in is
  pub stands : StandAt cache.config last crew
  -- where no feed was made the device was only read
  pub unfed : work.feeds ≡ [] → IsHandedBack devices (lent_in was) (lent_in is)

-- The next lines were done, and the lines go on; or they ended so.
abbrev pub StepsInTurn : {P D : Type 0} → Cache → List Restored → Ghosts P → Devices D → Trace → (start after : BetweenGroups P) → (was is : Device D) → (replied replies : List Reply) → Ending → Crew OnHeap → Type 0
StepsInTurn cache restored pools devices trace start after was is replied replies Whole new =
    (work : RunWork) × HaveComeInTurn cache restored pools devices trace start after was is replies work new × (length replied < length replies)
StepsInTurn cache restored pools devices trace start after was is replied replies Fork new = (work : RunWork) × AreDoneInTurn cache restored pools devices trace start after.pool was is Fork replies work new
StepsInTurn cache restored pools devices trace start after was is replied replies Sync new = (work : RunWork) × AreDoneInTurn cache restored pools devices trace start after.pool was is Sync replies work new
StepsInTurn cache restored pools devices trace start after was is replied replies (Full need left) new =
    (work : RunWork) × AreDoneInTurn cache restored pools devices trace start after.pool was is (Full need left) replies work new

-- ---- a line that is no caller's

-- The feeder did a line `feed`, while the caller had joined it.
pub record DidFeed {P D : Type 0} (cache : Cache) (pools : Ghosts P) (devices : Devices D) (from to : BetweenGroups P) (was now : Device D) (old new : Crew OnHeap) (came : Result Reply Ending) : Type 0 where
  pub reply : Reply
  pub answer : came ≡ Ok reply
  -- the feeder with the caller's party, before the feed and behind it
  pub joined : PartyPlace
  pub worked : PartyPlace
  pub fed : DoesFeeds dbuf_meanings devices cache (ops.Feed ∷ []) (reply ∷ []) was now joined worked
  pub made : MadeJoined cache (λ shard. events_of_made cache.config shard fed.feeds) old.feeder old.parties.items new.feeder new.parties.items
  pub met : (shard : ℕ) → seen_of cache.config shard joined ≡ made.front shard
  pub parted : (shard : ℕ) → seen_of cache.config shard worked ≡ seen_of cache.config shard new.feeder
  pub again : IsIdleFeeder cache new.feeder
  pub kept : new.kept.items ≡ old.kept.items
  pub stays : to ≡ from
  pub sequence : (trace : Trace) → IsOfTrace cache trace old
      → GoInSequence pools devices trace (record { op = ops.Feed; reply = reply; work = no_work } ∷ []) fed.feeds from to (lent_in was) (lent_in now) old new

-- a feed; or what ends a group, which leaves the device alone
abbrev pub DidOtherLine : {P D : Type 0} → Cache → Ghosts P → Devices D → Op → (from to : BetweenGroups P) → (was now : Device D) → (old new : Crew OnHeap) → Result Reply Ending → Type 0
DidOtherLine cache pools devices op from to was now old new came = ((op ≡ ops.Feed) × DidFeed cache pools devices from to was now old new came) ⊎ (DidEndLine cache pools op from to old new came × (now ≡ was))

-- ---- the run

-- With one caller the lines are done in sequence, on the pool and the cache device that were handed in. Where a sync stops, none behind it is done. Behind them the histories are closed, and have no other events.
pub record RunsInTurn {P D : Type 0} (pool : Ghosts P) (device : Devices D) (before after : P) (lent back : Option D) (place : ℕ) (trace : Trace) (ending : Ending) (work : RunWork) (owner : (shard place : ℕ) → ℕ) (closed : List OnHeap) (report : Report) : Type 0 where
  pub reached : BetweenLines P D
  pub lines : AreInSequence pool device trace work.lines work.feeds (begins_so trace.config (found_keys report.rebuilt) (between_groups before 1 place) lent) reached
  pub last_line : BetweenLines P D
  pub ended : EndsThere pool device trace report.replies work.stopped ending reached after last_line
  pub handed_back : last_line.device ≡ back
  pub closes : ClosesThere trace last_line work.ended closed report.histories
  pub unfed : work.feeds ≡ [] → IsHandedBack device lent back
  -- the caller's reads of the pool are those that its events stand for
  pub counted : length (calls_of_lines (lines_of_caller 0 work.lines)) ≡ reads_of_caller 0 report.histories
  -- a capacity is given to each shard, and a sync done, once all lines before it are done, and before any line behind it is begun
  pub cut : (shard : ℕ) → shard < length report.histories → AreCut trace.config (found_keys report.rebuilt) trace.blocks shard (owner shard) work (slice_index_or report.histories shard [])
  -- and so is a sync that stopped
  pub last : (t : ℕ) → StoppedAt trace report.replies ending t → (shard : ℕ) → shard < length report.histories → IsCutLast trace.config (found_keys report.rebuilt) trace.blocks shard (owner shard) t work (slice_index_or report.histories shard [])
