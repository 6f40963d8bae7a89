-- What a run answers, status by status.
use Rattle.std.specs.Prelude.{◌≡◌, ◌⊎◌, ℕ, ◌+◌, ◌*◌, ◌^◌, ◌<◌, ◌≤◌, List, [], Option, Some, None, filter, is_some, map, replicate, sum_by, Bool, true, false}
use Rattle.std.specs.Bool.{OnFalse}
use Rattle.std.specs.List.{list_any, range_with_len}
use Rattle.std.specs.Io.KnownBytes.{Appends}
use Rattle.trace_text.specs.Grammar.{IsTraceText, IsFirstFault, longest_text}
use Rattle.trace_text.specs.Pages.{IsFirstPageFault, IsPageText}
use Rattle.trace_text.specs.ReportText.{report_text}
use Rattle.arc_paper.specs.Text.{pages_text as paper_text_of}
use Rattle.arc_check.specs.Judging.{IsVerdict}
use Rattle.arc_check.specs.LogText.{IsLogText}
use Rattle.arc_check.specs.LogText.{IsFirstLogFault}
use Rattle.arc_check.specs.declared.log.Log.{Log}
use Rattle.arc_check.specs.declared.verdict.Verdict.{Verdict}
use Rattle.arc_check.specs.declared.verdict.Verdict.TheVariants as verdicts
use Rattle.trace_text.specs.declared.fault.Kind.{Kind}
use Rattle.trace_text.specs.declared.ends.ShardEnd.{ShardEnd}
use Rattle.trace_text.specs.declared.report.Report.{Report}
use Rattle.trace_text.specs.declared.trace.Trace.{Trace}
use Rattle.trace_run.specs.declared.ran.Ending.{Ending}
use Rattle.trace_run.specs.declared.ran.Ending.TheVariants.{Full, Whole}
use Rattle.trace_run.specs.declared.status.Status.{Status}
use Rattle.trace_run.specs.declared.status.Status.TheVariants as statuses
use Rattle.trace_run.specs.declared.words.Command.{Command}
use Rattle.trace_run.specs.declared.words.Command.TheVariants.{Run, Gen, Paper, Check}
use Rattle.vdev_io.specs.declared.device.CacheDev.{Ghosts as Devices}
use Rattle.vdev_io.specs.declared.pool.Pool.{Ghosts}
use Rattle.arc_core.specs.Operations.{pool_reads}
use Rattle.arc_table.specs.Ended.{Ended}
use Rattle.dbuf_cells.specs.Turns.{OnHeap}
use Rattle.trace_text.specs.Generator.{generated_block, generated_read, generated_sizes}
use Rattle.trace_run.specs.Answers.{AnswersAll}
use Rattle.trace_run.specs.Bounded.{device_len, with_bound}
use Rattle.trace_run.specs.dbufs.CellEnds.{AreCellsOf, AreEndedSo}
use Rattle.trace_run.specs.RunWork.{IsRunWork, RunWork, noted_by, only_ended, plain_work}
use Rattle.trace_run.specs.CheckText.{check_text}
use Rattle.trace_run.specs.DeviceUse.{WasUsed}
use Rattle.trace_run.specs.Devices.{Finds, IsHandedBack, MayLose, MayLoseUnfed, usable}
use Rattle.trace_run.specs.one_caller.InTurn.{RunsInTurn}
use Rattle.trace_run.specs.Explaining.{Explain, RunsAlone}
use Rattle.trace_run.specs.FeedSeries.{WasFedFrom}
use Rattle.trace_run.specs.Feeds.{AreFedReplies, is_feed}
use Rattle.trace_run.specs.Lines.{has_further, has_sync, replies_where}
use Rattle.trace_run.specs.dbufs.Objects.{ops_of, replies_of}
use Rattle.trace_run.specs.dbufs.ObjectAnswers.{AreAnsweredByCells}
use Rattle.trace_run.specs.one_caller.PlainRun.{images, plain_report}
use Rattle.l2_dev.specs.Cursor.{CursorState}
use Rattle.trace_run.specs.Restores.{found_keys}
use Rattle.trace_run.specs.States.{Handed}
use Rattle.vdev_io.specs.Streams.{NoneFailed, OneFailed, StreamState}
use Rattle.vdev_io.specs.Streams.{Gives, AppendsFront, TakesAtMost}
use Rattle.trace_run.specs.callers.DeviceForks.{UsedInGroups}
use Rattle.trace_run.specs.callers.Group.{LeavesDeclared}
use Rattle.trace_run.specs.callers.WorkLines.{HasFront}
use Rattle.trace_run.specs.callers.Together.{IsFirstPlace, RunsTogether, StopsSo, TellsClosed, answered_ops, faults_told, groups_done, report_status}
use Rattle.trace_run.specs.Words.{IsCommand, IsFirstWrong}

-- The words are a command, and this is what it did; or they are none, and their first wrong word is told.
abbrev pub AnswersWords : List (List ℕ) → (Command → Type 0) → Status → Type 0
AnswersWords words did (statuses.Usage index) = IsFirstWrong words index
AnswersWords words did statuses.Ok = (command : Command) × IsCommand words command × did command
AnswersWords words did statuses.ReadsFailed = (command : Command) × IsCommand words command × did command
AnswersWords words did (statuses.BadTrace line kind) = (command : Command) × IsCommand words command × did command
AnswersWords words did statuses.SourceFault = (command : Command) × IsCommand words command × did command
AnswersWords words did statuses.SinkFault = (command : Command) × IsCommand words command × did command
AnswersWords words did statuses.PoolFault = (command : Command) × IsCommand words command × did command
AnswersWords words did statuses.NoMemory = (command : Command) × IsCommand words command × did command
AnswersWords words did (statuses.PoolFull need left) = (command : Command) × IsCommand words command × did command
AnswersWords words did (statuses.Illegal shard index) = (command : Command) × IsCommand words command × did command

-- The source gave a text, all that it had as far as it tells, by calls of which none failed, and the text is this trace.
pub record WasRead (before after : StreamState) (trace : Trace) : Type 0 where
  pub text : List ℕ
  pub given : Gives before.told after.told longest_text text
  pub unfailed : NoneFailed before after
  pub is_trace : IsTraceText text trace

-- The source was read, to its end or past the longest text, by calls of which none failed, and this is the first fault of what it gave.
pub record IsBadTrace (before after : StreamState) (line : ℕ) (kind : Kind) : Type 0 where
  pub text : List ℕ
  pub given : Gives before.told after.told longest_text text
  pub unfailed : NoneFailed before after
  pub fault : IsFirstFault text line kind

-- Each operation that was answered has its answer, and the histories, which are those of the closed cache, explain the replies, with this work beside them, and the
-- reads of the pool; its faults rose by one for each reply that says so, and by one more where a fork failed, where each count had room. With one
-- caller the report is a plain function where no line is on an object, and there is no sync and no feed; else its lines were done one after another, on the pool and the device that were
-- handed in. With several, each reads the pool through forks of its own, one for each group.
pub record IsRun {P D : Type 0} (pool : Ghosts P) (device : Devices D) (before after : P) (lent back : Option D) (trace : Trace) (ending : Ending) (work : RunWork) (closed : Ended OnHeap) (report : Report) : Type 0 where
  pub answers : AnswersAll (pool.size before) (pool.told before) trace.blocks (answered_ops trace ending report.replies) report.replies
  pub explained : Explain trace (found_keys report.rebuilt) work report.replies report.ends report.histories
  pub tells : TellsClosed closed report
  -- the shared cache was made with the trace's numbers
  pub config : closed.config ≡ trace.config
  -- no workers read for callers: the report has no line of them
  pub no_workers : report.io ≡ None
  pub reads : pool.reads before < 2 ^ 63 → pool.reads after ≡ pool.reads before + sum_by pool_reads report.histories
  pub faults : pool.faults before < 2 ^ 63 → pool.faults after ≡ pool.faults before + faults_told ending report.replies
  pub alone : trace.config.callers ≡ 1 → has_further trace.ops ≡ false → (ending ≡ Whole) × RunsAlone pool device before after lent back trace report
  -- syncs write from this place on
  pub place : ℕ
  pub first : IsFirstPlace (pool.size before) trace.blocks place
  -- what the pool told as the group of each line began, by the lines' places; up to that place it is what it told at first. What one caller's line found, `in_turn` says.
  pub told : (k : ℕ) → Option (List ℕ)
  pub told_front : (k : ℕ) → HasFront place (pool.told before) (told k)
  -- a line on an object is answered by its cell, over that
  pub objects : AreAnsweredByCells trace.config (pool.size before) told closed.cells work.lines
  -- one caller whose lines are on objects too, or whose trace has syncs or feeds, does them one after another
  pub in_turn : trace.config.callers ≡ 1 → has_further trace.ops ≡ true → RunsInTurn pool device before after lent back place trace ending work explained.owner closed.cells report
  pub together : 2 ≤ trace.config.callers → RunsTogether pool before after place told trace ending work explained.owner closed.cells report
  -- a trace without an operation has no work: no fork is made for it, and the pool is as it was
  pub idle : trace.ops ≡ [] → (ending ≡ Whole) × (after ≡ before)
  -- a fork failed as a group began, or a sync stopped, which has no reply then
  pub stopped : StopsSo pool before after trace report.replies ending

-- A run of a trace came to a report, and this is what it did beside its replies: the lines with their work, and what the feeder did. The cells began with the trace's lines; that was done
-- to them, and they were ended. With several callers the cache device was read and fed just so, and one that was not fed was only read; one caller's reads, drops and capacities did nothing beside their replies.
pub record HasRun {P D : Type 0} (pool : Ghosts P) (device : Devices D) (before after : P) (lent back : Option D) (trace : Trace) (ending : Ending) (closed : Ended OnHeap) (report : Report) : Type 0 where
  pub work : RunWork
  pub did : IsRunWork trace.config (answered_ops trace ending report.replies) report.replies work
  pub run : IsRun pool device before after lent back trace ending work closed report
  pub cells : AreCellsOf trace (noted_by trace.config work) closed
  -- what each still kept was given back as it ended
  pub kept : AreEndedSo trace.config 0 closed.cells work.ended
  pub used : 2 ≤ trace.config.callers → UsedInGroups device trace.blocks trace.config.callers (groups_done ending work.lines) work.feeds lent back
  pub unfed : work.feeds ≡ [] → IsHandedBack device lent back
  pub answered : AreFedReplies lent (filter is_feed (ops_of work.lines)) work.feeds (replies_where is_feed (ops_of work.lines) (replies_of work.lines))
  pub plain : trace.config.callers ≡ 1 → has_further trace.ops ≡ false → work ≡ plain_work trace.ops report.replies
  pub status : report.status ≡ report_status ending report.replies

-- Room is told as missing with the numbers of the sync that stopped for it, and of no other end.
abbrev pub TellsEnding : Status → Ending → Type 0
TellsEnding (statuses.PoolFull need left) ending = ending ≡ Full need left
TellsEnding statuses.Ok ending = Unit {0}
TellsEnding statuses.ReadsFailed ending = Unit {0}
TellsEnding (statuses.Usage index) ending = Unit {0}
TellsEnding (statuses.BadTrace line kind) ending = Unit {0}
TellsEnding statuses.SourceFault ending = Unit {0}
TellsEnding statuses.SinkFault ending = Unit {0}
TellsEnding statuses.PoolFault ending = Unit {0}
TellsEnding statuses.NoMemory ending = Unit {0}
TellsEnding (statuses.Illegal shard index) ending = Unit {0}

-- The report is that of a run of the trace that the source gave. The trace's bound of one feed is at most half of
-- the device's ring. What is reported of the device is what its start found; callers read it, several of them by forks, and it is handed back.
pub record IsReport {P D : Type 0} (pool : Ghosts P) (device : Devices D) (before after : Handed P D) (answer : Status) (closed : Ended OnHeap) (report : Report) : Type 0 where
  pub trace : Trace
  pub read : WasRead before.source after.source trace
  -- the device behind its start
  pub started : Option D
  -- where it is written from then on
  pub first : Option CursorState
  pub found : Finds device before.cache started first report.rebuilt
  pub ending : Ending
  pub run : HasRun pool device before.pool after.pool (usable device started) (usable device after.cache) (with_bound trace (device_len device.size before.cache)) ending closed report
  pub used : WasUsed device (with_bound trace (device_len device.size before.cache)) ending run.work started after.cache
  -- what its feeds left of it: where each was written, the faults that were counted, and what each crash restores
  pub fed : WasFedFrom device (with_bound trace (device_len device.size before.cache)).config before.cache started after.cache first report.rebuilt run.work.feeds report.histories
  pub told : TellsEnding answer ending
  pub whole : report.short ≡ false

-- the made trace of this seed, with so many blocks and so many operations
abbrev pub generated : (seed blocks ops : ℕ) → Trace
generated seed blocks ops = record {
  config = generated_sizes blocks;
  blocks = map generated_block (range_with_len 0 blocks);
  objects = [];
  ops = map (generated_read seed blocks) (range_with_len 0 ops);
}

-- the bytes of a pool of so many blocks of 512 zero bytes
abbrev pub zeros_of : (blocks : ℕ) → List ℕ
zeros_of blocks = replicate (blocks * 512) 0

-- The report is that of a made trace, whose zero bytes are a pool that doesn't fail: a plain function of the three numbers. No reply is
-- a refusal, and none is printed.
pub record IsGenReport (seed blocks ops : ℕ) (closed : Ended OnHeap) (report : Report) : Type 0 where
  pub plain : report ≡ record (plain_report (generated seed blocks ops) None (images (zeros_of blocks) []) [] []) { short = true }
  pub answers : AnswersAll (blocks * 512) (Some (zeros_of blocks)) (generated seed blocks ops).blocks (generated seed blocks ops).ops report.replies
  pub explained : Explain (generated seed blocks ops) [] (plain_work (generated seed blocks ops).ops report.replies) report.replies report.ends report.histories
  pub tells : TellsClosed closed report
  pub config : closed.config ≡ generated_sizes blocks
  pub cells : AreCellsOf (generated seed blocks ops) (only_ended (generated_sizes blocks)) closed
  pub status : report.status ≡ 0

-- the report is there exactly where a run of the trace came to its end
abbrev pub has_report : Status → Bool
has_report statuses.Ok = true
has_report statuses.ReadsFailed = true
has_report statuses.SinkFault = true
has_report statuses.PoolFault = true
has_report (statuses.Usage index) = false
has_report (statuses.BadTrace line kind) = false
has_report statuses.SourceFault = false
has_report (statuses.PoolFull need left) = true
has_report statuses.NoMemory = false
has_report (statuses.Illegal shard index) = false

-- a trace may have been run: at the other statuses nothing was
abbrev pub ran : Status → Bool
ran (statuses.Usage index) = false
ran (statuses.BadTrace line kind) = false
ran statuses.SourceFault = false
ran statuses.Ok = true
ran statuses.ReadsFailed = true
ran statuses.SinkFault = true
ran statuses.PoolFault = true
ran statuses.NoMemory = true
ran (statuses.PoolFull need left) = true
ran (statuses.Illegal shard index) = false

-- what a source must have done for a status: one call of it failed where that is told, and none else. No trace is judged.
abbrev pub AnswersSource : StreamState → StreamState → Status → Type 0
AnswersSource before after (statuses.BadTrace line kind) = IsBadTrace before after line kind
AnswersSource before after statuses.SourceFault = OneFailed before after
AnswersSource before after statuses.Ok = NoneFailed before after
AnswersSource before after statuses.ReadsFailed = NoneFailed before after
AnswersSource before after (statuses.Usage index) = NoneFailed before after
AnswersSource before after statuses.SinkFault = NoneFailed before after
AnswersSource before after statuses.PoolFault = NoneFailed before after
AnswersSource before after statuses.NoMemory = NoneFailed before after
AnswersSource before after (statuses.PoolFull need left) = NoneFailed before after
AnswersSource before after (statuses.Illegal shard index) = ⊥

-- What was written behind what the sink had: the report's text where the status is the report's, a front of it where the sink
-- failed, and else nothing. The text has the events where they are asked for. One call of the sink failed where that is told, and none else.
abbrev pub AnswersSink : Bool → StreamState → StreamState → Status → Option Report → Type 0
AnswersSink events before after statuses.Ok (Some report) = Appends before.told after.told (report_text report events) × (report.status ≡ 0) × NoneFailed before after
AnswersSink events before after statuses.ReadsFailed (Some report) = Appends before.told after.told (report_text report events) × (report.status ≡ 1) × NoneFailed before after
AnswersSink events before after statuses.PoolFault (Some report) = Appends before.told after.told (report_text report events) × (report.status ≡ 6) × NoneFailed before after
AnswersSink events before after (statuses.PoolFull need left) (Some report) = Appends before.told after.told (report_text report events) × (report.status ≡ 8) × NoneFailed before after
AnswersSink events before after statuses.SinkFault (Some report) =
    AppendsFront before.told after.told (report_text report events) × OneFailed before after
AnswersSink events before after statuses.Ok None = after ≡ before
AnswersSink events before after statuses.ReadsFailed None = after ≡ before
AnswersSink events before after statuses.PoolFault None = after ≡ before
AnswersSink events before after (statuses.PoolFull need left) None = after ≡ before
AnswersSink events before after statuses.SinkFault None = after ≡ before
AnswersSink events before after (statuses.Usage index) report = after ≡ before
AnswersSink events before after (statuses.BadTrace line kind) report = after ≡ before
AnswersSink events before after statuses.SourceFault report = after ≡ before
AnswersSink events before after statuses.NoMemory report = after ≡ before
AnswersSink events before after (statuses.Illegal shard index) report = ⊥

-- The source gave a text, all that it had as far as it tells, by calls of which none failed, and the text is these pages.
pub record WerePagesRead (before after : StreamState) (pages : List ℕ) : Type 0 where
  pub text : List ℕ
  pub given : Gives before.told after.told longest_text text
  pub unfailed : NoneFailed before after
  pub are_pages : IsPageText text pages

-- The source was read, to its end or past the longest text, by calls of which none failed, and this is the first fault of what it gave.
pub record AreBadPages (before after : StreamState) (line : ℕ) (kind : Kind) : Type 0 where
  pub text : List ℕ
  pub given : Gives before.told after.told longest_text text
  pub unfailed : NoneFailed before after
  pub fault : IsFirstPageFault text line kind

-- what a source must have done for a status at which no pages were read
abbrev pub AnswersPageSource : StreamState → StreamState → Status → Type 0
AnswersPageSource before after (statuses.BadTrace line kind) = AreBadPages before after line kind
AnswersPageSource before after statuses.SourceFault = OneFailed before after
AnswersPageSource before after statuses.Ok = NoneFailed before after
AnswersPageSource before after statuses.ReadsFailed = NoneFailed before after
AnswersPageSource before after (statuses.Usage index) = NoneFailed before after
AnswersPageSource before after statuses.SinkFault = NoneFailed before after
AnswersPageSource before after statuses.PoolFault = NoneFailed before after
AnswersPageSource before after statuses.NoMemory = NoneFailed before after
AnswersPageSource before after (statuses.PoolFull need left) = NoneFailed before after
AnswersPageSource before after (statuses.Illegal shard index) = ⊥

-- What was read and written for a list of pages, with room for c of them: the text of the pages, a front of it where the sink failed,
-- and else nothing.
abbrev pub AnswersPages : ℕ → (source_before source_after sink_before sink_after : StreamState) → Status → Type 0
AnswersPages c source_before source_after sink_before sink_after statuses.Ok =
    (pages : List ℕ) × WerePagesRead source_before source_after pages × Appends sink_before.told sink_after.told (paper_text_of c pages)
    × NoneFailed sink_before sink_after
AnswersPages c source_before source_after sink_before sink_after statuses.SinkFault =
    (pages : List ℕ) × WerePagesRead source_before source_after pages × AppendsFront sink_before.told sink_after.told (paper_text_of c pages)
    × OneFailed sink_before sink_after
AnswersPages c source_before source_after sink_before sink_after (statuses.BadTrace line kind) =
    AreBadPages source_before source_after line kind × (sink_after ≡ sink_before)
AnswersPages c source_before source_after sink_before sink_after statuses.SourceFault =
    OneFailed source_before source_after × (sink_after ≡ sink_before)
AnswersPages c source_before source_after sink_before sink_after statuses.NoMemory = NoneFailed source_before source_after × (sink_after ≡ sink_before)
AnswersPages c source_before source_after sink_before sink_after statuses.ReadsFailed = ⊥
AnswersPages c source_before source_after sink_before sink_after statuses.PoolFault = ⊥
AnswersPages c source_before source_after sink_before sink_after (statuses.PoolFull need left) = ⊥
AnswersPages c source_before source_after sink_before sink_after (statuses.Usage index) = ⊥
AnswersPages c source_before source_after sink_before sink_after (statuses.Illegal shard index) = ⊥

-- The source gave a text, all that it had as far as it tells, by calls of which none failed, and the text is this log of events.
pub record WasLogRead (before after : StreamState) (log : Log) : Type 0 where
  pub text : List ℕ
  pub given : Gives before.told after.told longest_text text
  pub unfailed : NoneFailed before after
  pub is_log : IsLogText text log

-- The source was read, to its end or past the longest text, by calls of which none failed, and this is the first fault of what it gave.
pub record IsBadLog (before after : StreamState) (line : ℕ) (kind : Kind) : Type 0 where
  pub text : List ℕ
  pub given : Gives before.told after.told longest_text text
  pub unfailed : NoneFailed before after
  pub fault : IsFirstLogFault text line kind

-- what a source must have done for a status at which no log was read
abbrev pub AnswersLogSource : StreamState → StreamState → Status → Type 0
AnswersLogSource before after (statuses.BadTrace line kind) = IsBadLog before after line kind
AnswersLogSource before after statuses.SourceFault = OneFailed before after
AnswersLogSource before after statuses.NoMemory = NoneFailed before after
AnswersLogSource before after statuses.Ok = ⊥
AnswersLogSource before after statuses.ReadsFailed = ⊥
AnswersLogSource before after (statuses.Usage index) = ⊥
AnswersLogSource before after statuses.SinkFault = ⊥
AnswersLogSource before after statuses.PoolFault = ⊥
AnswersLogSource before after (statuses.PoolFull need left) = ⊥
AnswersLogSource before after (statuses.Illegal shard index) = ⊥

-- The source gave a log, and this is the verdict on it: each history is legal from the opening of the log's configuration, and the ends are those
-- of their replays; or the first history that isn't is that of this shard, and the event of this index the first of it that may not come.
pub record WasJudged (before after : StreamState) (log : Log) (verdict : Verdict) : Type 0 where
  pub read : WasLogRead before after log
  pub right : IsVerdict log verdict

-- the verdict's text was written, by calls of which none failed
pub record IsToldWhole (before after : StreamState) (log : Log) (verdict : Verdict) : Type 0 where
  pub written : Appends before.told after.told (check_text log verdict)
  pub unfailed : NoneFailed before after

-- a front of the verdict's text was written before a call of the sink failed
pub record IsToldInPart (before after : StreamState) (log : Log) (verdict : Verdict) : Type 0 where
  pub written : AppendsFront before.told after.told (check_text log verdict)
  pub failed : OneFailed before after

-- What was read and written for a log of events: the verdict on it, whose status says whether it is legal; a front of that text where the sink
-- failed; and else nothing.
abbrev pub AnswersLog : (source_before source_after sink_before sink_after : StreamState) → Status → Type 0
AnswersLog source_before source_after sink_before sink_after statuses.Ok =
    (log : Log) × (ends : List ShardEnd) × WasJudged source_before source_after log (verdicts.Legal ends) × IsToldWhole sink_before sink_after log (verdicts.Legal ends)
AnswersLog source_before source_after sink_before sink_after (statuses.Illegal shard index) =
    (log : Log) × WasJudged source_before source_after log (verdicts.Illegal shard index) × IsToldWhole sink_before sink_after log (verdicts.Illegal shard index)
AnswersLog source_before source_after sink_before sink_after statuses.SinkFault =
    (log : Log) × (verdict : Verdict) × WasJudged source_before source_after log verdict × IsToldInPart sink_before sink_after log verdict
AnswersLog source_before source_after sink_before sink_after (statuses.BadTrace line kind) =
    IsBadLog source_before source_after line kind × (sink_after ≡ sink_before)
AnswersLog source_before source_after sink_before sink_after statuses.SourceFault = OneFailed source_before source_after × (sink_after ≡ sink_before)
AnswersLog source_before source_after sink_before sink_after statuses.NoMemory = NoneFailed source_before source_after × (sink_after ≡ sink_before)
AnswersLog source_before source_after sink_before sink_after statuses.ReadsFailed = ⊥
AnswersLog source_before source_after sink_before sink_after statuses.PoolFault = ⊥
AnswersLog source_before source_after sink_before sink_after (statuses.PoolFull need left) = ⊥
AnswersLog source_before source_after sink_before sink_after (statuses.Usage index) = ⊥

-- ---- what each command does

-- a fact of the report and of the closed cache, which are there together or not at all
abbrev pub IfReported : {C : Type 0} → Option Report → Option (Ended C) → (Ended C → Report → Type 0) → Type 0
IfReported None None fact = Unit {0}
IfReported None (Some closed) fact = ⊥
IfReported (Some report) None fact = ⊥
IfReported (Some report) (Some closed) fact = fact closed report

-- A run answers by what the source gave, and takes at most one byte past the longest text. Its report is that of the trace, and where none was
-- run the pool and the cache device are as they were. The device has its length and its kind, or it is lost where memory was refused.
pub record DoesRun {P D : Type 0} (pool : Ghosts P) (device : Devices D) (events : Bool) (before after : Handed P D) (status : Status) (report : Option Report) (closed : Option (Ended OnHeap)) : Type 0 where
  pub source : AnswersSource before.source after.source status
  pub took : TakesAtMost before.source.told after.source.told (longest_text + 1)
  pub unrun : OnFalse (ran status) ((after.pool ≡ before.pool) × (after.cache ≡ before.cache))
  pub cache : MayLose device before.cache after.cache
  -- where no line of the trace asks for a feed it was only read, or it is lost
  pub unfed : MayLoseUnfed device before.cache after.cache ⊎ ((trace : Trace) × WasRead before.source after.source trace × (list_any is_feed trace.ops ≡ true))
  -- what the pool tells is as it was, but for what syncs of the trace that was read, where it asks for some, wrote behind its declared blocks
  pub told : (pool.told after.pool ≡ pool.told before.pool) ⊎ ((trace : Trace) × WasRead before.source after.source trace × (has_sync trace.ops ≡ true) × LeavesDeclared pool trace.blocks before.pool after.pool)
  pub reported : IfReported report closed (IsReport pool device before after status)
  pub sink : AnswersSink events before.sink after.sink status report
  pub present : is_some report ≡ has_report status

-- the statuses of a made trace
abbrev pub IsGenStatus : Status → Type 0
IsGenStatus statuses.Ok = Unit {0}
IsGenStatus statuses.SinkFault = Unit {0}
IsGenStatus statuses.NoMemory = Unit {0}
IsGenStatus statuses.ReadsFailed = ⊥
IsGenStatus statuses.PoolFault = ⊥
IsGenStatus (statuses.PoolFull need left) = ⊥
IsGenStatus (statuses.Usage index) = ⊥
IsGenStatus (statuses.BadTrace line kind) = ⊥
IsGenStatus statuses.SourceFault = ⊥
IsGenStatus (statuses.Illegal shard index) = ⊥

-- A made trace reads no source and leaves the pool and the cache device that were handed in alone.
pub record DoesGen {P D : Type 0} (seed blocks ops : ℕ) (before after : Handed P D) (status : Status) (report : Option Report) (closed : Option (Ended OnHeap)) : Type 0 where
  pub fair : IsGenStatus status
  pub source : after.source ≡ before.source
  pub pool : after.pool ≡ before.pool
  pub cache : after.cache ≡ before.cache
  pub reported : IfReported report closed (IsGenReport seed blocks ops)
  pub sink : AnswersSink false before.sink after.sink status report
  pub present : is_some report ≡ has_report status

-- A list of pages is told from what the source gave, of which at most one byte past the longest text is taken. There is no report, and the pool and the
-- cache device are left alone.
pub record DoesPaper {C P D : Type 0} (c : ℕ) (before after : Handed P D) (status : Status) (report : Option Report) (closed : Option (Ended C)) : Type 0 where
  pub answers : AnswersPages c before.source after.source before.sink after.sink status
  pub took : TakesAtMost before.source.told after.source.told (longest_text + 1)
  pub pool : after.pool ≡ before.pool
  pub cache : after.cache ≡ before.cache
  pub none : (report ≡ None) × (closed ≡ None)

-- A log of events is judged from what the source gave, of which at most one byte past the longest text is taken. There is no report, and the pool and the
-- cache device are left alone.
pub record DoesCheck {C P D : Type 0} (before after : Handed P D) (status : Status) (report : Option Report) (closed : Option (Ended C)) : Type 0 where
  pub answers : AnswersLog before.source after.source before.sink after.sink status
  pub took : TakesAtMost before.source.told after.source.told (longest_text + 1)
  pub pool : after.pool ≡ before.pool
  pub cache : after.cache ≡ before.cache
  pub none : (report ≡ None) × (closed ≡ None)

abbrev pub DoesCommand : {P D : Type 0} → Ghosts P → Devices D → (before after : Handed P D) → Status → Option Report → Option (Ended OnHeap) → Command → Type 0
DoesCommand pool device before after status report closed (Run events) = DoesRun pool device events before after status report closed
DoesCommand pool device before after status report closed (Gen seed blocks ops) = DoesGen seed blocks ops before after status report closed
DoesCommand pool device before after status report closed (Paper c) = DoesPaper c before after status report closed
DoesCommand pool device before after status report closed Check = DoesCheck before after status report closed

-- a fact where the words are refused
abbrev pub IfUsage : Status → Type 0 → Type 0
IfUsage (statuses.Usage index) fact = fact
IfUsage statuses.Ok fact = Unit {0}
IfUsage statuses.ReadsFailed fact = Unit {0}
IfUsage (statuses.BadTrace line kind) fact = Unit {0}
IfUsage statuses.SourceFault fact = Unit {0}
IfUsage statuses.SinkFault fact = Unit {0}
IfUsage statuses.PoolFault fact = Unit {0}
IfUsage statuses.NoMemory fact = Unit {0}
IfUsage (statuses.PoolFull need left) fact = Unit {0}
IfUsage (statuses.Illegal shard index) fact = Unit {0}

-- a status at which a trace was not read
abbrev pub IsReadStatus : Status → Type 0
IsReadStatus (statuses.BadTrace line kind) = Unit {0}
IsReadStatus statuses.SourceFault = Unit {0}
IsReadStatus statuses.NoMemory = Unit {0}
IsReadStatus statuses.Ok = ⊥
IsReadStatus statuses.ReadsFailed = ⊥
IsReadStatus (statuses.Usage index) = ⊥
IsReadStatus statuses.SinkFault = ⊥
IsReadStatus statuses.PoolFault = ⊥
IsReadStatus (statuses.PoolFull need left) = ⊥
IsReadStatus (statuses.Illegal shard index) = ⊥

-- a status at which a trace was run
abbrev pub IsDelivered : Status → Type 0
IsDelivered statuses.Ok = Unit {0}
IsDelivered statuses.ReadsFailed = Unit {0}
IsDelivered statuses.SinkFault = Unit {0}
IsDelivered statuses.PoolFault = Unit {0}
IsDelivered statuses.NoMemory = Unit {0}
IsDelivered (statuses.PoolFull need left) = Unit {0}
IsDelivered (statuses.Usage index) = ⊥
IsDelivered (statuses.BadTrace line kind) = ⊥
IsDelivered statuses.SourceFault = ⊥
IsDelivered (statuses.Illegal shard index) = ⊥
