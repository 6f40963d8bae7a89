-- What the histories of a run's shards say of it.
use Rattle.std.specs.Prelude.{◌≡◌, ℕ, zero, suc, ◌<◌, IfSome, IsTrue, List, [], ◌++◌, Option, length, slice_index_or, sum_by}
use Rattle.std.specs.List.{AllByRecursion, range_with_len}
use Rattle.std.specs.Prelude.{filter}
use Rattle.blk_ptr.specs.Hash.{shard_of}
use Rattle.blk_ptr.specs.declared.ptr.Ptr.{Ptr}
use Rattle.arc_core.specs.declared.config.Config.{Config}
use Rattle.vdev_io.specs.declared.device.CacheDev.{Ghosts as DeviceGhosts}
use Rattle.vdev_io.specs.declared.pool.Pool.{Ghosts}
use Rattle.arc_core.specs.declared.event.Event.{Event}
use Rattle.arc_core.specs.declared.served.Restored.{Restored}
use Rattle.arc_core.specs.Operations.{HoldEveryCallOnce, IsAtRest, pool_reads}
use Rattle.arc_core.specs.Replay.{is_legal_history, replay}
use Rattle.trace_text.specs.declared.ends.ShardEnd.{ShardEnd}
use Rattle.trace_text.specs.declared.op.Op.{Op}
use Rattle.trace_text.specs.declared.reply.Reply.{Reply}
use Rattle.trace_text.specs.declared.report.Report.{Report}
use Rattle.trace_text.specs.declared.trace.Trace.{Trace}
use Rattle.trace_run.specs.Acts.{acts_of_callers}
use Rattle.trace_run.specs.Deeds.{events_there}
use Rattle.trace_run.specs.Effects.{calls_of_all}
use Rattle.trace_run.specs.RunWork.{AreMadeBy, RunWork, acts_by, acts_of_cells, own_acts}
use Rattle.trace_run.specs.Ends.{ends_of}
use Rattle.arc_table.specs.Telling.{opening_of}
use Rattle.trace_run.specs.KeptBlocks.{held_in_shard}
use Rattle.trace_run.specs.Lines.{is_in_shard, is_of_caller, replies_where}
use Rattle.trace_run.specs.one_caller.Lent.{AsksLent, told_lent}
use Rattle.trace_run.specs.one_caller.OneCaller.{AreFoundAs, events_of_drops, kept_after_all, one_caller_histories}
use Rattle.trace_run.specs.one_caller.PlainReport.{IsPlainReport}
use Rattle.trace_run.specs.one_caller.PlainRun.{images, plain_report}
use Rattle.trace_run.specs.Restores.{events_by_feeder, found_keys, restored_shard, restores_in}
use Rattle.vdev_io.specs.Calls.{MakesCalls, Call}

-- the drops at the end of a run in the shard of this number: what each caller still keeps there, by rising caller, the oldest first
abbrev pub drops_at_end : Config → List Ptr → (shard callers : ℕ) → List Op → List Reply → List Event
drops_at_end config blocks shard zero ops replies = []
drops_at_end config blocks shard (suc n) ops replies =
    drops_at_end config blocks shard n ops replies
    ++ events_of_drops n (held_in_shard config shard (kept_after_all blocks [] (filter (is_of_caller n) ops) (replies_where (is_of_caller n) ops replies)))

-- a history ends with these events
abbrev pub EndsWith : List Event → List Event → Type 0
EndsWith history es = (front : List Event) × (history ≡ front ++ es)

-- and it begins with these
abbrev pub BeginsWithEvents : List Event → List Event → Type 0
BeginsWithEvents history es = (rest : List Event) × (history ≡ es ++ rest)

-- The histories explain the replies where no line did anything to a cell, for any number of callers and shards, where these keys were found on the cache device.
pub record ExplainReads (trace : Trace) (restored : List Restored) (replies : List Reply) (shard_ends : List ShardEnd) (histories : List (List Event)) : Type 0 where
  -- each shard has a history, by its number, which is legal from the shard's start
  pub shards : length histories ≡ trace.config.shards
  pub legal : AllByRecursion (λ history. IsTrue (is_legal_history (opening_of trace.config) history)) histories
  -- its replay gives the shard's end, where nothing is held or being read, and there is no feed
  pub ends : shard_ends ≡ ends_of trace.config histories
  pub at_rest : AllByRecursion (λ history. IsAtRest (replay (opening_of trace.config) history)) histories
  -- each begins with the restores of its keys, in the order in which they were found
  pub begins : (shard : ℕ) → shard < length histories → BeginsWithEvents (slice_index_or histories shard []) (restores_in trace.config restored shard)
  -- each call of each caller stands once in the history of its key's shard, in the order of the lines; the feeder made these restores, then one
  -- Resize in each for each capacity that the trace gives, in the order of the lines, and nothing else
  pub every_call : HoldEveryCallOnce trace.config (shard_of trace.config.shards) (opening_of trace.config)
      (acts_of_callers trace.blocks trace.config.callers trace.ops replies) (events_by_feeder trace.config restored trace.ops replies []) histories
  -- each history ends with the drops at the end of the run
  pub ending : (shard : ℕ) → shard < length histories
      → EndsWith (slice_index_or histories shard []) (drops_at_end trace.config trace.blocks shard trace.config.callers trace.ops replies)

-- The histories explain the replies, and what the run did beside them, for any number of callers and shards, where these keys were found on the cache device.
pub record Explain (trace : Trace) (restored : List Restored) (work : RunWork) (replies : List Reply) (shard_ends : List ShardEnd) (histories : List (List Event)) : Type 0 where
  -- each shard has a history, by its number, which is legal from the shard's start
  pub shards : length histories ≡ trace.config.shards
  pub legal : AllByRecursion (λ history. IsTrue (is_legal_history (opening_of trace.config) history)) histories
  -- its replay gives the shard's end, where nothing is held or being read, and there is no feed
  pub ends : shard_ends ≡ ends_of trace.config histories
  pub at_rest : AllByRecursion (λ history. IsAtRest (replay (opening_of trace.config) history)) histories
  -- each begins with the restores of its keys, in the order in which they were found
  pub begins : (shard : ℕ) → shard < length histories → BeginsWithEvents (slice_index_or histories shard []) (restores_in trace.config restored shard)
  -- Each call of each caller stands once in the history of its key's shard, in the order of the lines; the feeder made these restores, then for each line
  -- that gives a capacity one Resize in each, and for each feed its own events, in the order of the lines, and nothing else with its own number. The events with the numbers of cells
  -- stand for acts, each for one.
  pub every_call : HoldEveryCallOnce trace.config (shard_of trace.config.shards) (opening_of trace.config)
      (own_acts trace.config trace.blocks work trace.config.callers ++ acts_of_cells trace.config histories) (events_by_feeder trace.config restored trace.ops replies work.feeds) histories
  -- these are the callers' and the feeder's acts with such a number, of each party in its order; each event of a shard is one party's
  pub owner : (shard place : ℕ) → ℕ
  pub made : (shard : ℕ) → shard < length histories → AreMadeBy trace.config shard (owner shard) (acts_by trace.config trace.blocks work) (slice_index_or histories shard [])
  -- each history ends with the drops at the end of the run: those of what callers keep, and then those of what the cells keep
  pub ending : (shard : ℕ) → shard < length histories
      → EndsWith (slice_index_or histories shard []) (drops_at_end trace.config trace.blocks shard trace.config.callers trace.ops replies ++ events_there trace.config shard work.ended)

-- What more holds of a run with one caller, which was lent the cache device, where there is one: its report is a plain function of the trace, what was found on
-- that device, the bytes of both and which reads of either failed, as far as no two contents share a digest.
pub record RunsAlone {P D : Type 0} (pool : Ghosts P) (device : DeviceGhosts D) (before after : P) (lent back : Option D) (trace : Trace) (report : Report) : Type 0 where
  -- the histories hold the restores, the caller's events and no others
  pub histories : report.histories ≡ one_caller_histories trace.config.shards trace.blocks 0 (opening_of trace.config) (restores_in trace.config (found_keys report.rebuilt)) trace.ops report.replies
  -- each answered read names a place from which its access may have the bytes, and only one that had to ask the pool was refused by it
  pub found : AllByRecursion (λ shard. AreFoundAs trace.blocks (restored_shard trace.config (found_keys report.rebuilt) shard) []
      (filter (is_in_shard trace.config.shards trace.blocks shard) trace.ops)
      (replies_where (is_in_shard trace.config.shards trace.blocks shard) trace.ops report.replies)) (range_with_len 0 trace.config.shards)
  -- the pool was read once for each event that stands for a read of it, in their order, and nothing else was done with it; exactly the
  -- reads that failed are answered as faults of the pool
  pub calls : List Call
  pub replied : calls ≡ calls_of_all report.replies
  pub counted : length calls ≡ sum_by pool_reads report.histories
  pub made : MakesCalls pool calls before after
  -- The device was asked once for each miss whose key has a place on it, in the order of the lines, and nothing else was done with it. What it served is
  -- answered so.
  pub device_calls : List Call
  pub asked : AsksLent device trace (found_keys report.rebuilt) report.replies device_calls lent back
  -- over a pool and a device that tell their bytes the report is that of the plain run, but that a block which did not come from the pool may be another
  -- content of its digest
  pub plain : IfSome (pool.told before) (λ image. IfSome (told_lent device lent) (λ bytes. IsPlainReport trace (plain_report trace report.rebuilt (images image bytes) calls device_calls) report))
