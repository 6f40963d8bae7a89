-- The run of a trace with one caller over the shared cache, whose lines are reads, holds, drops and capacities.
use Rattle.std.specs.Prelude.{◌≡◌, ℕ, List, [], filter, length, map, sum_by}
use Rattle.std.specs.List.{AllByRecursion, range_with_len}
use Rattle.arc_core.specs.declared.event.Event.{Event}
use Rattle.arc_core.specs.declared.served.Restored.{Restored}
use Rattle.arc_core.specs.Operations.{pool_reads}
use Rattle.arc_table.specs.Ended.{Ended}
use Rattle.arc_table.specs.Seen.{HasAll}
use Rattle.vdev_io.specs.Calls.{MakesCalls}
use Rattle.trace_text.specs.declared.ends.ShardEnd.{ShardEnd}
use Rattle.trace_text.specs.declared.reply.Reply.{Reply}
use Rattle.trace_text.specs.declared.trace.Trace.{Trace}
use Rattle.vdev_io.specs.declared.pool.Pool.{Ghosts}
use Rattle.arc_check.specs.Judging.{end_of}
use Rattle.trace_run.specs.Answers.{AnswersAll}
use Rattle.trace_run.specs.callers.CallerLines.{At, DidLines}
use Rattle.trace_run.specs.Effects.{calls_of_all}
use Rattle.arc_table.specs.Telling.{opening_of}
use Rattle.trace_run.specs.Explaining.{ExplainReads}
use Rattle.trace_run.specs.Lines.{is_in_shard, replies_where}
use Rattle.trace_run.specs.one_caller.OneCaller.{AreFoundAs, one_caller_histories}
use Rattle.trace_run.specs.Reads.{now_of}
use Rattle.trace_run.specs.Restores.{restored_shard, restores_in}

-- the histories of a closed cache, and what its shards end with
abbrev pub histories_of : {C : Type 0} → Ended C → List (List Event)
histories_of closed = map (λ log. log.history) closed.shards

abbrev pub ends_in : {C : Type 0} → Ended C → List ShardEnd
ends_in closed = map (λ log. end_of log.now) closed.shards

-- The lines of a caller that is alone and keeps nothing, over shards to which these keys were restored, one after another.
pub record LinesAlone (C : Type 0) {P : Type 0} (pools : Ghosts P) (before after : P) (trace : Trace) (restored : List Restored) (replies : List Reply) : Type 0 where
  pub first : At C P
  pub last : At C P
  pub alone : HasAll first.party
  pub none : first.kept ≡ []
  pub opens : (shard : ℕ) → now_of trace.config shard first.party ≡ restored_shard trace.config restored shard
  pub from : first.pool ≡ before
  pub to : last.pool ≡ after
  pub lines : DidLines trace.config pools trace.blocks trace.ops replies first last

-- Each operation of the one caller was answered, the pool was read just as the replies say, and the closed cache has the restores, the caller's events and no
-- others. They explain the replies.
pub record RanAlone {C P : Type 0} (pools : Ghosts P) (before after : P) (trace : Trace) (restored : List Restored) (replies : List Reply) (closed : Ended C) : Type 0 where
  pub answers : AnswersAll (pools.size before) (pools.told before) trace.blocks trace.ops replies
  pub made : MakesCalls pools (calls_of_all replies) before after
  pub histories : histories_of closed ≡ one_caller_histories trace.config.shards trace.blocks 0 (opening_of trace.config) (restores_in trace.config restored) trace.ops replies
  -- each answered read names where its access found the bytes, and only one that had to ask the pool was refused by it
  pub found : AllByRecursion (λ shard. AreFoundAs trace.blocks (restored_shard trace.config restored shard) []
      (filter (is_in_shard trace.config.shards trace.blocks shard) trace.ops)
      (replies_where (is_in_shard trace.config.shards trace.blocks shard) trace.ops replies)) (range_with_len 0 trace.config.shards)
  -- each event that stands for a read of the pool is one that a reply says
  pub counted : length (calls_of_all replies) ≡ sum_by pool_reads (histories_of closed)
  pub explained : ExplainReads trace restored replies (ends_in closed) (histories_of closed)
  -- the cache was made with the trace's numbers
  pub config : closed.config ≡ trace.config
  pub lines : LinesAlone C pools before after trace restored replies
