-- The run of a trace with several callers over the shared cache.
use Rattle.std.specs.Prelude.{◌≤◌, ◌≡◌, ◌<◌, ◌^◌, ◌+◌, ℕ, List, [], Option, length, sum_by}
use mathlib.Core.Option.{some}
use lib.ListN.{get_elem?}
use Rattle.arc_core.specs.declared.event.Event.{Event}
use Rattle.arc_core.specs.declared.served.Restored.{Restored}
use Rattle.arc_core.specs.Operations.{Act, pool_reads}
use Rattle.turn_table.specs.Places.{Place}
use Rattle.arc_table.specs.declared.view.Known.{Known}
use Rattle.arc_table.specs.Cache.{Cache}
use Rattle.arc_table.specs.Ended.{Ended, Ends}
use Rattle.arc_table.specs.Geometry.{parties_of}
use Rattle.arc_table.specs.Items.{Meanings}
use Rattle.dbuf_cells.specs.Turns.{OnHeap, PartyPlace}
use Rattle.trace_text.specs.declared.rebuilt.Rebuilt.{Rebuilt}
use Rattle.trace_text.specs.declared.reply.Reply.{Reply}
use Rattle.trace_text.specs.declared.trace.Trace.{Trace}
use Rattle.vdev_io.specs.declared.device.CacheDev.{Ghosts as Devices}
use Rattle.vdev_io.specs.declared.pool.Pool.{Ghosts}
use Rattle.trace_run.specs.declared.groups.Crew.{Crew}
use Rattle.trace_run.specs.declared.ran.Ending.{Ending}
use Rattle.trace_run.specs.one_caller.Alone.{ends_in, histories_of}
use Rattle.trace_run.specs.Answers.{AnswersAll}
use Rattle.trace_run.specs.Explaining.{Explain}
use Rattle.trace_run.specs.dbufs.CellEnds.{AreCellsOf, AreEndedSo, EndedCrew}
use Rattle.trace_run.specs.dbufs.ObjectAnswers.{AreAnsweredByCells}
use Rattle.trace_run.specs.RunWork.{IsRunWork, RunWork, noted_by}
use Rattle.trace_run.specs.callers.DeviceForks.{UsedInGroups}
use Rattle.trace_run.specs.Deeds.{Noted}
use Rattle.trace_run.specs.KeptBlocks.{Stands}
use Rattle.trace_run.specs.Meeting.{AreWaiting, HaveGivenBack, IsFed}
use Rattle.trace_run.specs.Restores.{found_keys}
use Rattle.trace_run.specs.callers.WorkLines.{HasFront}
use Rattle.trace_run.specs.callers.Together.{IsFirstPlace, RunsTogether, StopsSo, answered_ops, faults_told, groups_done, report_of_closed}

-- all parties of a cache, by their numbers, none of which keeps anything
pub record HaveStopped {C : Type 0} (cache : Cache) (ps : List (Place (Known C))) : Type 0 where
  pub count : length ps ≡ parties_of cache.config
  pub each : (n : ℕ) (p : Place (Known C)) → get_elem? ps n ≡ some p → (p.number ≡ n) × Stands cache p []

-- The callers gave back what they kept, the feeder ended all cells, and the cache was closed with these parties.
pub record HaveClosed (m : Meanings OnHeap) (cache : Cache) (crew : Crew OnHeap) (closed : Ended OnHeap) : Type 0 where
  pub parties : List PartyPlace
  pub closing : List PartyPlace
  pub gave : (acts : ℕ → List Act) (noted : ℕ → List Noted) → AreWaiting cache acts noted 0 crew.kept.items crew.parties.items → (openings : List (List ℕ)) (feeds since : (shard : ℕ) → List Event) (inserted : List Act) (synced : List Noted)
      → IsFed cache openings feeds since inserted synced crew.feeder → HaveGivenBack cache acts noted openings feeds since inserted synced crew.parties.items crew.feeder crew.kept.items parties
  pub ended : EndedCrew cache parties closing
  pub ends : Ends m cache closing closed

-- The operations of several callers were answered, and the histories of the closed cache explain the replies, with this work beside them, and the reads of the pool; or a
-- fork of the pool failed or a sync stopped, and those before it were.
pub record RanTogether {P D : Type 0} (pools : Ghosts P) (devices : Devices D) (before after : P) (was is : Option D) (trace : Trace) (ending : Ending) (restored : List Restored) (replies : List Reply) (work : RunWork) (closed : Ended OnHeap) : Type 0 where
  pub did : IsRunWork trace.config (answered_ops trace ending replies) replies work
  pub answers : AnswersAll (pools.size before) (pools.told before) trace.blocks (answered_ops trace ending replies) replies
  -- syncs write from this place on
  pub place : ℕ
  pub first : IsFirstPlace (pools.size before) trace.blocks place
  -- what the pool told as the group of each line began, by the lines' places; up to that place it is what it told at first
  pub told : (k : ℕ) → Option (List ℕ)
  pub told_front : (k : ℕ) → HasFront place (pools.told before) (told k)
  pub objects : AreAnsweredByCells trace.config (pools.size before) told closed.cells work.lines
  pub config : closed.config ≡ trace.config
  pub explained : Explain trace restored work replies (ends_in closed) (histories_of closed)
  pub cells : AreCellsOf trace (noted_by trace.config work) closed
  pub kept : AreEndedSo trace.config 0 closed.cells work.ended
  pub reads : pools.reads before < 2 ^ 63 → pools.reads after ≡ pools.reads before + sum_by pool_reads (histories_of closed)
  pub faults : pools.faults before < 2 ^ 63 → pools.faults after ≡ pools.faults before + faults_told ending replies
  pub together : 2 ≤ trace.config.callers → (rebuilt : Option Rebuilt) → found_keys rebuilt ≡ restored → RunsTogether pools before after place told trace ending work explained.owner closed.cells (report_of_closed ending rebuilt replies closed)
  pub used : 2 ≤ trace.config.callers → UsedInGroups devices trace.blocks trace.config.callers (groups_done ending work.lines) work.feeds was is
  pub stopped : StopsSo pools before after trace replies ending
