-- Where a trace that a source tells is in place and no count of faults rises, its run ends with the status 0, or memory was refused.
use Rattle.std.specs.Prelude.{◌≡◌, ℕ, ◌^◌, ◌<◌, Bool, List, Option, Some}
use Rattle.arc_table.specs.Ended.{Ended}
use Rattle.dbuf_cells.specs.Turns.{OnHeap}
use Rattle.trace_text.specs.Grammar.{IsTraceText}
use Rattle.trace_text.specs.declared.report.Report.{Report}
use Rattle.trace_text.specs.declared.trace.Trace.{Trace}
use Rattle.vdev_io.specs.declared.device.CacheDev.{Ghosts as Devices}
use Rattle.vdev_io.specs.declared.pool.Pool.{Ghosts}
use Rattle.vdev_io.specs.Faults.{Rose}
use Rattle.trace_run.specs.declared.status.Status.{Status}
use Rattle.trace_run.specs.declared.status.Status.TheVariants as statuses
use Rattle.trace_run.specs.InPlace.{IsInPlace}
use Rattle.trace_run.specs.Outcome.{DoesRun}
use Rattle.trace_run.specs.States.{Handed}

-- no count of faults of source, sink or pool rose, where the pool's had room
pub record NoneRose {P D : Type 0} (pools : Ghosts P) (before after : Handed P D) : Type 0 where
  pub source : Rose before.source.faults after.source.faults → ⊥
  pub sink : Rose before.sink.faults after.sink.faults → ⊥
  pub pool : Rose (pools.faults before.pool) (pools.faults after.pool) → ⊥
  pub low : pools.faults before.pool < 2 ^ 63

-- all was done and nothing was refused; or memory was, or the words are no command
abbrev pub IsOkOrWants : Status → Type 0
IsOkOrWants statuses.Ok = Unit {0}
IsOkOrWants statuses.NoMemory = Unit {0}
IsOkOrWants (statuses.Usage index) = Unit {0}
IsOkOrWants statuses.ReadsFailed = ⊥
IsOkOrWants (statuses.BadTrace line kind) = ⊥
IsOkOrWants statuses.SourceFault = ⊥
IsOkOrWants statuses.SinkFault = ⊥
IsOkOrWants statuses.PoolFault = ⊥
IsOkOrWants (statuses.PoolFull need left) = ⊥
IsOkOrWants (statuses.Illegal shard index) = ⊥

-- The source tells a text, which is this trace; the pool tells these bytes, and nothing that the trace asks for is out of place over them; and no count rose. Then the run ended so.
abbrev pub EndsInOrder : {P D : Type 0} → Ghosts P → Devices D → Type 0
EndsInOrder {P} {D} pool device = (events : Bool) (before after : Handed P D) (status : Status) (report : Option Report) (closed : Option (Ended OnHeap)) (text : List ℕ) (trace : Trace) (image : List ℕ)
    → DoesRun pool device events before after status report closed → before.source.told ≡ Some text → IsTraceText text trace → pool.told before.pool ≡ Some image → IsInPlace (pool.size before.pool) image trace
    → NoneRose pool before after → IsOkOrWants status
