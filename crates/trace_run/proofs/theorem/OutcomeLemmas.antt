-- What a status says that came behind the words.
use Rattle.std.proofs.Common.{◌≡◌, Option, Some, None, sym, subst}
use Rattle.arc_table.specs.Ended.{Ended}
use Rattle.dbuf_cells.specs.Turns.{OnHeap}
use Rattle.vdev_io.specs.declared.pool.Pool.{Ghosts}
use Rattle.trace_text.specs.declared.report.Report.{Report}
use Rattle.trace_run.specs.declared.status.Status.{Status}
use Rattle.vdev_io.specs.declared.device.CacheDev.{Ghosts as Devices}
use Rattle.trace_run.specs.Outcome.{IfReported, IsReport}
use Rattle.trace_run.specs.States.{Handed}

-- the report of a run is there as it was made, or there is none
pub reported-so : {P D : Type 0} (pool : Ghosts P) (device : Devices D) (before after : Handed P D) (status : Status) (made : Report) (end : Ended OnHeap) (report : Option Report) (closed : Option (Ended OnHeap))
    → IfReported report closed (λ c t. (t ≡ made) × (c ≡ end)) → IsReport pool device before after status end made → IfReported report closed (IsReport pool device before after status)
reported-so pool device before after status made end None None same is = tt
reported-so pool device before after status made end None (Some c) same is = absurd same
reported-so pool device before after status made end (Some r) None same is = absurd same
reported-so pool device before after status made end (Some r) (Some c) same is = subst (λ (x : Ended OnHeap × Report). IsReport pool device before after status x.0 x.1) (λ i. (sym same.1 i, sym same.0 i)) is
