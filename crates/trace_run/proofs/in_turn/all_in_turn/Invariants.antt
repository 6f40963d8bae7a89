use Rattle.std.proofs.Common.{◌≡◌, ◌-◌, ◌≤◌, false, List, [], length, vec_len}
use Rattle.arc_core.specs.declared.served.Restored.{Restored}
use Rattle.trace_run.specs.Feeds.{MayBeFed}
use Rattle.trace_run.specs.RunWork.{RunWork}
use Rattle.trace_run.specs.callers.Beside.{WasInUse}
use Rattle.trace_run.specs.callers.Group.{LeavesFront, LeavesPool}
use Rattle.trace_run.specs.Lines.{has_sync}
use Rattle.trace_run.specs.callers.Together.{between_groups}
use Rattle.trace_run.specs.one_caller.InTurn.{HaveComeInTurn}
use Rattle.trace_run.proofs.in_turn.all_in_turn.Given as goal

abbrev pub invariant-loop-alloc : goal.invariant-loop-alloc
invariant-loop-alloc g l = record {
  between : (restored : List Restored) (work : RunWork)
      → HaveComeInTurn l.arcs restored g.P.Pool g.D.CacheDev l.trace (between_groups l.fn.pool l.fn.syncs.group l.fn.syncs.next) (between_groups l.fn.pool l.fn.syncs.group l.fn.syncs.next) l.fn.device l.fn.device [] work l.fn.crew
      → (now : RunWork) × HaveComeInTurn l.arcs restored g.P.Pool g.D.CacheDev l.trace (between_groups l.fn.pool l.fn.syncs.group l.fn.syncs.next) (between_groups l.pool l.syncs.group l.syncs.next) l.fn.device l.device l.replies.items now l.crew;
  later : l.fn.syncs.next ≤ l.syncs.next;
  leaves : LeavesFront g.P.Pool l.fn.syncs.next l.fn.pool l.pool;
  still : has_sync l.trace.ops ≡ false → LeavesPool g.P.Pool l.fn.pool l.pool;
  used : WasInUse g.D.CacheDev l.trace.ops l.fn.device l.device;
  device : MayBeFed g.D.CacheDev l.arcs.config l.device;
}

abbrev pub decreases-loop-alloc : goal.decreases-loop-alloc
decreases-loop-alloc g l = length l.trace.ops - vec_len l.replies
