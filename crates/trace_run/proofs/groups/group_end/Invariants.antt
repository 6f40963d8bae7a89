use Rattle.std.proofs.Common.{◌≡◌, ◌<◌, ◌≤◌, ℕ, false}
use Rattle.std.specs.Prelude.{Some, slice_get}
use Rattle.trace_text.specs.declared.op.Op.{Op}
use Rattle.trace_run.specs.callers.Together.{ends_group}
use Rattle.trace_run.proofs.groups.group_end.Given as goal

abbrev pub invariant-loop-to : goal.invariant-loop-to
invariant-loop-to l = (k : ℕ) (op : Op) → l.fn.from ≤ k → k < l.to → slice_get l.ops k ≡ Some op → ends_group op ≡ false
