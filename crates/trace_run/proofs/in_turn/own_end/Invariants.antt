use Rattle.std.proofs.Common.{◌≡◌, ◌≢◌, ◌<◌, ◌≤◌, ℕ}
use Rattle.std.specs.Prelude.{None, Some, slice_get}
use Rattle.trace_text.specs.declared.op.Op.{Op}
use Rattle.trace_run.specs.Lines.{caller_of}
use Rattle.trace_run.proofs.in_turn.own_end.Given as goal

abbrev pub invariant-loop-to : goal.invariant-loop-to
invariant-loop-to l = (k : ℕ) (op : Op) → l.fn.from ≤ k → k < l.to → slice_get l.ops k ≡ Some op → caller_of op ≢ None
