use Rattle.std.proofs.Common.{◌≡◌, length}
use Rattle.trace_run.specs.callers.Groups.{KeepNothing}
use Rattle.trace_run.proofs.groups.none_kept.Given as goal

abbrev pub invariant-loop : goal.invariant-loop
invariant-loop l = record {
  none : KeepNothing l.kept.items;
  count : length l.kept.items ≡ l.counter;
}
