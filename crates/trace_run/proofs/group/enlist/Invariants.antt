use Rattle.std.proofs.Common.{◌≡◌, ◌++◌, List, length, map}
use Rattle.trace_run.specs.callers.Callers.{AreEnlisted}
use Rattle.trace_run.specs.declared.group.Caller.{Caller}
use Rattle.trace_run.proofs.group.enlist.Given as goal

abbrev pub invariant-loop-party : goal.invariant-loop-party
invariant-loop-party g l = record {
  made : (more : List (Caller g.row.C.Denot g.row.P.Denot g.row.D.Denot)) → AreEnlisted l.party-iterator.rest.items l.kept.rest.items l.forks.rest.items more
      → AreEnlisted l.fn.parties.items l.fn.kept.items l.fn.forks.items (l.callers.items ++ more);
  reads : length l.kept.rest.items ≡ length l.party-iterator.rest.items;
  same : length l.forks.rest.items ≡ length l.party-iterator.rest.items;
  devices : map (λ caller. caller.device) l.callers.items ++ l.devices.rest.items ≡ l.fn.devices.items;
  long : length l.devices.rest.items ≡ length l.party-iterator.rest.items;
}
