use Rattle.std.proofs.Common.{◌≡◌}
use Rattle.arc_core.specs.EventLog.{after_events}
use Rattle.arc_core.proofs.history.behind.Given as goal

-- as many events were left behind as turns were made
abbrev pub invariant-loop : goal.invariant-loop
invariant-loop l = l.rest ≡ after_events l.counter l.initial.bytes
