use Rattle.std.proofs.Common.{◌≡◌, length}
use Rattle.trace_run.specs.Devices.{WasLent, lent_in}
use Rattle.trace_run.specs.callers.DeviceForks.{GivesForks}
use Rattle.trace_run.proofs.device_forks.device_forks.Given as goal

abbrev pub invariant-loop : goal.invariant-loop
invariant-loop g l = record {
  given : GivesForks g.D.CacheDev l.forks.items (lent_in l.fn.device) (lent_in l.device);
  lent : WasLent g.D.CacheDev l.fn.device l.device;
  count : length l.forks.items ≡ l.counter;
}
