-- The numbers of the statuses.
use Rattle.std.specs.Prelude.{ℕ}
use Rattle.trace_run.specs.declared.status.Status.{Status}
use Rattle.trace_run.specs.declared.status.Status.TheVariants as statuses

abbrev pub code_of : Status → ℕ
code_of statuses.Ok = 0
code_of statuses.ReadsFailed = 1
code_of (statuses.Usage index) = 2
code_of (statuses.BadTrace line kind) = 3
code_of statuses.SourceFault = 4
code_of statuses.SinkFault = 5
code_of statuses.PoolFault = 6
code_of statuses.NoMemory = 7
code_of (statuses.PoolFull need left) = 8
code_of (statuses.Illegal shard index) = 10
