-- What a shard on the heap ends as, where the shard is lent.
use Rattle.std.specs.Borrow.{Lends, MutBor, Fml}
use Rattle.arc_core.specs.ShardLog.{ShardLog}
use Rattle.arc_core.specs.contracts.shard.Shard.{the_row as shard_row}
use Rattle.arc_table.specs.contracts.heap_shard.HeapShard.{the_row}

-- it ends as the shard that was left behind r
abbrev pub LendsShard : MutBor ShardLog → MutBor ShardLog → Fml
LendsShard s r = Lends the_row shard_row s r (λ w. w)
