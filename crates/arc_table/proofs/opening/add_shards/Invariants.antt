use Rattle.std.proofs.Common.{◌≡◌, ◌++◌, List, map}
use Rattle.arc_core.specs.ShardLog.{ShardLog}
use Rattle.arc_table.specs.opening.Opening.{AreOpeningLogs}
use Rattle.arc_table.specs.declared.item.Item.TheVariants as item
use Rattle.arc_table.proofs.opening.add_shards.Given as goal

abbrev pub invariant-loop-made : goal.invariant-loop-made
invariant-loop-made g l = (ls : List ShardLog) × (l.values.items ≡ l.fn.values.items ++ map item.Shard ls) × AreOpeningLogs l.config l.made ls
