use Rattle.std.proofs.Common.{◌≡◌, ◌++◌, replicate}
use Rattle.arc_table.specs.declared.item.Item.TheVariants as item
use Rattle.arc_table.specs.Items.{no_chain}
use Rattle.arc_table.proofs.opening.add_buckets.Given as goal

abbrev pub invariant-loop-made : goal.invariant-loop-made
invariant-loop-made g l = l.values.items ≡ l.fn.values.items ++ replicate l.made (item.Bucket no_chain)
