use Rattle.std.proofs.Common.{◌++◌, ◌*◌, List, map, replicate, ap, ◌∙◌}
use Rattle.arc_table.specs.declared.item.Item.{Item}
use Rattle.arc_table.specs.declared.item.Item.TheVariants as item
use Rattle.arc_table.specs.Items.{no_chain}
use Rattle.arc_table.proofs.Begun.{all_fresh}
use Rattle.arc_table.proofs.opening.items.Goals as goal

pub returns : goal.returns
returns g c =
    let h = c.in_ok-add_shards.ensures in
    let one : Item g.row.C.Denot = item.Bucket no_chain in
    let empty : List (Item g.row.C.Denot) = replicate (c.args.config.now.shards * c.args.config.now.buckets) one in
    let shards : List (Item g.row.C.Denot) = map item.Shard h.0 in
    all_fresh c.args.config.now c.args.cells.items c.requires.cells h.0 h.2 c.add_shards.new.values.items
    (h.1 ∙ ap (λ (l : List (Item g.row.C.Denot)). l ++ shards) (c.in_ok-add_buckets.ensures ∙ ap (λ (l : List (Item g.row.C.Denot)). l ++ empty) c.in_ok-values.ensures))
