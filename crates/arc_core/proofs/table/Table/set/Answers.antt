use Rattle.arc_core.proofs.Placing.{set-has}
use Rattle.arc_core.proofs.table.Table.set.Goals as goal

pub put_place-requires : goal.put_place-requires
put_place-requires c = set-has c.args.n c.args.key c.args.place c.args.self.now.shard c.requires
