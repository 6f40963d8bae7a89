use Rattle.arc_core.specs.Rules.{resized}
use Rattle.arc_core.proofs.CursorEnds.{at-capacity}
use Rattle.arc_core.proofs.table.Table.search_of_capacity.Goals as goal

pub returns : goal.returns
returns c = at-capacity c.args.self.now.shard (resized c.args.c c.args.self.now.shard) c.args.self.now.marked c.scan_resized.result c.scan_resized.ensures
