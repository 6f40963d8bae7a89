use Rattle.std.proofs.Common.{ap, ◌∙◌}
use Rattle.arc_core.specs.Changes.{come}
use Rattle.arc_core.specs.Rules.{trimmed, with_room}
use Rattle.arc_core.proofs.table.Table.take_in.Goals as goal

pub returns-clause-shard : goal.returns-clause-shard
returns-clause-shard c = c.bring_in.ensures.shard ∙ ap (λ s. trimmed (come c.args.entry.now (with_room c.args.entry.now.key.size s))) c.take_out.ensures.shard
