use Rattle.std.proofs.Common.{ap, ◌∙◌}
use Rattle.arc_core.specs.Changes.{come}
use Rattle.arc_core.specs.Rules.{trimmed}
use Rattle.arc_core.proofs.Evictions.{absent-evicting}
use Rattle.arc_core.proofs.table.Table.bring_in.Goals as goal

pub add-requires-clause-absent : goal.add-requires-clause-absent
add-requires-clause-absent c = rw c.make_room.ensures.shard (absent-evicting c.args.entry.now.key _ _ _ c.requires.absent)

pub returns-clause-shard : goal.returns-clause-shard
returns-clause-shard c = c.trim.ensures.shard ∙ ap (λ t. trimmed t.shard) c.add.ensures ∙ ap (λ s. trimmed (come c.args.entry.now s)) c.make_room.ensures.shard
