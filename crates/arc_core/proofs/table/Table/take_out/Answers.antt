use Rattle.std.proofs.Common.{option_map, sym, ap, ◌∙◌}
use Rattle.arc_core.specs.PlainShard.{entry_of}
use Rattle.arc_core.proofs.Evictions.{absent-gone, gone-absent, is_none_of}
use Rattle.arc_core.proofs.table.Table.take_out.Goals as goal

pub returns-then-is_some-clause-absent : goal.returns-then-is_some-clause-absent
returns-then-is_some-clause-absent c = ap (λ t. entry_of c.args.key t.shard) c.remove.ensures ∙ absent-gone c.args.key c.args.self.now.shard c.find.ensures.tidy

pub returns-else-is_some-clause-shard : goal.returns-else-is_some-clause-shard
returns-else-is_some-clause-shard c =
    let none = is_none_of _ (sym c.is_some.ensures ∙ c.if-is_some.false) in
    sym (gone-absent c.args.key c.args.self.now.shard c.find.ensures.tidy (sym c.find.ensures.value ∙ ap (option_map (λ e. e.now)) none))
