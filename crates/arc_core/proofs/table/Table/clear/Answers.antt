use Rattle.std.proofs.Common.{true, false, sym, ap, ◌∙◌}
use Rattle.arc_core.proofs.Placing.{clear-has, clear-there, cleared-is}
use Rattle.arc_core.proofs.table.Table.clear.Goals as goal

pub remove-requires : goal.remove-requires
remove-requires c = clear-there c.args.n c.args.key c.args.self.now.shard c.requires

pub put_place-requires : goal.put_place-requires
put_place-requires c = clear-has c.args.n c.args.key c.args.self.now.shard c.requires (sym c.is_l2_only.ensures ∙ c.if-is_l2_only.false)

pub returns-then-is_l2_only-clause-shard : goal.returns-then-is_l2_only-clause-shard
returns-then-is_l2_only-clause-shard c =
    ap (λ t. t.shard) c.remove.ensures ∙ cleared-is c.args.key c.args.self.now.shard true (sym c.is_l2_only.ensures ∙ c.if-is_l2_only.true)

pub returns-else-is_l2_only-clause-shard : goal.returns-else-is_l2_only-clause-shard
returns-else-is_l2_only-clause-shard c =
    ap (λ t. t.shard) c.put_place.ensures ∙ cleared-is c.args.key c.args.self.now.shard false (sym c.is_l2_only.ensures ∙ c.if-is_l2_only.false)
