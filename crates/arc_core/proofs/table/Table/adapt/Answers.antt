use Rattle.std.proofs.Common.{◌≡◌, ◌<◌, ◌≤◌, Some, sym, ap, subst, map, ◌∙◌}
use Rattle.arc_lists.specs.Members.{size_of}
use Rattle.arc_core.specs.PlainShard.{entry_of, member_of}
use Rattle.arc_core.specs.TableModel.{shard_in}
use Rattle.arc_core.proofs.Evictions.{entry-le, found, sized}
use Rattle.arc_core.proofs.table.Table.adapt.Goals as goal

pub adapt-requires-clause-some : goal.adapt-requires-clause-some
adapt-requires-clause-some c =
    let at = found c.args.key c.args.self.now.shard c.in-Some.entry.now c.in-Some.ensures.tidy c.in-Some.ensures.value in
    subst (λ k. 0 < k.size) at.key (sized c.in-Some.entry.now.key at.sound.key)

pub adapt-requires-clause-there : goal.adapt-requires-clause-there
adapt-requires-clause-there c =
    let item : entry_of c.args.key (shard_in c.self.inside) ≡ Some c.in-Some.entry.now = ap (λ t. entry_of c.args.key t.shard) c.self.view_is ∙ sym c.in-Some.ensures.value in
    subst (λ state. c.args.key.size ≤ size_of state (map member_of c.self.inside.entries.items)) c.in-MruGhost.is (entry-le c.args.key (shard_in c.self.inside) c.in-Some.entry.now item)

pub adapt-requires-in-MfuGhost-clause-some : goal.adapt-requires-in-MfuGhost-clause-some
adapt-requires-in-MfuGhost-clause-some c =
    let at = found c.args.key c.args.self.now.shard c.in-Some.entry.now c.in-Some.ensures.tidy c.in-Some.ensures.value in
    subst (λ k. 0 < k.size) at.key (sized c.in-Some.entry.now.key at.sound.key)

pub adapt-requires-in-MfuGhost-clause-there : goal.adapt-requires-in-MfuGhost-clause-there
adapt-requires-in-MfuGhost-clause-there c =
    let item : entry_of c.args.key (shard_in c.self.inside) ≡ Some c.in-Some.entry.now = ap (λ t. entry_of c.args.key t.shard) c.self.view_is ∙ sym c.in-Some.ensures.value in
    subst (λ state. c.args.key.size ≤ size_of state (map member_of c.self.inside.entries.items)) c.in-MfuGhost.is (entry-le c.args.key (shard_in c.self.inside) c.in-Some.entry.now item)
