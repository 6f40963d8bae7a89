use Rattle.std.proofs.Common.{◌≡◌, ◌<◌, ◌≤◌, Some, option_map, sym, ap, subst, map, ◌∙◌}
use Rattle.arc_lists.specs.Members.{size_of}
use Rattle.arc_core.specs.PlainShard.{entry_of, member_of}
use Rattle.arc_core.specs.Sound.{IsTidy}
use Rattle.arc_core.specs.TableModel.{shard_in}
use Rattle.arc_core.proofs.Evictions.{entry-le, found, sized}
use Rattle.arc_core.proofs.table.Table.target_after.Goals as goal

pub adapted-requires-clause-some : goal.adapted-requires-clause-some
adapted-requires-clause-some c =
    let s = c.args.self.now.shard in
    let tidy = subst (λ t. IsTidy t.shard) c.self.view_is c.self.invariant.tidy in
    let at = found c.args.key s c.in-Some.entry.now tidy (sym (ap (option_map (λ r. r.now)) c.in-Some.is) ∙ c.requires) in
    subst (λ k. 0 < k.size) at.key (sized c.in-Some.entry.now.key at.sound.key)

pub adapted-requires-clause-there : goal.adapted-requires-clause-there
adapted-requires-clause-there c =
    let item : entry_of c.args.key (shard_in c.self.inside) ≡ Some c.in-Some.entry.now =
    ap (λ t. entry_of c.args.key t.shard) c.self.view_is ∙ sym c.requires ∙ ap (option_map (λ r. r.now)) c.in-Some.is in
    subst (λ state. c.args.key.size ≤ size_of state (map member_of c.self.inside.entries.items)) c.in-MruGhost.is (entry-le c.args.key (shard_in c.self.inside) c.in-Some.entry.now item)

pub adapted-requires-in-MfuGhost-clause-some : goal.adapted-requires-in-MfuGhost-clause-some
adapted-requires-in-MfuGhost-clause-some c =
    let s = c.args.self.now.shard in
    let tidy = subst (λ t. IsTidy t.shard) c.self.view_is c.self.invariant.tidy in
    let at = found c.args.key s c.in-Some.entry.now tidy (sym (ap (option_map (λ r. r.now)) c.in-Some.is) ∙ c.requires) in
    subst (λ k. 0 < k.size) at.key (sized c.in-Some.entry.now.key at.sound.key)

pub adapted-requires-in-MfuGhost-clause-there : goal.adapted-requires-in-MfuGhost-clause-there
adapted-requires-in-MfuGhost-clause-there c =
    let item : entry_of c.args.key (shard_in c.self.inside) ≡ Some c.in-Some.entry.now =
    ap (λ t. entry_of c.args.key t.shard) c.self.view_is ∙ sym c.requires ∙ ap (option_map (λ r. r.now)) c.in-Some.is in
    subst (λ state. c.args.key.size ≤ size_of state (map member_of c.self.inside.entries.items)) c.in-MfuGhost.is (entry-le c.args.key (shard_in c.self.inside) c.in-Some.entry.now item)
