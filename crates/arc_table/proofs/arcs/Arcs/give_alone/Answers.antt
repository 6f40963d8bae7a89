use Rattle.std.proofs.Common.{[], sym, ap, ◌∙◌, subst}
use Rattle.arc_core.specs.declared.config.Config.{Config}
use Rattle.arc_core.specs.Config.{IsConfig}
use Rattle.arc_table.specs.Cache.{Cache}
use Rattle.arc_table.specs.Geometry.{IsShard}
use Rattle.arc_table.specs.InHand.{made_since}
use Rattle.arc_table.proofs.BookedAfter.{booked_after}
use Rattle.arc_table.proofs.ShardGives.{given_shard}
use Rattle.arc_table.proofs.arcs.Arcs.give_alone.Goals as goal

pub give_with-requires-clause-rule : goal.give_with-requires-clause-rule
give_with-requires-clause-rule g c =
    let m = g.C.Keeps in
    let f = c.args.feed in
    let same = ap (λ (x : Cache). x.config) c.self.view_is in
    given_shard m booked_after c.args.party.now f.turn [] f.before.value (made_since f.before.value f.shard) f.shard c.requires.given
    (subst (λ (x : Config). IsShard x f.turn) (sym c.requires.party.config) c.requires.range)
    (subst IsConfig (same ∙ sym c.requires.party.config) c.self.invariant.valid)
