use Rattle.std.proofs.Common.{◌≡◌, ℕ, sym, ap, ◌∙◌, subst}
use Rattle.turn_table.specs.Places.{saw}
use Rattle.arc_core.specs.declared.config.Config.{Config}
use Rattle.arc_table.specs.declared.about.About.{About}
use Rattle.arc_table.specs.declared.item.Item.{Item}
use Rattle.arc_table.specs.Both.{Takes}
use Rattle.arc_table.specs.Cache.{Cache}
use Rattle.arc_table.specs.Geometry.{IsShard, shard_turn}
use Rattle.arc_table.proofs.Boards.{loses_about, shard_there}
use Rattle.arc_table.proofs.Ranges.{shard_range}
use Rattle.arc_table.proofs.arcs.Arcs.take_shard.Goals as goal

pub into_shard-shard-requires : goal.into_shard-shard-requires
into_shard-shard-requires g c =
    let m = g.C.Keeps in
    let same = ap (λ (x : Cache). x.config) c.self.view_is in
    let t = c.take.ensures in
    let p = c.args.party.now in
    let config = ap (λ (x : About). x.config) (loses_about m c.args.turn t.0 p (saw p t.1) t.2) ∙ c.requires.party.config in
    shard_there m (saw p t.1) c.args.turn c.take.result t.3
    (subst (λ (x : Config). IsShard x c.args.turn) (same ∙ sym config) (subst (IsShard c.self.inside.config) (sym (c.requires.turn ∙ sym (ap (λ (x : Config). shard_turn x c.args.key) same))) (shard_range c.self.inside.config c.args.key c.self.invariant.valid)))

pub returns-clause-takes : goal.returns-clause-takes
returns-clause-takes g c =
    let m = g.C.Keeps in
    let same = ap (λ (x : Cache). x.config) c.self.view_is in
    let t = c.take.ensures in
    let shard : c.args.turn ≡ shard_turn c.args.self.now.config c.args.key = c.requires.turn in
    subst (λ (x : ℕ × Item g.row.C.Denot). Takes m x.0 x.1 c.args.party.now c.take.new.party) (λ z. (shard z, c.into_shard-shard.ensures z)) record { owners = t.0; knew = t.1; lost = t.2; free = t.3; took = t.4 }
