use Rattle.std.proofs.Common.{◌≡◌, ℕ, sym, ap, ◌∙◌, subst}
use Rattle.turn_table.specs.Board.{IsAmong}
use Rattle.turn_table.specs.Places.{saw}
use Rattle.arc_core.specs.declared.config.Config.{Config}
use Rattle.arc_table.specs.declared.about.About.{About}
use Rattle.arc_table.specs.declared.item.Item.{Item}
use Rattle.arc_table.specs.Both.{Takes}
use Rattle.arc_table.specs.Cache.{Cache}
use Rattle.arc_table.specs.Geometry.{IsBucket, IsCell, bucket_turn}
use Rattle.arc_table.proofs.Boards.{bucket_there, loses_about}
use Rattle.arc_table.proofs.Ranges.{bucket_range}
use Rattle.arc_table.proofs.Taking.{no_bucket}
use Rattle.arc_table.proofs.arcs.Arcs.take_bucket.Goals as goal

pub take-requires-clause-not_held : goal.take-requires-clause-not_held
take-requires-clause-not_held g c among =
    let same = ap (λ (x : Cache). x.config) c.self.view_is in
    no_bucket c.self.inside.config c.args.key c.args.party.now.held c.self.invariant.valid (λ i h. subst (λ (x : Config). IsCell x i) (sym same) (c.requires.look i h))
    (subst (λ (x : ℕ). IsAmong x c.args.party.now.held) c.bucket_turn_of-turn.ensures among)

pub into_bucket-bucket-requires : goal.into_bucket-bucket-requires
into_bucket-bucket-requires g c =
    let m = g.C.Keeps in
    let same = ap (λ (x : Cache). x.config) c.self.view_is in
    let t = c.take.ensures in
    let p = c.args.party.now in
    let config = ap (λ (x : About). x.config) (loses_about m c.bucket_turn_of-turn.result t.0 p (saw p t.1) t.2) ∙ c.requires.party.config in
    bucket_there m (saw p t.1) c.bucket_turn_of-turn.result c.take.result t.3
    (subst (λ (x : Config). IsBucket x c.bucket_turn_of-turn.result) (same ∙ sym config) (subst (IsBucket c.self.inside.config) (sym c.bucket_turn_of-turn.ensures) (bucket_range c.self.inside.config c.args.key c.self.invariant.valid)))

pub returns-clause-takes : goal.returns-clause-takes
returns-clause-takes g c =
    let m = g.C.Keeps in
    let same = ap (λ (x : Cache). x.config) c.self.view_is in
    let t = c.take.ensures in
    let bucket : c.bucket_turn_of-turn.result ≡ bucket_turn c.args.self.now.config c.args.key = c.bucket_turn_of-turn.ensures ∙ ap (λ (x : Config). bucket_turn x c.args.key) same in
    subst (λ (x : ℕ × Item g.row.C.Denot). Takes m x.0 x.1 c.args.party.now c.take.new.party) (λ z. (bucket z, c.into_bucket-bucket.ensures z)) record { owners = t.0; knew = t.1; lost = t.2; free = t.3; took = t.4 }
