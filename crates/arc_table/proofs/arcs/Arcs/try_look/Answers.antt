use Rattle.std.proofs.Common.{arith, sym, ap, ◌∙◌, subst}
use Rattle.arc_core.specs.declared.config.Config.{Config}
use Rattle.arc_table.specs.Cache.{Cache}
use Rattle.arc_table.specs.Geometry.{IsBucket, IsCell, bucket_turn}
use Rattle.arc_table.proofs.Boards.{bucket_there}
use Rattle.arc_table.proofs.Ranges.{bucket_range}
use Rattle.arc_table.proofs.arcs.Arcs.try_look.Goals as goal

pub try_take-requires-clause-not_held : goal.try_take-requires-clause-not_held
try_take-requires-clause-not_held g c among =
    let same = ap (λ (x : Cache). x.config) c.self.view_is in
    let cell : IsCell c.args.self.now.config c.bucket_turn_of-turn.result = c.requires.look c.bucket_turn_of-turn.result among in
    let range = bucket_range c.self.inside.config c.args.key c.self.invariant.valid in
    let here : IsCell c.self.inside.config (bucket_turn c.self.inside.config c.args.key) = subst (λ (x : Config). IsCell x (bucket_turn c.self.inside.config c.args.key)) (sym same) (subst (IsCell c.args.self.now.config) c.bucket_turn_of-turn.ensures cell) in
    let above = range.0 in
    omega arith

pub into_bucket-requires : goal.into_bucket-requires
into_bucket-requires g c =
    let m = g.C.Keeps in
    let same = ap (λ (x : Cache). x.config) c.self.view_is in
    let range = bucket_range c.self.inside.config c.args.key c.self.invariant.valid in
    bucket_there m c.args.party.now c.bucket_turn_of-turn.result c.in-Taken.value c.in-Taken.ensures.taken.0
    (subst (λ (x : Config). IsBucket x c.bucket_turn_of-turn.result) (same ∙ sym c.requires.party.config) (subst (IsBucket c.self.inside.config) (sym c.bucket_turn_of-turn.ensures) range))
