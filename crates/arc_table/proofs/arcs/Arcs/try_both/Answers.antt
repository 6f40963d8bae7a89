use Rattle.std.proofs.Common.{◌≡◌, ℕ, List, ◌∷◌, [], refl, sym, ap, ◌∙◌, subst}
use Rattle.turn_table.specs.Board.{IsAmong}
use Rattle.turn_table.specs.Places.{Place}
use Rattle.arc_core.specs.declared.config.Config.{Config}
use Rattle.arc_table.specs.declared.item.Item.{Item}
use Rattle.arc_table.specs.declared.item.Item.TheVariants as item
use Rattle.arc_table.specs.declared.view.Known.{Known}
use Rattle.arc_table.specs.Both.{Takes}
use Rattle.arc_table.specs.Cache.{Cache}
use Rattle.arc_table.specs.Geometry.{IsBucket, IsCell, IsShard, bucket_turn, shard_turn}
use Rattle.arc_table.proofs.Boards.{bucket_there, given_same, shard_there}
use Rattle.arc_table.proofs.Ranges.{bucket_range, shard_range}
use Rattle.arc_table.proofs.Taking.{busy_at_shard, lost_as_taken, no_bucket, no_shard}
use Rattle.arc_table.proofs.arcs.Arcs.try_both.Goals as goal

pub try_take-requires-clause-not_held : goal.try_take-requires-clause-not_held
try_take-requires-clause-not_held g c among =
    let same = ap (λ (x : Cache). x.config) c.self.view_is in
    no_bucket c.self.inside.config c.args.key c.args.party.now.held c.self.invariant.valid (λ i h. subst (λ (x : Config). IsCell x i) (sym same) (c.requires.look i h))
    (subst (λ (x : ℕ). IsAmong x c.args.party.now.held) c.bucket_turn_of-own.ensures among)

pub into_bucket-bucket-requires : goal.into_bucket-bucket-requires
into_bucket-bucket-requires g c =
    let m = g.C.Keeps in
    let same = ap (λ (x : Cache). x.config) c.self.view_is in
    bucket_there m c.args.party.now c.bucket_turn_of-own.result c.in-Taken.value c.in-Taken.ensures.taken.0
    (subst (λ (x : Config). IsBucket x c.bucket_turn_of-own.result) (same ∙ sym c.requires.party.config) (subst (IsBucket c.self.inside.config) (sym c.bucket_turn_of-own.ensures) (bucket_range c.self.inside.config c.args.key c.self.invariant.valid)))

pub try_take-requires-2-clause-not_held : goal.try_take-requires-2-clause-not_held
try_take-requires-2-clause-not_held g c among =
    let same = ap (λ (x : Cache). x.config) c.self.view_is in
    let held : c.try_take.new.party.held ≡ bucket_turn c.self.inside.config c.args.key ∷ c.args.party.now.held =
    ap (λ (x : Place (Known g.row.C.Denot)). x.held) c.in-Taken.ensures.taken.1 ∙ ap (λ (x : ℕ). x ∷ c.args.party.now.held) c.bucket_turn_of-own.ensures in
    no_shard c.self.inside.config c.args.key c.args.party.now.held c.self.invariant.valid (λ i h. subst (λ (x : Config). IsCell x i) (sym same) (c.requires.look i h))
    (subst (λ (x : ℕ × List ℕ). IsAmong x.0 x.1) (λ z. (c.shard_turn_of-turn.ensures z, held z)) among)

pub give-requires-clause-rule : goal.give-requires-clause-rule
give-requires-clause-rule g c =
    let m = g.C.Keeps in
    given_same m c.try_take-2.new.party c.bucket_turn_of-own.result (item.Bucket c.into_bucket-bucket.result)
    (lost_as_taken m c.bucket_turn_of-own.result c.in-Taken.value (item.Bucket c.into_bucket-bucket.result) c.shard_turn_of-turn.result c.in-Busy-try_take.owner c.args.party.now c.try_take.new.party c.try_take-2.new.party c.into_bucket-bucket.ensures
    c.in-Taken.ensures.taken.1 c.in-Busy-try_take.ensures.busy.1)

pub returns-in-Busy-try_take-clause-busy : goal.returns-in-Busy-try_take-clause-busy
returns-in-Busy-try_take-clause-busy g c =
    let m = g.C.Keeps in
    let same = ap (λ (x : Cache). x.config) c.self.view_is in
    busy_at_shard m c.args.self.now.config c.args.key c.bucket_turn_of-own.result c.shard_turn_of-turn.result c.into_bucket-bucket.result c.in-Taken.value c.in-Busy-try_take.owner c.args.party.now c.try_take.new.party c.try_take-2.new.party c.give.new.party
    (c.bucket_turn_of-own.ensures ∙ ap (λ (x : Config). bucket_turn x c.args.key) same) (c.shard_turn_of-turn.ensures ∙ ap (λ (x : Config). shard_turn x c.args.key) same) c.into_bucket-bucket.ensures
    c.in-Taken.ensures.taken.0 c.in-Taken.ensures.taken.1 c.in-Busy-try_take.ensures.busy.0 c.in-Busy-try_take.ensures.busy.1 c.give.ensures

pub into_shard-shard-requires : goal.into_shard-shard-requires
into_shard-shard-requires g c =
    let m = g.C.Keeps in
    let same = ap (λ (x : Cache). x.config) c.self.view_is in
    let config = ap (λ (x : Place (Known g.row.C.Denot)). x.own.about.config) c.in-Taken.ensures.taken.1 ∙ c.requires.party.config in
    shard_there m c.try_take.new.party c.shard_turn_of-turn.result c.in-Taken-try_take.value c.in-Taken-try_take.ensures.taken.0
    (subst (λ (x : Config). IsShard x c.shard_turn_of-turn.result) (same ∙ sym config) (subst (IsShard c.self.inside.config) (sym c.shard_turn_of-turn.ensures) (shard_range c.self.inside.config c.args.key c.self.invariant.valid)))

pub returns-clause-takes : goal.returns-clause-takes
returns-clause-takes g c =
    let m = g.C.Keeps in
    let same = ap (λ (x : Cache). x.config) c.self.view_is in
    let p = c.args.party.now in
    let q = c.try_take.new.party in
    let t = c.in-Taken.ensures.taken in
    let u = c.in-Taken-try_take.ensures.taken in
    let bucket : c.bucket_turn_of-own.result ≡ bucket_turn c.args.self.now.config c.args.key = c.bucket_turn_of-own.ensures ∙ ap (λ (x : Config). bucket_turn x c.args.key) same in
    let shard : c.shard_turn_of-turn.result ≡ shard_turn c.args.self.now.config c.args.key = c.shard_turn_of-turn.ensures ∙ ap (λ (x : Config). shard_turn x c.args.key) same in record {
      between = q;
      bucket = subst (λ (x : ℕ × Item g.row.C.Denot). Takes m x.0 x.1 p q) (λ z. (bucket z, c.into_bucket-bucket.ensures z)) record { owners = []; knew = p.own; lost = refl; free = t.0; took = t.1 };
      shard = subst (λ (x : ℕ × Item g.row.C.Denot). Takes m x.0 x.1 q c.try_take-2.new.party) (λ z. (shard z, c.into_shard-shard.ensures z)) record { owners = []; knew = q.own; lost = refl; free = u.0; took = u.1 };
    }
