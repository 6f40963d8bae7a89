use Rattle.std.proofs.Common.{◌≡◌, ℕ, ◌<◌, sym, ap, ◌∙◌, subst, arith}
use Rattle.turn_table.specs.Board.{IsAmong}
use Rattle.turn_table.specs.Moments.{WasFree}
use Rattle.arc_core.specs.declared.config.Config.{Config}
use Rattle.arc_table.specs.declared.item.Item.{Item}
use Rattle.arc_table.specs.declared.item.Item.TheVariants as item
use Rattle.arc_table.specs.Cache.{Cache}
use Rattle.arc_table.specs.Geometry.{IsBucket, bucket_turn, parties_of}
use Rattle.arc_table.specs.pact.Rule.{Pact}
use Rattle.arc_table.proofs.Boards.{bucket_there, given_same}
use Rattle.arc_table.proofs.feeder.FeedTries.{block_if, noted, not_held, still_picked, there, won_as_taken}
use Rattle.arc_table.proofs.reads.HitEvents.{some_there}
use Rattle.arc_table.proofs.Ranges.{bucket_range}
use Rattle.arc_table.proofs.arcs.Arcs.try_block.Goals as goal

pub try_take-requires-clause-not_held : goal.try_take-requires-clause-not_held
try_take-requires-clause-not_held g c among =
    let m = g.C.Keeps in
    let same = ap (λ (x : Cache). x.config) c.self.view_is in
    let s = c.requires.scan in
    not_held m c.args.self.now.config c.args.feed.now c.args.party.now s.0 s.1 c.args.key c.requires.candidate
    (subst (λ (x : ℕ). IsAmong x c.args.party.now.held) (c.bucket_turn_of-turn.ensures ∙ ap (λ (x : Config). bucket_turn x c.args.key) same) among)

pub into_bucket-bucket-requires : goal.into_bucket-bucket-requires
into_bucket-bucket-requires g c =
    let m = g.C.Keeps in
    let same = ap (λ (x : Cache). x.config) c.self.view_is in
    bucket_there m c.args.party.now c.bucket_turn_of-turn.result c.in-Taken.value c.in-Taken.ensures.taken.0
    (subst (λ (x : Config). IsBucket x c.bucket_turn_of-turn.result) (same ∙ sym c.requires.party.config) (subst (IsBucket c.self.inside.config) (sym c.bucket_turn_of-turn.ensures) (bucket_range c.self.inside.config c.args.key c.self.invariant.valid)))

pub block_of-block-requires : goal.block_of-block-requires
block_of-block-requires g c =
    let m = g.C.Keeps in
    let same = ap (λ (x : Cache). x.config) c.self.view_is in
    let s = c.requires.scan in
    let free = subst (λ (x : ℕ × Item g.row.C.Denot). WasFree (Pact m) c.args.party.now x.0 x.1) (λ z. ((c.bucket_turn_of-turn.ensures ∙ ap (λ (x : Config). bucket_turn x c.args.key) same) z, c.into_bucket-bucket.ensures z)) c.in-Taken.ensures.taken.0 in
    some_there (there m c.args.self.now.config c.args.feed.now c.args.party.now s.0 s.1 c.args.key c.requires.candidate c.into_bucket-bucket.result free).kept

pub give-requires-clause-rule : goal.give-requires-clause-rule
give-requires-clause-rule g c =
    let m = g.C.Keeps in
    let s = c.requires.scan in
    given_same m c.try_take.new.party c.bucket_turn_of-turn.result (item.Bucket c.into_bucket-bucket.result)
    (won_as_taken m c.args.self.now.config c.args.feed.now c.args.party.now s.0 s.1 c.args.key c.requires.candidate c.bucket_turn_of-turn.result c.in-Taken.value c.into_bucket-bucket.result c.try_take.new.party c.into_bucket-bucket.ensures c.in-Taken.ensures.taken.1)

pub returns-in-Taken-clause-taken : goal.returns-in-Taken-clause-taken
returns-in-Taken-clause-taken g c =
    let m = g.C.Keeps in
    let same = ap (λ (x : Cache). x.config) c.self.view_is in
    let s = c.requires.scan in
    still_picked m c.args.self.now.config c.args.feed.now c.args.party.now s.0 s.1 c.args.key c.requires.candidate c.bucket_turn_of-turn.result c.in-Taken.value c.into_bucket-bucket.result c.try_take.new.party c.give.new.party
    (c.bucket_turn_of-turn.ensures ∙ ap (λ (x : Config). bucket_turn x c.args.key) same) c.into_bucket-bucket.ensures c.in-Taken.ensures.taken.1 c.give.ensures

pub returns-in-Taken-clause-block : goal.returns-in-Taken-clause-block
returns-in-Taken-clause-block g c =
    let m = g.C.Keeps in
    let same = ap (λ (x : Cache). x.config) c.self.view_is in
    let s = c.requires.scan in
    let free = subst (λ (x : ℕ × Item g.row.C.Denot). WasFree (Pact m) c.args.party.now x.0 x.1) (λ z. ((c.bucket_turn_of-turn.ensures ∙ ap (λ (x : Config). bucket_turn x c.args.key) same) z, c.into_bucket-bucket.ensures z)) c.in-Taken.ensures.taken.0 in
    block_if m c.args.self.now.config c.args.feed.now c.args.party.now s.0 s.1 c.args.key c.requires.candidate c.into_bucket-bucket.result free (λ x. x.value) c.block_of-block.result c.block_of-block.ensures

pub returns-in-Busy-clause-busy : goal.returns-in-Busy-clause-busy
returns-in-Busy-clause-busy g c =
    let m = g.C.Keeps in
    let same = ap (λ (x : Cache). x.config) c.self.view_is in
    let s = c.requires.scan in
    noted m c.args.self.now.config c.args.feed.now c.args.party.now s.0 s.1 c.args.key c.requires.candidate c.bucket_turn_of-turn.result c.in-Busy.owner c.try_take.new.party
    (c.bucket_turn_of-turn.ensures ∙ ap (λ (x : Config). bucket_turn x c.args.key) same) c.in-Busy.ensures.busy.1

pub returns-in-Busy-clause-few : goal.returns-in-Busy-clause-few
returns-in-Busy-clause-few g c =
    let own : c.in-Busy.owner < c.self.inside.turns.parties = c.in-Busy.ensures.owner.0 in
    let parties : c.self.inside.turns.parties ≡ parties_of c.self.inside.config = c.self.invariant.parties in
    let few = c.self.invariant.valid.counts.callers.1 in
    omega arith
