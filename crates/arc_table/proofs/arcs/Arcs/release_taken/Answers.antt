use Rattle.std.proofs.Common.{[], ◌∷◌, refl, ap, subst}
use Rattle.arc_core.specs.declared.event.Event.TheVariants.{Release}
use Rattle.arc_table.specs.Geometry.{shard_turn}
use Rattle.arc_table.specs.Holding.{ptr_of}
use Rattle.arc_table.proofs.FollowEvents.{follow_made, header_there, release_like, sole_is}
use Rattle.arc_table.proofs.reads.HitEvents.{some_there}
use Rattle.arc_table.proofs.HoldEvents.{acts_for, release_legal}
use Rattle.arc_table.proofs.OneEvent.{makes_these, some_is, taken_holding, taken_sound}
use Rattle.arc_table.proofs.Lent.{lent, lent_taken}
use Rattle.arc_table.specs.Both.{Makes}
use Rattle.arc_core.specs.ShardLog.{ShardLog}
use Rattle.arc_table.proofs.arcs.Arcs.release_taken.Goals as goal

pub release-requires : goal.release-requires
release-requires g c =
    let m = g.C.Keeps in
    let same = c.deref_mut-shard.ensures.value in
    let b = lent c.args.both c.deref_mut-shard.result.now in
    let taken = lent_taken m c.args.self.now.config c.args.hold.now.key c.args.both c.args.party.now c.deref_mut-shard.result.now same c.requires.taken in
    let h = c.args.hold.now in
    let holding = taken_holding m c.args.self.now.config h.key b c.args.party.now taken c.requires.party.config taken.kind.valid h.owner (ptr_of h) refl c.requires.hold in
    release_legal h.owner (ptr_of h) b.shard.now holding c.is_sole-sole.result (sole_is h.key b.shard.now holding.entry c.is_sole-sole.result holding.there c.is_sole-sole.ensures)

pub follow-requires : goal.follow-requires
follow-requires g c =
    let m = g.C.Keeps in
    let same = c.deref_mut-shard.ensures.value in
    let b = lent c.args.both c.deref_mut-shard.result.now in
    let taken = lent_taken m c.args.self.now.config c.args.hold.now.key c.args.both c.args.party.now c.deref_mut-shard.result.now same c.requires.taken in
    let h = c.args.hold.now in
    let valid = taken.kind.valid in
    let holding = taken_holding m c.args.self.now.config h.key b c.args.party.now taken c.requires.party.config valid h.owner (ptr_of h) refl c.requires.hold in
    some_there (header_there m c.args.self.now.config h.key b c.args.party.now taken c.requires.party.config valid holding.entry holding.there).1

pub give_both-requires-clause-made : goal.give_both-requires-clause-made
give_both-requires-clause-made g c =
    let m = g.C.Keeps in
    let same = c.deref_mut-shard.ensures.value in
    let b = lent c.args.both c.deref_mut-shard.result.now in
    let taken = lent_taken m c.args.self.now.config c.args.hold.now.key c.args.both c.args.party.now c.deref_mut-shard.result.now same c.requires.taken in
    let h = c.args.hold.now in
    let q = c.args.party.now in
    let config = c.args.self.now.config in
    let valid = taken.kind.valid in
    let sole = c.is_sole-sole.result in
    let holding = taken_holding m config h.key b q taken c.requires.party.config valid h.owner (ptr_of h) refl c.requires.hold in
    let ok = release_legal h.owner (ptr_of h) b.shard.now holding sole (sole_is h.key b.shard.now holding.entry sole holding.there c.is_sole-sole.ensures) in
    let made = c.release.ensures.makes in
    follow_made m config h.key b q taken c.requires.party.config valid (Release h.owner h.key sole) c.release.new.self c.follow.new.bucket refl refl ok made.now made.history made.opening
    record { acts = acts_for config q h.owner (ptr_of h) c.requires.hold; fit = tt; feeder = λ e. absurd (cc); own = λ k e. ap (shard_turn config) (some_is h.key k e) }
    (release_like h.owner h.key sole b.shard.now (taken_sound m config h.key b q taken c.requires.party.config valid) ok) c.follow.ensures

pub returns : goal.returns
returns g c =
    let m = g.C.Keeps in
    let same = c.deref_mut-shard.ensures.value in
    let b = lent c.args.both c.deref_mut-shard.result.now in
    let taken = lent_taken m c.args.self.now.config c.args.hold.now.key c.args.both c.args.party.now c.deref_mut-shard.result.now same c.requires.taken in
    let h = c.args.hold.now in (
      c.is_sole-sole.result,
      subst (λ (l : ShardLog). Makes m c.args.self.now.config h.key l (Release h.owner h.key c.is_sole-sole.result ∷ []) c.args.party.now c.give_both.new.party) same
          (makes_these m c.args.self.now.config h.key b.hand.before.value b.shard c.release.new.self (Release h.owner h.key c.is_sole-sole.result ∷ []) c.args.party.now c.give_both.new.party taken.new c.release.ensures.makes.history c.give_both.ensures),
    )
