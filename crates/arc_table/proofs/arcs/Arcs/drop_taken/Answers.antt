use Rattle.std.proofs.Common.{[], ◌∷◌, Option, Some, refl, sym, ap, subst}
use Rattle.arc_core.specs.declared.entry.Entry.{Entry}
use Rattle.arc_core.specs.declared.event.Event.TheVariants.{Drop}
use Rattle.arc_core.specs.PlainShard.{entry_of}
use Rattle.arc_core.specs.ShardLog.{ShardLog}
use Rattle.arc_core.specs.Step.{after}
use Rattle.hash_chain.specs.declared.header.Header.{Header}
use Rattle.hash_chain.specs.Chain.{given, header_at}
use Rattle.arc_table.specs.Both.{Makes}
use Rattle.arc_table.specs.Geometry.{shard_turn}
use Rattle.arc_table.specs.pact.Headed.{IsHead}
use Rattle.arc_table.specs.Holding.{ptr_of}
use Rattle.arc_table.proofs.reads.HitEvents.{head_there}
use Rattle.arc_table.proofs.HoldEvents.{acts_for, drop_alike, drop_legal, held_alike}
use Rattle.arc_table.proofs.KeptHeads.{head_given}
use Rattle.arc_table.proofs.Lent.{lent, lent_taken}
use Rattle.arc_table.proofs.OneEvent.{makes_these, one_made, some_is, taken_head, taken_holding, taken_sound}
use Rattle.arc_table.proofs.ShardGives.{head_alike}
use Rattle.arc_table.proofs.arcs.Arcs.drop_taken.Goals as goal

pub drop_near-requires : goal.drop_near-requires
drop_near-requires g c =
    let m = g.C.Keeps in
    let same = c.deref_mut.ensures.value in
    let b = lent c.args.both c.deref_mut.result.now in
    let taken = lent_taken m c.args.self.now.config c.args.hold.key c.args.both c.args.party.now c.deref_mut.result.now same c.requires.taken in
    let h = c.args.hold in
    drop_legal h.owner (ptr_of h) b.shard.now (taken_holding m c.args.self.now.config h.key b c.args.party.now taken c.requires.party.config taken.kind.valid h.owner (ptr_of h) refl c.requires.hold)

pub give_block-near-requires : goal.give_block-near-requires
give_block-near-requires g c =
    let m = g.C.Keeps in
    let b = c.args.both in
    let q = c.args.party.now in
    let h = c.args.hold in
    let taken = c.requires.taken in
    held_alike h.owner (ptr_of h) b.shard.now b.hand.own.bucket.headers h.block.value
    (taken_holding m c.args.self.now.config h.key b q taken c.requires.party.config taken.kind.valid h.owner (ptr_of h) refl c.requires.hold)
    (taken_head m c.args.self.now.config h.key b q taken c.requires.party.config taken.kind.valid) h.sized refl

pub give_both-requires-clause-made : goal.give_both-requires-clause-made
give_both-requires-clause-made g c =
    let m = g.C.Keeps in
    let same = c.deref_mut.ensures.value in
    let b = lent c.args.both c.deref_mut.result.now in
    let taken = lent_taken m c.args.self.now.config c.args.hold.key c.args.both c.args.party.now c.deref_mut.result.now same c.requires.taken in
    let h = c.args.hold in
    let q = c.args.party.now in
    let valid = taken.kind.valid in
    let config = c.requires.party.config in
    let holding = taken_holding m c.args.self.now.config h.key b q taken config valid h.owner (ptr_of h) refl c.requires.hold in
    let head = taken_head m c.args.self.now.config h.key b q taken config valid in
    let x = head_there (entry_of h.key b.shard.now) (header_at h.key b.hand.own.bucket.headers) holding.entry head holding.there in
    let ok = drop_legal h.owner (ptr_of h) b.shard.now holding in
    let made = c.drop_near.ensures.makes in
    let o = Some (given h.block c.give_block-near.result x.0) in
    let alike = drop_alike h.owner h.key b.shard.now (taken_sound m c.args.self.now.config h.key b q taken config valid) ok in
    one_made m c.args.self.now.config h.key b q taken config valid (Drop h.owner h.key) record { hand = record b.hand { own = record b.hand.own { bucket = c.give_block-near.new.bucket } }; turn = b.turn; shard = c.drop_near.new.self } o refl refl (refl, refl) refl refl ok
    made.now made.history made.opening record { acts = acts_for c.args.self.now.config q h.owner (ptr_of h) c.requires.hold; fit = tt; feeder = λ e. absurd (cc); own = λ k e. ap (shard_turn c.args.self.now.config) (some_is h.key k e) }
    (c.give_block-near.ensures.given x.0 x.1)
    (head_given h.block c.give_block-near.result (entry_of h.key c.drop_near.new.self.now) x.0
    (subst (λ (z : Option Entry × Option Header). IsHead z.0 z.1) (λ z. (ap (entry_of h.key) (sym made.now) z, x.1 z))
    (head_alike (entry_of h.key b.shard.now) (entry_of h.key (after b.shard.now (Drop h.owner h.key))) (header_at h.key b.hand.own.bucket.headers) alike head)))

pub returns : goal.returns
returns g c =
    let m = g.C.Keeps in
    let same = c.deref_mut.ensures.value in
    let b = lent c.args.both c.deref_mut.result.now in
    let taken = lent_taken m c.args.self.now.config c.args.hold.key c.args.both c.args.party.now c.deref_mut.result.now same c.requires.taken in
    let h = c.args.hold in
    subst (λ (l : ShardLog). Makes m c.args.self.now.config c.args.hold.key l (Drop h.owner h.key ∷ []) c.args.party.now c.give_both.new.party) same
    (makes_these m c.args.self.now.config h.key b.hand.before.value b.shard c.drop_near.new.self (Drop h.owner h.key ∷ []) c.args.party.now c.give_both.new.party taken.new c.drop_near.ensures.makes.history c.give_both.ensures)
