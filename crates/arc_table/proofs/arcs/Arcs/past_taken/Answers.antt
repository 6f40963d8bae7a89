use Rattle.std.proofs.Common.{◌≡◌, ℕ, [], ◌∷◌, ◌++◌, refl, ap, ◌∙◌, subst, sym, inl}
use Rattle.std.specs.Prelude.{IsTrue}
use Rattle.arc_core.specs.declared.event.Event.TheVariants.{Past}
use Rattle.arc_core.specs.PlainShard.{PlainShard}
use Rattle.arc_core.specs.ShardLog.{ShardLog}
use Rattle.arc_core.specs.Step.{after, legal}
use Rattle.arc_table.specs.Geometry.{shard_turn}
use Rattle.arc_table.proofs.OneEvent.{alike_made, makes_these, same_head, some_is, taken_few}
use Rattle.arc_table.proofs.reads.PastEvents.{past_legal}
use Rattle.arc_table.proofs.Lent.{lent, lent_taken}
use Rattle.arc_table.specs.Both.{Makes}
use Rattle.arc_table.specs.pact.Standing.{IsCachedWith}
use Rattle.arc_table.proofs.arcs.Arcs.past_taken.Goals as goal

pub past-requires-clause-legal : goal.past-requires-clause-legal
past-requires-clause-legal g c =
    let m = g.C.Keeps in
    let same = c.deref_mut-shard.ensures.value in
    let b = lent c.args.both c.deref_mut-shard.result.now in
    let taken = lent_taken m c.args.self.now.config c.args.key c.args.both c.args.party.now c.deref_mut-shard.result.now same c.requires.taken in
    let kept = subst (λ (l : ShardLog). IsCachedWith (record { key = c.args.key; digest = c.args.kept }) l.now) (sym same) c.requires.kept in
    subst (λ (x : ℕ × PlainShard). IsTrue (legal x.1 (Past x.0 c.args.key c.args.kept))) (λ z. (sym c.number.ensures z, (sym c.reserve.ensures.log z).now))
    (past_legal c.args.party.now.number c.args.key c.args.kept b.shard.now (taken_few m c.args.self.now.config c.args.key b c.args.party.now taken c.requires.party.config taken.kind.valid) kept)

pub give_both-requires-clause-made : goal.give_both-requires-clause-made
give_both-requires-clause-made g c =
    let m = g.C.Keeps in
    let same = c.deref_mut-shard.ensures.value in
    let b = lent c.args.both c.deref_mut-shard.result.now in
    let taken = lent_taken m c.args.self.now.config c.args.key c.args.both c.args.party.now c.deref_mut-shard.result.now same c.requires.taken in
    let kept = subst (λ (l : ShardLog). IsCachedWith (record { key = c.args.key; digest = c.args.kept }) l.now) (sym same) c.requires.kept in
    let config = c.args.self.now.config in
    let k = c.args.key in
    let q = c.args.party.now in
    let valid = taken.kind.valid in
    let n : c.number.result ≡ q.number = c.number.ensures in
    alike_made m config k b q taken c.requires.party.config valid (Past q.number k c.args.kept) record { hand = b.hand; turn = b.turn; shard = c.past.new.self } refl refl refl refl
    (past_legal q.number k c.args.kept b.shard.now (taken_few m config k b q taken c.requires.party.config valid) kept)
    (c.past.ensures.makes.now ∙ (λ z. after (c.reserve.ensures.log z).now (Past (n z) k c.args.kept)))
    (c.past.ensures.makes.history ∙ (λ z. (c.reserve.ensures.log z).history ++ Past (n z) k c.args.kept ∷ []))
    (c.past.ensures.makes.opening ∙ ap (λ (l : ShardLog). l.opening) c.reserve.ensures.log)
    record { acts = inl refl; fit = tt; feeder = λ x. absurd (cc); own = λ j x. ap (shard_turn config) (some_is k j x) }
    (same_head (Rattle.arc_core.specs.PlainShard.entry_of k b.shard.now))

pub returns-clause-ok : goal.returns-clause-ok
returns-clause-ok g c =
    let m = g.C.Keeps in
    let same = c.deref_mut-shard.ensures.value in
    let b = lent c.args.both c.deref_mut-shard.result.now in
    let taken = lent_taken m c.args.self.now.config c.args.key c.args.both c.args.party.now c.deref_mut-shard.result.now same c.requires.taken in
    let q = c.args.party.now in
    let n : c.number.result ≡ q.number = c.number.ensures in
    subst (λ (l : ShardLog). Makes m c.args.self.now.config c.args.key l (Past q.number c.args.key c.args.kept ∷ []) c.args.party.now c.give_both.new.party) same
    (makes_these m c.args.self.now.config c.args.key b.hand.before.value b.shard c.past.new.self (Past q.number c.args.key c.args.kept ∷ []) q c.give_both.new.party taken.new
    (c.past.ensures.makes.history ∙ (λ z. (c.reserve.ensures.log z).history ++ Past (n z) c.args.key c.args.kept ∷ [])) c.give_both.ensures)
