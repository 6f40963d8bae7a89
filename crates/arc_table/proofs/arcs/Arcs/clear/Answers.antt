use Rattle.std.proofs.Common.{◌≡◌, ◌<◌, ℕ, [], ◌∷◌, ◌++◌, true, refl, sym, ap, ◌∙◌, subst, inl}
use Rattle.std.specs.Prelude.{IsTrue, not}
use Rattle.arc_core.specs.declared.event.Event.TheVariants.{Clear}
use Rattle.arc_core.specs.PlainShard.{PlainShard, numbers}
use Rattle.arc_core.specs.ShardLog.{ShardLog}
use Rattle.arc_core.specs.Step.{after, legal}
use Rattle.arc_table.specs.Both.{Makes}
use Rattle.arc_table.specs.feeder.Feeding.{has_place}
use Rattle.arc_table.specs.Geometry.{shard_turn}
use Rattle.arc_table.proofs.feeder.FeedEvents.{clear_legal, clear_like, clear_there, feeder_is, number_few}
use Rattle.arc_table.proofs.FollowEvents.{follow_made, header_there}
use Rattle.arc_table.proofs.reads.HitEvents.{some_there}
use Rattle.arc_table.proofs.OneEvent.{makes_these, some_is, taken_sound}
use Rattle.arc_table.proofs.Reached.{reached}
use Rattle.arc_table.proofs.Taking.{tells}
use Rattle.arc_table.proofs.Lent.{lent, lent_taken, lent_takes}
use Rattle.arc_table.proofs.arcs.Arcs.clear.Goals as goal

pub returns-then-not-has_place-clause-ok : goal.returns-then-not-has_place-clause-ok
returns-then-not-has_place-clause-ok g c =
    let m = g.C.Keeps in
    let b = c.take_both-both in
    let q = b.new.party in
    let p = c.args.party.now in
    let k = c.args.key in
    let config = c.args.self.now.config in
    let same = c.deref_mut-shard.ensures.value in
    let s = c.deref_mut-shard.result.now in
    let takes = lent_takes m config k b.result.hand.own.bucket b.result.shard s p q same b.ensures.takes in
    let valid = b.ensures.kind.valid in
    let f = c.front_of-front in
    let front = f.result in (
      record { chain = b.result.hand.own.bucket; before = s; reached = q; takes = takes; makes = c.give_back.ensures },
      tells m (λ s. IsTrue (not (has_place c.args.place k s))) config k b.result.hand.own.bucket s p q c.give_back.new.party front takes c.requires.party.config valid f.ensures.shard f.ensures.len c.give_back.ensures (ap not (sym c.has_place.ensures ∙ c.if-not-has_place.true)),
    )

pub clear-requires-clause-legal : goal.clear-requires-clause-legal
clear-requires-clause-legal g c =
    let m = g.C.Keeps in
    let b = c.take_both-both in
    let q = b.new.party in
    let p = c.args.party.now in
    let k = c.args.key in
    let config = c.args.self.now.config in
    let same = c.deref_mut-shard.ensures.value in
    let s = c.deref_mut-shard.result.now in
    let takes = lent_takes m config k b.result.hand.own.bucket b.result.shard s p q same b.ensures.takes in
    let valid = b.ensures.kind.valid in
    let n = c.number.result in
    let few = subst (λ (x : ℕ). x < numbers) (sym c.number.ensures) (number_few m config k b.result.hand.own.bucket s p q takes c.requires.party.config valid c.requires.feeder) in
    let has : has_place c.args.place k s.now ≡ true = sym c.has_place.ensures ∙ c.if-not-has_place.false in
    subst (λ (s : PlainShard). IsTrue (legal s (Clear n k))) (sym (ap (λ (l : ShardLog). l.now) c.reserve.ensures.log)) (clear_legal n c.args.place k s.now few has)

pub follow-requires : goal.follow-requires
follow-requires g c =
    let m = g.C.Keeps in
    let b = c.take_both-both in
    let q = b.new.party in
    let p = c.args.party.now in
    let k = c.args.key in
    let config = c.args.self.now.config in
    let same = c.deref_mut-shard.ensures.value in
    let s = c.deref_mut-shard.result.now in
    let takes = lent_takes m config k b.result.hand.own.bucket b.result.shard s p q same b.ensures.takes in
    let valid = b.ensures.kind.valid in
    let n = c.number.result in
    let few = subst (λ (x : ℕ). x < numbers) (sym c.number.ensures) (number_few m config k b.result.hand.own.bucket s p q takes c.requires.party.config valid c.requires.feeder) in
    let has : has_place c.args.place k s.now ≡ true = sym c.has_place.ensures ∙ c.if-not-has_place.false in
    let taken = lent_taken m config k b.result q s same record { kind = b.ensures.kind; new = b.ensures.new; from = p; takes = b.ensures.takes } in
    let e = clear_there n c.args.place k s.now few has in
    some_there (header_there m config k (lent b.result s) q taken b.ensures.party.config valid e.0 e.1).1

pub give_both-requires-clause-made : goal.give_both-requires-clause-made
give_both-requires-clause-made g c =
    let m = g.C.Keeps in
    let b = c.take_both-both in
    let q = b.new.party in
    let p = c.args.party.now in
    let k = c.args.key in
    let config = c.args.self.now.config in
    let same = c.deref_mut-shard.ensures.value in
    let s = c.deref_mut-shard.result.now in
    let takes = lent_takes m config k b.result.hand.own.bucket b.result.shard s p q same b.ensures.takes in
    let valid = b.ensures.kind.valid in
    let n = c.number.result in
    let few = subst (λ (x : ℕ). x < numbers) (sym c.number.ensures) (number_few m config k b.result.hand.own.bucket s p q takes c.requires.party.config valid c.requires.feeder) in
    let has : has_place c.args.place k s.now ≡ true = sym c.has_place.ensures ∙ c.if-not-has_place.false in
    let taken = lent_taken m config k b.result q s same record { kind = b.ensures.kind; new = b.ensures.new; from = p; takes = b.ensures.takes } in
    let made = c.clear.ensures.makes in
    let log = c.reserve.ensures.log in
    let ok = clear_legal n c.args.place k s.now few has in
    follow_made m config k (lent b.result s) q taken b.ensures.party.config valid (Clear n k) c.clear.new.self c.follow.new.bucket refl refl ok (made.now ∙ ap (λ (l : ShardLog). after l.now (Clear n k)) log) (made.history ∙ ap (λ (l : ShardLog). l.history ++ Clear n k ∷ []) log) (made.opening ∙ ap (λ (l : ShardLog). l.opening) log)
    record { acts = inl c.number.ensures; fit = tt; feeder = λ e. c.number.ensures ∙ feeder_is m config k b.result.hand.own.bucket s p q takes c.requires.party.config valid c.requires.feeder; own = λ j e. ap (shard_turn config) (some_is k j e) } (clear_like n k s.now (taken_sound m config k (lent b.result s) q taken b.ensures.party.config valid) ok) c.follow.ensures

pub returns-clause-ok : goal.returns-clause-ok
returns-clause-ok g c =
    let m = g.C.Keeps in
    let b = c.take_both-both in
    let q = b.new.party in
    let p = c.args.party.now in
    let k = c.args.key in
    let config = c.args.self.now.config in
    let same = c.deref_mut-shard.ensures.value in
    let s = c.deref_mut-shard.result.now in
    let takes = lent_takes m config k b.result.hand.own.bucket b.result.shard s p q same b.ensures.takes in
    let valid = b.ensures.kind.valid in
    let n = c.number.result in
    let is : n ≡ p.number = c.number.ensures ∙ (reached m config k b.result.hand.own.bucket s p q takes).number in
    let makes = makes_these m config k b.result.hand.before.value s c.clear.new.self (Clear n k ∷ []) q c.give_both.new.party (b.ensures.new ∙ sym same) (c.clear.ensures.makes.history ∙ ap (λ (l : ShardLog). l.history ++ Clear n k ∷ []) c.reserve.ensures.log) c.give_both.ensures in
    let has : has_place c.args.place k s.now ≡ true = sym c.has_place.ensures ∙ c.if-not-has_place.false in
    (record { chain = b.result.hand.own.bucket; before = s; reached = q; takes = takes; makes = subst (λ (x : ℕ). Makes m config k s (Clear x k ∷ []) q c.give_both.new.party) is makes }, has)
