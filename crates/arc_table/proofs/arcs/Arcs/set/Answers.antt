use Rattle.std.proofs.Common.{◌≡◌, ◌<◌, ℕ, [], ◌∷◌, false, true, refl, sym, ap, ◌∙◌, subst, inl}
use Rattle.std.specs.Prelude.{not}
use Rattle.arc_core.specs.declared.event.Event.TheVariants.{Set, Leave}
use Rattle.arc_core.specs.declared.event.Why.TheVariants as why
use Rattle.arc_core.specs.PlainShard.{numbers}
use Rattle.arc_core.specs.Step.{may_set}
use Rattle.arc_table.specs.Both.{Makes}
use Rattle.arc_table.specs.Geometry.{shard_turn}
use Rattle.arc_table.proofs.feeder.FeedEvents.{feeder_is, leave_legal, leave_same, number_few, number_is, pick_there, set_legal, set_like, set_there, writes}
use Rattle.arc_table.proofs.FollowEvents.{follow_made, header_there}
use Rattle.arc_table.proofs.reads.HitEvents.{some_there}
use Rattle.arc_table.proofs.OneEvent.{alike_made, makes_these, some_is, taken_sound}
use Rattle.arc_table.proofs.Reached.{reached}
use Rattle.arc_table.proofs.Lent.{lent, lent_taken, lent_takes}
use Rattle.arc_table.proofs.arcs.Arcs.set.Goals as goal

pub may_set-requires-clause-number : goal.may_set-requires-clause-number
may_set-requires-clause-number g c =
    let m = g.C.Keeps in
    let b = c.take_both-both in
    let q = b.new.party in
    let p = c.args.party.now in
    let k = c.args.key in
    let config = c.args.self.now.config in
    let same = c.deref_mut-shard.ensures.value in
    let s = c.deref_mut-shard.result.now in
    let takes = lent_takes m config k b.result.hand.own.bucket b.result.shard s p q same b.ensures.takes in
    let valid = b.ensures.kind.valid in
    let n = c.number-n.result in
    let few = subst (λ (x : ℕ). x < numbers) (sym c.number-n.ensures) (number_few m config k b.result.hand.own.bucket s p q takes c.requires.party.config valid c.requires.feeder) in
    number_is n few

pub may_set-requires-clause-writing : goal.may_set-requires-clause-writing
may_set-requires-clause-writing g c =
    let m = g.C.Keeps in
    let b = c.take_both-both in
    let q = b.new.party in
    let p = c.args.party.now in
    let k = c.args.key in
    let config = c.args.self.now.config in
    let same = c.deref_mut-shard.ensures.value in
    let s = c.deref_mut-shard.result.now in
    let takes = lent_takes m config k b.result.hand.own.bucket b.result.shard s p q same b.ensures.takes in
    let valid = b.ensures.kind.valid in
    let writing = writes m config k b.result.hand.own.bucket s p q takes c.requires.party.config valid c.requires.feeder c.requires.picked in
    let there = pick_there m config k b.result.hand.own.bucket s p q takes c.requires.party.config valid c.requires.feeder c.requires.picked in
    writing

pub leave-requires : goal.leave-requires
leave-requires g c =
    let m = g.C.Keeps in
    let b = c.take_both-both in
    let q = b.new.party in
    let p = c.args.party.now in
    let k = c.args.key in
    let config = c.args.self.now.config in
    let same = c.deref_mut-shard.ensures.value in
    let s = c.deref_mut-shard.result.now in
    let takes = lent_takes m config k b.result.hand.own.bucket b.result.shard s p q same b.ensures.takes in
    let valid = b.ensures.kind.valid in
    let n = c.number-n.result in
    let few = subst (λ (x : ℕ). x < numbers) (sym c.number-n.ensures) (number_few m config k b.result.hand.own.bucket s p q takes c.requires.party.config valid c.requires.feeder) in
    let writing = writes m config k b.result.hand.own.bucket s p q takes c.requires.party.config valid c.requires.feeder c.requires.picked in
    let there = pick_there m config k b.result.hand.own.bucket s p q takes c.requires.party.config valid c.requires.feeder c.requires.picked in
    let may : may_set k s.now ≡ false = sym c.may_set.ensures ∙ c.if-not-may_set.true in
    let ok = leave_legal n k why.Gone s.now few writing there (ap not (sym may)) in
    ok

pub give_both-requires-clause-made : goal.give_both-requires-clause-made
give_both-requires-clause-made g c =
    let m = g.C.Keeps in
    let b = c.take_both-both in
    let q = b.new.party in
    let p = c.args.party.now in
    let k = c.args.key in
    let config = c.args.self.now.config in
    let same = c.deref_mut-shard.ensures.value in
    let s = c.deref_mut-shard.result.now in
    let takes = lent_takes m config k b.result.hand.own.bucket b.result.shard s p q same b.ensures.takes in
    let valid = b.ensures.kind.valid in
    let n = c.number-n.result in
    let few = subst (λ (x : ℕ). x < numbers) (sym c.number-n.ensures) (number_few m config k b.result.hand.own.bucket s p q takes c.requires.party.config valid c.requires.feeder) in
    let writing = writes m config k b.result.hand.own.bucket s p q takes c.requires.party.config valid c.requires.feeder c.requires.picked in
    let there = pick_there m config k b.result.hand.own.bucket s p q takes c.requires.party.config valid c.requires.feeder c.requires.picked in
    let taken = lent_taken m config k b.result q s same record { kind = b.ensures.kind; new = b.ensures.new; from = p; takes = b.ensures.takes } in
    let may : may_set k s.now ≡ false = sym c.may_set.ensures ∙ c.if-not-may_set.true in
    let ok = leave_legal n k why.Gone s.now few writing there (ap not (sym may)) in
    let made = c.leave.ensures.makes in
    alike_made m config k (lent b.result s) q taken b.ensures.party.config valid (Leave n k why.Gone) record { hand = b.result.hand; turn = b.result.turn; shard = c.leave.new.self } refl refl refl refl ok made.now made.history made.opening
    record { acts = inl c.number-n.ensures; fit = tt; feeder = λ e. c.number-n.ensures ∙ feeder_is m config k b.result.hand.own.bucket s p q takes c.requires.party.config valid c.requires.feeder; own = λ j e. ap (shard_turn config) (some_is k j e) } (leave_same n k why.Gone s.now (taken_sound m config k (lent b.result s) q taken b.ensures.party.config valid) ok)

pub returns-then-not-may_set : goal.returns-then-not-may_set
returns-then-not-may_set g c =
    let m = g.C.Keeps in
    let b = c.take_both-both in
    let q = b.new.party in
    let p = c.args.party.now in
    let k = c.args.key in
    let config = c.args.self.now.config in
    let same = c.deref_mut-shard.ensures.value in
    let s = c.deref_mut-shard.result.now in
    let takes = lent_takes m config k b.result.hand.own.bucket b.result.shard s p q same b.ensures.takes in
    let valid = b.ensures.kind.valid in
    let n = c.number-n.result in
    let is : n ≡ p.number = c.number-n.ensures ∙ (reached m config k b.result.hand.own.bucket s p q takes).number in
    let makes = makes_these m config k b.result.hand.before.value s c.leave.new.self (Leave n k why.Gone ∷ []) q c.give_both.new.party (b.ensures.new ∙ sym same) c.leave.ensures.makes.history c.give_both.ensures in
    record { chain = b.result.hand.own.bucket; before = s; reached = q; takes = takes; makes = subst (λ (x : ℕ). Makes m config k s (Leave x k why.Gone ∷ []) q c.give_both.new.party) is makes }

pub set-requires : goal.set-requires
set-requires g c =
    let m = g.C.Keeps in
    let b = c.take_both-both in
    let q = b.new.party in
    let p = c.args.party.now in
    let k = c.args.key in
    let config = c.args.self.now.config in
    let same = c.deref_mut-shard.ensures.value in
    let s = c.deref_mut-shard.result.now in
    let takes = lent_takes m config k b.result.hand.own.bucket b.result.shard s p q same b.ensures.takes in
    let valid = b.ensures.kind.valid in
    let n = c.number-n.result in
    let few = subst (λ (x : ℕ). x < numbers) (sym c.number-n.ensures) (number_few m config k b.result.hand.own.bucket s p q takes c.requires.party.config valid c.requires.feeder) in
    let writing = writes m config k b.result.hand.own.bucket s p q takes c.requires.party.config valid c.requires.feeder c.requires.picked in
    let there = pick_there m config k b.result.hand.own.bucket s p q takes c.requires.party.config valid c.requires.feeder c.requires.picked in
    let may : may_set k s.now ≡ true = sym c.may_set.ensures ∙ c.if-not-may_set.false in
    let ok = set_legal n c.args.place k s.now few writing may in
    ok

pub follow-requires : goal.follow-requires
follow-requires g c =
    let m = g.C.Keeps in
    let b = c.take_both-both in
    let q = b.new.party in
    let p = c.args.party.now in
    let k = c.args.key in
    let config = c.args.self.now.config in
    let same = c.deref_mut-shard.ensures.value in
    let s = c.deref_mut-shard.result.now in
    let takes = lent_takes m config k b.result.hand.own.bucket b.result.shard s p q same b.ensures.takes in
    let valid = b.ensures.kind.valid in
    let may : may_set k s.now ≡ true = sym c.may_set.ensures ∙ c.if-not-may_set.false in
    let taken = lent_taken m config k b.result q s same record { kind = b.ensures.kind; new = b.ensures.new; from = p; takes = b.ensures.takes } in
    let e = set_there k s.now may in
    some_there (header_there m config k (lent b.result s) q taken b.ensures.party.config valid e.0 e.1).1

pub give_both-requires-2-clause-made : goal.give_both-requires-2-clause-made
give_both-requires-2-clause-made g c =
    let m = g.C.Keeps in
    let b = c.take_both-both in
    let q = b.new.party in
    let p = c.args.party.now in
    let k = c.args.key in
    let config = c.args.self.now.config in
    let same = c.deref_mut-shard.ensures.value in
    let s = c.deref_mut-shard.result.now in
    let takes = lent_takes m config k b.result.hand.own.bucket b.result.shard s p q same b.ensures.takes in
    let valid = b.ensures.kind.valid in
    let n = c.number-n.result in
    let few = subst (λ (x : ℕ). x < numbers) (sym c.number-n.ensures) (number_few m config k b.result.hand.own.bucket s p q takes c.requires.party.config valid c.requires.feeder) in
    let writing = writes m config k b.result.hand.own.bucket s p q takes c.requires.party.config valid c.requires.feeder c.requires.picked in
    let there = pick_there m config k b.result.hand.own.bucket s p q takes c.requires.party.config valid c.requires.feeder c.requires.picked in
    let taken = lent_taken m config k b.result q s same record { kind = b.ensures.kind; new = b.ensures.new; from = p; takes = b.ensures.takes } in
    let may : may_set k s.now ≡ true = sym c.may_set.ensures ∙ c.if-not-may_set.false in
    let ok = set_legal n c.args.place k s.now few writing may in
    let made = c.set.ensures.makes in
    follow_made m config k (lent b.result s) q taken b.ensures.party.config valid (Set n k c.args.place) c.set.new.self c.follow.new.bucket refl refl ok made.now made.history made.opening
    record { acts = inl c.number-n.ensures; fit = tt; feeder = λ e. c.number-n.ensures ∙ feeder_is m config k b.result.hand.own.bucket s p q takes c.requires.party.config valid c.requires.feeder; own = λ j e. ap (shard_turn config) (some_is k j e) } (set_like n c.args.place k s.now (taken_sound m config k (lent b.result s) q taken b.ensures.party.config valid) ok) c.follow.ensures

pub returns : goal.returns
returns g c =
    let m = g.C.Keeps in
    let b = c.take_both-both in
    let q = b.new.party in
    let p = c.args.party.now in
    let k = c.args.key in
    let config = c.args.self.now.config in
    let same = c.deref_mut-shard.ensures.value in
    let s = c.deref_mut-shard.result.now in
    let takes = lent_takes m config k b.result.hand.own.bucket b.result.shard s p q same b.ensures.takes in
    let valid = b.ensures.kind.valid in
    let n = c.number-n.result in
    let is : n ≡ p.number = c.number-n.ensures ∙ (reached m config k b.result.hand.own.bucket s p q takes).number in
    let makes = makes_these m config k b.result.hand.before.value s c.set.new.self (Set n k c.args.place ∷ []) q c.give_both-2.new.party (b.ensures.new ∙ sym same) c.set.ensures.makes.history c.give_both-2.ensures in
    record { chain = b.result.hand.own.bucket; before = s; reached = q; takes = takes; makes = subst (λ (x : ℕ). Makes m config k s (Set x k c.args.place ∷ []) q c.give_both-2.new.party) is makes }
