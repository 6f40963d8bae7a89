use Rattle.std.proofs.Common.{◌≡◌, ◌⊎◌, ◌<◌, if◌then◌else◌, Bool, ℕ, [], ◌∷◌, false, true, refl, sym, ap, ◌∙◌, subst, inl, inr}
use Rattle.arc_core.specs.declared.event.Event.TheVariants.{Leave}
use Rattle.arc_core.specs.declared.event.Why.{Why}
use Rattle.arc_core.specs.declared.event.Why.TheVariants as why
use Rattle.arc_core.specs.PlainShard.{numbers}
use Rattle.arc_core.specs.Step.{may_set}
use Rattle.arc_table.specs.Both.{Makes}
use Rattle.arc_table.specs.Geometry.{shard_turn}
use Rattle.arc_table.proofs.feeder.FeedEvents.{feeder_is, leave_legal, leave_same, number_few, number_is, pick_there, reason_is, writes}
use Rattle.arc_table.proofs.OneEvent.{alike_made, makes_these, some_is, taken_sound}
use Rattle.arc_table.proofs.Reached.{reached}
use Rattle.arc_table.proofs.Lent.{lent, lent_taken, lent_takes}
use Rattle.arc_table.proofs.arcs.Arcs.leave.Goals as goal

pub reason_for-why-requires-clause-number : goal.reason_for-why-requires-clause-number
reason_for-why-requires-clause-number g c =
    let m = g.C.Keeps in
    let b = c.take_both-both in
    let q = b.new.party in
    let p = c.args.party.now in
    let k = c.args.key in
    let config = c.args.self.now.config in
    let same = c.deref_mut-shard.ensures.value in
    let s = c.deref_mut-shard.result.now in
    let takes = lent_takes m config k b.result.hand.own.bucket b.result.shard s p q same b.ensures.takes in
    let valid = b.ensures.kind.valid in
    let n = c.number-n.result in
    let few = subst (λ (x : ℕ). x < numbers) (sym c.number-n.ensures) (number_few m config k b.result.hand.own.bucket s p q takes c.requires.party.config valid c.requires.feeder) in
    number_is n few

pub reason_for-why-requires-clause-writing : goal.reason_for-why-requires-clause-writing
reason_for-why-requires-clause-writing g c =
    let m = g.C.Keeps in
    let b = c.take_both-both in
    let q = b.new.party in
    let p = c.args.party.now in
    let k = c.args.key in
    let config = c.args.self.now.config in
    let same = c.deref_mut-shard.ensures.value in
    let s = c.deref_mut-shard.result.now in
    let takes = lent_takes m config k b.result.hand.own.bucket b.result.shard s p q same b.ensures.takes in
    let valid = b.ensures.kind.valid in
    let writing = writes m config k b.result.hand.own.bucket s p q takes c.requires.party.config valid c.requires.feeder c.requires.picked in
    let there = pick_there m config k b.result.hand.own.bucket s p q takes c.requires.party.config valid c.requires.feeder c.requires.picked in
    writing

pub leave-requires : goal.leave-requires
leave-requires g c =
    let m = g.C.Keeps in
    let b = c.take_both-both in
    let q = b.new.party in
    let p = c.args.party.now in
    let k = c.args.key in
    let config = c.args.self.now.config in
    let same = c.deref_mut-shard.ensures.value in
    let s = c.deref_mut-shard.result.now in
    let takes = lent_takes m config k b.result.hand.own.bucket b.result.shard s p q same b.ensures.takes in
    let valid = b.ensures.kind.valid in
    let n = c.number-n.result in
    let few = subst (λ (x : ℕ). x < numbers) (sym c.number-n.ensures) (number_few m config k b.result.hand.own.bucket s p q takes c.requires.party.config valid c.requires.feeder) in
    let writing = writes m config k b.result.hand.own.bucket s p q takes c.requires.party.config valid c.requires.feeder c.requires.picked in
    let there = pick_there m config k b.result.hand.own.bucket s p q takes c.requires.party.config valid c.requires.feeder c.requires.picked in
    let w = c.reason_for-why.result in
    let ok = leave_legal n k w s.now few writing there (reason_is c.args.why w (may_set k s.now) c.requires.why c.reason_for-why.ensures) in
    ok

pub give_both-requires-clause-made : goal.give_both-requires-clause-made
give_both-requires-clause-made g c =
    let m = g.C.Keeps in
    let b = c.take_both-both in
    let q = b.new.party in
    let p = c.args.party.now in
    let k = c.args.key in
    let config = c.args.self.now.config in
    let same = c.deref_mut-shard.ensures.value in
    let s = c.deref_mut-shard.result.now in
    let takes = lent_takes m config k b.result.hand.own.bucket b.result.shard s p q same b.ensures.takes in
    let valid = b.ensures.kind.valid in
    let n = c.number-n.result in
    let few = subst (λ (x : ℕ). x < numbers) (sym c.number-n.ensures) (number_few m config k b.result.hand.own.bucket s p q takes c.requires.party.config valid c.requires.feeder) in
    let writing = writes m config k b.result.hand.own.bucket s p q takes c.requires.party.config valid c.requires.feeder c.requires.picked in
    let there = pick_there m config k b.result.hand.own.bucket s p q takes c.requires.party.config valid c.requires.feeder c.requires.picked in
    let taken = lent_taken m config k b.result q s same record { kind = b.ensures.kind; new = b.ensures.new; from = p; takes = b.ensures.takes } in
    let w = c.reason_for-why.result in
    let ok = leave_legal n k w s.now few writing there (reason_is c.args.why w (may_set k s.now) c.requires.why c.reason_for-why.ensures) in
    let made = c.leave.ensures.makes in
    alike_made m config k (lent b.result s) q taken b.ensures.party.config valid (Leave n k w) record { hand = b.result.hand; turn = b.result.turn; shard = c.leave.new.self } refl refl refl refl ok made.now made.history made.opening
    record { acts = inl c.number-n.ensures; fit = tt; feeder = λ e. c.number-n.ensures ∙ feeder_is m config k b.result.hand.own.bucket s p q takes c.requires.party.config valid c.requires.feeder; own = λ j e. ap (shard_turn config) (some_is k j e) } (leave_same n k w s.now (taken_sound m config k (lent b.result s) q taken b.ensures.party.config valid) ok)

pub returns : goal.returns
returns g c =
    let m = g.C.Keeps in
    let b = c.take_both-both in
    let q = b.new.party in
    let p = c.args.party.now in
    let k = c.args.key in
    let config = c.args.self.now.config in
    let same = c.deref_mut-shard.ensures.value in
    let s = c.deref_mut-shard.result.now in
    let takes = lent_takes m config k b.result.hand.own.bucket b.result.shard s p q same b.ensures.takes in
    let valid = b.ensures.kind.valid in
    let n = c.number-n.result in
    let w = c.reason_for-why.result in
    let is : n ≡ p.number = c.number-n.ensures ∙ (reached m config k b.result.hand.own.bucket s p q takes).number in
    let makes = makes_these m config k b.result.hand.before.value s c.leave.new.self (Leave n k w ∷ []) q c.give_both.new.party (b.ensures.new ∙ sym same) c.leave.ensures.makes.history c.give_both.ensures in
    (w, either (may_set k s.now) c.reason_for-why.ensures, record { chain = b.result.hand.own.bucket; before = s; reached = q; takes = takes; makes = subst (λ (x : ℕ). Makes m config k s (Leave x k w ∷ []) q c.give_both.new.party) is makes })
  where
    either : {w v : Why} (b : Bool) → w ≡ (if b then v else why.Gone) → (w ≡ v) ⊎ (w ≡ why.Gone)
    either true e = inl e
    either false e = inr e
