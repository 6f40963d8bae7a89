use Rattle.std.proofs.Common.{ℕ, [], ◌∷◌, ◌++◌, sym, ap, ◌∙◌, subst}
use Rattle.std.specs.Prelude.{IsTrue}
use Rattle.arc_core.specs.declared.event.Event.TheVariants.{Fail}
use Rattle.arc_core.specs.Step.{after, legal}
use Rattle.arc_table.proofs.reads.ArriveEvents.{fail_made, header_read, may_fail}
use Rattle.arc_table.proofs.reads.HitEvents.{some_there}
use Rattle.arc_table.proofs.OneEvent.{makes_these}
use Rattle.arc_table.proofs.Lent.{lent, lent_taken}
use Rattle.arc_table.specs.Both.{Makes}
use Rattle.arc_core.specs.ShardLog.{ShardLog}
use Rattle.arc_table.proofs.arcs.Arcs.fail_taken.Goals as goal

pub fail-requires : goal.fail-requires
fail-requires g c =
    let m = g.C.Keeps in
    let same = c.deref_mut-shard.ensures.value in
    let b = lent c.args.both c.deref_mut-shard.result.now in
    let taken = lent_taken m c.args.self.now.config c.args.key c.args.both c.args.party.now c.deref_mut-shard.result.now same c.requires.taken in
    subst (λ (x : ℕ). IsTrue (legal b.shard.now (Fail x c.args.key c.args.at))) (sym c.number-n.ensures)
    (may_fail m c.args.self.now.config c.args.key b c.args.party.now taken c.requires.party.config taken.kind.valid c.requires.reading c.args.at)

pub follow-requires : goal.follow-requires
follow-requires g c =
    let m = g.C.Keeps in
    let same = c.deref_mut-shard.ensures.value in
    let b = lent c.args.both c.deref_mut-shard.result.now in
    let taken = lent_taken m c.args.self.now.config c.args.key c.args.both c.args.party.now c.deref_mut-shard.result.now same c.requires.taken in
    some_there (header_read m c.args.self.now.config c.args.key b c.args.party.now taken c.requires.party.config taken.kind.valid c.requires.reading).1

pub give_both-requires-clause-made : goal.give_both-requires-clause-made
give_both-requires-clause-made g c =
    let m = g.C.Keeps in
    let same = c.deref_mut-shard.ensures.value in
    let b = lent c.args.both c.deref_mut-shard.result.now in
    let taken = lent_taken m c.args.self.now.config c.args.key c.args.both c.args.party.now c.deref_mut-shard.result.now same c.requires.taken in
    let made = c.fail.ensures.makes in
    let number = c.number-n.ensures in
    fail_made m c.args.self.now.config c.args.key b c.args.party.now taken c.requires.party.config taken.kind.valid c.requires.reading c.args.at c.fail.new.self c.follow.new.bucket
    (made.now ∙ ap (λ (x : ℕ). after b.shard.now (Fail x c.args.key c.args.at)) number) (made.history ∙ ap (λ (x : ℕ). b.shard.history ++ Fail x c.args.key c.args.at ∷ []) number) made.opening c.follow.ensures

pub returns : goal.returns
returns g c =
    let m = g.C.Keeps in
    let same = c.deref_mut-shard.ensures.value in
    let b = lent c.args.both c.deref_mut-shard.result.now in
    let taken = lent_taken m c.args.self.now.config c.args.key c.args.both c.args.party.now c.deref_mut-shard.result.now same c.requires.taken in
    let q = c.args.party.now in
    subst (λ (l : ShardLog). Makes m c.args.self.now.config c.args.key l (Fail q.number c.args.key c.args.at ∷ []) c.args.party.now c.give_both.new.party) same
    (makes_these m c.args.self.now.config c.args.key b.hand.before.value b.shard c.fail.new.self (Fail q.number c.args.key c.args.at ∷ []) q c.give_both.new.party taken.new
    (c.fail.ensures.makes.history ∙ ap (λ (x : ℕ). b.shard.history ++ Fail x c.args.key c.args.at ∷ []) c.number-n.ensures) c.give_both.ensures)
