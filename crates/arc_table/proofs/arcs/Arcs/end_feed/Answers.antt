use Rattle.std.proofs.Common.{[], ◌∷◌, ◌++◌, ℕ, List, sym, ap, ◌∙◌, subst, append_assoc}
use Rattle.std.specs.Prelude.{IsTrue}
use Rattle.arc_core.specs.declared.event.Event.{Event}
use Rattle.arc_core.specs.declared.event.Event.TheVariants.{FeedEnd}
use Rattle.arc_core.specs.Step.{legal}
use Rattle.arc_table.proofs.feeder.Candidates.{end_legal}
use Rattle.arc_table.proofs.feeder.FeedScan.{ended, ended_since, feed_end_is, number_few}
use Rattle.arc_table.proofs.Lent.{lent_legal, lent_makes}
use Rattle.arc_table.proofs.arcs.Arcs.end_feed.Goals as goal

pub feed_end-requires-clause-legal : goal.feed_end-requires-clause-legal
feed_end-requires-clause-legal g c =
    let f = c.args.feed in
    let s = c.requires.scan in
    lent_legal (FeedEnd c.number.result) c.deref_mut.ensures.value
    (subst (λ (n : ℕ). IsTrue (legal f.shard.now (FeedEnd n))) (sym c.number.ensures) (end_legal c.args.party.now.number f.shard.now (number_few c.args.self.now.config f c.args.party.now s.0 s.1) s.1.phase c.requires.end))

pub give_alone-requires-clause-given : goal.give_alone-requires-clause-given
give_alone-requires-clause-given g c =
    let f = c.args.feed in
    let s = c.requires.scan in
    let r = c.args.party.now in
    let n = c.number.result in
    let config = c.args.self.now.config in
    let l = c.feed_end.new.self in
    let made = lent_makes c.deref_mut.ensures.value c.feed_end.ensures.makes in
    let ok = subst (λ (x : ℕ). IsTrue (legal f.shard.now (FeedEnd x))) (sym c.number.ensures) (end_legal r.number f.shard.now (number_few config f r s.0 s.1) s.1.phase c.requires.end) in
    ended_since config f r s.0 s.1 l (s.0 ++ FeedEnd n ∷ []) (made.history ∙ (ap (λ (h : List Event). h ++ FeedEnd n ∷ []) s.1.history ∙ append_assoc f.before.value.history s.0 (FeedEnd n ∷ [])))
    (ended config f r s.0 s.1 l n c.number.ensures (c.number.ensures ∙ c.requires.feeder) ok made.now made.history made.opening) c.requires.party.config

pub returns : goal.returns
returns g c = λ es has.
    let m = g.C.Keeps in
    let f = c.args.feed in
    let r = c.args.party.now in
    let n = c.number.result in
    let config = c.args.self.now.config in
    let made = lent_makes c.deref_mut.ensures.value c.feed_end.ensures.makes in
    let ok = subst (λ (x : ℕ). IsTrue (legal f.shard.now (FeedEnd x))) (sym c.number.ensures) (end_legal r.number f.shard.now (number_few config f r es has) has.phase c.requires.end) in
    feed_end_is m config f r c.give_alone.new.party es c.feed_end.new.self n has c.number.ensures ok made.now made.history c.give_alone.ensures
