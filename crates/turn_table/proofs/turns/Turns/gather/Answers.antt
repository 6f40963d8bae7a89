use Rattle.std.proofs.Common.{rules, ◌≡◌, [], sym, subst, ⊎_elim}
use Rattle.turn_table.specs.Places.{SomeHas}
use Rattle.turn_table.proofs.Ending.{Takes, takes_one, last_free, nothing_left}
use Rattle.turn_table.proofs.turns.Turns.gather.Goals as goal

pub take_in-requires-clause-row : goal.take_in-requires-clause-row
take_in-requires-clause-row g c =
    let t = c.loop-other.invariant in
    (t.row, (last_free c.args.self.now c.loop-other.party c.args.party.now c.in-Some.other c.loop-other.others.items c.args.others.items c.pop.new.self.items c.in-Some.ensures.items t).0)

pub take_in-requires-clause-free : goal.take_in-requires-clause-free
take_in-requires-clause-free g c =
    let t = c.loop-other.invariant in
    (t.held, (last_free c.args.self.now c.loop-other.party c.args.party.now c.in-Some.other c.loop-other.others.items c.args.others.items c.pop.new.self.items c.in-Some.ensures.items t).1)

pub loop-other-preserved : goal.loop-other-preserved
loop-other-preserved g c =
    let t = c.loop-other.invariant in
    subst (λ p. Takes c.args.self.now p c.args.party.now c.pop.new.self.items c.args.others.items) (sym c.take_in.ensures)
    (takes_one c.args.self.now c.loop-other.party c.args.party.now c.in-Some.other c.loop-other.others.items c.args.others.items c.pop.new.self.items c.in-Some.ensures.items t)

pub returns-clause-numbers : goal.returns-clause-numbers
returns-clause-numbers g c = λ n h.
    let t = c.loop-other.invariant in
    let none : c.loop-other.others.items ≡ [] = nothing_left c.loop-other.others.items (search rules) in
    ⊎_elim (λ u. u) (λ u. absurd (subst (SomeHas n) none u)) (t.numbers n h)
