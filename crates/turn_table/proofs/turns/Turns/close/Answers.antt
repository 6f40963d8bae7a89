use Rattle.std.proofs.Common.{rules, ◌≡◌, ◌<◌, ℕ, [], length, sym, ap, ◌∙◌, subst, inl, inr, ⊎_elim}
use Rattle.std.specs.Slots.{slots_items}
use Rattle.turn_table.specs.Places.{Row, Place, AreFree, SomeHas, HasNumber, ShowAll, Shows}
use Rattle.turn_table.proofs.turns.Turns.close.Given.{Over}
use Rattle.turn_table.proofs.Ending.{nothing_left, free_last, has_last, show_last, ended, ended_as, Ended}
use Rattle.turn_table.proofs.turns.Turns.close.Goals as goal
use Rattle.turn_table.proofs.turns.Turns.close.Goals.{After-close_with-closed}

pub unreachable-requires : goal.unreachable-requires
unreachable-requires g c =
    let none : c.args.parties.items ≡ [] = nothing_left c.args.parties.items (search rules) in
    let some_party : 0 < c.args.self.parties = subst (λ (v : Row). 0 < v.parties) c.self.view_is c.self.invariant.some_party in
    subst (SomeHas 0) none (c.requires.all 0 some_party)

pub gather-requires-clause-row : goal.gather-requires-clause-row
gather-requires-clause-row g c =
    let f = free_last c.args.self c.pop.new.self.items c.in-Some.party (subst (AreFree c.args.self) c.in-Some.ensures.items c.requires.free) in (f.1, f.2)

pub gather-requires-clause-others : goal.gather-requires-clause-others
gather-requires-clause-others g c =
    let f = free_last c.args.self c.pop.new.self.items c.in-Some.party (subst (AreFree c.args.self) c.in-Some.ensures.items c.requires.free) in f.0

-- one party has taken in all others, and the table was closed with it
finished : (g : Over) (c : After-close_with-closed g) → Ended g.R.TurnRule.holds c.into_table.result.shared.key.parties c.into_table.result.shared.key.turns c.into_seat.result.me.0 (slots_items c.close_with-closed.result.slots)
finished g c =
    let place = c.into_seat.ensures.place in
    let party = c.into_seat.ensures.party in
    let idle : c.into_seat.result.me.0.held ≡ [] = ap (λ (v : Place g.row.R-View.Denot). v.held) place ∙ c.gather.ensures.row.1 in
    ended g.R.TurnRule.holds c.into_table.result.shared.key.parties c.into_table.result.shared.key.turns c.into_seat.result.id c.into_seat.result.me.0 _ (slots_items c.close_with-closed.result.slots) party.live idle
    (λ n below.
    let some_has = c.requires.all n (subst (λ (m : ℕ). n < m) c.into_table.ensures.2 below) in
    let either = has_last n c.pop.new.self.items c.in-Some.party (subst (SomeHas n) c.in-Some.ensures.items some_has) in
    subst (HasNumber n) (sym place) (c.gather.ensures.numbers n (⊎_elim inr inl either)))
    c.close_with-closed.ensures.values.2

pub take_values-requires-clause-full : goal.take_values-requires-clause-full
take_values-requires-clause-full g c = c.close_with-closed.ensures.values.1

pub take_values-requires-clause-laid : goal.take_values-requires-clause-laid
take_values-requires-clause-laid g c =
    let e = finished g (goal.at.take_values-requires-clause-laid g c).After-close_with-closed in
    let long : length e.values ≡ c.args.self.turns = e.long ∙ c.into_table.ensures.1 in
    (e.values, e.are, search rules)

pub returns : goal.returns
returns g c =
    let place = c.into_seat.ensures.place in
    let e = finished g (goal.at.returns g c).After-close_with-closed in
    let same : e.values ≡ c.take_values.new.values.items = sym (c.take_values.ensures.values e.values e.are) in
    let r = ended_as g.R.TurnRule.holds c.into_table.result.shared.key.parties c.into_table.result.shared.key.turns c.into_seat.result.me.0 (slots_items c.close_with-closed.result.slots) c.take_values.new.values.items e same in
    let shown : Shows r.0 c.gather.new.party = subst (Shows r.0) place (r.3, r.4) in
    let both = c.gather.ensures.views r.0 shown in (
      c.take_values.new.values.ok.0 ∙ (ap length (sym same) ∙ (e.long ∙ c.into_table.ensures.1)),
      (r.0, r.1 ∙ c.into_table.ensures.2, subst (ShowAll r.0) (sym c.in-Some.ensures.items) (show_last r.0 c.pop.new.self.items c.in-Some.party both.1 both.0), r.2),
    )
