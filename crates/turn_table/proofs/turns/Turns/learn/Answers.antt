use Rattle.std.proofs.Common.{rules, ◌≡◌, ◌<◌, ℕ, sym, ap, ◌∙◌, subst}
use Rattle.turn_table.specs.Moments.{WasSo}
use Rattle.turn_table.specs.Places.{Place}
use Rattle.turn_table.specs.Standings.{IsParty}
use Rattle.turn_table.proofs.Homes.{some_room}
use Rattle.turn_table.proofs.Moves.{learns}
use Rattle.turn_table.proofs.Parties.{is_seeing}
use Rattle.turn_table.proofs.turns.Turns.learn.Goals as goal

pub load-requires : goal.load-requires
load-requires g c =
    let row = c.self.invariant in
    let t : c.party.inside.seat.table_id ≡ c.self.inside.table.shared.table_id = search rules in (
      t,
      subst (λ (n : ℕ). 0 < n) (sym row.words) (some_room _ row.some_turn),
      learns _ _ _ g.R.TurnRule.learned g.R.TurnRule.keeps_learned _ c.party.inside.seat.id c.party.inside.seat.me c.party.invariant.live (subst (λ (n : ℕ). 0 < n) (sym row.count) row.some_turn),
    )

pub invariant_of-party : goal.invariant_of-party
invariant_of-party g c =
    subst (λ z. IsParty c.party.inside.number z.words c.load.new.seat.me) (sym c.load.ensures.0)
    (is_seeing c.party.inside.number c.party.inside.seat.table_id.words c.party.inside.seat.me c.load.new.seat.me _ c.party.invariant c.load.ensures.2.1)

pub returns-clause-moment : goal.returns-clause-moment
returns-clause-moment g c = subst (λ (v : Place g.row.R-View.Denot). WasSo g.R.TurnRule.holds v) c.party.view_is (c.load.ensures.2.0 c.party.inside.seat.table_id)
