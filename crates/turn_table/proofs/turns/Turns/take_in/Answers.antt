use Rattle.std.proofs.Common.{rules, ◌≡◌, ◌<◌, ℕ, [], sym, ap, ◌∙◌, subst}
use Rattle.turn_table.specs.Places.{Row, Place}
use Rattle.turn_table.specs.Standings.{empties}
use Rattle.turn_table.proofs.Homes.{some_room}
use Rattle.turn_table.proofs.Seats.{gathers}
use Rattle.turn_table.proofs.turns.Turns.take_in.Goals as goal

pub join_seat-requires : goal.join_seat-requires
join_seat-requires g c =
    let p = c.party.invariant in
    let q = c.into_seat.ensures.party in
    let row = c.self.invariant in
    let t : c.party.inside.seat.table_id ≡ c.self.inside.table.shared.table_id = search rules in
    let u : c.into_seat.result.table_id ≡ c.self.inside.table.shared.table_id = ap (λ (v : Place g.row.R-View.Denot). v.table) c.into_seat.ensures.place ∙ (c.requires.row.1.0 ∙ ap (λ (v : Row). v.table) (sym c.self.view_is)) in
    let free : c.party.inside.seat.me.0.held ≡ [] = ap (λ (v : Place g.row.R-View.Denot). v.held) c.party.view_is ∙ c.requires.free.0 in
    let free' : c.into_seat.result.me.0.held ≡ [] = ap (λ (v : Place g.row.R-View.Denot). v.held) c.into_seat.ensures.place ∙ c.requires.free.1 in (
      t,
      u,
      q.out ∙ ap empties free',
      subst (λ (n : ℕ). 0 < n) (sym row.words) (some_room _ row.some_turn),
      gathers g.R.TurnRule.holds _ _ c.party.inside.seat.id c.into_seat.result.id c.party.inside.seat.me.0 c.into_seat.result.me.0 g.R.TurnRule.blank p.live q.live free free',
    )
