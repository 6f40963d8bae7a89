use Rattle.std.proofs.Common.{rules, ◌≡◌, ◌<◌, ℕ, [], sym, ap, ◌∙◌, subst}
use Rattle.turn_table.specs.Places.{Place, IsLast}
use Rattle.turn_table.specs.declared.standing.Standing.{Standing}
use Rattle.turn_table.proofs.Homes.{some_room}
use Rattle.turn_table.proofs.Seats.{some_last}
use Rattle.turn_table.proofs.Beginning.{deals}
use Rattle.turn_table.proofs.turns.Turns.send_off.Goals as goal

pub split_seat-seat-requires : goal.split_seat-seat-requires
split_seat-seat-requires g c =
    let p = c.party.invariant in
    let row = c.self.invariant in
    let x : Standing g.row.R-View.Denot = c.party.inside.seat.me.0 in
    let t : c.party.inside.seat.table_id ≡ c.self.inside.table.shared.table_id = search rules in
    let free : x.held ≡ [] = ap (λ (v : Place g.row.R-View.Denot). v.held) c.party.view_is ∙ c.requires.free in
    let last : IsLast c.args.number x.joined = subst (λ (v : Place g.row.R-View.Denot). IsLast c.args.number v.joined) (sym c.party.view_is) c.requires.last in
    let k = some_last c.args.number x.joined last in (
      t,
      subst (λ (n : ℕ). 0 < n) (sym row.words) (some_room _ row.some_turn),
      deals g.R.TurnRule.holds _ _ c.party.inside.seat.id x k.0 k.1 p.live free k.2.0,
    )
