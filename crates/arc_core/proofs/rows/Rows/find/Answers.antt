use Rattle.std.proofs.Common.{◌≡◌, None, Some}
use Rattle.key_table.specs.PlainTable.{HasKey, IsAmong, row}
use Rattle.arc_lists.specs.ByKey.{item_at}
use Rattle.arc_lists.proofs.Names.{name}
use Rattle.arc_core.specs.seats.Seats.{seat, seat_key}
use Rattle.arc_core.proofs.SeatRows.{if-none, if-some, seat-nowhere, seat-there, seated}
use Rattle.arc_core.proofs.rows.Rows.find.Goals as goal

pub returns-clause-some : goal.returns-clause-some
returns-clause-some c =
    let rows = c.self.inside.table.rows in
    rw (← c.self.view_is)
    (if-some c.get.result (λ v. IsAmong (row (name c.args.key) v.now) rows) (λ v. item_at seat_key c.args.key (seated rows) ≡ Some (seat c.args.key v.now))
    (λ v there. seat-there rows c.args.key v.now c.self.invariant there) c.get.ensures.some)

pub returns-clause-none : goal.returns-clause-none
returns-clause-none c =
    let rows = c.self.inside.table.rows in
    rw (← c.self.view_is)
    (if-none c.get.result (HasKey (name c.args.key) rows → ⊥) (item_at seat_key c.args.key (seated rows) ≡ None) (λ none. seat-nowhere rows c.args.key c.self.invariant none) c.get.ensures.none)
