use Rattle.std.proofs.Common.{◌≡◌, ◌-◌, false, sym, ap, subst}
use Rattle.arc_lists.specs.ByKey.{has_key}
use Rattle.arc_core.specs.seats.Seats.{seat_key}
use Rattle.arc_core.proofs.SeatRows.{comes, seated, no-name}
use Rattle.arc_core.proofs.rows.Rows.add.Goals as goal

pub insert-requires-clause-absent : goal.insert-requires-clause-absent
insert-requires-clause-absent c =
    let rows = c.self.inside.table.rows in
    no-name rows c.args.key c.self.invariant (subst (λ m. has_key seat_key c.args.key m.seats ≡ false) (sym c.self.view_is) c.requires.absent)

pub returns : goal.returns
returns c =
    let rows = c.self.inside.table.rows in
    let absent : has_key seat_key c.args.key (seated rows) ≡ false = subst (λ m. has_key seat_key c.args.key m.seats ≡ false) (sym c.self.view_is) c.requires.absent in
    rw (← c.self.view_is, c.insert.ensures.spare)
    (ap (λ ps. record { seats = ps; spare = c.self.inside.table.spare - 1 })
    (comes rows c.insert.new.self.rows c.args.key c.args.linked c.self.invariant c.insert.ensures.apart absent c.insert.ensures.rows))
