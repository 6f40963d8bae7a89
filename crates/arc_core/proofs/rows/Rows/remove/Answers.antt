use Rattle.std.proofs.Common.{◌+◌, IsSome, sym, ap, subst}
use Rattle.arc_lists.specs.ByKey.{item_at}
use Rattle.arc_core.specs.seats.Seats.{seat_key}
use Rattle.arc_core.proofs.SeatRows.{goes, has-name, seat-there}
use Rattle.arc_core.proofs.rows.Rows.remove.Goals as goal

pub remove-requires : goal.remove-requires
remove-requires c =
    let rows = c.self.inside.table.rows in
    has-name rows c.args.key c.self.invariant (subst (λ m. IsSome (item_at seat_key c.args.key m.seats)) (sym c.self.view_is) c.requires)

pub returns-clause-linked : goal.returns-clause-linked
returns-clause-linked c = rw (← c.self.view_is) (seat-there c.self.inside.table.rows c.args.key c.remove.result c.self.invariant c.remove.ensures.value)

pub returns-clause-seats : goal.returns-clause-seats
returns-clause-seats c =
    rw (← c.self.view_is, c.remove.ensures.spare)
    (ap (λ ps. record { seats = ps; spare = c.self.inside.table.spare + 1 })
    (goes c.self.inside.table.rows c.remove.new.self.rows c.args.key c.self.invariant c.remove.ensures.apart c.remove.ensures.rows))
