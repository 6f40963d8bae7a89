use Rattle.std.proofs.Common.{IsSome, refl, sym, ap, subst}
use Rattle.key_table.specs.PlainTable.{HasKey}
use Rattle.arc_lists.specs.ByKey.{item_at}
use Rattle.arc_lists.proofs.Names.{name}
use Rattle.arc_core.specs.seats.Seats.{seat_key}
use Rattle.arc_core.proofs.SeatRows.{has-name, seat-there, turns}
use Rattle.arc_core.proofs.rows.Rows.find_mut_near.Goals as goal

pub unreachable-requires : goal.unreachable-requires
unreachable-requires c =
    c.in-None.ensures.none (has-name c.self.inside.table.rows c.args.key c.self.invariant (subst (λ m. IsSome (item_at seat_key c.args.key m.seats)) (sym c.self.view_is) c.requires))

pub invariant_of-self-lent : goal.invariant_of-self-lent
invariant_of-self-lent c = λ w. (rw c.in-Some.is at (c.get_mut_near.follows.holds w)).apart

pub returns : goal.returns
returns c =
    let rows = c.self.inside.table.rows in
    let there = c.in-Some.ensures.some in
    let has : HasKey (name c.args.key) rows = (c.in-Some.linked.now, there) in (
      (
        refl,
        λ w.
            let written = rw c.in-Some.is at (c.get_mut_near.follows.holds w) in
            rw (← c.self.view_is, written.spare)
            (ap (λ ps. record { seats = ps; spare = c.self.inside.table.spare })
            (turns rows (c.get_mut_near.follows.lender w).rows c.args.key w c.self.invariant written.apart has written.rows)),
      ),
      record { writes_back = tt; linked = rw (← c.self.view_is) (seat-there rows c.args.key c.in-Some.linked.now c.self.invariant there) },
    )
