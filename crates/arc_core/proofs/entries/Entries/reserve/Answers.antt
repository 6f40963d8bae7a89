use Rattle.std.proofs.Common.{◌≡◌, ◌+◌, length, sym, ap, subst, arith}
use Rattle.std.proofs.lemmas.List.{length-map}
use Rattle.arc_lists.specs.Queues.{HaveCapacity}
use Rattle.arc_lists.proofs.Keeping.{ListsKeep-reserve}
use Rattle.arc_lists.proofs.Standing.{HaveCapacity-le}
use Rattle.arc_core.specs.seats.EntryRows.{AreKeyed, parts}
use Rattle.arc_core.specs.seats.Seats.{Seats, post_in, posts_in}
use Rattle.arc_core.proofs.EntryRows.{keeps, posts_of, reserved-le}
use Rattle.arc_core.proofs.entries.Entries.reserve.Goals as goal

pub invariant_of-self-2 : goal.invariant_of-self-2
invariant_of-self-2 c =
    let t = c.self.inside in
    let spare = reserved-le c.reserve.result t.rows c.reserve.new.self c.args.n (omega (arith, c.if-n-spare.false, c.spare-spare.ensures)) c.reserve.ensures.ok c.reserve.ensures.err in
    let same : c.reserve.new.self.seats ≡ t.rows.seats = ap (λ (m : Seats). m.seats) c.reserve.ensures.seats in
    let room : HaveCapacity (length (posts_in t.rows.seats) + c.args.n) c.widen.new.self =
    HaveCapacity-le _ _ c.widen.new.self (omega (arith, c.spare-spare.ensures, c.if-n-spare.false)) (c.in_ok-widen.ensures.ok _ c.self.invariant.lists.queues) in
    keeps _ (subst AreKeyed (sym same) c.self.invariant.keyed)
    (ListsKeep-reserve (parts t) (posts_of c.reserve.new.self) c.widen.new.self c.args.n c.self.invariant.lists (ap posts_in same) spare
    (omega (arith, c.len.ensures, length-map t.rows.seats post_in)) c.in_ok-widen.ensures.nodes room)
