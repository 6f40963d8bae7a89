use Rattle.std.proofs.Common.{refl, arith, OnErr, Result, Ok, Err}
use Rattle.arc_links.proofs.Steps.{IsLinked-room}
use Rattle.arc_links.proofs.links.Links.reserve.Goals as goal

pub invariant_of-self : goal.invariant_of-self
invariant_of-self g c =
    let kept = c.self.invariant in
    rw c.reserve.ensures.rest_kept (IsLinked-room c.self.inside c.reserve.new.self.capacity c.self.inside.spare kept (omega (arith, kept.room, c.reserve.ensures.capacity)) kept.fits)

pub returns-in_err-reserve-clause-nodes : goal.returns-in_err-reserve-clause-nodes
returns-in_err-reserve-clause-nodes g c = rw (c.reserve.ensures.rest_kept, ← c.self.view_is) refl

-- what holds in any case holds of an Err
on_err : {A E : Type 0} (r : Result A E) (P : Type 0) → P → OnErr r P
on_err (Ok a) P p = tt
on_err (Err e) P p = p

pub returns-in_err-reserve-clause-err : goal.returns-in_err-reserve-clause-err
returns-in_err-reserve-clause-err g c = on_err c.from_residual.result _ (rw (c.reserve.ensures.rest_kept, ← c.self.view_is) refl)

pub invariant_of-self-then-n-self : goal.invariant_of-self-then-n-self
invariant_of-self-then-n-self g c =
    let room = rw c.reserve.ensures.rest_kept at c.in_ok-reserve.ensures.room in
    rw c.reserve.ensures.rest_kept (IsLinked-room c.self.inside c.reserve.new.self.capacity c.args.n c.self.invariant room (omega (arith, room, c.capacity-capacity.ensures.value, c.capacity-capacity.type_inv)))

pub returns-in_ok-reserve-clause-nodes : goal.returns-in_ok-reserve-clause-nodes
returns-in_ok-reserve-clause-nodes g c = rw (c.reserve.ensures.rest_kept, ← c.self.view_is) refl
