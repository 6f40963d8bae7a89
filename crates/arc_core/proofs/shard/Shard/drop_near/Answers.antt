use Rattle.std.proofs.Common.{IsTrue, refl, sym, ap, subst, ◌∙◌, arith}
use Rattle.arc_core.specs.declared.event.Event.TheVariants.{Drop}
use Rattle.arc_core.specs.Changes.{with_none_passed}
use Rattle.arc_core.specs.Step.{legal}
use Rattle.arc_core.proofs.Making.{made, none-halted, none-marked}
use Rattle.arc_core.proofs.Owing.{owed-after}
use Rattle.arc_core.proofs.shard.Shard.drop_near.Goals as goal

pub append-requires : goal.append-requires
append-requires c =
    let s = c.self.inside in
    let e = Drop c.args.n c.args.key in
    let ok : IsTrue (legal s.table.shard e) = subst (λ l. IsTrue (legal l.now e)) (sym c.self.view_is) c.requires in
    omega (arith, c.self.invariant.room, owed-after s.table.shard e c.self.invariant.replayed.sound ok)

pub invariant_of-self : goal.invariant_of-self
invariant_of-self c =
    let s = c.self.inside in
    let e = Drop c.args.n c.args.key in
    let ok : IsTrue (legal s.table.shard e) = subst (λ l. IsTrue (legal l.now e)) (sym c.self.view_is) c.requires in
    let step = ap (λ t. t.shard) c.end_scan.ensures.now ∙ ap (λ t. with_none_passed t.shard) c.give_back_near.ensures in
    made s _ e c.self.invariant ok step refl c.append.ensures.items c.append.ensures.len c.append.ensures.capacity (omega (arith)) (none-marked _ _ (ap (λ t. t.marked) c.end_scan.ensures.now)) (none-halted _ _ _ c.forget.ensures)
