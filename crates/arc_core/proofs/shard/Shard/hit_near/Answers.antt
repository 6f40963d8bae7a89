use Rattle.std.proofs.Common.{min, ◌≤◌, IsTrue, refl, sym, ap, subst, ◌∙◌, arith}
use Rattle.arc_core.specs.declared.event.Event.TheVariants.{Hit}
use Rattle.arc_core.specs.Changes.{with_none_passed}
use Rattle.arc_core.specs.Step.{legal}
use Rattle.arc_core.proofs.Making.{made, none-halted, none-marked}
use Rattle.arc_core.proofs.shard.Shard.hit_near.Goals as goal

-- the history has room for what is owed and for two events more
pub hit_near-requires-clause-counts : goal.hit_near-requires-clause-counts
hit_near-requires-clause-counts c =
    let s = c.self.inside in
    let all : 2 ≤ min s.spare_events s.table.marks = subst (λ l. 2 ≤ l.event_room) (sym c.self.view_is) c.requires.room.events in
    omega (arith, all, c.self.invariant.few)

pub invariant_of-self : goal.invariant_of-self
invariant_of-self c =
    let s = c.self.inside in
    let e = Hit c.args.n c.args.key c.args.t in
    let ok : IsTrue (legal s.table.shard e) = subst (λ l. IsTrue (legal l.now e)) (sym c.self.view_is) c.requires.legal in
    let all : 2 ≤ min s.spare_events s.table.marks = subst (λ l. 2 ≤ l.event_room) (sym c.self.view_is) c.requires.room.events in
    let room : 2 ≤ s.spare_events = omega (arith, all) in
    let step = ap (λ t. t.shard) c.end_scan.ensures.now ∙ ap (λ t. with_none_passed t.shard) c.hit_near.ensures in
    made s _ e c.self.invariant ok step refl c.append.ensures.items c.append.ensures.len c.append.ensures.capacity (omega (arith, room)) (none-marked _ _ (ap (λ t. t.marked) c.end_scan.ensures.now)) (none-halted _ _ _ c.forget.ensures)
