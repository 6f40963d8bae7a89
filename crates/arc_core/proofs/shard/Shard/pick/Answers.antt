use Rattle.std.proofs.Common.{min, ◌≤◌, IsTrue, refl, sym, ap, subst, arith}
use Rattle.arc_lists.specs.Queues.{IsSequenceOf}
use Rattle.arc_core.specs.declared.event.Event.TheVariants.{Pick}
use Rattle.arc_core.specs.FeedWalk.{IsWalkOf}
use Rattle.arc_core.specs.PlainShard.{members}
use Rattle.arc_core.specs.PlainTable.{PlainTable}
use Rattle.arc_core.specs.Step.{legal}
use Rattle.arc_core.proofs.FeedWalks.{walk-picked}
use Rattle.arc_core.proofs.Making.{made}
use Rattle.arc_core.proofs.shard.Shard.pick.Goals as goal

pub pick-requires-clause-room : goal.pick-requires-clause-room
pick-requires-clause-room c =
    let s = c.self.inside in
    let all : 2 ≤ min s.spare_events s.table.marks = subst (λ l. 2 ≤ l.event_room) (sym c.self.view_is) c.requires.room.events in
    let room : 2 ≤ s.spare_events = omega (arith, all) in
    omega (arith, all)

pub invariant_of-self : goal.invariant_of-self
invariant_of-self c =
    let s = c.self.inside in
    let e = Pick c.args.n c.args.key in
    let ok : IsTrue (legal s.table.shard e) = subst (λ l. IsTrue (legal l.now e)) (sym c.self.view_is) c.requires.legal in
    let all : 2 ≤ min s.spare_events s.table.marks = subst (λ l. 2 ≤ l.event_room) (sym c.self.view_is) c.requires.room.events in
    let room : 2 ≤ s.spare_events = omega (arith, all) in
    let step = ap (λ t. t.shard) c.pick.ensures in
    made s _ e c.self.invariant ok step refl c.append.ensures.items c.append.ensures.len c.append.ensures.capacity (omega (arith, room)) (subst (λ (t : PlainTable). IsSequenceOf (members t.shard) t.marked) (sym c.pick.ensures) c.self.invariant.marked)
    (rw c.keep_walk.ensures (record { sought = tt; walk = c.walked.ensures.walk }))

pub walk_from-walk-requires : goal.walk_from-walk-requires
walk_from-walk-requires c = c.self.invariant.halts.walk

pub walked-requires : goal.walked-requires
walked-requires c =
    subst (λ (t : PlainTable). IsWalkOf t.shard c.walk_from-walk.result) (sym c.pick.ensures) (walk-picked c.self.inside.table.shard c.args.n c.args.key c.walk_from-walk.result c.walk_from-walk.ensures)
