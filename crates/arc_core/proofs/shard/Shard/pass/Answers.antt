use Rattle.std.proofs.Common.{min, ◌≤◌, IsTrue, refl, sym, ap, subst, arith}
use Rattle.arc_lists.specs.Queues.{IsSequenceOf}
use Rattle.arc_core.specs.declared.event.Event.TheVariants.{Pass}
use Rattle.arc_core.specs.FeedWalk.{IsWalk}
use Rattle.arc_core.specs.PlainShard.{members}
use Rattle.arc_core.specs.PlainTable.{PlainTable}
use Rattle.arc_core.specs.Step.{legal}
use Rattle.arc_core.proofs.FeedWalks.{walk-passed}
use Rattle.arc_core.proofs.Making.{made}
use Rattle.arc_core.proofs.shard.Shard.pass.Goals as goal

pub pass-requires-clause-room : goal.pass-requires-clause-room
pass-requires-clause-room c =
    let s = c.self.inside in
    let all : 1 ≤ min s.spare_events s.table.marks = subst (λ l. 1 ≤ l.event_room) (sym c.self.view_is) c.requires.room.events in
    let room : 1 ≤ s.spare_events = omega (arith, all) in
    omega (arith, all)

pub invariant_of-self : goal.invariant_of-self
invariant_of-self c =
    let s = c.self.inside in
    let e = Pass c.args.n c.args.key c.args.owner in
    let ok : IsTrue (legal s.table.shard e) = subst (λ l. IsTrue (legal l.now e)) (sym c.self.view_is) c.requires.legal in
    let all : 1 ≤ min s.spare_events s.table.marks = subst (λ l. 1 ≤ l.event_room) (sym c.self.view_is) c.requires.room.events in
    let room : 1 ≤ s.spare_events = omega (arith, all) in
    let step = ap (λ t. t.shard) c.pass.ensures in
    made s _ e c.self.invariant ok step refl c.append.ensures.items c.append.ensures.len c.append.ensures.capacity (omega (arith, room)) (subst (λ (t : PlainTable). IsSequenceOf (members t.shard) t.marked) (sym c.pass.ensures) c.self.invariant.marked)
    (rw c.keep_walk.ensures (record { sought = tt; walk = c.walked_if_begun-walk.ensures }))

pub walked_if_begun-walk-requires : goal.walked_if_begun-walk-requires
walked_if_begun-walk-requires c =
    let s = c.self.inside in
    subst (λ (t : PlainTable). IsWalk t.shard s.halts.walk) (sym c.pass.ensures) (walk-passed s.table.shard c.args.n c.args.key c.args.owner s.halts.walk c.self.invariant.halts.walk)
