use Rattle.std.proofs.Common.{◌++◌, List, map, ap, subst, sym, ◌∙◌, arith}
use Rattle.l2_ring.specs.declared.live.Written.{Written}
use Rattle.l2_ring.specs.Stays.{live_of}
use Rattle.l2_ring.specs.Queue.{QueueState, AreOldestFirst}
use Rattle.l2_ring.proofs.Rows.{front_falls, front_length}
use Rattle.l2_ring.proofs.queue.Queue.take.Goals as goal

pub pass-requires-clause-front : goal.pass-requires-clause-front
pass-requires-clause-front c =
    front_falls c.args.plan c.args.self.now.live c.requires.plan
    (subst (λ (q : QueueState). AreOldestFirst q.live) c.self.view_is (c.self.invariant.1 c.if-self.true))

pub pass-requires-clause-room : goal.pass-requires-clause-room
pass-requires-clause-room c =
    let len = front_length c.args.plan c.args.self.now.live (pass-requires-clause-front c) in
    omega (arith, c.requires.room)

pub returns-then-self-clause-kept : goal.returns-then-self-clause-kept
returns-then-self-clause-kept c =
    let ordered = subst (λ (q : QueueState). AreOldestFirst q.live) c.self.view_is (c.self.invariant.1 c.if-self.true) in
    let front = front_falls c.args.plan c.args.self.now.live c.requires.plan ordered in
    c.pass.ensures.kept ∙ sym front.stays_behind

pub returns-then-self-clause-dropped : goal.returns-then-self-clause-dropped
returns-then-self-clause-dropped c =
    let ordered = subst (λ (q : QueueState). AreOldestFirst q.live) c.self.view_is (c.self.invariant.1 c.if-self.true) in
    let front = front_falls c.args.plan c.args.self.now.live c.requires.plan ordered in
    c.pass.ensures.dropped ∙ ap (λ (ws : List Written). c.args.dropped.now.items ++ map live_of ws) (sym front.falls_first)
