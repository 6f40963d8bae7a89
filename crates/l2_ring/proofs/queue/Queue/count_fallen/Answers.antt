use Rattle.std.proofs.Common.{List, ap, subst, sym, ◌∙◌}
use Rattle.l2_ring.specs.declared.live.Written.{Written}
use Rattle.l2_ring.specs.Queue.{QueueState, AreOldestFirst, fallen}
use Rattle.l2_ring.proofs.Rows.{front_falls, front_length}
use Rattle.l2_ring.proofs.queue.Queue.count_fallen.Goals as goal

pub returns-then-self : goal.returns-then-self
returns-then-self c =
    let ordered : AreOldestFirst c.args.self.now.live = subst (λ (q : QueueState). AreOldestFirst q.live) c.self.view_is (c.self.invariant.1 c.if-self.true) in
    c.leading.ensures.fallen ∙ ap (λ (ws : List Written). fallen c.args.plan ws) c.live.ensures
    ∙ sym (front_length c.args.plan c.args.self.now.live (front_falls c.args.plan c.args.self.now.live c.requires ordered))
