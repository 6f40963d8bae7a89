use Rattle.std.proofs.Common.{List, ◌++◌, ◌∷◌, [], subst, sym}
use Rattle.l2_ring.specs.declared.live.Written.{Written}
use Rattle.l2_ring.specs.Queue.{QueueState, AreOldestFirst}
use Rattle.l2_ring.specs.Ranges.{IsOlder, range_of}
use Rattle.l2_ring.proofs.Rows.{one_more}
use Rattle.l2_ring.proofs.queue.Queue.is_next.Goals as goal

pub returns-then-self : goal.returns-then-self
returns-then-self c =
    λ e.
    let ordered : AreOldestFirst c.args.self.now.live = subst (λ (q : QueueState). AreOldestFirst q.live) c.self.view_is (c.self.invariant.1 c.if-self.true) in
    let same = c.live.ensures in
    let last = c.in-Some.ensures.item.3.1 in
    subst (λ (ws : List Written). AreOldestFirst (ws ++ c.args.written.now ∷ [])) same
    (one_more c.live.result.now c.args.written.now (subst (λ (ws : List Written). AreOldestFirst ws) (sym same) ordered) c.requires.sized
    (λ d lt. subst (λ (w : Written). IsOlder (range_of c.args.written.now) (range_of w)) (last d) (c.is_before.ensures e)))
