use Rattle.std.proofs.Common.{◌≡◌, List, drop, length, ap, subst, sym, ◌∙◌, arith, length-drop}
use Rattle.std.proofs.lemmas.List.{drop-drop}
use Rattle.l2_ring.specs.declared.live.Written.{Written}
use Rattle.l2_ring.specs.Queue.{QueueState, AreOldestFirst}
use Rattle.l2_ring.proofs.Rows.{rest_in_order}
use Rattle.l2_ring.proofs.queue.Queue.pass.Goals as goal

pub invariant_of-self-else-len-self : goal.invariant_of-self-else-len-self
invariant_of-self-else-len-self c =
    let q = c.self.inside in
    let k = c.leading-fallen.result in
    let live : length c.live.result.now ≡ length (drop q.first q.entries.items) = ap (λ (ws : List Written). length ws) (c.live.ensures ∙ sym (ap (λ (s : QueueState). s.live) c.self.view_is)) in
    let bound = c.leading-fallen.ensures.bound in
    let inside = c.self.invariant.0 in (
      omega (arith, length-drop q.first q.entries.items),
      λ e. subst (λ (ws : List Written). AreOldestFirst ws) (drop-drop k q.first q.entries.items) (rest_in_order k (drop q.first q.entries.items) (c.self.invariant.1 e)),
    )

pub invariant_of-self : goal.invariant_of-self
invariant_of-self c =
    let q = c.self.inside in
    let k = c.leading-fallen.result in (
      omega arith,
      λ e. subst (λ (ws : List Written). AreOldestFirst ws) (drop-drop k q.first q.entries.items ∙ sym c.let_go.ensures.items) (rest_in_order k (drop q.first q.entries.items) (c.self.invariant.1 e)),
    )
