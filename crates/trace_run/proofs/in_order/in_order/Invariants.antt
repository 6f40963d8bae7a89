use Rattle.std.proofs.Common.{map, reverse}
use Rattle.trace_run.proofs.callers.InOrderLemmas.{ArePlaced}
use Rattle.trace_run.proofs.in_order.in_order.Given as goal

abbrev pub invariant-loop-number : goal.invariant-loop-number
invariant-loop-number l = ArePlaced l.ops (map (λ rs. rs.items) l.fn.replies.items) (map (λ rs. rs.items) l.replies.items) l.fn.fed.items l.fed.items l.number (reverse l.merged.items)
