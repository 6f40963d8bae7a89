use Rattle.std.proofs.Common.{◌≡◌, ◌-◌, ◌+◌, ◌≤◌, ◌∷◌, ◌++◌, [], length, replicate, vec_len}
use Rattle.arc_check.proofs.draft.close_to.Given as goal

-- the history and empty ones behind it are there, and no more than are wanted
abbrev pub invariant-loop-alloc : goal.invariant-loop-alloc
invariant-loop-alloc l = record {
  items : l.closed.items ≡ l.fn.closed.items ++ l.fn.events.events ∷ replicate (vec_len l.closed - (length l.fn.closed.items + 1)) [];
  least : length l.fn.closed.items + 1 ≤ vec_len l.closed;
  most : vec_len l.closed ≤ l.shards;
}

abbrev pub decreases-loop-alloc : goal.decreases-loop-alloc
decreases-loop-alloc l = l.shards - vec_len l.closed
