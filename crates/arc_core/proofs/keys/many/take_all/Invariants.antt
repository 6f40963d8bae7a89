use Rattle.std.proofs.Common.{◌≡◌, ◌+◌, length, vec_capacity}
use Rattle.arc_core.specs.seats.KeyRows.{AreListed}
use Rattle.arc_core.proofs.keys.many.take_all.Given as goal

abbrev pub invariant-loop-key : goal.invariant-loop-key
invariant-loop-key l = record {
  listed : AreListed l.rows.rows l.order.items;
  room : l.rows.spare + length l.rows.rows ≡ l.fn.rows.spare + length l.fn.rows.rows;
  capacity : vec_capacity l.order ≡ vec_capacity l.fn.order;
}

abbrev pub decreases-loop-key : goal.decreases-loop-key
decreases-loop-key l = goal.left-loop-key l
