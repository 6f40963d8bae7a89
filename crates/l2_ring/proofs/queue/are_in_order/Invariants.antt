use Rattle.std.proofs.Common.{take}
use Rattle.l2_ring.specs.Queue.{AreOldestFirst}
use Rattle.l2_ring.proofs.queue.are_in_order.Given as goal

abbrev pub invariant-loop-i : goal.invariant-loop-i
invariant-loop-i l = AreOldestFirst (take l.i l.entries)
