use Rattle.std.proofs.Common.{◌≡◌, ◌+◌, drop}
use Rattle.l2_ring.specs.Queue.{fallen}
use Rattle.l2_ring.proofs.sift.leading.Given as goal

abbrev pub invariant-loop-i : goal.invariant-loop-i
invariant-loop-i l = (fallen l.plan l.live ≡ fallen l.plan (drop l.i l.live) + l.i)
