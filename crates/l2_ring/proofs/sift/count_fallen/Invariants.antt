use Rattle.std.proofs.Common.{◌≡◌, ◌≤◌, length, take}
use Rattle.std.specs.List.{filter}
use Rattle.l2_ring.specs.Stays.{falls}
use Rattle.l2_ring.proofs.sift.count_fallen.Given as goal

abbrev pub invariant-loop-i : goal.invariant-loop-i
invariant-loop-i l = record {
  counted : l.fallen ≡ length (filter (falls l.plan) (take l.i l.live));
  few : l.fallen ≤ l.i;
}
