use Rattle.std.proofs.Common.{◌≡◌, ◌+◌, ◌≤◌, length, take}
use Rattle.l2_ring.specs.Ring.{IsSameRing}
use Rattle.l2_dev.proofs.rebuild.add_live.Given as goal

abbrev pub invariant-loop-entry : goal.invariant-loop-entry
invariant-loop-entry l = record {
  numbers : IsSameRing l.initial.ring l.ring;
  live : l.ring.live ≡ take l.entry-index l.entries;
  room : length l.entries ≤ l.ring.spare + l.entry-index;
}
