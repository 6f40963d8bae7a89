use Rattle.std.proofs.Common.{◌≡◌, ◌+◌, ◌≤◌, ◌++◌, length, map, take}
use Rattle.l2_ring.specs.Ring.{IsSameRing}
use Rattle.l2_dev.specs.Restoring.{written_in}
use Rattle.l2_dev.proofs.cursor.add_all.Given as goal

abbrev pub invariant-loop-entry : goal.invariant-loop-entry
invariant-loop-entry l = record {
  numbers : IsSameRing l.initial.ring l.ring;
  live : l.ring.live ≡ l.initial.ring.live ++ map (written_in l.initial.ring.lap) (take l.entry-index l.entries);
  room : length l.entries ≤ l.ring.spare + l.entry-index;
}
