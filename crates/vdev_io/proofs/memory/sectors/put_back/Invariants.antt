use Rattle.std.proofs.Common.{◌≡◌, ℕ, ◌*◌, ◌<◌, ◌≤◌, length, get_or, if◌then◌else◌}
use Rattle.vdev_io.specs.SectorDisk.{IsSameSector, is_new, written_before}
use Rattle.vdev_io.proofs.memory.sectors.put_back.Given as goal

-- the sectors before the k-th are as the flags say, and the others are untouched
abbrev pub invariant-loop-k : goal.invariant-loop-k
invariant-loop-k l = record {
  flags : l.flags ≡ written_before l.journal.calls l.k;
  few : l.flags ≤ l.k;
  len : length l.now.items ≡ length l.initial.now.items;
  done : (j : ℕ) → j < l.k → IsSameSector j l.now.items (if is_new l.journal.calls l.kept j then l.initial.now.items else l.flushed);
  rest : (i : ℕ) → l.k * 512 ≤ i → get_or l.now.items i 0 ≡ get_or l.initial.now.items i 0;
}
