use Rattle.std.proofs.Common.{◌≡◌, ◌+◌, ◌≤◌, ◌++◌, length, map, take, vec_len}
use Rattle.std.specs.Vec.{vec_capacity}
use Rattle.l2_ring.specs.Stays.{live_of}
use Rattle.l2_ring.proofs.sift.push_all.Given as goal

abbrev pub invariant-loop-written : goal.invariant-loop-written
invariant-loop-written l = record {
  pushed : l.dropped.items ≡ l.initial.dropped.items ++ map live_of (take l.written-index l.entries);
  room : vec_len l.dropped + length l.entries ≤ vec_capacity l.dropped + l.written-index;
}
