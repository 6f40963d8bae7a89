use Rattle.std.proofs.Common.{◌≡◌, ◌+◌, ◌≤◌, ◌++◌, length, take, map, vec_len}
use Rattle.std.specs.List.{filter}
use Rattle.std.specs.Vec.{vec_capacity}
use Rattle.std.proofs.lemmas.List.Filters.{FiltersInPlace}
use Rattle.l2_ring.specs.Stays.{stays, falls, live_of}
use Rattle.l2_ring.proofs.sift.sift.Given as goal

abbrev pub invariant-loop-i : goal.invariant-loop-i
invariant-loop-i l = record {
  kept : FiltersInPlace (stays l.plan) l.initial.live l.live l.kept l.i;
  dropped : l.dropped.items ≡ l.initial.dropped.items ++ map live_of (filter (falls l.plan) (take l.i l.initial.live));
  room : vec_len l.dropped + length (filter (falls l.plan) l.initial.live) ≤ vec_capacity l.dropped + length (filter (falls l.plan) (take l.i l.initial.live));
}
