use Rattle.std.proofs.Common.{◌≡◌, ◌*◌, ◌^◌, ◌≤◌, take}
use Rattle.arc_examples.specs.Soaking.{passes_of}
use Rattle.arc_examples.proofs.soak.count_passes.Given as goal

abbrev pub invariant-loop-shard : goal.invariant-loop-shard
invariant-loop-shard l = record {
  so_far : l.count ≡ passes_of (take l.shard-index l.shards);
  bound : l.count ≤ l.shard-index * 2 ^ 64;
}
