use Rattle.std.proofs.Common.{◌≡◌, drop}
use Rattle.arc_table.specs.InHand.{buckets_of}
use Rattle.arc_table.specs.scans.Scanning.{AllPairs}
use Rattle.arc_table.specs.scans.Sparing.{AreHeadsBut, turns_in}
use Rattle.arc_table.proofs.spare.spare_all.Given as goal

abbrev pub invariant-loop-key : goal.invariant-loop-key
invariant-loop-key l = record {
  before : l.hand.before ≡ l.fn.hand.before;
  turns : turns_in (buckets_of l.hand) ≡ turns_in (buckets_of l.fn.hand);
  heads : AllPairs (AreHeadsBut l.config l.fn.hand.before.value.now l.shard.now (drop l.key-index l.keys)) (buckets_of l.hand);
}
