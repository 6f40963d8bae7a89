use Rattle.std.proofs.Common.{◌≡◌, take}
use Rattle.std.specs.BTreeSet.{contains}
use Rattle.blk_ptr.specs.Order.{key_cmp}
use Rattle.blk_ptr.specs.declared.key.Key.{Key}
use Rattle.l2_dev.specs.Restoring.{firsts}
use Rattle.l2_dev.proofs.Firsts.{has_key}
use Rattle.l2_dev.proofs.rebuild.firsts.Given as goal

abbrev pub invariant-loop-written : goal.invariant-loop-written
invariant-loop-written l = record {
  keys : (k : Key) → contains key_cmp l.keys k ≡ has_key (take l.written-index l.found) k;
  first : l.first.items ≡ firsts (take l.written-index l.found);
}
