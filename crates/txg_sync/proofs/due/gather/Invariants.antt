use Rattle.std.proofs.Common.{◌++◌, IsPermutation, drop, take}
use Rattle.std.specs.List.{AllByRecursion}
use Rattle.txg_sync.specs.InHand.{IsKnown}
use Rattle.txg_sync.specs.Items.{dues_from}
use Rattle.txg_sync.proofs.due.gather.Given as goal

abbrev pub invariant-loop-i : goal.invariant-loop-i
invariant-loop-i l = record {
  known : AllByRecursion IsKnown (take l.i l.cells);
  all : IsPermutation (dues_from 0 l.cells) (l.dues.items ++ dues_from l.i (drop l.i l.cells));
}
