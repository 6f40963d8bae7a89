use Rattle.std.proofs.Common.{◌≡◌, ◌+◌, ◌*◌, ◌≤◌, drop}
use Rattle.blk_ptr.specs.Size.{largest_block}
use Rattle.txg_sync.specs.InHand.{AreDueIn}
use Rattle.txg_sync.specs.Items.{need_of}
use Rattle.txg_sync.proofs.need.need_of.Given as goal

abbrev pub invariant-loop-due : goal.invariant-loop-due
invariant-loop-due l = record {
  left : AreDueIn l.cells (drop l.due-index l.dues);
  sum : l.need + need_of l.cells (drop l.due-index l.dues) ≡ need_of l.cells l.dues;
  most : l.need ≤ l.due-index * largest_block;
}
