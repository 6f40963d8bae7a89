use Rattle.std.proofs.Common.{◌≡◌, ◌++◌, List, length}
use Rattle.dbuf_cells.specs.Turns.{KeepsClaims, OnHeap}
use Rattle.txg_sync.specs.InHand.{MayGiveAll}
use Rattle.txg_sync.specs.Turns.{GivesFrom}
use Rattle.txg_sync.proofs.cells.give_all.Given as goal

abbrev pub invariant-loop-cell : goal.invariant-loop-cell
invariant-loop-cell l = record {
  given : (given : List OnHeap) × (l.fn.cells.items ≡ l.cells.items ++ given) × GivesFrom (length l.cells.items) given l.fn.party l.party;
  may : MayGiveAll l.arcs l.cells.items l.party;
  number : l.party.number ≡ l.fn.party.number;
  claims : KeepsClaims l.fn.party l.party;
}

-- each turn takes a cell off
abbrev pub decreases-loop-cell : goal.decreases-loop-cell
decreases-loop-cell l = length l.cells.items
