use Rattle.std.proofs.Common.{◌≡◌, ◌≤◌, [], length, vec_capacity, vec_len}
use Rattle.txg_sync.specs.InHand.{AreInHand, IsHolding}
use Rattle.txg_sync.specs.Turns.{TakesFrom}
use Rattle.txg_sync.proofs.cells.take_all.Given as goal

abbrev pub invariant-loop-i : goal.invariant-loop-i
invariant-loop-i g l = record {
  count : length l.cells.items ≡ l.i;
  len : vec_len l.cells ≡ l.i;
  room : l.count ≤ vec_capacity l.cells;
  takes : TakesFrom 0 l.cells.items l.fn.party l.party;
  holding : IsHolding l.arcs l.fn.party (length l.cells.items) l.party;
  hand : AreInHand l.cells.items [] l.cells.items l.party;
}
