use Rattle.std.proofs.Common.{◌≡◌}
use Rattle.dbuf_cells.specs.Emptying.{Empties}
use Rattle.dbuf_cells.specs.InHand.{kept_count}
use Rattle.dbuf_cells.proofs.ending.drop_kept.Given as goal

abbrev pub invariant-loop-at : goal.invariant-loop-at
invariant-loop-at g l = record {
  empties : Empties l.arcs l.i l.initial.cell l.cell l.initial.party l.party;
  room : l.cell.event_room ≡ l.initial.cell.event_room;
}

-- each turn takes the block that one dbuf keeps
abbrev pub decreases-loop-at : goal.decreases-loop-at
decreases-loop-at g l = kept_count l.cell.dbufs
