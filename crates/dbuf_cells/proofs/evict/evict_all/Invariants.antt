use Rattle.std.proofs.Common.{◌≤◌}
use Rattle.dbuf_cells.specs.InHand.{AreClaimedAlike, Evicts, kept_count}
use Rattle.dbuf_cells.proofs.evict.evict_all.Given as goal

abbrev pub invariant-loop-at : goal.invariant-loop-at
invariant-loop-at g l = record {
  evicts : Evicts l.arcs l.i l.initial.cell l.cell l.initial.party l.party;
  room : kept_count l.cell.dbufs ≤ l.cell.event_room;
  claims : AreClaimedAlike l.initial.cell.dbufs l.cell.dbufs;
}

-- each turn takes the room of one event
abbrev pub decreases-loop-at : goal.decreases-loop-at
decreases-loop-at g l = l.cell.event_room
