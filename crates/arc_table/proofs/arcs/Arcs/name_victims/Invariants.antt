use Rattle.std.proofs.Common.{◌≤◌, List}
use Rattle.arc_core.specs.declared.event.Event.{Event}
use Rattle.arc_core.specs.Owed.{room_for}
use Rattle.turn_table.specs.Places.{Place}
use Rattle.arc_table.specs.Cache.{IsPartyOf}
use Rattle.arc_table.specs.scans.Evicting.{HasScanRoom, IsScan, KeepsHand, MayBegin, left_of}
use Rattle.arc_table.specs.declared.view.Known.{Known}
use Rattle.arc_table.proofs.arcs.Arcs.name_victims.Given as goal

abbrev pub invariant-loop-key : goal.invariant-loop-key
invariant-loop-key g l = record {
  hand : KeepsHand l.fn.scan.both l.scan.both;
  party : IsPartyOf l.self l.party;
  scan : (p : Place (Known g.row.C.Denot)) (es : List Event) → MayBegin l.self.config l.fn.scan.both p
      → IsScan g.C.Keeps l.self.config p l.fn.party l.fn.scan es
      → (more : List Event) × IsScan g.C.Keeps l.self.config p l.party l.scan more;
  room : HasScanRoom (room_for l.event) l.scan;
  entry_room : l.fn.scan.both.shard.entry_room ≤ l.scan.both.shard.entry_room;
}

abbrev pub decreases-loop-key : goal.decreases-loop-key
decreases-loop-key g l = left_of l.scan
