use Rattle.std.proofs.Common.{◌≡◌, take}
use Rattle.arc_table.specs.Cache.{IsPartyOf}
use Rattle.arc_table.specs.feeder.Feeding.{Restores}
use Rattle.arc_table.proofs.arcs.Arcs.restore.Given as goal

abbrev pub invariant-loop-done : goal.invariant-loop-done
invariant-loop-done g l = record {
  party : IsPartyOf l.self l.party;
  number : l.party.number ≡ l.fn.party.number;
  held : l.party.held ≡ l.fn.party.held;
  restored : Restores g.C.Keeps l.self.config l.fn.party.number (take l.done l.list) l.fn.party l.party;
}
