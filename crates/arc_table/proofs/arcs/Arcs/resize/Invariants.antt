use Rattle.std.proofs.Common.{◌≡◌}
use Rattle.arc_table.specs.Cache.{IsPartyOf}
use Rattle.arc_table.specs.Resizing.{Resizes}
use Rattle.arc_table.proofs.arcs.Arcs.resize.Given as goal

abbrev pub invariant-loop-shard : goal.invariant-loop-shard
invariant-loop-shard g l = record {
  party : IsPartyOf l.self l.party;
  number : l.party.number ≡ l.fn.party.number;
  held : l.party.held ≡ l.fn.party.held;
  resized : Resizes g.C.Keeps l.self.config l.fn.party.number l.c l.shard l.fn.party l.party;
}
