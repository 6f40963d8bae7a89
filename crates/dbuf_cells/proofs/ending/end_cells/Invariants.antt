use Rattle.std.proofs.Common.{◌≡◌, []}
use Rattle.arc_table.specs.Cache.{IsPartyOf}
use Rattle.dbuf_cells.specs.Ending.{EndsFrom}
use Rattle.dbuf_cells.specs.Turns.{KeepsClaims}
use Rattle.dbuf_cells.proofs.ending.end_cells.Given as goal

abbrev pub invariant-loop-i : goal.invariant-loop-i
invariant-loop-i g l = record {
  ends : EndsFrom l.arcs.config 0 l.i l.fn.party l.party;
  party : IsPartyOf l.arcs l.party;
  free : l.party.held ≡ [];
  number : l.party.number ≡ l.fn.party.number;
  claims : KeepsClaims l.fn.party l.party;
}
