use Rattle.std.proofs.Common.{◌≡◌, ℕ}
use Rattle.arc_table.specs.Cache.{IsPartyOf}
use Rattle.dbuf_cells.specs.Turns.{KeepsClaims, WaitsForDbuf}
use Rattle.dbuf_cells.proofs.turn.take_later.Given as goal

abbrev pub invariant-loop : goal.invariant-loop
invariant-loop g l = record {
  party : IsPartyOf l.arcs l.party;
  held : l.party.held ≡ l.fn.party.held;
  number : l.party.number ≡ l.fn.party.number;
  waits : (times : ℕ) × WaitsForDbuf l.arcs.config l.i l.at times l.fn.party l.party;
  claims : KeepsClaims l.fn.party l.party;
}
