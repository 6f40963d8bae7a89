use Rattle.std.proofs.Common.{◌≡◌, ℕ}
use Rattle.arc_table.specs.Cache.{IsPartyOf}
use Rattle.arc_table.specs.Reading.{Waits}
use Rattle.arc_table.proofs.arcs.Arcs.read_later.Given as goal

abbrev pub invariant-loop : goal.invariant-loop
invariant-loop g l = record {
  party : IsPartyOf l.self l.party;
  held : l.party.held ≡ l.fn.party.held;
  waits : (times : ℕ) × Waits g.C.Keeps l.self.config l.ptr.key times l.fn.party l.party;
  pool : l.pool ≡ l.fn.pool;
  cache : l.cache ≡ l.fn.cache;
}
