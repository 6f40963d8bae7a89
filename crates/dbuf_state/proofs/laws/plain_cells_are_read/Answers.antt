use Rattle.dbuf_state.proofs.HandLemmas.{evictable-is-cached, first-kept-is-cached, plain-dbuf-is, plain-standings-are}
use Rattle.dbuf_state.proofs.laws.plain_cells_are_read.Goals as goal

pub returns : goal.returns
returns g c = record {
  dbuf = plain-dbuf-is;
  standings = plain-standings-are;
  evictable = evictable-is-cached;
  first_kept = first-kept-is-cached;
}
