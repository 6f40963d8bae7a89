use Rattle.dbuf_state.proofs.NumberLemmas.{events-numbered, events-read, mappings-read}
use Rattle.dbuf_state.proofs.laws.numbers_are_read_back.Goals as goal

pub returns : goal.returns
returns c = record { events = events-read; mappings = mappings-read; numbered = events-numbered }
