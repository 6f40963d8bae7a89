use Rattle.dbuf_state.proofs.OutlineLemmas.{outline-follows, outline-is-told, standings-alike}
use Rattle.dbuf_state.proofs.PinLemmas.{pins-are-counted}
use Rattle.dbuf_state.proofs.laws.outlines_are_told.Goals as goal

pub returns : goal.returns
returns c = record {
  step = outline-follows;
  history = outline-is-told;
  standings = standings-alike;
  pins = pins-are-counted;
}
