use Rattle.dbuf_state.proofs.ReplayLemmas.{answers-alike, ends-alike}
use Rattle.dbuf_state.proofs.laws.replays_are_alike.Goals as goal

pub returns : goal.returns
returns c = record {
  ends = ends-alike;
  answers = answers-alike;
}
