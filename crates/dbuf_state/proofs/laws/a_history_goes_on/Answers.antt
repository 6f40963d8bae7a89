use Rattle.dbuf_state.proofs.StepLemmas.{goes-on}
use Rattle.dbuf_state.proofs.laws.a_history_goes_on.Goals as goal

pub returns : goal.returns
returns c = goes-on
