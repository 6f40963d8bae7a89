use Rattle.std.proofs.Common.{true}
use Rattle.dbuf_state.proofs.HandLemmas.{ended-keeps-nothing, fit-keeps}
use Rattle.dbuf_state.proofs.laws.ended_cells_keep_nothing.Goals as goal

pub returns : goal.returns
returns g c = record {
  fit = fit-keeps _ _ (λ h. true);
  ended = ended-keeps-nothing _ _ _;
}
