use Rattle.arc_core.proofs.Soundness.{IsSound-after}
use Rattle.arc_core.proofs.laws.events_keep_soundness.Goals as goal

pub returns : goal.returns
returns c = IsSound-after
