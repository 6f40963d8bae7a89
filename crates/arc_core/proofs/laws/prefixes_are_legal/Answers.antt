use Rattle.arc_core.proofs.Stepping.{prefix-legal}
use Rattle.arc_core.proofs.laws.prefixes_are_legal.Goals as goal

pub returns : goal.returns
returns c = prefix-legal
