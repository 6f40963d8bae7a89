use Rattle.arc_core.proofs.Others.{frame-kept, own-entry}
use Rattle.arc_core.proofs.laws.events_change_their_own_key.Goals as goal

pub returns-clause-own : goal.returns-clause-own
returns-clause-own c = own-entry

pub returns-clause-frame : goal.returns-clause-frame
returns-clause-frame c = frame-kept
