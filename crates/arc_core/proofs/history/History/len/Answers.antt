use Rattle.std.proofs.Common.{length, sym, ap, ◌∙◌}
use Rattle.arc_core.specs.EventLog.{EventLog}
use Rattle.arc_core.proofs.Packing.{length-events}
use Rattle.arc_core.proofs.history.History.len.Goals as goal

pub returns : goal.returns
returns c = sym (length-events c.self.inside.len c.self.inside.bytes.items) ∙ ap (λ (l : EventLog). length l.events) c.self.view_is
