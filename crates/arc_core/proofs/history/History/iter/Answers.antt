use Rattle.std.proofs.Common.{◌≡◌, length, sym, ap, ◌∙◌, arith}
use Rattle.arc_core.specs.EventLog.{EventLog}
use Rattle.arc_core.proofs.Packing.{length-events}
use Rattle.arc_core.proofs.history.History.iter.Goals as goal

pub returns-clause-few : goal.returns-clause-few
returns-clause-few c =
    let s = c.self.inside in
    let count : s.len ≡ length c.args.self.now.events = sym (length-events s.len s.bytes.items) ∙ ap (λ (l : EventLog). length l.events) c.self.view_is in
    omega (arith, c.self.invariant.few, count)
