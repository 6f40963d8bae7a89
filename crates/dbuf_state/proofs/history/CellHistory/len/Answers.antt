use Rattle.std.proofs.Common.{length, sym, ap, ◌∙◌, arith}
use Rattle.dbuf_state.specs.HistoryLog.{HistoryLog}
use Rattle.dbuf_state.proofs.PackLemmas.{events-few, length-events}
use Rattle.dbuf_state.proofs.history.CellHistory.len.Goals as goal

pub returns : goal.returns
returns c =
    let s = c.self.inside in
    record {
      len = sym (length-events s.len s.bytes.items) ∙ ap (λ (l : HistoryLog). length l.events) c.self.view_is;
      few = omega (arith, events-few s.len s.bytes.items c.self.invariant.bytes, s.bytes.ok, s.bytes.small);
    }
