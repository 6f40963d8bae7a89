use Rattle.std.proofs.Common.{◌≡◌, ◌+◌, ◌<◌, [], ◌∷◌, ◌++◌, sym, ap, subst, ◌∙◌, arith}
use Rattle.std.specs.List.{AllByRecursion}
use Rattle.dbuf_state.specs.HistoryLog.{HistoryLog, bytes_of, events_in}
use Rattle.dbuf_state.specs.Packed.{IsPackable, event_bytes}
use Rattle.dbuf_state.proofs.PackLemmas.{all-bytes, all-packable, events-few, events-pushed}
use Rattle.dbuf_state.proofs.history.CellHistory.push.Goals as goal

-- the events are longer by the one whose bytes were appended
longer : (c : goal.After-self-2-1) → events_in (c.self.inside.len + 1) c.write_event.new.out.items ≡ events_in c.self.inside.len c.self.inside.bytes.items ++ c.args.event.now ∷ []
longer c =
    let s = c.self.inside in
    let kept = c.self.invariant in
    ap (events_in (s.len + 1)) c.write_event.ensures.items ∙ events-pushed s.len s.bytes.items c.args.event.now kept.bytes kept.packable c.write_event.ensures.fits

pub overflow_add-self : goal.overflow_add-self
overflow_add-self c =
    let s = c.self.inside in
    omega (arith, events-few s.len s.bytes.items c.self.invariant.bytes, s.bytes.ok, s.bytes.small)

pub invariant_of-self : goal.invariant_of-self
invariant_of-self c =
    let s = c.self.inside in
    let e = c.args.event.now in
    let kept = c.self.invariant in
    let es = events_in s.len s.bytes.items in
    let some : 0 < s.room = subst (λ (l : HistoryLog). 0 < l.room) (sym c.self.view_is) c.requires in
    record {
      bytes = c.write_event.ensures.items ∙ ap (λ bs. bs ++ event_bytes e) kept.bytes ∙ sym (all-bytes es e) ∙ ap bytes_of (sym (longer c));
      packable = subst (AllByRecursion IsPackable) (sym (longer c)) (all-packable es e kept.packable c.write_event.ensures.fits);
      room = omega (arith, some, kept.room, c.write_event.ensures.len, c.write_event.ensures.capacity);
    }

pub returns : goal.returns
returns c =
    let s = c.self.inside in
    let some : 0 < s.room = subst (λ (l : HistoryLog). 0 < l.room) (sym c.self.view_is) c.requires in
    record {
      events = longer c ∙ ap (λ (l : HistoryLog). l.events ++ c.args.event.now ∷ []) c.self.view_is;
      room = omega (arith, some, ap (λ (l : HistoryLog). l.room) c.self.view_is);
    }
