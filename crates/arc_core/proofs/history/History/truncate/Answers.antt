use Rattle.std.proofs.Common.{◌≡◌, ◌≤◌, ◌-◌, length, take, sym, ap, subst, ◌∙◌, arith}
use Rattle.std.specs.List.{AllByRecursion}
use Rattle.arc_core.specs.EventLog.{EventLog, after_events, bytes_of, events_in}
use Rattle.arc_core.specs.Packed.{IsPackable}
use Rattle.arc_core.proofs.Packing.{all-taken-front, cut-bytes, events-cut, length-events, rest-short}
use Rattle.arc_core.proofs.history.History.truncate.Goals as goal

pub overflow_sub-kept : goal.overflow_sub-kept
overflow_sub-kept c =
    let s = c.self.inside in
    let bytes = c.as_slice-bytes.result.now in
    let es = events_in s.len s.bytes.items in
    let le : c.args.len ≤ length es = subst (λ (l : EventLog). c.args.len ≤ length l.events) (sym c.self.view_is) c.requires in
    let spelled : bytes ≡ bytes_of es = c.as_slice-bytes.ensures.value ∙ c.self.invariant.bytes in
    let short : length (after_events c.args.len bytes) ≤ length bytes = rest-short c.args.len es bytes spelled le c.self.invariant.packable in
    subst (λ r. length r ≤ length bytes) (sym c.behind-rest.ensures) short

-- the bytes that stay are those of the events that stay
kept_bytes : (c : goal.After-self-1) → c.truncate.new.self.items ≡ bytes_of (take c.args.len (events_in c.self.inside.len c.self.inside.bytes.items))
kept_bytes c =
    let s = c.self.inside in
    let bytes = c.as_slice-bytes.result.now in
    let es = events_in s.len s.bytes.items in
    let le : c.args.len ≤ length es = subst (λ (l : EventLog). c.args.len ≤ length l.events) (sym c.self.view_is) c.requires in
    let spelled : bytes ≡ bytes_of es = c.as_slice-bytes.ensures.value ∙ c.self.invariant.bytes in
    c.truncate.ensures.items ∙ ap (λ r. take (length bytes - length r) s.bytes.items) c.behind-rest.ensures
    ∙ ap (take (length bytes - length (after_events c.args.len bytes))) (sym c.as_slice-bytes.ensures.value) ∙ cut-bytes c.args.len es bytes spelled le c.self.invariant.packable

kept_events : (c : goal.After-self-1) → events_in c.args.len c.truncate.new.self.items ≡ take c.args.len (events_in c.self.inside.len c.self.inside.bytes.items)
kept_events c =
    let s = c.self.inside in
    let es = events_in s.len s.bytes.items in
    let le : c.args.len ≤ length es = subst (λ (l : EventLog). c.args.len ≤ length l.events) (sym c.self.view_is) c.requires in
    events-cut c.args.len es c.truncate.new.self.items (kept_bytes c) le c.self.invariant.packable

pub invariant_of-self : goal.invariant_of-self
invariant_of-self c =
    let s = c.self.inside in
    let kept = c.self.invariant in
    let es = events_in s.len s.bytes.items in
    let le : c.args.len ≤ length es = subst (λ (l : EventLog). c.args.len ≤ length l.events) (sym c.self.view_is) c.requires in
    record {
      bytes = kept_bytes c ∙ ap bytes_of (sym (kept_events c));
      packable = subst (AllByRecursion IsPackable) (sym (kept_events c)) (all-taken-front c.args.len es kept.packable);
      room = omega (arith, kept.room, c.truncate.ensures.len, c.truncate.ensures.capacity);
      few = omega (arith, kept.few, le, length-events s.len s.bytes.items);
    }

pub returns : goal.returns
returns c = record {
  events = kept_events c ∙ ap (λ (l : EventLog). take c.args.len l.events) c.self.view_is;
  room = ap (λ (l : EventLog). l.room) c.self.view_is;
}
