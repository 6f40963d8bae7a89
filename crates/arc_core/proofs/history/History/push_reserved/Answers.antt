use Rattle.std.proofs.Common.{◌≡◌, ◌+◌, ◌<◌, [], ◌∷◌, ◌++◌, sym, ap, subst, ◌∙◌, arith}
use Rattle.std.specs.List.{AllByRecursion}
use Rattle.arc_core.specs.EventLog.{EventLog, bytes_of, events_in}
use Rattle.arc_core.specs.Packed.{IsPackable, packed_bytes, packed_of}
use Rattle.arc_core.proofs.Packing.{all-bytes, all-packable, events-pushed}
use Rattle.arc_core.proofs.history.History.push_reserved.Goals as goal

-- the bytes are longer by the event's
written : (c : goal.After-self-2-1) → c.write_packed.new.out.items ≡ c.self.inside.bytes.items ++ packed_bytes (packed_of c.args.event)
written c = c.write_packed.ensures.items ∙ ap (λ p. c.self.inside.bytes.items ++ packed_bytes p) c.of-packed.ensures.numbers

-- and the events by it
longer : (c : goal.After-self-2-1) → events_in (c.self.inside.len + 1) c.write_packed.new.out.items ≡ events_in c.self.inside.len c.self.inside.bytes.items ++ c.args.event ∷ []
longer c =
    let s = c.self.inside in
    let kept = c.self.invariant in
    ap (events_in (s.len + 1)) (written c) ∙ events-pushed s.len s.bytes.items c.args.event kept.bytes kept.packable c.of-packed.ensures.back

pub invariant_of-self : goal.invariant_of-self
invariant_of-self c =
    let s = c.self.inside in
    let e = c.args.event in
    let kept = c.self.invariant in
    let es = events_in s.len s.bytes.items in
    let some : 0 < s.room = subst (λ (l : EventLog). 0 < l.room) (sym c.self.view_is) c.requires in
    record {
      bytes = written c ∙ ap (λ bs. bs ++ packed_bytes (packed_of e)) kept.bytes ∙ sym (all-bytes es e) ∙ ap bytes_of (sym (longer c));
      packable = subst (AllByRecursion IsPackable) (sym (longer c)) (all-packable es e kept.packable c.of-packed.ensures.back);
      room = omega (arith, some, kept.room, c.write_packed.ensures.len, c.write_packed.ensures.capacity);
      few = omega (arith, some, kept.few);
    }

pub returns : goal.returns
returns c =
    let s = c.self.inside in
    let some : 0 < s.room = subst (λ (l : EventLog). 0 < l.room) (sym c.self.view_is) c.requires in
    record {
      events = longer c ∙ ap (λ (l : EventLog). l.events ++ c.args.event ∷ []) c.self.view_is;
      room = omega (arith, some, ap (λ (l : EventLog). l.room) c.self.view_is);
    }
