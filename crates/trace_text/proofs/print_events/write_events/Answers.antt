use Rattle.std.proofs.Common.{◌≡◌, ℕ, ◌+◌, ◌<◌, ◌^◌, List, [], ◌∷◌, ◌++◌, length, inl, sym, ap, ◌∙◌, append_assoc, arith}
use Rattle.std.proofs.lemmas.List.{append-nil}
use Rattle.arc_core.specs.declared.event.Event.{Event}
use Rattle.trace_text.specs.EventText.{event_line, event_lines}
use Rattle.trace_text.proofs.print_events.write_events.Goals as goal

line-more : (shard n m k : ℕ) (event : Event) (rest events : List Event) (text new all : List ℕ) → events ≡ event ∷ rest → m ≡ n → k ≡ n + 1 → new ≡ text ++ event_line shard m event
    → text ++ event_lines shard n events ≡ all → new ++ event_lines shard k rest ≡ all
line-more shard n m k event rest events text new all is same next wrote before =
    ap (λ (t : List ℕ). t ++ event_lines shard k rest) wrote ∙ append_assoc text (event_line shard m event) (event_lines shard k rest)
    ∙ ap (λ (j : ℕ). text ++ (event_line shard j event ++ event_lines shard k rest)) same ∙ ap (λ (j : ℕ). text ++ (event_line shard n event ++ event_lines shard j rest)) next
    ∙ ap (λ (es : List Event). text ++ event_lines shard n es) (sym is) ∙ before

pub loop-number-init : goal.loop-number-init
loop-number-init c =
    let all = c.into_iter-number-iterator.result in
    let iter : all.iter ≡ c.args.events = cc in
    let count : all.count ≡ 0 = cc in
    let few : all.count + length all.iter < 2 ^ 32 = omega (arith, ap length iter) in
    let fits : all.count + length all.iter < 2 ^ 64 = omega arith in
    record {
      can_next = (tt, tt, inl fits);
      is_finite = tt;
      few = few;
      text = ap (λ (n : ℕ). c.args.text.now.items ++ event_lines c.args.shard n all.iter) count ∙ ap (λ (es : List Event). c.args.text.now.items ++ event_lines c.args.shard 0 es) iter;
    }

pub loop-number-preserved : goal.loop-number-preserved
loop-number-preserved c =
    let old = c.loop-number.number-iterator in
    let new = c.next.new.self in
    let first : old.iter ≡ c.in-Some.event ∷ new.iter = c.in-Some.ensures.steps.0 in
    let here : c.in-Some.number ≡ old.count = c.in-Some.ensures.steps.1 in
    let count : new.count ≡ old.count + 1 = c.in-Some.ensures.steps.2 in
    let few : new.count + length new.iter < 2 ^ 32 = omega (arith, ap length first, c.loop-number.invariant.few) in
    let fits : new.count + length new.iter < 2 ^ 64 = omega arith in
    record {
      can_next = (tt, tt, inl fits);
      is_finite = tt;
      few = few;
      text = line-more c.args.shard old.count c.in-Some.number new.count c.in-Some.event new.iter old.iter c.loop-number.text.items c.write_event.new.text.items (c.args.text.now.items ++ event_lines c.args.shard 0 c.args.events)
          first here count c.in_ok-write_event.ensures c.loop-number.invariant.text;
    }

pub returns : goal.returns
returns c =
    sym (append-nil c.loop-number.text.items) ∙ ap (λ (es : List Event). c.loop-number.text.items ++ event_lines c.args.shard c.loop-number.number-iterator.count es) (sym c.in-None.ensures.steps.0.0)
    ∙ c.loop-number.invariant.text
