use Rattle.std.proofs.Common.{◌≡◌, List, [], ◌∷◌, length, ap, sym, subst, ◌∙◌}
use Rattle.arc_core.specs.declared.event.Event.{Event}
use Rattle.trace_text.specs.declared.counts.Counts.{Counts}
use Rattle.trace_text.specs.Counting.{AreAtMost, counts_of_shard, with_counts, with_event}
use Rattle.trace_text.proofs.CountingLemmas.{AreAtMost-length, AreFew-event, counts-done, counts-more}
use Rattle.trace_text.proofs.counting.events_counted.Goals as goal

pub count-requires : goal.count-requires
count-requires c =
    let counts = c.loop-event.counts in
    let rest = c.next.new.self in
    let next : c.loop-event.event-iterator ≡ c.in-Some.event ∷ rest = c.in-Some.ensures.steps in
    AreFew-event counts c.in-Some.event rest c.args.events
    (counts-more counts c.in-Some.event rest ∙ ap (λ (es : List Event). with_counts counts (counts_of_shard es)) (sym next) ∙ c.loop-event.invariant) c.requires

pub loop-event-preserved : goal.loop-event-preserved
loop-event-preserved c =
    let counts = c.loop-event.counts in
    let rest = c.next.new.self in
    let next : c.loop-event.event-iterator ≡ c.in-Some.event ∷ rest = c.in-Some.ensures.steps in
    ap (λ (cs : Counts). with_counts cs (counts_of_shard rest)) c.count.ensures
    ∙ counts-more counts c.in-Some.event rest ∙ ap (λ (es : List Event). with_counts counts (counts_of_shard es)) (sym next) ∙ c.loop-event.invariant

pub returns-clause-counts : goal.returns-clause-counts
returns-clause-counts c =
    let none : c.loop-event.event-iterator ≡ [] = c.in-None.ensures.steps.0 in
    sym (counts-done c.loop-event.counts) ∙ ap (λ (es : List Event). with_counts c.loop-event.counts (counts_of_shard es)) (sym none) ∙ c.loop-event.invariant

pub returns-clause-bound : goal.returns-clause-bound
returns-clause-bound c = subst (λ (cs : Counts). AreAtMost (length c.args.events) cs) (sym (returns-clause-counts c)) (AreAtMost-length c.args.events)
