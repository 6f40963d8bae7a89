use Rattle.std.proofs.Common.{◌≡◌, ◌∷◌, [], drop, take, length, refl, sym, ap, subst, ◌∙◌, arith}
use Rattle.arc_core.specs.Replay.{replay}
use Rattle.arc_check.specs.Judging.{IsLegalFrom, end_of, log_opening}
use Rattle.arc_check.proofs.Playing.{next-left, none-left, played-more, stuck-at}
use Rattle.arc_check.proofs.judge.play.Goals as goal

pub loop-index-init : goal.loop-index-init
loop-index-init c = record {
  few = omega (arith, ap length c.iter-event-items.ensures.events, c.iter-event-items.ensures.few);
  left = sym c.iter-event-items.ensures.events;
  now = c.new-shard.ensures.log;
  legal = refl;
}

pub overflow_step-index : goal.overflow_step-index
overflow_step-index c = omega (arith, c.loop-index.invariant.few)

pub returns-then-not-branch : goal.returns-then-not-branch
returns-then-not-branch c =
    let index = c.loop-index.index in
    let kept = c.loop-index.invariant in
    let next = next-left c.args.history.now index c.in-Some.event c.next.new.self (kept.left ∙ c.in-Some.ensures.steps) in
    stuck-at (log_opening c.args.config) c.loop-index.shard.now c.try_event.new.shard.now c.args.history.now index c.in-Some.event c.in_ok-try_event.field-0 next.0 kept.now kept.legal c.in_ok-try_event.ensures c.if-not-branch.true

pub loop-index-preserved : goal.loop-index-preserved
loop-index-preserved c =
    let index = c.loop-index.index in
    let rest = c.next.new.self in
    let kept = c.loop-index.invariant in
    let first : c.loop-index.event-iterator ≡ c.in-Some.event ∷ rest = c.in-Some.ensures.steps in
    let next = next-left c.args.history.now index c.in-Some.event rest (kept.left ∙ first) in
    let more = played-more (log_opening c.args.config) c.loop-index.shard.now c.try_event.new.shard.now c.args.history.now index c.in-Some.event c.in_ok-try_event.field-0 next.0 kept.now kept.legal c.in_ok-try_event.ensures c.if-not-branch.false in
    record {
      few = omega (arith, ap length first, kept.few);
      left = next.1;
      now = more.0;
      legal = more.1;
    }

pub returns : goal.returns
returns c =
    let index = c.loop-index.index in
    let kept = c.loop-index.invariant in
    let opening = log_opening c.args.config in
    let none : drop index c.args.history.now ≡ [] = kept.left ∙ c.in-None.ensures.steps.0 in
    let all : take index c.args.history.now ≡ c.args.history.now = none-left c.args.history.now index none in
    (subst (IsLegalFrom opening) all kept.legal, c.end_of.ensures ∙ ap end_of (kept.now ∙ ap (replay opening) all))
