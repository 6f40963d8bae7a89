use Rattle.std.proofs.Common.{◌≤◌, List, length, sym, ap, ◌∙◌, subst, arith}
use Rattle.trace_text.specs.declared.reply.Reply.{Reply}
use Rattle.trace_run.specs.one_caller.InTurn.{HaveComeInTurn}
use Rattle.trace_run.specs.callers.Together.{between_groups}
use Rattle.trace_run.proofs.callers.FrontLemmas.{front-before, front-same, front-then}
use Rattle.trace_run.proofs.callers.InUse.{in-use-same, in-use-then}
use Rattle.trace_run.proofs.callers.AbsorbLemmas.{leaves-same, leaves-then}
use Rattle.trace_run.proofs.one_caller.TurnSteps.{all-in-turn, turn-not-stepped, turn-stepped}
use Rattle.trace_run.proofs.in_turn.all_in_turn.Goals as goal

pub loop-alloc-init : goal.loop-alloc-init
loop-alloc-init g c = record {
  between = λ restored work between. (
    work,
    subst (λ (l : List Reply). HaveComeInTurn c.args.arcs.now restored g.P.Pool g.D.CacheDev c.args.trace.now (between_groups c.args.pool.now c.args.syncs.group c.args.syncs.next) (between_groups c.args.pool.now c.args.syncs.group c.args.syncs.next) c.args.device.now c.args.device.now l work c.args.crew)
        (sym c.new-replies.ensures.items) between,
  );
  later = omega arith;
  leaves = front-same g.P.Pool c.args.syncs.next c.args.pool.now;
  still = λ none. leaves-same g.P.Pool c.args.pool.now;
  used = in-use-same g.D.CacheDev c.args.trace.now.ops c.args.device.now;
  device = c.requires.device;
}

pub next_lines-requires-clause-between : goal.next_lines-requires-clause-between
next_lines-requires-clause-between g c κs within =
    let before = c.loop-alloc.invariant.between c.requires.between.0 c.requires.between.1 c.requires.between.2 in
    ((between_groups c.args.pool.now c.args.syncs.group c.args.syncs.next), c.requires.between.0, c.args.device.now, before.0, before.1)

pub returns-then-not-goes_on-clause-done : goal.returns-then-not-goes_on-clause-done
returns-then-not-goes_on-clause-done g c = λ restored work between.
    let before = c.loop-alloc.invariant.between restored work between in
    turn-not-stepped c.args.arcs.now restored g.P.Pool g.D.CacheDev c.args.trace.now (between_groups c.args.pool.now c.args.syncs.group c.args.syncs.next) (between_groups c.next_lines.new.pool c.in_ok-after.later.group c.in_ok-after.later.next) c.args.device.now c.next_lines.new.device c.loop-alloc.replies.items c.next_lines.new.replies.items c.in_ok-after.after c.in_ok-after.ending
    (sym c.goes_on.ensures ∙ c.if-not-goes_on.true) (c.in_ok-after.ensures.did (between_groups c.args.pool.now c.args.syncs.group c.args.syncs.next) restored c.args.device.now before.0 before.1)

pub loop-alloc-smaller : goal.loop-alloc-smaller
loop-alloc-smaller g c =
    let before = c.loop-alloc.invariant.between c.requires.between.0 c.requires.between.1 c.requires.between.2 in
    let step = turn-stepped c.args.arcs.now c.requires.between.0 g.P.Pool g.D.CacheDev c.args.trace.now (between_groups c.args.pool.now c.args.syncs.group c.args.syncs.next) (between_groups c.next_lines.new.pool c.in_ok-after.later.group c.in_ok-after.later.next) c.args.device.now c.next_lines.new.device c.loop-alloc.replies.items c.next_lines.new.replies.items c.in_ok-after.after c.in_ok-after.ending
    (sym c.goes_on.ensures ∙ c.if-not-goes_on.false) (c.in_ok-after.ensures.did (between_groups c.args.pool.now c.args.syncs.group c.args.syncs.next) c.requires.between.0 c.args.device.now before.0 before.1) in
    let grown = step.2 in
    let few = step.1.reached.few in
    let test = c.loop-alloc-test.true in
    let is = c.len.ensures in
    let long = c.loop-alloc.replies.ok.0 in
    let longer = c.next_lines.new.replies.ok.0 in
    omega (arith, grown, few, test, is, long, longer, ap length c.as_slice.ensures)

pub loop-alloc-preserved : goal.loop-alloc-preserved
loop-alloc-preserved g c = record {
  between = λ restored work between.
      let before = c.loop-alloc.invariant.between restored work between in
      let step = turn-stepped c.args.arcs.now restored g.P.Pool g.D.CacheDev c.args.trace.now (between_groups c.args.pool.now c.args.syncs.group c.args.syncs.next) (between_groups c.next_lines.new.pool c.in_ok-after.later.group c.in_ok-after.later.next) c.args.device.now c.next_lines.new.device c.loop-alloc.replies.items c.next_lines.new.replies.items c.in_ok-after.after c.in_ok-after.ending
      (sym c.goes_on.ensures ∙ c.if-not-goes_on.false) (c.in_ok-after.ensures.did (between_groups c.args.pool.now c.args.syncs.group c.args.syncs.next) restored c.args.device.now before.0 before.1) in
      (step.0, step.1);
  later = let a = c.loop-alloc.invariant.later in let b = c.in_ok-after.ensures.later in omega (arith, a, b);
  leaves = front-then g.P.Pool c.args.syncs.next c.args.pool.now c.loop-alloc.pool c.next_lines.new.pool c.loop-alloc.invariant.leaves
      (front-before g.P.Pool c.args.syncs.next c.loop-alloc.syncs.next c.loop-alloc.pool c.next_lines.new.pool c.loop-alloc.invariant.later c.in_ok-after.ensures.pool);
  still = λ none. leaves-then g.P.Pool c.args.pool.now c.loop-alloc.pool c.next_lines.new.pool (c.loop-alloc.invariant.still none) (c.in_ok-after.ensures.still none);
  used = in-use-then g.D.CacheDev c.args.trace.now.ops c.args.device.now c.loop-alloc.device c.next_lines.new.device c.loop-alloc.invariant.used c.in_ok-after.ensures.used;
  device = c.in_ok-after.ensures.device;
}

pub returns-clause-done : goal.returns-clause-done
returns-clause-done g c = λ restored work between.
    let all : length c.args.trace.now.ops ≤ length c.loop-alloc.replies.items =
    let test = c.loop-alloc-test.false in let is = c.len.ensures in let long = c.loop-alloc.replies.ok.0 in omega (arith, test, is, long, ap length c.as_slice.ensures) in
    let now = c.loop-alloc.invariant.between restored work between in
    (now.0, all-in-turn c.args.arcs.now restored g.P.Pool g.D.CacheDev c.args.trace.now (between_groups c.args.pool.now c.args.syncs.group c.args.syncs.next) (between_groups c.loop-alloc.pool c.loop-alloc.syncs.group c.loop-alloc.syncs.next) c.args.device.now c.loop-alloc.device c.loop-alloc.replies.items now.0 c.loop-alloc.crew now.1 all)

pub returns-in_err-after-clause-pool : goal.returns-in_err-after-clause-pool
returns-in_err-after-clause-pool g c =
    front-then g.P.Pool c.args.syncs.next c.args.pool.now c.loop-alloc.pool c.next_lines.new.pool c.loop-alloc.invariant.leaves
    (front-before g.P.Pool c.args.syncs.next c.loop-alloc.syncs.next c.loop-alloc.pool c.next_lines.new.pool c.loop-alloc.invariant.later c.next_lines.ensures.pool)

pub returns-then-not-goes_on-clause-pool : goal.returns-then-not-goes_on-clause-pool
returns-then-not-goes_on-clause-pool g c =
    front-then g.P.Pool c.args.syncs.next c.args.pool.now c.loop-alloc.pool c.next_lines.new.pool c.loop-alloc.invariant.leaves
    (front-before g.P.Pool c.args.syncs.next c.loop-alloc.syncs.next c.loop-alloc.pool c.next_lines.new.pool c.loop-alloc.invariant.later c.next_lines.ensures.pool)
