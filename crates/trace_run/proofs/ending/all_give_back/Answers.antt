use Rattle.std.proofs.Common.{◌≡◌, [], List, length, sym, subst, arith}
use Rattle.arc_table.proofs.Ends.{nothing_left}
use Rattle.trace_run.specs.declared.kept_blocks.KeptBlock.{KeptBlock}
use Rattle.trace_run.specs.Meeting.{GaveBackJoined, MayGoOn}
use Rattle.trace_run.proofs.callers.TurningLemmas.{Turning, begun, may-begin, may-turn, turned, turned-all, turning-some}
use Rattle.trace_run.proofs.ending.all_give_back.Goals as goal

pub give_back_joined-requires : goal.give_back_joined-requires
give_back_joined-requires g c =
    let count : length c.args.kept.items ≡ c.args.arcs.now.config.callers = let long = c.args.kept.ok.0 in let many = c.requires.count in omega arith in
    subst (λ (l : List KeptBlock). MayGoOn c.args.arcs.now l c.args.feeder c.args.callers.items) (sym c.new.ensures)
    (may-begin c.args.arcs.now c.requires.callers.0 c.requires.callers.1 c.requires.feeder.0 c.requires.feeder.1 c.requires.feeder.2 c.requires.feeder.3 c.requires.feeder.4 c.args.callers.items c.args.feeder c.requires.parties c.args.kept.items c.args.callers.items c.args.feeder count c.requires.callers.2 c.requires.feeder.5)

pub loop-reads-init : goal.loop-reads-init
loop-reads-init g c = λ acts noted waits openings feeds since inserted synced fed.
    let count : length c.args.kept.items ≡ c.args.arcs.now.config.callers = let long = c.args.kept.ok.0 in let many = c.requires.count in omega arith in
    subst (λ (l : List (List KeptBlock)). Turning c.args.arcs.now acts noted openings feeds since inserted synced c.args.callers.items c.args.feeder c.args.kept.items l c.in_ok-parties.parties.items) (sym c.into_iter-reads-iterator.ensures.into_iter_gives.0)
    (begun c.args.arcs.now acts noted openings feeds since inserted synced c.args.callers.items c.args.feeder c.requires.parties c.args.kept.items c.in_ok-parties.parties.items count waits fed
    (subst (λ (l : List KeptBlock). GaveBackJoined c.args.arcs.now c.args.feeder l c.args.callers.items c.in_ok-parties.parties.items) c.new.ensures c.in_ok-parties.ensures))

pub first_gives_back-requires : goal.first_gives_back-requires
first_gives_back-requires g c =
    let count : length c.args.kept.items ≡ c.args.arcs.now.config.callers = let long = c.args.kept.ok.0 in let many = c.requires.count in omega arith in
    may-turn c.args.arcs.now c.requires.callers.0 c.requires.callers.1 c.requires.feeder.0 c.requires.feeder.1 c.requires.feeder.2 c.requires.feeder.3 c.requires.feeder.4 c.args.callers.items c.args.feeder c.requires.parties c.args.kept.items c.in-Some.reads c.next.new.self.rest.items count c.loop-reads.parties.items
    (subst (λ (l : List (List KeptBlock)). Turning c.args.arcs.now c.requires.callers.0 c.requires.callers.1 c.requires.feeder.0 c.requires.feeder.1 c.requires.feeder.2 c.requires.feeder.3 c.requires.feeder.4 c.args.callers.items c.args.feeder c.args.kept.items l c.loop-reads.parties.items) c.in-Some.ensures.steps.0 (c.loop-reads.invariant c.requires.callers.0 c.requires.callers.1 c.requires.callers.2 c.requires.feeder.0 c.requires.feeder.1 c.requires.feeder.2 c.requires.feeder.3 c.requires.feeder.4 c.requires.feeder.5))

pub loop-reads-preserved : goal.loop-reads-preserved
loop-reads-preserved g c = λ acts noted waits openings feeds since inserted synced fed.
    let count : length c.args.kept.items ≡ c.args.arcs.now.config.callers = let long = c.args.kept.ok.0 in let many = c.requires.count in omega arith in
    turned c.args.arcs.now acts noted openings feeds since inserted synced c.args.callers.items c.args.feeder c.requires.parties c.args.kept.items c.in-Some.reads c.next.new.self.rest.items count c.loop-reads.parties.items c.in_ok-parties-2.parties.items
    (subst (λ (l : List (List KeptBlock)). Turning c.args.arcs.now acts noted openings feeds since inserted synced c.args.callers.items c.args.feeder c.args.kept.items l c.loop-reads.parties.items) c.in-Some.ensures.steps.0 (c.loop-reads.invariant acts noted waits openings feeds since inserted synced fed)) c.in_ok-parties-2.ensures

pub remove-feeder-requires : goal.remove-feeder-requires
remove-feeder-requires g c =
    let some = turning-some c.args.arcs.now c.requires.callers.0 c.requires.callers.1 c.requires.feeder.0 c.requires.feeder.1 c.requires.feeder.2 c.requires.feeder.3 c.requires.feeder.4 c.args.callers.items c.args.feeder c.args.kept.items c.loop-reads.reads-iterator.rest.items c.loop-reads.parties.items (c.loop-reads.invariant c.requires.callers.0 c.requires.callers.1 c.requires.callers.2 c.requires.feeder.0 c.requires.feeder.1 c.requires.feeder.2 c.requires.feeder.3 c.requires.feeder.4 c.requires.feeder.5) in
    let long = c.loop-reads.parties.ok.0 in
    omega arith

pub returns : goal.returns
returns g c = λ acts noted waits openings feeds since inserted synced fed.
    let none : c.loop-reads.reads-iterator.rest.items ≡ [] = nothing_left c.loop-reads.reads-iterator.rest.items (let a = c.in-None.ensures.steps.0 in let b = c.loop-reads.reads-iterator.rest.ok in omega arith) in
    turned-all c.args.arcs.now acts noted openings feeds since inserted synced c.args.callers.items c.args.feeder c.args.kept.items c.loop-reads.parties.items c.remove-feeder.new.self.items c.push.new.self.items c.remove-feeder.result
    (subst (λ (l : List (List KeptBlock)). Turning c.args.arcs.now acts noted openings feeds since inserted synced c.args.callers.items c.args.feeder c.args.kept.items l c.loop-reads.parties.items) none (c.loop-reads.invariant acts noted waits openings feeds since inserted synced fed))
    c.remove-feeder.ensures.value c.remove-feeder.ensures.items c.in_ok-push.ensures.items
