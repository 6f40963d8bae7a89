use Rattle.std.proofs.Common.{◌≡◌, [], List, sym, subst, refl, arith}
use Rattle.arc_table.proofs.Ends.{nothing_left}
use Rattle.trace_run.specs.callers.Callers.{AbsorbsAll}
use Rattle.trace_run.proofs.group.absorb_all.Goals as goal

pub loop-fork-init : goal.loop-fork-init
loop-fork-init g c = λ q absorbs. subst (λ (l : List g.row.P.Denot). AbsorbsAll g.P.Pool l c.args.pool.now q) c.into_iter-fork-iterator.ensures.into_iter_gives.0 absorbs

pub loop-fork-preserved : goal.loop-fork-preserved
loop-fork-preserved g c = λ q absorbs.
    let e = c.absorb.ensures in
    c.loop-fork.invariant q (subst (λ (l : List g.row.P.Denot). AbsorbsAll g.P.Pool l c.loop-fork.pool q) (sym c.in-Some.ensures.steps.0)
    (c.absorb.new.self, record { size = e.size; told = e.told; reads = e.reads; faults = e.faults; others = e.others }, absorbs))

pub returns : goal.returns
returns g c =
    let none : c.loop-fork.fork-iterator.rest.items ≡ [] = nothing_left c.loop-fork.fork-iterator.rest.items (let a = c.in-None.ensures.steps.0 in let b = c.loop-fork.fork-iterator.rest.ok in omega arith) in
    c.loop-fork.invariant c.loop-fork.pool (subst (λ (l : List g.row.P.Denot). AbsorbsAll g.P.Pool l c.loop-fork.pool c.loop-fork.pool) (sym none) refl)
