use Rattle.std.proofs.Common.{◌≡◌, length, subst, arith}
use Rattle.dbuf_cells.specs.Turns.{OnHeap}
use Rattle.trace_run.specs.callers.Callers.{HasTried}
use Rattle.trace_run.specs.declared.group.Caller.{Caller}
use Rattle.trace_run.proofs.callers.GroupLemmas.{zip-of}
use Rattle.trace_run.proofs.group.work_all.Goals as goal

pub returns : goal.returns
returns g c =
    let long : length c.for_each_mut.new.s ≡ length c.args.callers.now = let l = c.for_each_mut.auto.s in omega arith in
    zip-of (HasTried c.args.arcs.now g.P.Pool g.D.CacheDev c.args.blocks.now c.args.ops.now) c.args.callers.now c.for_each_mut.new.s long (λ i d lt.
    let at = (c.for_each_mut.ensures i d lt).1 in
    subst (λ (x : Caller OnHeap g.row.P.Denot g.row.D.Denot × Caller OnHeap g.row.P.Denot g.row.D.Denot). HasTried c.args.arcs.now g.P.Pool g.D.CacheDev c.args.blocks.now c.args.ops.now x.0 x.1) (λ h. (at.argument_is h, at.left h)) at.call)
