use Rattle.std.proofs.Common.{◌≡◌, ◌++◌, ℕ, List, drop, length, take, sym, ap, ◌∙◌, subst, arith}
use Rattle.std.specs.List.{AllByRecursion, AllZip}
use Rattle.std.proofs.Math.Seq.{take-append_seam}
use Rattle.dbuf_state.proofs.CellLemmas.{all-at}
use Rattle.dbuf_cells.specs.Turns.{OnHeap}
use Rattle.trace_run.specs.callers.Callers.{HasTried, IsReady}
use Rattle.trace_run.specs.declared.group.Caller.{Caller}
use Rattle.trace_run.proofs.group.work_lines.Goals as goal

-- what a slice of a whole vector leaves there
written : {X : Type 0} (n : ℕ) (news olds : List X) → n ≡ length news → take n (news ++ drop (length news) olds) ≡ news
written n news olds is = ap (λ (k : ℕ). take k (news ++ drop (length news) olds)) is ∙ take-append_seam news (drop (length news) olds)

pub work_all-requires-clause-ready : goal.work_all-requires-clause-ready
work_all-requires-clause-ready g c = λ k lives i d lt.
    all-at (IsReady c.args.arcs.now c.args.blocks.now) c.deref_mut.result.now i d
    (subst (AllByRecursion (IsReady c.args.arcs.now c.args.blocks.now)) (sym c.deref_mut.ensures.value) c.requires.ready) lt

pub returns : goal.returns
returns g c =
    let news : List (Caller OnHeap g.row.P.Denot g.row.D.Denot) = c.work_all.new.callers in
    let tried = subst (λ (l : List (Caller OnHeap g.row.P.Denot g.row.D.Denot)). AllZip (HasTried c.args.arcs.now g.P.Pool g.D.CacheDev c.args.blocks.now c.args.ops.now) l news) c.deref_mut.ensures.value c.work_all.ensures in
    let long : c.args.callers.now.len ≡ length news = let a = c.work_all.auto.callers in let b = c.deref_mut.ensures.len in omega (arith, a, b) in
    subst (AllZip (HasTried c.args.arcs.now g.P.Pool g.D.CacheDev c.args.blocks.now c.args.ops.now) c.args.callers.now.items) (sym (written c.args.callers.now.len news c.args.callers.now.items long)) tried
