use Rattle.std.proofs.Common.{◌≡◌, ℕ, ◌+◌, suc, ◌++◌, IsPermutation, drop, take, subst, arith}
use Rattle.std.specs.List.{AllByRecursion}
use Rattle.txg_sync.specs.InHand.{IsKnown}
use Rattle.dbuf_cells.specs.Turns.{OnHeap}
use Rattle.txg_sync.specs.Items.{dues_from, dues_in}
use Rattle.txg_sync.proofs.Gathering.{gathers-more, known-more}
use Rattle.txg_sync.proofs.due.gather.Goals as goal

pub loop-i-preserved : goal.loop-i-preserved
loop-i-preserved c =
    let i = c.loop-i.i in
    let cells = c.args.cells.now in
    let next : suc i ≡ i + 1 = omega arith in
    record {
      known = subst (λ (n : ℕ). AllByRecursion IsKnown (take n cells)) next (known-more cells i c.index-cells-i.result (omega arith) c.loop-i.invariant.known (subst IsKnown c.index-cells-i.is c.in_ok-add_dirty.ensures.known));
      all = subst (λ (n : ℕ). IsPermutation (dues_from 0 cells) (c.add_dirty.new.dues.items ++ dues_from n (drop n cells))) next (gathers-more cells i c.loop-i.dues.items c.add_dirty.new.dues.items c.index-cells-i.result (omega arith) c.loop-i.invariant.all
          (subst (λ (x : OnHeap). IsPermutation (c.loop-i.dues.items ++ dues_in i x.value.dbufs) c.add_dirty.new.dues.items) c.index-cells-i.is c.in_ok-add_dirty.ensures.dues));
    }
