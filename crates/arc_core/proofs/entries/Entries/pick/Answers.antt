use Rattle.std.proofs.Common.{arith}
use Rattle.blk_ptr.specs.declared.state.State.TheVariants.{Anon, Mru, Mfu}
use Rattle.arc_lists.proofs.Keeping.{size_at-lt}
use Rattle.arc_core.specs.seats.EntryRows.{parts}
use Rattle.arc_core.proofs.entries.Entries.pick.Goals as goal

-- each size is far from the end of its type
pub overflow_add-cached : goal.overflow_add-cached
overflow_add-cached g c =
    let l = parts c.self.inside in
    let kept = c.self.invariant.lists in
    omega (arith, size_at-lt l Anon 0 kept (omega arith), size_at-lt l Mru 0 kept (omega arith))

pub overflow_add-all : goal.overflow_add-all
overflow_add-all g c =
    let l = parts c.self.inside in
    let kept = c.self.invariant.lists in
    omega (arith, size_at-lt l Anon 0 kept (omega arith), size_at-lt l Mru 0 kept (omega arith), size_at-lt l Mfu 0 kept (omega arith))

pub overflow_add-all-2 : goal.overflow_add-all-2
overflow_add-all-2 g c =
    let l = parts c.self.inside in
    let kept = c.self.invariant.lists in
    omega (arith, size_at-lt l Anon 0 kept (omega arith), size_at-lt l Mru 0 kept (omega arith), size_at-lt l Mfu 0 kept (omega arith))
