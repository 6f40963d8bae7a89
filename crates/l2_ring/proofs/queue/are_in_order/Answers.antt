use Rattle.std.proofs.Common.{None, arith}
use Rattle.l2_ring.specs.declared.live.Written.{Written}
use Rattle.l2_ring.proofs.Rows.{row_next, of_not}
use Rattle.l2_ring.proofs.queue.are_in_order.Goals as goal
use Rattle.l2_ring.proofs.queue.are_in_order.Goals.{then-i-gt0, else-i-gt0}

pub loop-i-preserved : goal.loop-i-preserved
loop-i-preserved c =
    let none : Written = record { live = record { key = record { offset = 0; size = 0; birth = 0 }; place = 0; digest = None }; lap = 0 } in
    let lt = c.loop-i-test.true in
    let some = c.if-written-eq0.false in
    row_next c.args.entries.now c.loop-i.i none lt c.loop-i.invariant (omega arith)
    (λ more. elim c.if-i-gt0.branch [
      | then-i-gt0 w ↦ w.is_before.ensures (of_not c.if-i-gt0.value w.is_before.result w.value-is c.if-not-is_before.false)
      | else-i-gt0 w ↦ let below = w.if-i-gt0.false in absurd (omega arith)
    ])
