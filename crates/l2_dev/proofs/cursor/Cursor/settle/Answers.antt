use Rattle.std.proofs.Common.{arith}
use Rattle.l2_dev.proofs.Cursors.{row_lower}
use Rattle.l2_dev.proofs.cursor.Cursor.settle.Goals as goal

pub add_all-requires-clause-lower : goal.add_all-requires-clause-lower
add_all-requires-clause-lower c =
    let hand = c.advance.ensures.hand in
    rw c.deref.ensures.value (row_lower c.self.inside.base c.self.inside.ring.hand c.self.inside.ring.lap c.advance.new.self c.self.inside.pending.items c.self.invariant.from (omega arith) c.self.invariant.row)
