use Rattle.std.proofs.Common.{sym, subst, List}
use Rattle.l2_ring.specs.declared.plan.Plan.{Plan}
use Rattle.l2_ring.specs.declared.live.Written.{Written}
use Rattle.l2_ring.specs.Ring.{numbers_of, with_hand}
use Rattle.l2_ring.specs.Stays.{AreLive}
use Rattle.l2_dev.proofs.PromiseLaws.{same_plan}
use Rattle.l2_dev.proofs.Cursors.{at_rest, row_up}
use Rattle.l2_dev.proofs.cursor.Cursor.forget.Goals as goal

pub rewind-requires-clause-back : goal.rewind-requires-clause-back
rewind-requires-clause-back c = row_up c.self.inside.base c.self.inside.ring.hand _ c.self.invariant.row

pub invariant_of-self : goal.invariant_of-self
invariant_of-self c =
    let same = c.rewind.ensures.same in
    let numbers = same_plan (with_hand (numbers_of c.self.inside.ring) c.self.inside.base) (numbers_of c.rewind.new.self) (sym c.rewind.ensures.hand) (sym same.1) (sym same.2) (sym same.3) in
    at_rest c.rewind.new.self c.self.inside.base c.clear.new.self.items _ c.rewind.ensures.sound
    (subst (λ (ws : List Written). AreLive (numbers_of c.rewind.new.self) ws) (sym c.rewind.ensures.live)
    (subst (λ (p : Plan). AreLive p c.self.inside.ring.live) numbers c.self.invariant.live))
    (sym c.rewind.ensures.hand) c.clear.ensures.items
