use Rattle.std.proofs.Common.{ap, sym, ◌∙◌}
use Rattle.l2_dev.specs.Cursor.{CursorState}
use Rattle.l2_dev.proofs.Cursors.{at_rest}
use Rattle.l2_dev.proofs.cursor.Cursor.take.Goals as goal

pub invariant_of-self : goal.invariant_of-self
invariant_of-self c =
    at_rest c.take.new.self c.args.plan.hand c.self.inside.pending.items _ c.take.ensures.sound.0 c.take.ensures.sound.1 (sym c.take.ensures.numbers.hand)
    (ap (λ (s : CursorState). s.pending) c.self.view_is ∙ c.requires.none)
