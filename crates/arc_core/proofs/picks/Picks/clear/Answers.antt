use Rattle.std.proofs.Common.{◌<◌, length, sym, subst, ◌∙◌}
use Rattle.arc_core.proofs.PickPlaces.{fewer, none-first}
use Rattle.arc_core.proofs.picks.Picks.clear.Goals as goal

pub loop-key-smaller : goal.loop-key-smaller
loop-key-smaller c =
    subst (λ l. length l < length c.loop-key.self.items) (sym c.take.ensures.items) (fewer c.in-Some.key c.loop-key.self.items c.in-Some.ensures)

pub returns-clause-items : goal.returns-clause-items
returns-clause-items c = none-first c.loop-key.self.items (sym c.in_default.is ∙ c.first.ensures)
