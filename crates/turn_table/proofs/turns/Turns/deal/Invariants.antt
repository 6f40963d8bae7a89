use Rattle.std.proofs.Common.{◌≡◌, ◌-◌}
use Rattle.turn_table.specs.Places.{newcomers}
use Rattle.turn_table.specs.Standings.{whole_place}
use Rattle.turn_table.proofs.turns.Turns.deal.Given as goal

abbrev pub invariant-loop-number : goal.invariant-loop-number
invariant-loop-number g l =
    (l.first ≡ whole_place l.fn.self.table l.fn.parties (g.R.TurnRule.first l.fn.about) l.number (l.fn.parties - l.number))
    × (l.all.items ≡ newcomers l.fn.self.table l.fn.parties (g.R.TurnRule.first l.fn.about) 1 (l.number - 1))
