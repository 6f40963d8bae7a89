use Rattle.std.proofs.Common.{◌≡◌, ℕ, List}
use Rattle.turn_table.specs.Places.{saw}
use Rattle.turn_table.specs.Moments.{Loses}
use Rattle.turn_table.proofs.turns.Turns.take_later.Given as goal

abbrev pub invariant-loop : goal.invariant-loop
invariant-loop g l = (owners : List ℕ) × (w : g.row.R-View.Denot) × Loses g.R.TurnRule.holds g.R.TurnRule.lost l.fn.i owners l.fn.party (saw l.fn.party w) × (l.party ≡ saw l.fn.party w)
