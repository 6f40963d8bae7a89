use Rattle.std.specs.Prelude.{Some}
use Rattle.turn_table.proofs.turns.Turns.give_with.Given as goal

abbrev pub ghosts-hand_back : goal.ghosts-hand_back
ghosts-hand_back g a = record { next = Some (g.M.GivenView.given a.hand.now a.party.now.own a.i a.value) }
