use Rattle.std.proofs.Common.{[], refl}
use Rattle.turn_table.proofs.Losses.{ends_sooner}
use Rattle.turn_table.proofs.turns.Turns.take.Goals as goal

pub returns-in-Taken : goal.returns-in-Taken
returns-in-Taken g c = let w : g.row.R-View.Denot = c.args.party.now.own in ([], w, refl, c.in-Taken.ensures.taken.0, c.in-Taken.ensures.taken.1)

pub returns-in-Busy : goal.returns-in-Busy
returns-in-Busy g c =
    ends_sooner g.R.TurnRule.holds g.R.TurnRule.lost c.args.i g.R.TurnRule.won c.in-Busy.owner c.args.party.now c.try_take.new.party c.take_later.new.party c.take_later.result c.in-Busy.ensures.busy.0 c.in-Busy.ensures.busy.1 c.take_later.ensures
