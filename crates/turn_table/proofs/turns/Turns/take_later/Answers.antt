use Rattle.std.proofs.Common.{◌≡◌, ℕ, [], ◌∷◌, ◌++◌, refl, subst}
use Rattle.turn_table.specs.Places.{Place, saw}
use Rattle.turn_table.specs.Moments.{WasTaken}
use Rattle.turn_table.proofs.Losses.{loses_more}
use Rattle.turn_table.proofs.turns.Turns.take_later.Goals as goal

pub loop-init : goal.loop-init
loop-init g c = ([], c.args.party.now.own, refl, refl)

pub loop-preserved : goal.loop-preserved
loop-preserved g c =
    let before = c.loop.invariant in
    let m : ℕ = c.in_default.field-0 in
    let h = subst (λ (v : Place g.row.R-View.Denot). WasTaken g.R.TurnRule.holds v c.args.i m × (c.try_take.new.party ≡ saw v (g.R.TurnRule.lost v.number c.args.i m v.own))) before.3 c.in_default.ensures.busy in (
      before.0 ++ m ∷ [],
      g.R.TurnRule.lost c.args.party.now.number c.args.i m before.1,
      loses_more g.R.TurnRule.holds g.R.TurnRule.lost c.args.i before.0 m c.args.party.now (saw c.args.party.now before.1) before.2 h.0,
      h.1,
    )
