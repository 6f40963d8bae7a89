use Rattle.std.proofs.Common.{rules, ◌≡◌, length, replicate, sym, subst}
use Rattle.turn_table.specs.Board.{numbered, opening}
use Rattle.turn_table.specs.Homes.{room}
use Rattle.turn_table.proofs.Beginning.{opens}
use Rattle.turn_table.proofs.turns.Turns.lay.Goals as goal

pub new-requires : goal.new-requires
new-requires g c =
    let key = c.of.ensures in
    let words : c.as_slice.result.now ≡ replicate (room (length c.args.values.items)) 0 = search rules in
    opens g.R.TurnRule.holds c.args.parties _ (g.R.TurnRule.first c.of.result.value) c.args.values.items c.as_slice.result.now c.in_ok-slots.slots.items c.requires.parties (search rules) words c.in_ok-slots.ensures
    (subst (λ (k : g.row.R-Key.Denot). g.R.TurnRule.holds (opening c.args.values.items (numbered (g.R.TurnRule.first k) 0 c.args.parties))) (sym key) c.requires.rule)
