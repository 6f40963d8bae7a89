use Rattle.std.proofs.Common.{◌<◌, ◌≤◌, ℕ, [], ◌∷◌, ◌++◌, arith, ap, ◌∙◌}
use Rattle.turn_table.specs.Places.{newcomer}
use Rattle.turn_table.proofs.Beginning.{deal_last, deal_stays, deal_goes, newcomers_next, dealt}
use Rattle.turn_table.proofs.turns.Turns.deal.Goals as goal

pub send_off-requires-clause-last : goal.send_off-requires-clause-last
send_off-requires-clause-last g c = deal_last (g.R.TurnRule.first c.args.about.now) c.args.self.now.table c.args.parties c.loop-number.number (omega arith) c.loop-number.first c.loop-number.invariant.0

pub loop-number-preserved : goal.loop-number-preserved
loop-number-preserved g c =
    let f = g.R.TurnRule.first c.args.about.now in
    let n : ℕ = c.loop-number.number in
    let below : n < c.args.parties = omega arith in
    let from : 1 ≤ n = omega arith in
    let before = c.loop-number.invariant in (
      c.send_off.ensures.party ∙ deal_stays f c.args.self.now.table c.args.parties n below c.loop-number.first before.0,
      c.in_ok-push.ensures.items ∙ (ap (λ l. c.loop-number.all.items ++ l ∷ []) (c.send_off.ensures.result ∙ deal_goes f c.args.self.now.table c.args.parties n below c.loop-number.first before.0)
          ∙ (ap (λ l. l ++ newcomer c.args.self.now.table c.args.parties n (f n) ∷ []) before.1 ∙ newcomers_next f c.args.self.now.table c.args.parties n from)),
    )

pub returns : goal.returns
returns g c =
    let before = c.loop-number.invariant in
    c.in_ok-insert.ensures.items ∙ dealt (g.R.TurnRule.first c.args.about.now) c.args.self.now.table c.args.parties c.loop-number.number c.loop-number.first c.loop-number.all.items c.requires.parties (omega arith) before.0 before.1
