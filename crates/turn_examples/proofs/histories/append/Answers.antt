use Rattle.std.proofs.Common.{rules, ◌≡◌, ◌++◌, ◌∷◌, [], sym, ap, ◌∙◌}
use Rattle.turn_table.specs.Places.{Place}
use Rattle.turn_examples.specs.declared.histories.Writer.{Writer}
use Rattle.turn_table.specs.Histories.{front_of}
use Rattle.turn_table.proofs.Histories.{front_here}
use Rattle.turn_examples.proofs.HistoryLaws.{appends, returns_same}
use Rattle.turn_examples.proofs.histories.append.Goals as goal

pub give-requires-clause-rule : goal.give-requires-clause-rule
give-requires-clause-rule g c =
    let p = c.take_log-log.new.party in
    let front : front_of 0 p.own.seen ≡ c.take_log-log.result = ap (λ (v : Place Writer). front_of 0 v.own.seen) c.take_log-log.ensures ∙ front_here 0 c.take_log-log.result c.args.party.now.own.seen in
    let same : c.push.new.self ≡ c.take_log-log.result = search rules in
    returns_same p 0 c.push.new.self (same ∙ sym front)

pub give_with-requires-clause-rule : goal.give_with-requires-clause-rule
give_with-requires-clause-rule g c =
    let p = c.take_log-log.new.party in
    let front : front_of 0 p.own.seen ≡ c.take_log-log.result = ap (λ (v : Place Writer). front_of 0 v.own.seen) c.take_log-log.ensures ∙ front_here 0 c.take_log-log.result c.args.party.now.own.seen in
    let grown : c.push.new.self ≡ c.take_log-log.result ++ c.args.entry ∷ [] = search rules in
    appends p 0 c.args.entry c.push.new.self (grown ∙ ap (λ l. l ++ c.args.entry ∷ []) (sym front))
