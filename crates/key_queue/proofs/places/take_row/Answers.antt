use Rattle.std.proofs.Common.{sym, subst, ◌∙◌}
use Rattle.key_table.specs.PlainTable.{HasKey, IsAmong, Loses, row}
use Rattle.key_queue.proofs.FoundLemmas.{lost-found, lost-gone}
use Rattle.key_queue.proofs.places.take_row.Goals as goal

pub returns-in_default-clause-row : goal.returns-in_default-clause-row
returns-in_default-clause-row c = λ ps found. c.new.ensures.items ∙ sym (found.absent (subst (λ k. HasKey k c.args.places.now.rows → ⊥) c.from-key.ensures c.in_default.ensures.none))

pub returns-in_default-clause-gone : goal.returns-in_default-clause-gone
returns-in_default-clause-gone c = subst (λ k. HasKey k c.args.places.now.rows → ⊥) c.from-key.ensures c.in_default.ensures.none

pub returns-clause-row : goal.returns-clause-row
returns-clause-row c = λ ps found. found.held c.remove.result (subst (λ k. IsAmong (row k c.remove.result) c.args.places.now.rows) c.from-key.ensures c.remove.ensures.value)

pub returns-clause-gone : goal.returns-clause-gone
returns-clause-gone c = lost-gone c.args.places.now.rows c.remove.new.self.rows c.args.number (subst (Loses c.args.places.now.rows c.remove.new.self.rows) c.from-key.ensures c.remove.ensures.rows)

pub returns-clause-others : goal.returns-clause-others
returns-clause-others c = lost-found c.args.places.now.rows c.remove.new.self.rows c.args.number (subst (Loses c.args.places.now.rows c.remove.new.self.rows) c.from-key.ensures c.remove.ensures.rows)
