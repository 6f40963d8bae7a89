use Rattle.std.proofs.Common.{◌≡◌, [], arith, eqb-true, sym, subst, ◌∙◌}
use Rattle.std.proofs.lemmas.List.{nil_from_length}
use Rattle.key_table.specs.PlainTable.{Gains, HasKey, row}
use Rattle.key_queue.specs.Places.{IsFound}
use Rattle.key_queue.proofs.FoundLemmas.{gained-found, gained-others, gone-found}
use Rattle.key_queue.proofs.places.put_row.Goals as goal

pub returns-then-is_empty-clause-row : goal.returns-then-is_empty-clause-row
returns-then-is_empty-clause-row c =
    let none : c.args.row.items ≡ [] = nil_from_length c.args.row.items (omega (arith, eqb-true _ _ (sym c.is_empty.ensures ∙ c.if-is_empty.true), c.args.row.ok)) in
    subst (IsFound c.args.number c.args.places.now.rows) (sym none) (gone-found c.args.places.now.rows c.args.places.now.rows c.args.number c.requires.gone)

pub insert-requires-clause-absent : goal.insert-requires-clause-absent
insert-requires-clause-absent c = subst (λ k. HasKey k c.args.places.now.rows → ⊥) (sym c.from.ensures) c.requires.gone

pub returns-clause-row : goal.returns-clause-row
returns-clause-row c =
    let old = c.args.places.now.rows in
    let new = c.insert.new.self.rows in
    gained-found old new c.args.number c.args.row c.requires.gone (subst (λ k. Gains old new (row k c.args.row)) c.from.ensures c.insert.ensures.rows)

pub returns-clause-others : goal.returns-clause-others
returns-clause-others c =
    let old = c.args.places.now.rows in
    let new = c.insert.new.self.rows in
    gained-others old new c.args.number c.args.row (subst (λ k. Gains old new (row k c.args.row)) c.from.ensures c.insert.ensures.rows)
