use Rattle.std.specs.Prelude.{if◌then◌else◌}
use Rattle.std.proofs.Common.{ap, not, List, [], ◌≡◌, ◌∷◌, ◌++◌, ◌∙◌, sym, subst}
use Rattle.key_table.specs.PlainTable.{HasKey, PlainTable, Row}
use Rattle.trace_text.specs.declared.mappings.Name.{Name}
use Rattle.trace_text.specs.Grammar.{IsMapped}
use Rattle.trace_text.specs.Taken.{AreTaken, name}
use Rattle.trace_text.proofs.TakenLemmas.{taken-more}
use Rattle.trace_text.proofs.mappings.Mappings.push.Goals as goal

pub invariant_of-self : goal.invariant_of-self
invariant_of-self c = subst (λ (rows : List (Row Name (Unit {0}))). AreTaken rows c.self.inside.list.items) (sym (ap (λ (t : PlainTable Name (Unit {0})). t.rows) c.reserve.ensures.rows)) c.self.invariant

pub invariant_of-self-then-is_err : goal.invariant_of-self-then-is_err
invariant_of-self-then-is_err c =
    let kept : c.push.new.self.items ≡ c.self.inside.list.items = c.push.ensures.items ∙ ap (λ ok. if ok then c.self.inside.list.items ++ c.args.mapping ∷ [] else c.self.inside.list.items) (c.is_err.ensures.negation ∙ ap not c.if-is_err.true) in
    let same = subst (λ (rows : List (Row Name (Unit {0}))). AreTaken rows c.self.inside.list.items) (sym (ap (λ (t : PlainTable Name (Unit {0})). t.rows) c.reserve.ensures.rows)) c.self.invariant in
    subst (AreTaken c.reserve.new.self.rows) (sym kept) same

pub insert-requires-clause-absent : goal.insert-requires-clause-absent
insert-requires-clause-absent c = λ has.
    let before : HasKey (name c.args.mapping.at) c.self.inside.taken.rows = subst (HasKey (name c.args.mapping.at)) (ap (λ (t : PlainTable Name (Unit {0})). t.rows) c.reserve.ensures.rows) has in
    c.requires (subst (IsMapped c.args.mapping.at) c.self.view_is ((c.self.invariant c.args.mapping.at).0 before))

pub invariant_of-self-2 : goal.invariant_of-self-2
invariant_of-self-2 c =
    let pushed : c.push.new.self.items ≡ c.self.inside.list.items ++ c.args.mapping ∷ [] = c.push.ensures.items ∙ ap (λ ok. if ok then c.self.inside.list.items ++ c.args.mapping ∷ [] else c.self.inside.list.items) (c.is_err.ensures.negation ∙ ap not c.if-is_err.false) in
    let same = subst (λ (rows : List (Row Name (Unit {0}))). AreTaken rows c.self.inside.list.items) (sym (ap (λ (t : PlainTable Name (Unit {0})). t.rows) c.reserve.ensures.rows)) c.self.invariant in
    subst (AreTaken c.insert.new.self.rows) (sym pushed) (taken-more c.reserve.new.self.rows c.insert.new.self.rows c.self.inside.list.items c.args.mapping same c.insert.ensures.rows)
