use Rattle.std.proofs.Common.{◌≡◌, ◌+◌, ◌<◌, ◌≤◌, ℕ, [], ◌∷◌, ◌++◌, length, sym, ◌∙◌, subst, arith}
use mathlib.Core.Option.{some}
use lib.ListN.{get_elem?}
use Rattle.turn_table.specs.Places.{Place, met, ShowAll}
use Rattle.turn_examples.specs.declared.refusals.Clerk.{Clerk}
use Rattle.turn_examples.proofs.Tallies.{settled}
use Rattle.turn_examples.proofs.refusals.settle.Goals as goal

pub returns-clause-told : goal.returns-clause-told
returns-clause-told c =
    let e = c.in_ok-values.ensures in
    let one : Place Clerk = c.args.one in
    let two : Place Clerk = c.args.two in
    let items : c.push.new.self.items ≡ met one two one.own ∷ [] = c.in_ok-push.ensures.items ∙ (λ k. c.in_ok-parties.ensures.items k ++ c.join.ensures.joined k ∷ []) in
    let shown : ShowAll e.1.0 (met one two one.own ∷ []) = subst (ShowAll e.1.0) items e.1.2 in
    let long : 0 < length c.in_ok-values.values.items = let a = e.0 in let b = c.requires.row.0 in let d = c.in_ok-values.values.ok.0 in omega arith in
    let r = settled c.in_ok-values.values.items c.index.result.now e.1.0 one.own two.own e.1.3 long (e.1.1 ∙ c.requires.row.1)
    (subst (λ (n : ℕ). get_elem? e.1.0 n ≡ some one.own) c.requires.one.3 shown.0.0) (subst (λ (n : ℕ). get_elem? e.1.0 n ≡ some two.own) c.requires.two.3 shown.0.1.0) in
    c.index.ensures ∙ r.0

pub returns-clause-bounded : goal.returns-clause-bounded
returns-clause-bounded c =
    let e = c.in_ok-values.ensures in
    let one : Place Clerk = c.args.one in
    let two : Place Clerk = c.args.two in
    let items : c.push.new.self.items ≡ met one two one.own ∷ [] = c.in_ok-push.ensures.items ∙ (λ k. c.in_ok-parties.ensures.items k ++ c.join.ensures.joined k ∷ []) in
    let shown : ShowAll e.1.0 (met one two one.own ∷ []) = subst (ShowAll e.1.0) items e.1.2 in
    let long : 0 < length c.in_ok-values.values.items = let a = e.0 in let b = c.requires.row.0 in let d = c.in_ok-values.values.ok.0 in omega arith in
    let r = settled c.in_ok-values.values.items c.index.result.now e.1.0 one.own two.own e.1.3 long (e.1.1 ∙ c.requires.row.1)
    (subst (λ (n : ℕ). get_elem? e.1.0 n ≡ some one.own) c.requires.one.3 shown.0.0) (subst (λ (n : ℕ). get_elem? e.1.0 n ≡ some two.own) c.requires.two.3 shown.0.1.0) in
    subst (λ (x : ℕ). x ≤ length one.own.notes + length two.own.notes) (sym c.index.ensures) r.1
