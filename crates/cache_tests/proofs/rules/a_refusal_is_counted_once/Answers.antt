use Rattle.std.proofs.Common.{◌≡◌, ◌∷◌, [], ℕ, List, refl, sym, subst, arith}
use Rattle.turn_table.specs.Board.{opening}
use Rattle.turn_table.specs.Places.{Place}
use Rattle.turn_examples.specs.declared.refusals.Clerk.{Clerk}
use Rattle.turn_examples.specs.Refusals.{clerk, Counted}
use Rattle.turn_examples.proofs.RefusalLaws.{gives_other}
use Rattle.turn_examples.proofs.Tallies.{counted_at_first}
use Rattle.cache_tests.proofs.rules.a_refusal_is_counted_once.Goals as goal

pub new-requires-clause-rule : goal.new-requires-clause-rule
new-requires-clause-rule g c = let is : c.in_ok-values.values.items ≡ 0 ∷ 7 ∷ [] = c.in_ok-values.ensures.items in
    subst (λ (l : List ℕ). Counted (opening l (clerk [] 0 0 ∷ clerk [] 0 0 ∷ []))) (sym is) (counted_at_first 7)

pub give-requires-clause-rule : goal.give-requires-clause-rule
give-requires-clause-rule g c =
    let p : Place Clerk = c.take-held.new.party in
    gives_other p 1 c.take-held.result p.own (λ e. absurd (omega arith)) refl refl (omega arith)
