use Rattle.std.proofs.Common.{◌≡◌, ◌∷◌, [], ℕ, List, sym, subst}
use Rattle.turn_table.specs.Board.{opening}
use Rattle.turn_examples.specs.Twins.{Agrees, copies}
use Rattle.turn_examples.proofs.Both.{agree_at_first, agree_at_last, if_ok}
use Rattle.turn_examples.proofs.twins.add_from_two_threads.Goals as goal

pub new-requires-clause-rule : goal.new-requires-clause-rule
new-requires-clause-rule g c = let is : c.in_ok-values.values.items ≡ c.args.start ∷ c.args.start ∷ [] = c.in_ok-values.ensures.items in
    subst (λ (l : List ℕ). Agrees (opening l (copies [] ∷ copies [] ∷ []))) (sym is) (agree_at_first c.args.start)

pub returns : goal.returns
returns g c = if_ok _ (λ v. (x : ℕ) × (v.items ≡ x ∷ x ∷ [])) (λ v h. agree_at_last v.items h.1.0 h.1.3) c.close.result c.close.ensures
