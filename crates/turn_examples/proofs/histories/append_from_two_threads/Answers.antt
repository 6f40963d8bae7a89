use Rattle.std.proofs.Common.{◌≡◌, ◌∷◌, [], ℕ, List, sym, ap, ◌∙◌, subst, IfOk}
use Rattle.turn_table.specs.Board.{opening}
use Rattle.turn_examples.specs.Histories.{Kept, writer}
use Rattle.turn_examples.specs.Made.{HasMade}
use Rattle.turn_examples.proofs.Settled.{kept_at_first, settled_first, settled_second, settled_shared}
use Rattle.turn_examples.proofs.histories.append_from_two_threads.Goals as goal

pub new-requires-2-clause-rule : goal.new-requires-2-clause-rule
new-requires-2-clause-rule g c =
    let is : c.in_ok-values.values.items ≡ [] ∷ [] = c.in_ok-values.ensures.items ∙ ap (λ (l : List ℕ). l ∷ []) c.new.ensures in
    subst (λ (l : List (List ℕ)). Kept (opening l (writer [] [] ∷ writer [] [] ∷ []))) (sym is) kept_at_first

pub returns-clause-first : goal.returns-clause-first
returns-clause-first g c =
    let e = c.in_ok-entries.ensures in
    let one : HasMade c.in-Some-Some.one c.args.first.now (c.in_ok-one.one, c.in_ok-one.first_places) = subst (λ r. IfOk r (HasMade c.in-Some-Some.one c.args.first.now)) c.in_ok-one.was c.both_append-one.ensures.one in
    let two : HasMade c.in-Some-Some.two c.args.second.now (c.in_ok-two.two, c.in_ok-two.second_places) = subst (λ r. IfOk r (HasMade c.in-Some-Some.two c.args.second.now)) c.in_ok-two.was c.both_append-one.ensures.two in
    settled_first c.in_ok-entries.entries.items e.views e.rule e.one e.two e.count e.first e.second c.in_ok-one.first_places.items c.args.first.now c.in_ok-two.second_places.items c.args.second.now one.2 two.2 (e.first_made ∙ one.1) (e.second_made ∙ two.1)

pub returns-clause-second : goal.returns-clause-second
returns-clause-second g c =
    let e = c.in_ok-entries.ensures in
    let one : HasMade c.in-Some-Some.one c.args.first.now (c.in_ok-one.one, c.in_ok-one.first_places) = subst (λ r. IfOk r (HasMade c.in-Some-Some.one c.args.first.now)) c.in_ok-one.was c.both_append-one.ensures.one in
    let two : HasMade c.in-Some-Some.two c.args.second.now (c.in_ok-two.two, c.in_ok-two.second_places) = subst (λ r. IfOk r (HasMade c.in-Some-Some.two c.args.second.now)) c.in_ok-two.was c.both_append-one.ensures.two in
    settled_second c.in_ok-entries.entries.items e.views e.rule e.one e.two e.count e.first e.second c.in_ok-one.first_places.items c.args.first.now c.in_ok-two.second_places.items c.args.second.now one.2 two.2 (e.first_made ∙ one.1) (e.second_made ∙ two.1)

pub returns-clause-shared : goal.returns-clause-shared
returns-clause-shared g c =
    let e = c.in_ok-entries.ensures in
    let one : HasMade c.in-Some-Some.one c.args.first.now (c.in_ok-one.one, c.in_ok-one.first_places) = subst (λ r. IfOk r (HasMade c.in-Some-Some.one c.args.first.now)) c.in_ok-one.was c.both_append-one.ensures.one in
    let two : HasMade c.in-Some-Some.two c.args.second.now (c.in_ok-two.two, c.in_ok-two.second_places) = subst (λ r. IfOk r (HasMade c.in-Some-Some.two c.args.second.now)) c.in_ok-two.was c.both_append-one.ensures.two in
    settled_shared c.in_ok-entries.entries.items e.views e.rule e.one e.two e.count e.first e.second c.in_ok-one.first_places.items c.args.first.now c.in_ok-two.second_places.items c.args.second.now one.2 two.2 (e.first_made ∙ one.1) (e.second_made ∙ two.1)
