use Rattle.std.proofs.Common.{◌≡◌, ◌∷◌, ◌++◌, [], ℕ, List, refl, sym, ap, ◌∙◌, subst, append-nil, append_assoc, arith}
use Rattle.turn_table.specs.Places.{Place}
use Rattle.arc_table.specs.declared.view.Known.{Known}
use Rattle.arc_table.proofs.Ends.{nothing_left}
use Rattle.trace_run.specs.Meeting.{AreLast, MayPart, PartAll}
use Rattle.trace_run.proofs.callers.MeetLemmas.{is-last, rest-last}
use Rattle.trace_run.proofs.ending.part_all.Goals as goal

pub loop-number-init : goal.loop-number-init
loop-number-init g c =
    let all : c.into_iter-number-iterator.result.rest.items ≡ c.args.numbers.items = c.into_iter-number-iterator.ensures.into_iter_gives.0 in
    record {
      party = c.requires.party;
      last = subst (λ (l : List ℕ). AreLast l c.args.party.now.joined) (sym all) c.requires.numbers;
      parts = λ xs q parts. subst (λ (l : List (Place (Known g.row.C.Denot)) × List ℕ). PartAll l.1 c.args.party.now (l.0 ++ xs) q) (λ i. (sym c.new-parties.ensures.items i, all i)) parts;
    }

pub part-requires-clause-row : goal.part-requires-clause-row
part-requires-clause-row g c = c.loop-number.invariant.party.0

pub part-requires-clause-free : goal.part-requires-clause-free
part-requires-clause-free g c = c.loop-number.invariant.party.1

pub part-requires-clause-last : goal.part-requires-clause-last
part-requires-clause-last g c =
    is-last c.in-Some.number c.next.new.self.rest.items c.loop-number.party.joined (subst (λ (l : List ℕ). AreLast l c.loop-number.party.joined) c.in-Some.ensures.steps.0 c.loop-number.invariant.last)

pub loop-number-preserved : goal.loop-number-preserved
loop-number-preserved g c =
    let before = c.loop-number.invariant in
    let rest : List ℕ = c.next.new.self.rest.items in
    let is : c.loop-number.number-iterator.rest.items ≡ c.in-Some.number ∷ rest = c.in-Some.ensures.steps.0 in
    record {
      party = subst (MayPart c.args.arcs.now) (sym c.part.ensures.party) (record { row = before.party.0.row; config = before.party.0.config }, before.party.1);
      last = subst (λ (p : Place (Known g.row.C.Denot)). AreLast rest p.joined) (sym c.part.ensures.party)
          (rest-last c.in-Some.number rest c.loop-number.party.joined (subst (λ (l : List ℕ). AreLast l c.loop-number.party.joined) is before.last));
      parts = λ xs q parts.
          subst (λ (l : List (Place (Known g.row.C.Denot))). PartAll c.args.numbers.items c.args.party.now l q)
          (sym (append_assoc c.loop-number.parties.items (c.part.result ∷ []) xs) ∙ ap (λ (l : List (Place (Known g.row.C.Denot))). l ++ xs) (sym c.in_ok-push.ensures.items))
          (before.parts (c.part.result ∷ xs) q (subst (λ (l : List ℕ). PartAll l c.loop-number.party (c.part.result ∷ xs) q) (sym is)
          (c.part.ensures.result, subst (λ (p : Place (Known g.row.C.Denot)). PartAll rest p xs q) c.part.ensures.party parts)));
    }

pub returns : goal.returns
returns g c =
    let none : c.loop-number.number-iterator.rest.items ≡ [] = nothing_left c.loop-number.number-iterator.rest.items (let a = c.in-None.ensures.steps.0 in let b = c.loop-number.number-iterator.rest.ok in omega arith) in
    subst (λ (l : List (Place (Known g.row.C.Denot))). PartAll c.args.numbers.items c.args.party.now l c.loop-number.party) (append-nil c.loop-number.parties.items)
    (c.loop-number.invariant.parts [] c.loop-number.party (subst (λ (l : List ℕ). PartAll l c.loop-number.party [] c.loop-number.party) (sym none) refl))
