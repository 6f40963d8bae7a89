use Rattle.std.proofs.Common.{◌≡◌, ◌∷◌, ◌++◌, [], List, Ok, refl, sym, ap, ◌∙◌, subst, arith, append-nil, append_assoc, length, map, Option}
use Rattle.std.proofs.lemmas.List.{map-append}
use Rattle.turn_table.specs.Places.{Place}
use Rattle.arc_table.specs.declared.view.Known.{Known}
use Rattle.arc_table.proofs.Ends.{nothing_left}
use Rattle.trace_run.specs.callers.Callers.{AreEnlisted}
use Rattle.trace_run.specs.declared.group.Caller.{Caller}
use Rattle.trace_run.specs.declared.kept_blocks.KeptBlock.{KeptBlock}
use Rattle.trace_run.proofs.group.enlist.Goals as goal

pub loop-party-preserved : goal.loop-party-preserved
loop-party-preserved g c =
    let before = c.loop-party.invariant in
    let here : c.loop-party.party-iterator.rest.items ≡ c.in-Some.party ∷ c.next.new.self.rest.items = c.in-Some.ensures.steps.0 in
    let reads : c.loop-party.kept.rest.items ≡ c.in-Some-next.reads ∷ c.next-in-loop-party.new.self.rest.items = c.in-Some-next.ensures.cases.0 in
    let fork : c.loop-party.forks.rest.items ≡ c.in-Some-next-2.pool ∷ c.next-in-loop-party-2.new.self.rest.items = c.in-Some-next-2.ensures.cases.0 in
    let device : c.loop-party.devices.rest.items ≡ c.in-Some-next-3.device ∷ c.next-in-loop-party-3.new.self.rest.items = c.in-Some-next-3.ensures.cases.0 in
    let caller : Caller g.row.C.Denot g.row.P.Denot g.row.D.Denot = record { party = c.in-Some.party; kept = c.in-Some-next.reads; pool = c.in-Some-next-2.pool; device = c.in-Some-next-3.device; replies = Ok c.new.result } in
    record {
      made = λ more enlisted.
          subst (AreEnlisted c.args.parties.items c.args.kept.items c.args.forks.items)
          (sym (append_assoc c.loop-party.callers.items (caller ∷ []) more) ∙ ap (λ (l : List (Caller g.row.C.Denot g.row.P.Denot g.row.D.Denot)). l ++ more) (sym c.in_ok-push.ensures.items))
          (before.made (caller ∷ more)
          (subst (λ (x : List (Place (Known g.row.C.Denot)) × List (List KeptBlock) × List g.row.P.Denot). AreEnlisted x.0 x.1 x.2 (caller ∷ more)) (λ i. (sym here i, sym reads i, sym fork i))
          (record { party = refl; keeps = refl; pool = refl }, enlisted)));
      reads = let a = ap length here in let b = ap length reads in let s = before.reads in omega (arith, a, b, s);
      same = let a = ap length here in let b = ap length fork in let s = before.same in omega (arith, a, b, s);
      devices =
          ap (λ (l : List (Caller g.row.C.Denot g.row.P.Denot g.row.D.Denot)). map (λ x. x.device) l ++ c.next-in-loop-party-3.new.self.rest.items) c.in_ok-push.ensures.items
          ∙ (ap (λ (l : List (Option g.row.D.Denot)). l ++ c.next-in-loop-party-3.new.self.rest.items) (map-append (λ (x : Caller g.row.C.Denot g.row.P.Denot g.row.D.Denot). x.device) c.loop-party.callers.items (caller ∷ []))
          ∙ (append_assoc (map (λ (x : Caller g.row.C.Denot g.row.P.Denot g.row.D.Denot). x.device) c.loop-party.callers.items) (c.in-Some-next-3.device ∷ []) c.next-in-loop-party-3.new.self.rest.items
          ∙ (ap (λ (l : List (Option g.row.D.Denot)). map (λ (x : Caller g.row.C.Denot g.row.P.Denot g.row.D.Denot). x.device) c.loop-party.callers.items ++ l) (sym device) ∙ before.devices)));
      long = let a = ap length here in let b = ap length device in let s = before.long in omega (arith, a, b, s);
    }

pub returns-clause-enlisted : goal.returns-clause-enlisted
returns-clause-enlisted g c =
    let none : c.loop-party.party-iterator.rest.items ≡ [] = nothing_left c.loop-party.party-iterator.rest.items (let a = c.in-None.ensures.steps.0 in let b = c.loop-party.party-iterator.rest.ok in omega arith) in
    let read : c.loop-party.kept.rest.items ≡ [] = nothing_left c.loop-party.kept.rest.items (let same = c.loop-party.invariant.reads in let empty = ap length none in omega arith) in
    let gone : c.loop-party.forks.rest.items ≡ [] = nothing_left c.loop-party.forks.rest.items (let same = c.loop-party.invariant.same in let empty = ap length none in omega arith) in
    subst (AreEnlisted c.args.parties.items c.args.kept.items c.args.forks.items) (append-nil c.loop-party.callers.items)
    (c.loop-party.invariant.made [] (subst (λ (x : List (Place (Known g.row.C.Denot)) × List (List KeptBlock) × List g.row.P.Denot). AreEnlisted {D = g.row.D.Denot} x.0 x.1 x.2 []) (λ h. (sym none h, sym read h, sym gone h)) tt))

pub returns-clause-devices : goal.returns-clause-devices
returns-clause-devices g c =
    let none : c.loop-party.party-iterator.rest.items ≡ [] = nothing_left c.loop-party.party-iterator.rest.items (let a = c.in-None.ensures.steps.0 in let b = c.loop-party.party-iterator.rest.ok in omega arith) in
    let gone : c.loop-party.devices.rest.items ≡ [] = nothing_left c.loop-party.devices.rest.items (let same = c.loop-party.invariant.long in let empty = ap length none in omega arith) in
    sym (append-nil (map (λ (x : Caller g.row.C.Denot g.row.P.Denot g.row.D.Denot). x.device) c.loop-party.callers.items))
    ∙ (ap (λ (l : List (Option g.row.D.Denot)). map (λ (x : Caller g.row.C.Denot g.row.P.Denot g.row.D.Denot). x.device) c.loop-party.callers.items ++ l) (sym gone) ∙ c.loop-party.invariant.devices)
