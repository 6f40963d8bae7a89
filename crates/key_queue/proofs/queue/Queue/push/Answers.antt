use Rattle.std.proofs.Common.{◌≡◌, ◌+◌, ◌<◌, ◌^◌, List, [], ◌∷◌, ◌++◌, length, Some, refl, sym, ap, subst, ◌∙◌, arith, length-append, ◌-◌}
use Rattle.key_queue.specs.declared.slot.Slot.{Slot}
use Rattle.key_queue.specs.Places.{IsFound}
use Rattle.key_queue.specs.Slots.{IsTrimmed, pairs, places}
use Rattle.key_queue.proofs.QueueLemmas.{found-all}
use Rattle.key_queue.proofs.SlotLemmas.{pairs-append, pushed-others, pushed-places, trimmed-pushed}
use Rattle.key_queue.proofs.queue.Queue.push.Goals as goal

pub invariant_of-self-in_err-add_place : goal.invariant_of-self-in_err-add_place
invariant_of-self-in_err-add_place g c =
    let t = c.self.inside in
    let n = c.args.number in
    let new = c.add_place.new.places.rows in
    let same = c.reserve.ensures.items in
    record {
      found = λ m. subst (λ l. IsFound m new (places m t.base l)) (sym same)
          (found-all t.places.rows new n (λ k. places k t.base t.slots.items) (λ k. places k t.base t.slots.items) c.self.invariant.found
          (c.in_err-add_place.ensures.err _ (c.self.invariant.found n)) c.add_place.ensures.others (λ _ _. refl) m);
      fits = subst (λ (l : List (Slot g.row.T.Denot)). t.base + length l < 2 ^ 64) (sym same) c.self.invariant.fits;
      trimmed = subst (λ (l : List (Slot g.row.T.Denot)). IsTrimmed l) (sym same) c.self.invariant.trimmed;
    }

pub invariant_of-self-2 : goal.invariant_of-self-2
invariant_of-self-2 g c =
    let t = c.self.inside in
    let n = c.args.number in
    let ss = t.slots.items in
    let new = c.add_place.new.places.rows in
    let x : Slot g.row.T.Denot = record { number = n; value = Some c.args.value } in
    let e : c.push_back_reserved.new.self.items ≡ ss ++ x ∷ [] = c.push_back_reserved.ensures.items ∙ ap (λ l. l ++ x ∷ []) c.reserve.ensures.items in
    let q = t.base + c.len.result in
    let is : q ≡ t.base + length ss = omega (arith, c.len.ensures, t.slots.ok.0) in
    let long : length (ss ++ x ∷ []) ≡ length ss + 1 = length-append ss (x ∷ []) in
    let below : q ≡ 2 ^ 64 - 1 → ⊥ = c.if-place.false in
    record {
      found = λ m. subst (λ l. IsFound m new (places m t.base l)) (sym e)
          (found-all t.places.rows new n (λ k. places k t.base ss) (λ k. places k t.base (ss ++ x ∷ [])) c.self.invariant.found
          (subst (IsFound n new) (sym (pushed-places n t.base q ss c.args.value is)) (c.in_ok-add_place.ensures.ok _ (c.self.invariant.found n))) c.add_place.ensures.others
          (pushed-others n t.base q ss c.args.value is) m);
      fits = subst (λ (l : List (Slot g.row.T.Denot)). t.base + length l < 2 ^ 64) (sym e) (omega (arith, c.self.invariant.fits, is, long, below));
      trimmed = subst (λ (l : List (Slot g.row.T.Denot)). IsTrimmed l) (sym e) (trimmed-pushed ss n c.args.value c.self.invariant.trimmed);
    }

pub returns-clause-ok : goal.returns-clause-ok
returns-clause-ok g c =
    let ss = c.self.inside.slots.items in
    let x : Slot g.row.T.Denot = record { number = c.args.number; value = Some c.args.value } in
    let e : c.push_back_reserved.new.self.items ≡ ss ++ x ∷ [] = c.push_back_reserved.ensures.items ∙ ap (λ l. l ++ x ∷ []) c.reserve.ensures.items in
    rw (← c.self.view_is) (ap (λ l. pairs l) e ∙ pairs-append ss (x ∷ []))
