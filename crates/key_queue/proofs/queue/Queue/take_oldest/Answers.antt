use Rattle.std.proofs.Common.{◌≡◌, ◌-◌, set, Some, refl, sym, ap, subst, ◌∙◌, arith}
use Rattle.std.proofs.lemmas.List.{length-set}
use Rattle.key_queue.specs.declared.slot.Slot.{Slot}
use Rattle.key_queue.specs.Pairs.{IsTaken}
use Rattle.key_queue.specs.Places.{IsFound}
use Rattle.key_queue.specs.Slots.{pairs, places}
use Rattle.key_queue.proofs.QueueLemmas.{found-all}
use Rattle.key_queue.proofs.SlotLemmas.{cut, cut-after, cut-others, cut-places, cut-read, cut-set, cut-taken, cut-within, emptied, lacks, remaining}
use Rattle.key_queue.proofs.queue.Queue.take_oldest.Goals as goal

pub invariant_of-self : goal.invariant_of-self
invariant_of-self g c =
    let t = c.self.inside in
    let n = c.args.number in
    record {
      found = found-all t.places.rows c.take_place.new.places.rows n (λ k. places k t.base t.slots.items) (λ k. places k t.base t.slots.items) c.self.invariant.found
          (c.in_err-place.ensures.taken _ (c.self.invariant.found n)).1 c.take_place.ensures.others (λ _ _. refl);
      fits = c.self.invariant.fits;
      trimmed = c.self.invariant.trimmed;
    }

pub returns-in_err-place : goal.returns-in_err-place
returns-in_err-place g c =
    let t = c.self.inside in
    rw (c.from_residual.ensures, ← c.self.view_is) (lacks c.args.number t.base t.slots.items (c.in_err-place.ensures.taken _ (c.self.invariant.found c.args.number)).0, refl)

pub overflow_sub-place : goal.overflow_sub-place
overflow_sub-place g c =
    let t = c.self.inside in
    let n = c.args.number in
    let taken = c.in_ok-place.ensures.taken (places n t.base t.slots.items) (c.self.invariant.found n) in
    cut-after n t.base c.in_ok-place.place taken.0 t.slots.items (cut n t.base c.in_ok-place.place taken.0 t.slots.items taken.1)

pub index_mut-requires : goal.index_mut-requires
index_mut-requires g c =
    let t = c.self.inside in
    let n = c.args.number in
    let taken = c.in_ok-place.ensures.taken (places n t.base t.slots.items) (c.self.invariant.found n) in
    let within = cut-within n t.base c.in_ok-place.place taken.0 t.slots.items (cut n t.base c.in_ok-place.place taken.0 t.slots.items taken.1) in
    omega (arith, within, t.slots.ok.0)

pub trim-requires : goal.trim-requires
trim-requires g c =
    let t = c.self.inside in
    let slot : Slot g.row.T.Denot = record { number = c.index_mut.result.now.number; value = c.take-value.new.self } in
    omega (arith, c.self.invariant.fits, length-set t.slots.items (c.in_ok-place.place - t.base) slot)

pub invariant_of-self-2 : goal.invariant_of-self-2
invariant_of-self-2 g c =
    let t = c.self.inside in
    let n = c.args.number in
    let q = c.in_ok-place.place in
    let ss = t.slots.items in
    let new = c.take_place.new.places.rows in
    let taken = c.in_ok-place.ensures.taken (places n t.base ss) (c.self.invariant.found n) in
    let oldest = cut n t.base q taken.0 ss taken.1 in
    let slot : Slot g.row.T.Denot = record { number = c.index_mut.result.now.number; value = c.take-value.new.self } in
    let read : c.index_mut.result.now ≡ oldest.slot = c.index_mut.ensures.value ∙ cut-read n t.base q taken.0 ss oldest c.index_mut.result.now in
    let number : c.index_mut.result.now.number ≡ oldest.slot.number = ap (λ (s : Slot g.row.T.Denot). s.number) read in
    let is : slot ≡ emptied n t.base q taken.0 ss oldest = λ i. record { number = number i; value = c.take-value.ensures.after i } in
    let e : set ss (q - t.base) slot ≡ remaining n t.base q taken.0 ss oldest = ap (set ss (q - t.base)) is ∙ cut-set n t.base q taken.0 ss oldest in
    record {
      found = λ m. subst (IsFound m new) (sym (c.trim.ensures.places m)) (subst (λ l. IsFound m new (places m t.base l)) (sym e)
          (found-all t.places.rows new n (λ k. places k t.base ss) (λ k. places k t.base (remaining n t.base q taken.0 ss oldest)) c.self.invariant.found
          (subst (IsFound n new) (sym (cut-places n t.base q taken.0 ss oldest)) taken.2) c.take_place.ensures.others (cut-others n t.base q taken.0 ss oldest) m));
      fits = omega (arith, c.trim.ensures.fits, c.self.invariant.fits, length-set ss (q - t.base) slot);
      trimmed = c.trim.ensures.trimmed;
    }

pub returns : goal.returns
returns g c =
    let t = c.self.inside in
    let n = c.args.number in
    let q = c.in_ok-place.place in
    let ss = t.slots.items in
    let taken = c.in_ok-place.ensures.taken (places n t.base ss) (c.self.invariant.found n) in
    let oldest = cut n t.base q taken.0 ss taken.1 in
    let slot : Slot g.row.T.Denot = record { number = c.index_mut.result.now.number; value = c.take-value.new.self } in
    let read : c.index_mut.result.now ≡ oldest.slot = c.index_mut.ensures.value ∙ cut-read n t.base q taken.0 ss oldest c.index_mut.result.now in
    let number : c.index_mut.result.now.number ≡ oldest.slot.number = ap (λ (s : Slot g.row.T.Denot). s.number) read in
    let is : slot ≡ emptied n t.base q taken.0 ss oldest = λ i. record { number = number i; value = c.take-value.ensures.after i } in
    let e : set ss (q - t.base) slot ≡ remaining n t.base q taken.0 ss oldest = ap (set ss (q - t.base)) is ∙ cut-set n t.base q taken.0 ss oldest in
    let value : c.take-value.result ≡ Some oldest.value = c.take-value.ensures.value ∙ (ap (λ (s : Slot g.row.T.Denot). s.value) read ∙ oldest.held) in
    rw (value, ← c.self.view_is)
    (subst (IsTaken n oldest.value (pairs ss)) (sym c.trim.ensures.pairs) (subst (λ l. IsTaken n oldest.value (pairs ss) (pairs l)) (sym e) (cut-taken n t.base q taken.0 ss oldest)))
