-- Chains of slots: how they are kept, lengthened and shortened.
use Rattle.std.proofs.Common.{◌≡◌, ◌≢◌, ℕ, zero, suc, ◌<◌, ◌≤◌, nat_eq, List, [], ◌∷◌, length, Some, None, option_map, inl, inr, refl, sym, ap, subst, ◌∙◌, arith}
use Rattle.std.proofs.lemmas.Bool.{cases_lt, eqb-true, eqb-false}
use Rattle.std.proofs.lemmas.List.{get_or_past}
use Rattle.slab.specs.Slab.{Slab, get}
use Rattle.key_table.specs.declared.chain.Slot.{Slot}
use Rattle.key_table.specs.Chains.{AreOnce, IsChain, Stands, leading, no_place, place_in_front, walk}
use Rattle.key_table.proofs.Places.{cases_true, in_front-stands, length-once, ne_test, some_is, some_not_none, without}

module _ {K V : Type 0} where
  -- a chain stays where its own slots stay as they are
  pub chain-frame : (s t : Slab (Slot K V)) (link : ℕ) (ps : List ℕ) → ((q : ℕ) → Stands q ps → get t q ≡ get s q) → IsChain s link ps → IsChain t link ps
  chain-frame s t link [] same chain = chain
  chain-frame s t link (p ∷ ps) same chain = (
    chain.0,
    chain.1,
    chain.2,
    same p (inl refl) ∙ chain.3,
    chain-frame s t chain.2.next ps (λ q there. same q (inr there)) chain.4,
  )

  -- one link leads along one chain
  pub chain-one : (s : Slab (Slot K V)) (link : ℕ) (ps qs : List ℕ) → IsChain s link ps → IsChain s link qs → ps ≡ qs
  chain-one s link [] [] one other = refl
  chain-one s link [] (q ∷ qs) one other = absurd (omega (arith, one, other.0, other.1))
  chain-one s link (p ∷ ps) [] one other = absurd (omega (arith, other, one.0, one.1))
  chain-one s link (p ∷ ps) (q ∷ qs) one other =
      let same : p ≡ q = sym one.0 ∙ other.0 in
      let next : one.2.next ≡ other.2.next = ap (λ (z : Slot K V). z.next) (some_is (sym one.3 ∙ ap (get s) same ∙ other.3)) in
      let rest : ps ≡ qs = chain-one s one.2.next ps qs one.4 (subst (λ z. IsChain s z qs) (sym next) other.4) in
      ap (λ z. z ∷ ps) same ∙ ap (λ z. q ∷ z) rest

  -- a place of a chain is one, and has a slot
  pub chain-slot : (s : Slab (Slot K V)) (link q : ℕ) (ps : List ℕ) → IsChain s link ps → Stands q ps → (q < no_place) × (slot : Slot K V) × (get s q ≡ Some slot)
  chain-slot s link q [] chain there = absurd there
  chain-slot s link q (p ∷ ps) chain (inl e) = (subst (λ z. z < no_place) e chain.1, chain.2, ap (get s) (sym e) ∙ chain.3)
  chain-slot s link q (p ∷ ps) chain (inr there) = chain-slot s chain.2.next q ps chain.4 there

  -- a chain is no longer than there are slots
  pub chain-short : (s : Slab (Slot K V)) (link : ℕ) (ps : List ℕ) → IsChain s link ps → AreOnce ps → length ps ≤ length s.slots
  chain-short s link ps chain once = length-once (length s.slots) ps once (λ q there. within q (chain-slot s link q ps chain there).1 (chain-slot s link q ps chain there).2)
    where
      within : (q : ℕ) (slot : Slot K V) → get s q ≡ Some slot → q < length s.slots
      within q slot read = elim (cases_lt q (length s.slots)) [
        | inl inside ↦ inside
        | inr past ↦ absurd (some_not_none (sym read ∙ get_or_past s.slots q None past))
      ]

  -- what a walk meets
  pub walk-is : (s : Slab (Slot K V)) (link fuel : ℕ) (ps : List ℕ) → IsChain s link ps → length ps ≤ fuel → walk fuel s.slots link ≡ ps
  walk-is s link zero [] chain fits = refl
  walk-is s link (suc fuel) [] chain fits = rw chain refl
  walk-is s link zero (p ∷ ps) chain fits = absurd (omega (arith, fits))
  walk-is s link (suc fuel) (p ∷ ps) chain fits =
      let differ : p ≢ no_place = omega (arith, chain.1) in
      let rest : walk fuel s.slots chain.2.next ≡ ps = walk-is s chain.2.next fuel ps chain.4 (omega (arith, fits)) in
      rw (chain.0, ne_test p no_place differ, chain.3) (ap (λ l. p ∷ l) rest)

  -- ---- a slot that goes

  -- one behind the first: the slot in front of it leads to the one behind it
  pub unlinked : (s t : Slab (Slot K V)) (link at p : ℕ) (qs : List ℕ) (gone : Slot K V) → AreOnce (p ∷ qs) → IsChain s link (p ∷ qs) → Stands at qs → get s at ≡ Some gone
      → ((q : ℕ) → q ≢ at → q ≢ place_in_front at p qs → get t q ≡ get s q)
      → get t (place_in_front at p qs) ≡ option_map (leading gone.next) (get s (place_in_front at p qs))
      → IsChain t link (p ∷ without at qs)
  unlinked s t link at p [] gone once chain there read others turned = absurd there
  unlinked s t link at p (q ∷ qs) gone once chain there read others turned = elim (cases_true (nat_eq q at)) [
    | inl same ↦
        let is : q ≡ at = eqb-true _ _ same in
        let front : place_in_front at p (q ∷ qs) ≡ p = rw same refl in
        let slot : get t p ≡ Some (leading gone.next chain.2) =
        ap (get t) (sym front) ∙ turned ∙ ap (λ z. option_map (leading gone.next) (get s z)) front ∙ ap (option_map (leading gone.next)) chain.3 in
        let next : gone.next ≡ chain.4.2.next = ap (λ (z : Slot K V). z.next) (some_is (sym read ∙ ap (get s) (sym is) ∙ chain.4.3)) in
        let rest : (r : ℕ) → Stands r qs → get t r ≡ get s r = λ r behind.
        others r (λ e. once.1.0 (subst (λ z. Stands z qs) (e ∙ sym is) behind)) (λ e. once.0 (inr (subst (λ z. Stands z qs) (e ∙ front) behind))) in
        rw same (chain.0, chain.1, leading gone.next chain.2, slot, subst (λ z. IsChain t z qs) (sym next) (chain-frame s t chain.4.2.next qs rest chain.4.4))
    | inr differs ↦
        let behind : Stands at qs = later (eqb-false _ _ differs) there in
        let front : place_in_front at p (q ∷ qs) ≡ place_in_front at q qs = rw differs refl in
        let not_at : p ≢ at = λ e. once.0 (subst (λ z. Stands z (q ∷ qs)) (sym e) there) in
        let not_front : p ≢ place_in_front at p (q ∷ qs) = λ e. once.0 (subst (λ z. Stands z (q ∷ qs)) (sym (e ∙ front)) (in_front-stands at q qs behind)) in
        let rest : IsChain t chain.2.next (q ∷ without at qs) =
        unlinked s t chain.2.next at q qs gone once.1 chain.4 behind read
        (λ r other apart. others r other (λ e. apart (e ∙ front)))
        (ap (get t) (sym front) ∙ turned ∙ ap (λ z. option_map (leading gone.next) (get s z)) front) in
        rw differs (chain.0, chain.1, chain.2, others p not_at not_front ∙ chain.3, rest)
  ]
    where
      later : q ≢ at → Stands at (q ∷ qs) → Stands at qs
      later differ (inl e) = absurd (differ e)
      later differ (inr rest) = rest

  -- the first of its chain: what is behind it is the chain
  pub unlinked_first : (s t : Slab (Slot K V)) (link p : ℕ) (qs : List ℕ) (gone : Slot K V) → AreOnce (p ∷ qs) → IsChain s link (p ∷ qs) → get s p ≡ Some gone
      → ((q : ℕ) → q ≢ p → get t q ≡ get s q) → IsChain t gone.next qs
  unlinked_first s t link p qs gone once chain read others =
      let next : chain.2.next ≡ gone.next = ap (λ (z : Slot K V). z.next) (some_is (sym chain.3 ∙ read)) in
      subst (λ z. IsChain t z qs) next (chain-frame s t chain.2.next qs (λ q behind. others q (λ e. once.0 (subst (λ z. Stands z qs) e behind))) chain.4)
