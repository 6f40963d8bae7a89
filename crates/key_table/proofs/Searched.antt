-- One step along a chain.
use Rattle.std.proofs.Common.{◌≡◌, ◌≢◌, ℕ, zero, suc, ◌<◌, ◌≤◌, List, [], ◌∷◌, length, Option, Some, None, IsSome, is_some, set, get_or, inl, inr, refl, sym, ap, subst, ◌∙◌, arith}
use Rattle.std.proofs.lemmas.Bool.{eq-eqb}
use Rattle.slab.specs.Slab.{Slab, get}
use Rattle.key_table.specs.declared.chain.Slot.{Slot}
use Rattle.key_table.specs.Chains.{IsChain, IsShort, IsSlotOf, Stands, no_place, place_in_front, row_of, rows_in, walk}
use Rattle.key_table.proofs.Chained.{chain-one, walk-is}
use Rattle.key_table.proofs.Places.{ne_test, some_is, some_not_none}

module _ {K V : Type 0} where
  -- the slot in hand, and the chain behind it
  pub record Ahead (s : Slab (Slot K V)) (at : ℕ) (slot : Slot K V) : Type 0 where
    pub rest : List ℕ
    pub whole : IsChain s at (at ∷ rest)
    pub chain : IsChain s slot.next rest
    pub short : suc (length rest) ≤ length s.slots

  pub ahead : (s : Slab (Slot K V)) (at : ℕ) (slot : Slot K V) → IsShort s at → at ≢ no_place → get s at ≡ Some slot → Ahead s at slot
  ahead s at slot short some read = go short.0 short.1 short.2
    where
      go : (ps : List ℕ) → IsChain s at ps → length ps ≤ length s.slots → Ahead s at slot
      go [] chain fits = absurd (some chain)
      go (p ∷ ps) chain fits =
          let is : p ≡ at = sym chain.0 in
          let next : chain.2.next ≡ slot.next = ap (λ (z : Slot K V). z.next) (some_is (sym chain.3 ∙ ap (get s) is ∙ read)) in
          record {
            rest = ps;
            whole = subst (λ z. IsChain s at (z ∷ ps)) is chain;
            chain = subst (λ z. IsChain s z ps) next chain.4;
            short = fits;
          }

  pub there : (s : Slab (Slot K V)) (at : ℕ) → IsShort s at → at ≢ no_place → IsSome (get s at)
  there s at short some = go short.0 short.1
    where
      go : (ps : List ℕ) → IsChain s at ps → IsSome (get s at)
      go [] chain = absurd (some chain)
      go (p ∷ ps) chain = ap is_some (ap (get s) chain.0 ∙ chain.3)

  pub rest_short : (s : Slab (Slot K V)) (at : ℕ) (slot : Slot K V) → Ahead s at slot → IsShort s slot.next
  rest_short s at slot a = (a.rest, a.chain, omega (arith, a.short))

  pub smaller : (s : Slab (Slot K V)) (at : ℕ) (slot : Slot K V) → Ahead s at slot → length (walk (length s.slots) s.slots slot.next) < length (walk (length s.slots) s.slots at)
  smaller s at slot a =
      rw (walk-is s at (length s.slots) (at ∷ a.rest) a.whole a.short, walk-is s slot.next (length s.slots) a.rest a.chain (omega (arith, a.short))) (omega arith)

  -- ---- the search for a key

  pub passed-on : (s : Slab (Slot K V)) (head at : ℕ) (key : K) (slot : Slot K V) → Ahead s at slot → get s at ≡ Some slot → (slot.key ≡ key → ⊥)
      → ((ps qs : List ℕ) → IsChain s head ps → IsChain s at qs → (p : ℕ) → Stands p ps → IsSlotOf key p s → Stands p qs)
      → (ps qs : List ℕ) → IsChain s head ps → IsChain s slot.next qs → (p : ℕ) → Stands p ps → IsSlotOf key p s → Stands p qs
  passed-on s head at key slot a read other passed ps qs one two p stands has =
      go (passed ps (at ∷ a.rest) one a.whole p stands has)
    where
      go : Stands p (at ∷ a.rest) → Stands p qs
      go (inl e) = absurd (other (ap (λ (z : Slot K V). z.key) (some_is (sym read ∙ ap (get s) e ∙ has.1)) ∙ has.2))
      go (inr behind) = subst (λ z. Stands p z) (chain-one s slot.next a.rest qs a.chain two) behind

  -- ---- the search for the place in front of another

  pub front-some : (s : Slab (Slot K V)) (here at : ℕ) → IsShort s here → ((qs : List ℕ) → IsChain s here qs → Stands at qs) → here ≢ no_place
  front-some s here at short stands none = go short.0 short.1 (stands short.0 short.1)
    where
      go : (ps : List ℕ) → IsChain s here ps → Stands at ps → ⊥
      go [] chain there = there
      go (p ∷ ps) chain there = omega (arith, chain.0, chain.1, none)

  pub stands-on : (s : Slab (Slot K V)) (here at : ℕ) (slot : Slot K V) → Ahead s here slot → here ≢ at → ((qs : List ℕ) → IsChain s here qs → Stands at qs)
      → (qs : List ℕ) → IsChain s slot.next qs → Stands at qs
  stands-on s here at slot a differ stands qs chain = go (stands (here ∷ a.rest) a.whole)
    where
      go : Stands at (here ∷ a.rest) → Stands at qs
      go (inl e) = absurd (differ e)
      go (inr behind) = subst (λ z. Stands at z) (chain-one s slot.next a.rest qs a.chain chain) behind

  pub decided-on : (s : Slab (Slot K V)) (head before here at : ℕ) (slot : Slot K V) → Ahead s here slot → here ≢ at
      → ((ps qs : List ℕ) → IsChain s head ps → IsChain s here qs → place_in_front at no_place ps ≡ place_in_front at before qs)
      → (ps qs : List ℕ) → IsChain s head ps → IsChain s slot.next qs → place_in_front at no_place ps ≡ place_in_front at here qs
  decided-on s head before here at slot a differ decided ps qs one two =
      let step : place_in_front at before (here ∷ a.rest) ≡ place_in_front at here a.rest = rw (ne_test here at differ) refl in
      decided ps (here ∷ a.rest) one a.whole ∙ step ∙ ap (λ z. place_in_front at here z) (chain-one s slot.next a.rest qs a.chain two)

  pub decided-here : (s : Slab (Slot K V)) (head before here at : ℕ) → here ≡ at → IsShort s here → ((qs : List ℕ) → IsChain s here qs → Stands at qs)
      → ((ps qs : List ℕ) → IsChain s head ps → IsChain s here qs → place_in_front at no_place ps ≡ place_in_front at before qs)
      → (ps : List ℕ) → IsChain s head ps → before ≡ place_in_front at no_place ps
  decided-here s head before here at is short stands decided ps one = go short.0 short.1 (stands short.0 short.1)
    where
      go : (qs : List ℕ) → IsChain s here qs → Stands at qs → before ≡ place_in_front at no_place ps
      go [] chain there = absurd there
      go (q ∷ qs) chain there =
          let first : place_in_front at before (q ∷ qs) ≡ before = rw (eq-eqb q at (sym chain.0 ∙ is)) refl in
          sym (decided ps (q ∷ qs) one chain ∙ first)

  -- a slot that leads to another one has its row still
  pub rows-set : (slots : List (Option (Slot K V))) (p : ℕ) (a b : Slot K V) → get_or slots p None ≡ Some a → row_of b ≡ row_of a → rows_in (set slots p (Some b)) ≡ rows_in slots
  rows-set [] p a b read same = refl
  rows-set (None ∷ slots) zero a b read same = absurd (some_not_none (sym read))
  rows-set (Some t ∷ slots) zero a b read same =
      let is : row_of t ≡ row_of a = ap (λ z. row_of z) (some_is read) in
      ap (λ r. r ∷ rows_in slots) (same ∙ sym is)
  rows-set (None ∷ slots) (suc p) a b read same = rows-set slots p a b read same
  rows-set (Some t ∷ slots) (suc p) a b read same = ap (λ l. row_of t ∷ l) (rows-set slots p a b read same)
