-- Slots on the chains of their keys. No public clause cites this module.
use Rattle.std.specs.Prelude.{◌≡◌, ℕ, ◌<◌, List, length, Some, slice_index_or}
use Rattle.slab.specs.Slab.{Slab, get}
use Rattle.key_table.specs.declared.chain.Slot.{Slot}
use Rattle.key_table.specs.Chains.{AreOnce, IsChain, Stands, chain_of, no_place}

module _ {K V : Type 0} where
  -- a slot of a chain
  pub record IsHome (hash : K → ℕ) (s : Slab (Slot K V)) (n bound b p : ℕ) : Type 0 where
    pub slot : Slot K V
    pub read : get s p ≡ Some slot
    pub home : chain_of (hash slot.key) n ≡ b
    pub below : p < bound

  -- of n chains, each slot at a place below the bound stands on that of its key, once, and nothing else stands there
  pub record IsIndexed (hash : K → ℕ) (s : Slab (Slot K V)) (heads : List ℕ) (n bound : ℕ) : Type 0 where
    pub count : length heads ≡ n
    pub chains : ℕ → List ℕ
    pub linked : (b : ℕ) → b < n → IsChain s (slice_index_or heads b no_place) (chains b)
    pub once : (b : ℕ) → b < n → AreOnce (chains b)
    pub homes : (b p : ℕ) → b < n → Stands p (chains b) → IsHome hash s n bound b p
    pub listed : (p : ℕ) (slot : Slot K V) → p < bound → get s p ≡ Some slot → (chain_of (hash slot.key) n < n) × Stands p (chains (chain_of (hash slot.key) n))

  -- each key has one slot
  abbrev pub AreSingle : Slab (Slot K V) → Type 0
  AreSingle s = (p q : ℕ) (a b : Slot K V) → get s p ≡ Some a → get s q ≡ Some b → a.key ≡ b.key → p ≡ q
