-- Rows in the slots of a slab, chained by place. No public clause cites this module.
use Rattle.std.specs.Prelude.{◌≡◌, ℕ, zero, suc, ◌-◌, ◌/◌, ◌^◌, ◌<◌, ◌≤◌, nat_eq, bit_and, if◌then◌else◌, List, [], ◌∷◌, length, Option, Some, None, ◌⊎◌, map, filter_map, option_map, slice_index_or}
use Rattle.std.specs.Option.{option_map_or}
use Rattle.slab.specs.Slab.{Slab, get}
use Rattle.key_table.specs.declared.chain.Slot.{Slot}
use Rattle.key_table.specs.PlainTable.{Row, row}

-- the link behind the last slot of a chain
abbrev pub no_place : ℕ
no_place = 2 ^ 64 - 1

-- the chain of a key, by its hash, of so many chains
abbrev pub chain_of : (hash chains : ℕ) → ℕ
chain_of hash chains = bit_and (hash / 2 ^ 32) (chains - 1)

-- the place is one of these
abbrev pub Stands : ℕ → List ℕ → Type 0
Stands p [] = ⊥
Stands p (q ∷ qs) = (q ≡ p) ⊎ Stands p qs

-- no place stands twice
abbrev pub AreOnce : List ℕ → Type 0
AreOnce [] = Unit {0}
AreOnce (p ∷ ps) = (Stands p ps → ⊥) × AreOnce ps

-- the place in front of this one, or b where it is the first
abbrev pub place_in_front : (at b : ℕ) → List ℕ → ℕ
place_in_front at b [] = b
place_in_front at b (p ∷ ps) = if nat_eq p at then b else place_in_front at p ps

module _ {K V : Type 0} where
  -- the row of a slot
  abbrev pub row_of : Slot K V → Row K V
  row_of s = row s.key s.value

  -- the slot with another one behind it
  abbrev pub leading : ℕ → Slot K V → Slot K V
  leading to s = record s { next = to }

  -- the rows in a list of slots
  abbrev pub rows_in : List (Option (Slot K V)) → List (Row K V)
  rows_in slots = filter_map (λ r. r) (map (option_map row_of) slots)

  -- the slots at these places are chained from this link on
  abbrev pub IsChain : Slab (Slot K V) → ℕ → List ℕ → Type 0
  IsChain s link [] = link ≡ no_place
  IsChain s link (p ∷ ps) = (link ≡ p) × (p < no_place) × (slot : Slot K V) × (get s p ≡ Some slot) × IsChain s slot.next ps

  -- the places that are met from this link on: so many at most
  abbrev pub walk : ℕ → List (Option (Slot K V)) → ℕ → List ℕ
  walk zero slots link = []
  walk (suc n) slots link = if nat_eq link no_place then [] else option_map_or (λ (s : Slot K V). link ∷ walk n slots s.next) (slice_index_or slots link None) []

  -- a chain begins with this link, and it is no longer than there are slots
  abbrev pub IsShort : Slab (Slot K V) → ℕ → Type 0
  IsShort s link = (ps : List ℕ) × IsChain s link ps × (length ps ≤ length s.slots)

  -- the slot at a place has the key
  abbrev pub IsSlotOf : K → ℕ → Slab (Slot K V) → Type 0
  IsSlotOf k p s = (slot : Slot K V) × (get s p ≡ Some slot) × (slot.key ≡ k)

  -- each place has the row that it had
  abbrev pub HaveSameRows : Slab (Slot K V) → Slab (Slot K V) → Type 0
  HaveSameRows s t = (q : ℕ) → option_map row_of (get t q) ≡ option_map row_of (get s q)
