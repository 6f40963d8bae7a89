-- Slots in the order in which their values came. No public clause cites this module.
use Rattle.std.specs.Prelude.{◌≡◌, ℕ, suc, nat_eq, Bool, true, ◌&&◌, is_some, if◌then◌else◌, List, [], ◌∷◌, Option, Some, None}
use Rattle.key_queue.specs.declared.slot.Slot.{Slot}

module _ {T : Type 0} where
  -- a pair in front of others, where the slot has a value
  abbrev pub with_value : ℕ → Option T → List (ℕ × T) → List (ℕ × T)
  with_value n None xs = xs
  with_value n (Some v) xs = (n, v) ∷ xs

  -- the pairs that are left
  abbrev pub pairs : List (Slot T) → List (ℕ × T)
  pairs [] = []
  pairs (s ∷ ss) = with_value s.number s.value (pairs ss)

  -- the slot has a value under the number
  abbrev pub is_under : ℕ → Slot T → Bool
  is_under n s = nat_eq s.number n && is_some s.value

  -- the places of the values under a number, where the first slot stands at this place
  abbrev pub places : (n at : ℕ) → List (Slot T) → List ℕ
  places n at [] = []
  places n at (s ∷ ss) = if is_under n s then at ∷ places n (suc at) ss else places n (suc at) ss

  -- the first slot has a value
  abbrev pub IsTrimmed : List (Slot T) → Type 0
  IsTrimmed [] = Unit {0}
  IsTrimmed (s ∷ ss) = is_some s.value ≡ true
