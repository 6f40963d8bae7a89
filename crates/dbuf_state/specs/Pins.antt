-- Pins on a dbuf: who keeps it from being evicted, and how often (db_holds of dbuf.c, told apart by who made them).
use Rattle.std.specs.Prelude.{ℕ, ◌+◌, ◌-◌, Bool, ◌==◌, nat_le, remove, set, if◌then◌else◌, List, [], ◌∷◌, true, false}
use Rattle.dbuf_state.specs.declared.pins.PinCount.{PinCount}

-- how many pins n has
abbrev pub pins_of : ℕ → List PinCount → ℕ
pins_of n [] = 0
pins_of n (p ∷ ps) = if p.n == n then p.count else pins_of n ps

-- one more pin of n
abbrev pub pinned : ℕ → List PinCount → List PinCount
pinned n [] = record { n = n; count = 1 } ∷ []
pinned n (p ∷ ps) = if p.n == n then (record { n = p.n; count = p.count + 1 } ∷ ps) else (p ∷ pinned n ps)

-- one pin of n less; a number without pins is not listed
abbrev pub unpinned : ℕ → List PinCount → List PinCount
unpinned n [] = []
unpinned n (p ∷ ps) = if p.n == n then (if nat_le p.count 1 then ps else (record { n = p.n; count = p.count - 1 } ∷ ps)) else (p ∷ unpinned n ps)

-- the same at a place where this count stands
abbrev pub lowered : List PinCount → ℕ → PinCount → List PinCount
lowered ps place p = if nat_le p.count 1 then remove ps place else set ps place (record { n = p.n; count = p.count - 1 })

-- n has a pin
abbrev pub has_pin : ℕ → List PinCount → Bool
has_pin n [] = false
has_pin n (p ∷ ps) = if p.n == n then true else has_pin n ps

-- there is no pin
abbrev pub are_none : List PinCount → Bool
are_none [] = true
are_none (p ∷ ps) = false
