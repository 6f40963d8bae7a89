-- What a party made of the history of the turn 0.
use Rattle.std.specs.Prelude.{◌≡◌, ℕ, List, length, Vec}
use Rattle.std.specs.declared.alloc.Global.{Global}
use Rattle.turn_table.specs.Places.{Place, saw}
use Rattle.turn_examples.specs.declared.histories.Writer.{Writer}
use Rattle.turn_examples.specs.Histories.{spots_at}

-- the party p, which had made nothing, made these entries, and r has it with their places
abbrev pub HasMade : Place Writer → List ℕ → (Place Writer × Vec ℕ Global) → Type 0
HasMade p entries r = (r.0 ≡ saw p r.0.own) × (r.0.own.mine ≡ spots_at r.1.items entries) × (length r.1.items ≡ length entries)
