-- Where the word and the slot of a turn lie. Turns side by side lie 16 places apart, so that parties with neighbouring turns don't write to one line of the processor's cache.
use Rattle.std.specs.Prelude.{◌≡◌, ℕ, ◌+◌, ◌*◌, ◌/◌, ◌%◌, ◌<◌, ◌≤◌, List, length, Option, Some, None}
use mathlib.Core.Option.{some}
use lib.ListN.{get_elem?}

-- the place of the turn i: the last two of its digits to the base 16 change places
unfoldable pub home : ℕ → ℕ
home i = i / 256 * 256 + i % 16 * 16 + i / 16 % 16

-- how many places there are for n turns: whole blocks of 256
unfoldable pub room : ℕ → ℕ
room n = (n + 255) / 256 * 256

-- these slots have these values at the homes of their turns, and none behind the last one
pub record Laid {V : Type 0} (slots : List (Option V)) (values : List V) : Type 0 where
  pub long : length slots ≡ room (length values)
  pub each : (i : ℕ) (v : V) → get_elem? values i ≡ some v → get_elem? slots (home i) ≡ some (Some v)
  pub spare : (i : ℕ) → length values ≤ i → i < room (length values) → get_elem? slots (home i) ≡ some None
