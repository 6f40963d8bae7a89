use Rattle.std.proofs.Common.{◌≡◌, ◌<◌, ◌≤◌, ℕ, length, map, get_or, Some, None, vec_len}
use mathlib.Core.Option.{some}
use lib.ListN.{get_elem?}
use Rattle.std.specs.Prelude.{vec_capacity}
use Rattle.turn_table.specs.Homes.{home, room}
use Rattle.turn_table.proofs.opening.filled.Given as goal

abbrev pub invariant-loop-place : goal.invariant-loop-place
invariant-loop-place g l = record {
  done : (k : ℕ) → k < l.place → get_elem? l.slots.items k ≡ some (get_or (map Some l.fn.values.items) (home k) None);
  left : (k : ℕ) → l.place ≤ k → get_or l.row.items (home k) None ≡ get_or (map Some l.fn.values.items) (home k) None;
  count : vec_len l.slots ≡ l.place;
  long : length l.row.items ≡ length l.fn.values.items;
  room : room (length l.fn.values.items) ≤ vec_capacity l.slots;
}
