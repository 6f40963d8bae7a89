use Rattle.std.proofs.Common.{◌≡◌, ◌<◌, ◌≤◌, ℕ, List, true, false, take}
use Rattle.std.specs.Prelude.{slice_index_or, vec_capacity}
use Rattle.std.specs.Slots.{slots_items, slots_filled, slots_len}
use Rattle.turn_table.specs.Homes.{home, Laid}
use Rattle.turn_table.proofs.closing.take_values.Given as goal

abbrev pub invariant-loop-i : goal.invariant-loop-i
invariant-loop-i g l = record {
  items : slots_items l.closed.slots ≡ slots_items l.fn.closed.slots;
  len : slots_len l.closed.slots ≡ slots_len l.fn.closed.slots;
  gone : (k : ℕ) → k < l.i → slice_index_or (slots_filled l.closed.slots) (home k) false ≡ false;
  there : (k : ℕ) → l.i ≤ k → k < slots_len l.closed.slots → slice_index_or (slots_filled l.closed.slots) (home k) false ≡ true;
  values : (vs : List g.row.V.Denot) → Laid (slots_items l.fn.closed.slots) vs → l.values.items ≡ take l.i vs;
  room : vec_capacity l.values ≡ vec_capacity l.fn.values;
}
