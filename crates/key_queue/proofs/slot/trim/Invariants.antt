use Rattle.std.proofs.Common.{◌≡◌, ℕ, ◌+◌, length}
use Rattle.key_queue.specs.Slots.{pairs, places}
use Rattle.key_queue.proofs.slot.trim.Given as goal

abbrev pub invariant-loop-slot : goal.invariant-loop-slot
invariant-loop-slot g l = record {
  pairs : pairs l.slots.items ≡ pairs l.initial.slots.items;
  places : (n : ℕ) → places n l.base l.slots.items ≡ places n l.initial.base l.initial.slots.items;
  fits : l.base + length l.slots.items ≡ l.initial.base + length l.initial.slots.items;
}

abbrev pub decreases-loop-slot : goal.decreases-loop-slot
decreases-loop-slot g l = length l.slots.items
