use Rattle.std.proofs.Common.{◌≡◌, ◌<◌, length}
use Rattle.slab.specs.Slab.{slab_len}
use Rattle.key_table.specs.Chains.{HaveSameRows, rows_in}
use Rattle.key_table.specs.Indexes.{IsIndexed}
use Rattle.key_table.proofs.chain.chain_all.Given as goal

-- the slots below the one in hand are chained, and no row changed
abbrev pub invariant-loop-at : goal.invariant-loop-at
invariant-loop-at g l = record {
  some : 0 < length l.heads;
  indexed : IsIndexed g.K.Hashed.hash l.slots l.heads (length l.heads) l.at;
  rows : rows_in l.slots.slots ≡ rows_in l.initial.slots.slots;
  each : HaveSameRows l.initial.slots l.slots;
  len : slab_len l.slots ≡ slab_len l.initial.slots;
  length : length l.slots.slots ≡ length l.initial.slots.slots;
  capacity : l.slots.capacity ≡ l.initial.slots.capacity;
}
