use Rattle.std.proofs.Common.{◌≡◌, ◌++◌, ◌+◌, ◌≤◌, length, vec_len, vec_capacity}
use Rattle.arc_table.specs.Ended.{cells_in, shards_in}
use Rattle.arc_table.proofs.closed.sort_out.Given as goal

abbrev pub invariant-loop-value : goal.invariant-loop-value
invariant-loop-value g l = record {
  cells : l.cells.items ++ cells_in l.value-iterator.rest.items ≡ l.fn.cells.items ++ cells_in l.fn.values.items;
  shards : l.shards.items ++ shards_in l.value-iterator.rest.items ≡ l.fn.shards.items ++ shards_in l.fn.values.items;
  cells_room : vec_len l.cells + length (cells_in l.value-iterator.rest.items) ≤ vec_capacity l.cells;
  shards_room : vec_len l.shards + length (shards_in l.value-iterator.rest.items) ≤ vec_capacity l.shards;
}
