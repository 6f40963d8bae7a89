use Rattle.std.proofs.Common.{◌≡◌, length}
use Rattle.std.specs.List.{AllByRecursion}
use Rattle.dbuf_examples.specs.Mapped.{IsMapped}
use Rattle.dbuf_examples.proofs.scene.cells_of.Given as goal

abbrev pub invariant-loop-i : goal.invariant-loop-i
invariant-loop-i l = record {
  count : length l.cells.items ≡ l.i;
  all : AllByRecursion (λ c. IsMapped c.value) l.cells.items;
}
