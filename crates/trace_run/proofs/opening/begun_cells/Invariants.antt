use Rattle.std.proofs.Common.{◌≡◌, ℕ, length}
use mathlib.Core.Option.{some}
use lib.ListN.{get_elem?}
use Rattle.trace_run.specs.Opened.{HasBegun}
use Rattle.trace_run.specs.Openings.{opening_map}
use Rattle.trace_run.proofs.OpenLemmas.{HeapCell}
use Rattle.trace_run.proofs.opening.begun_cells.Given as goal

abbrev pub invariant-loop-made : goal.invariant-loop-made
invariant-loop-made l = record {
  count : length l.cells.items ≡ l.made;
  each : (i : ℕ) (c : HeapCell) → get_elem? l.cells.items i ≡ some c → HasBegun l.trace.config.dbuf_bytes (opening_map l.trace i) c.value;
}
