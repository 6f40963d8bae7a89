use Rattle.std.proofs.Common.{take}
use Rattle.trace_run.specs.Opened.{HasBegun}
use Rattle.trace_run.specs.Openings.{mappings_in}
use Rattle.trace_run.proofs.opening.begun_cell.Given as goal

abbrev pub invariant-loop-number : goal.invariant-loop-number
invariant-loop-number l = HasBegun l.limit (mappings_in l.cells l.i l.blocks (take l.number l.lines)) l.cell
