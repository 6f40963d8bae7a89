use Rattle.std.proofs.Common.{◌≡◌, ◌+◌, ℕ, List, length, length-append, ap, ◌∙◌, subst, arith}
use Rattle.blk_ptr.specs.declared.ptr.Ptr.{Ptr}
use Rattle.trace_text.specs.declared.mapping.Mapping.{Mapping as ObjectLine}
use Rattle.trace_run.specs.Opened.{HasBegun}
use Rattle.trace_run.specs.Openings.{mappings_in}
use Rattle.trace_run.proofs.BeginLemmas.{cells-fresh, cells-opened, more-begun}
use Rattle.trace_run.proofs.opening.begun_cells.Goals as goal

pub loop-made-preserved : goal.loop-made-preserved
loop-made-preserved c =
    let was = c.loop-made.invariant in
    let trace = c.args.trace.now in
    let one = subst (λ (x : List Ptr × List ObjectLine). HasBegun trace.config.dbuf_bytes (mappings_in trace.config.cells c.loop-made.made x.0 x.1) c.in_ok-begun_cell.field-0.value) (λ i. (c.as_slice-blocks.ensures i, c.as_slice-lines.ensures i)) c.in_ok-begun_cell.ensures in
    record {
      count = ap length c.in_ok-push.ensures.items ∙ (length-append c.loop-made.cells.items _ ∙ ap (λ (n : ℕ). n + 1) was.count);
      each = more-begun trace c.loop-made.cells.items c.push.new.self.items c.in_ok-begun_cell.field-0 c.loop-made.made c.in_ok-push.ensures.items was.count was.each one;
    }

pub returns-clause-fresh : goal.returns-clause-fresh
returns-clause-fresh c =
    let all : c.loop-made.made ≡ c.args.trace.now.config.cells = omega arith in
    cells-fresh c.args.trace.now c.loop-made.cells.items (c.loop-made.invariant.count ∙ all) c.loop-made.invariant.each

pub returns-clause-openings : goal.returns-clause-openings
returns-clause-openings c =
    let all : c.loop-made.made ≡ c.args.trace.now.config.cells = omega arith in
    cells-opened c.args.trace.now c.loop-made.cells.items (c.loop-made.invariant.count ∙ all) c.loop-made.invariant.each
