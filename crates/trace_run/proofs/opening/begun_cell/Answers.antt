use Rattle.std.proofs.Common.{◌≡◌, ◌+◌, ◌<◌, ◌==◌, true, false, List, Some, length, take, sym, ◌∙◌, subst, arith, eq-eqb, ne_eqb}
use Rattle.std.specs.Prelude.{slice_get, slice_index_or}
use Rattle.std.proofs.lemmas.List.Elements.{All-get_or}
use Rattle.dbuf_cells.specs.Places.{cell_of}
use Rattle.dbuf_cells.specs.declared.kept.Kept.{Kept}
use Rattle.dbuf_state.specs.Dbufs.{dbuf_oid}
use Rattle.dbuf_state.specs.Oids.{has_item}
use Rattle.dbuf_state.specs.declared.dbuf.Dbuf.{Dbuf}
use Rattle.trace_text.specs.declared.mapping.Mapping.{Mapping as ObjectLine}
use Rattle.trace_text.specs.Grammar.{IsMappingOn}
use Rattle.trace_run.specs.Opened.{HasBegun}
use Rattle.trace_run.specs.Openings.{mappings_in}
use Rattle.trace_run.proofs.AnswerLemmas.{take_one}
use Rattle.trace_run.proofs.BeginLemmas.{apart-before, begun-else, begun-here-as, get-index, no-dbuf}
use Rattle.trace_run.proofs.opening.begun_cell.Goals as goal
use Rattle.trace_run.proofs.opening.begun_cell.Goals.{then-place_among-i+in_ok-map, else-place_among-i}

pub map-requires-clause-absent : goal.map-requires-clause-absent
map-requires-clause-absent c =
    let n = c.loop-number.number in
    let lines = c.args.lines.now in
    let x : ObjectLine = slice_index_or lines n (record { at = record { object = 0; block = 0 }; block = 0 }) in
    let inside : n < length lines = omega (arith, c.loop-number-test.true) in
    let at : slice_get lines n ≡ Some x = get-index lines n _ inside in
    subst (λ (ds : List (Dbuf Kept)). has_item dbuf_oid x.at ds ≡ false) (sym c.loop-number.invariant.dbufs)
    (no-dbuf c.args.cells c.args.i c.args.blocks.now x.at (take n lines) (apart-before lines n x c.requires.apart at))

pub loop-number-preserved : goal.loop-number-preserved
loop-number-preserved c =
    let n = c.loop-number.number in
    let lines = c.args.lines.now in
    let blocks = c.args.blocks.now in
    let x : ObjectLine = slice_index_or lines n (record { at = record { object = 0; block = 0 }; block = 0 }) in
    let inside : n < length lines = omega (arith, c.loop-number-test.true) in
    let at : slice_get lines n ≡ Some x = get-index lines n _ inside in
    let more = take_one lines n x at in
    elim c.if-place_among-i.branch [
      | then-place_among-i+in_ok-map w ↦
          let here : (cell_of c.args.cells x.at == c.args.i) ≡ true = eq-eqb (cell_of c.args.cells x.at) c.args.i (omega (arith, c.place_among.ensures, w.if-place_among-i.true)) in
          let declared : x.block < length blocks = (All-get_or (IsMappingOn (length blocks)) lines n _ inside c.requires.on).1 in
          subst (HasBegun c.args.limit _) (sym (w.cell-is ∙ w.in_ok-map.ensures.ok))
          (begun-here-as c.args.limit c.args.cells c.args.i blocks (take n lines) (take (n + 1) lines) x more c.loop-number.cell _ _ here (get-index blocks x.block _ declared) c.loop-number.invariant)
      | else-place_among-i w ↦
          let out : (cell_of c.args.cells x.at == c.args.i) ≡ false = ne_eqb (cell_of c.args.cells x.at) c.args.i (λ same. absurd (omega (arith, c.place_among.ensures, w.if-place_among-i.false, same))) in
          subst (HasBegun c.args.limit _) (sym w.cell-is)
          (subst (λ (ls : List ObjectLine). HasBegun c.args.limit (mappings_in c.args.cells c.args.i blocks ls) c.loop-number.cell) (sym more)
          (begun-else c.args.limit c.args.cells c.args.i blocks (take n lines) x c.loop-number.cell out c.loop-number.invariant))
    ]
