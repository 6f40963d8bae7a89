-- Two ends of cells to which the same was done dropped the same holds, since a cell's history tells which of its dbufs keep one.
use Rattle.std.proofs.Common.{◌≡◌, ℕ, zero, suc, ◌+◌, ◌<◌, ◌≤◌, List, ◌++◌, map, sym, subst, ◌∙◌, arith}
use Rattle.arc_core.specs.declared.event.Event.{Event}
use Rattle.arc_table.specs.Geometry.{IsCell, cell_number}
use Rattle.dbuf_cells.specs.Ending.{DropsEach}
use Rattle.dbuf_state.specs.Objects.{opening_cell}
use Rattle.dbuf_state.specs.Outline.{Outline, OutlineDbuf, outline_after, outline_of}
use Rattle.dbuf_state.specs.declared.event.CellEvent.{CellEvent}
use Rattle.dbuf_state.specs.declared.state.Mapping.{Mapping}
use Rattle.trace_text.specs.declared.trace.Trace.{Trace}
use Rattle.trace_text.specs.Grammar.{AreApart}
use Rattle.vdev_io.specs.declared.device.CacheDev.{Ghosts as Devices}
use Rattle.vdev_io.specs.declared.pool.Pool.{Ghosts}
use Rattle.trace_run.specs.Openings.{opening_map}
use Rattle.trace_run.specs.dbufs.CellEnds.{DropsKept}
use Rattle.trace_run.specs.dbufs.Holders.{AreHolders}
use Rattle.trace_run.specs.one_caller.Sequence.{GivesAllKept, outline_behind}
use Rattle.trace_run.proofs.in_place.DirtySizes.{distinct-all, mapping_oid, names, names-opened}
use Rattle.trace_run.proofs.in_place.RoomLists.{opening-once}
use Rattle.trace_run.proofs.in_place.Sums.{AreDistinct}
use Rattle.run_laws.specs.Alike.{OneRun}
use Rattle.run_laws.proofs.ActsAlike.{each-same, holders-alike}
use Rattle.run_laws.proofs.Sorted.{cached-one}

-- no two dbufs have one Oid, whatever was done
distinct-behind : (limit : ℕ) (opening : List Mapping) (es : List CellEvent) → AreDistinct (map mapping_oid opening) → AreDistinct (names (outline_after limit opening es).dbufs)
distinct-behind limit opening es once = distinct-all (outline_of (opening_cell limit opening)) es (subst AreDistinct (sym (names-opened opening)) once)

module _ (trace : Trace) (apart : AreApart trace.objects) (cells others : ℕ → List CellEvent) (same : (i : ℕ) → IsCell trace.config i → others i ≡ cells i) where
  -- all that the cell i kept was given back, behind this history
  abbrev GivesKept : (i : ℕ) → List CellEvent → List Event → Type 0
  GivesKept i history drops = DropsKept trace.config i (outline_after trace.config.dbuf_bytes (opening_map trace i) history) (AreHolders history) drops

  one-same : (i : ℕ) (es fs : List Event) → GivesKept i (cells i) es → GivesKept i (cells i) fs → fs ≡ es
  one-same i es fs one two =
      let o : Outline = outline_behind trace cells i in
      let once : AreDistinct (names o.dbufs) = distinct-behind trace.config.dbuf_bytes (opening_map trace i) (cells i) (opening-once trace apart i) in
      let kept : two.kept ≡ one.kept = sym (cached-one o one.kept two.kept once one.all two.all) in
      let behind : DropsEach (cell_number trace.config i) two.held one.kept fs = subst (λ (ds : List OutlineDbuf). DropsEach (cell_number trace.config i) two.held ds fs) kept two.dropped in
      each-same (cell_number trace.config i) one.held two.held (holders-alike (cells i) one.held two.held one.are_held two.are_held) one.kept es fs one.dropped behind

  -- all cells, from this one on
  pub all-same : (i count : ℕ) → i + count ≤ trace.config.cells → (es fs : List Event) → GivesAllKept trace cells i count es → GivesAllKept trace others i count fs → fs ≡ es
  all-same i zero inside es fs one two = two ∙ sym one
  all-same i (suc count) inside es fs one two =
      let in_range : IsCell trace.config i = (let r : i < trace.config.cells = omega (arith, inside) in r) in
      let first : two.0 ≡ one.0 = one-same i one.0 two.0 one.3 (subst (λ (l : List CellEvent). GivesKept i l two.0) (same i in_range) two.3) in
      let behind : two.1 ≡ one.1 = all-same (suc i) count (omega (arith, inside)) one.1 two.1 one.4 two.4 in
      let both : two.0 ++ two.1 ≡ one.0 ++ one.1 = λ h. first h ++ behind h in
      two.2 ∙ (both ∙ sym one.2)

-- so it is of two runs whose cells stood alike before the close
pub ended-same : {P D : Type 0} (pools : Ghosts P) (devices : Devices D) (trace : Trace) → AreApart trace.objects → (one other : OneRun pools devices trace)
    → ((i : ℕ) → IsCell trace.config i → other.in_turn.last_line.cells i ≡ one.in_turn.last_line.cells i) → other.run.work.ended ≡ one.run.work.ended
ended-same pools devices trace apart one other same =
    all-same trace apart one.in_turn.last_line.cells other.in_turn.last_line.cells same 0 trace.config.cells (omega arith) one.run.work.ended other.run.work.ended one.in_turn.closes.gives other.in_turn.closes.gives
