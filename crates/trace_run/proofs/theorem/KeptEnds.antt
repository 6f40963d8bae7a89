-- What the cells of a run still kept at their ends, by the closed cells.
use Rattle.std.proofs.Common.{◌≡◌, ℕ, suc, ◌+◌, ◌<◌, List, [], ◌∷◌, ◌++◌, length, map, false, Some, refl, sym, ap, ◌∙◌, subst, arith}
use Rattle.std.specs.Prelude.{IsPermutation, slice_get, slice_index_or}
use Rattle.std.proofs.lemmas.List.{map-append}
use Rattle.std.proofs.lemmas.List.Sorted.{IsPermutation-refl}
use Rattle.std.proofs.lemmas.Option.{slice_get_within}
use mathlib.Core.Option.{some}
use lib.ListN.{get_elem?}
use Rattle.arc_core.specs.declared.config.Config.{Config}
use Rattle.arc_core.specs.declared.event.Event.{Event}
use Rattle.arc_table.specs.declared.view.Line.{Line}
use Rattle.arc_table.specs.declared.view.Line.TheVariants as line
use Rattle.arc_table.specs.Ended.{Ended}
use Rattle.arc_table.specs.Fronts.{front_of}
use Rattle.dbuf_cells.specs.Turns.{OnHeap}
use Rattle.dbuf_state.specs.Numbers.{event_numbers, opening_numbers}
use Rattle.dbuf_state.specs.Outline.{OutlineDbuf, outline_after}
use Rattle.dbuf_state.specs.declared.event.CellEvent.{CellEvent}
use Rattle.dbuf_state.specs.declared.event.CellEvent.TheVariants.{End}
use Rattle.dbuf_state.specs.declared.state.Mapping.{Mapping}
use Rattle.trace_text.specs.declared.trace.Trace.{Trace}
use Rattle.trace_run.specs.dbufs.CellEnds.{AreCellsOf, AreEndedSo, DropsKept, EndedSo, SeesEnd, SeesEnds}
use Rattle.trace_run.specs.dbufs.Holders.{AreHolders}
use Rattle.trace_run.specs.RunWork.{only_ended}
use Rattle.trace_run.proofs.CellEnds.{opened-uncached}
use Rattle.trace_run.proofs.CellLemmas.{only-end-left, opening-same}
use Rattle.trace_run.proofs.deeds.ClosedDeeds.{entries-read}

-- ---- cells to which nothing was done but their ends

module _ (g : Config) where
  nothing-kept : (i : ℕ) (cell : OnHeap) → cell.value.history ≡ End g.callers ∷ [] → EndedSo g i cell []
  nothing-kept i cell is = record {
    front = [];
    history = is;
    kept = record {
      held = λ at. false;
      are_held = λ at. refl;
      kept = [];
      all = record {
        rising = λ k d low high. absurd (omega arith);
        all = subst (λ (ds : List OutlineDbuf). IsPermutation ds []) (sym (opened-uncached cell.value.opening)) (IsPermutation-refl []);
      };
      dropped = refl;
    };
  }

  none-kept : (i : ℕ) (cells : List OnHeap) → ((k : ℕ) (c : OnHeap) → slice_get cells k ≡ Some c → c.value.history ≡ End g.callers ∷ []) → AreEndedSo g i cells []
  none-kept i [] each = refl
  none-kept i (c ∷ cells) each = ([], [], refl, nothing-kept i c (each 0 c refl), none-kept (suc i) cells (λ k x at. each (suc k) x at))

-- they kept nothing
pub plain-kept : (trace : Trace) (closed : Ended OnHeap) → AreCellsOf trace (only_ended trace.config) closed → AreEndedSo trace.config 0 closed.cells []
plain-kept trace closed are = none-kept trace.config 0 closed.cells
    (λ k c at. only-end-left trace k (subst (λ (n : ℕ). k < n) are.count (slice_get_within closed.cells k c at)) c (are.each k c at))

-- ---- cells with any history

module _ (openings : List (List ℕ)) (seen : List (List Line)) where
  -- all that was done to the cell was seen, and it began as the openings say
  pub record IsSeenWhole (i : ℕ) (cell : OnHeap) : Type 0 where
    pub entries : map line.Entry (map event_numbers cell.value.history) ≡ front_of i seen
    pub opening : opening_numbers cell.value.limit cell.value.opening ≡ slice_index_or openings i []

  module _ (g : Config) where
    one-ended : (i : ℕ) (cell : OnHeap) (drops : List Event) → IsSeenWhole i cell → SeesEnd g openings seen g.callers i drops → EndedSo g i cell drops
    one-ended i cell drops whole e = record {
      front = h;
      history = entries-read cell.value.history (h ++ End g.callers ∷ []) (whole.entries ∙ (e.last ∙ sym both));
      kept = subst (λ (x : ℕ × List Mapping). DropsKept g i (outline_after x.0 x.1 h) (AreHolders h) drops) (λ z. (same.0 z, same.1 z)) e.kept;
    }
      where
        h : List CellEvent
        h = e.before.value.history

        both : map line.Entry (map event_numbers (h ++ End g.callers ∷ [])) ≡ map line.Entry (map event_numbers h) ++ map line.Entry (map event_numbers (End g.callers ∷ []))
        both = ap (map line.Entry) (map-append event_numbers h (End g.callers ∷ [])) ∙ map-append line.Entry (map event_numbers h) (map event_numbers (End g.callers ∷ []))

        same : (e.before.value.limit ≡ cell.value.limit) × (e.before.value.opening ≡ cell.value.opening)
        same = opening-same e.before.value.limit cell.value.limit e.before.value.opening cell.value.opening (e.opening ∙ sym whole.opening)

    -- all of them, from this one on
    pub ended-so : (i : ℕ) (cells : List OnHeap) (es : List Event) → ((k : ℕ) (c : OnHeap) → get_elem? cells k ≡ some c → IsSeenWhole (i + k) c) → SeesEnds g openings seen g.callers i (length cells) es → AreEndedSo g i cells es
    ended-so i [] es each is = is
    ended-so i (c ∷ cells) es each ends = (
      ends.0,
      ends.1,
      ends.2,
      one-ended i c ends.0 (subst (λ (n : ℕ). IsSeenWhole n c) (let z : i + 0 ≡ i = omega arith in z) (each 0 c refl)) ends.3,
      ended-so (suc i) cells ends.1 (λ k x at. subst (λ (n : ℕ). IsSeenWhole n x) (let z : i + suc k ≡ suc i + k = omega arith in z) (each (suc k) x at)) ends.4,
    )
