-- How lines are answered by cells, where a sync that stopped stands behind them, is so of the lines alone: they looked at nothing of what it wrote.
use Rattle.std.proofs.Common.{◌≡◌, ℕ, ◌+◌, true, List, [], ◌∷◌, ◌++◌, length, take, Option, Some, None, ap, ◌∙◌, subst, arith}
use Rattle.std.specs.Prelude.{slice_get}
use Rattle.std.proofs.lemmas.List.{take-append-le}
use Rattle.std.proofs.lemmas.Option.{slice_get_within}
use Rattle.std.proofs.Math.Seq.{take-append_seam}
use Rattle.arc_core.specs.declared.config.Config.{Config}
use Rattle.arc_table.specs.Fronts.{StartsWith}
use Rattle.dbuf_cells.specs.Places.{cell_of}
use Rattle.dbuf_cells.specs.Turns.{OnHeap}
use Rattle.dbuf_state.specs.declared.event.CellEvent.{CellEvent}
use Rattle.dbuf_state.specs.declared.oid.Oid.{Oid}
use Rattle.trace_run.specs.dbufs.CellEnds.{done_by}
use Rattle.trace_run.specs.Deeds.{events_of_cell}
use Rattle.trace_run.specs.dbufs.ObjectAnswers.{AreAnsweredByCells, IsAnsweredBy, LookedAt}
use Rattle.trace_run.specs.dbufs.ObjectLines.{OnObject, on_object}
use Rattle.trace_run.specs.dbufs.Objects.{Line}
use Rattle.trace_run.specs.RunWork.{lines_of_caller, lines_of_feeder}
use Rattle.trace_run.specs.callers.Together.{ends_group}
use Rattle.trace_run.specs.callers.WorkLines.{noted_of_work}
use Rattle.trace_run.proofs.callers.GroupLists.{get-left, get-right}

module _ (g : Config) (len : ℕ) (told : (k : ℕ) → Option (List ℕ)) (cells : List OnHeap) (ls : List Line) (stop : Line) (ends_it : ends_group stop.op ≡ true) where
  abbrev more : List Line
  more = stop ∷ []

  -- a line of the front
  left-there : (k : ℕ) (l : Line) → slice_get ls k ≡ Some l → slice_get (ls ++ more) k ≡ Some l
  left-there k l at = get-left ls more k (slice_get_within ls k l at) ∙ at

  same-front : (k : ℕ) (l : Line) → slice_get ls k ≡ Some l → take k (ls ++ more) ≡ take k ls
  same-front k l at = let inside = slice_get_within ls k l at in take-append-le k ls more (omega (arith, inside))

  -- the line behind it
  stop-there : slice_get (ls ++ more) (length ls) ≡ Some stop
  stop-there = let here : length ls ≡ length ls + 0 = omega arith in ap (slice_get (ls ++ more)) here ∙ get-right ls more 0

  module _ (n : ℕ) (found : (k : ℕ) → ℕ) (k : ℕ) (l : Line) (there : slice_get ls k ≡ Some l) where
    front-looked : (at : Oid) → LookedAt g len told cells n (ls ++ more) found k at l → LookedAt g len told cells n ls found k at l
    front-looked at h =
        let did : (m : ℕ) → List Line → List CellEvent = λ m ys. events_of_cell (cell_of g.cells at) (noted_of_work (lines_of_caller m ys)) in
        let wrote : List Line → List CellEvent = λ ys. events_of_cell (cell_of g.cells at) (noted_of_work (lines_of_feeder ys)) in
        record {
          cell = h.cell;
          there = h.there;
          front = h.front;
          rest = h.rest;
          far = h.far;
          whole = h.whole;
          ended = h.ended;
          mine = h.mine ∙ ap (did n) (same-front k l there);
          since = λ m x e below lt is ends. subst (λ (ys : List Line). StartsWith (done_by m h.front) (did m ys)) (same-front x e is) (h.since m x e below lt (left-there x e is) ends);
          until = λ m x e below lt is ends. subst (λ (ys : List Line). StartsWith (did m ys) (done_by m h.front)) (same-front x e is) (h.until m x e below lt (left-there x e is) ends);
          synced = subst (λ (ys : List Line). StartsWith (done_by g.callers h.front) (wrote ys)) (same-front k l there) h.synced;
          unsynced = λ x e lt is ends. subst (λ (ys : List Line). StartsWith (wrote ys) (done_by g.callers h.front)) (same-front x e is) (h.unsynced x e lt (left-there x e is) ends);
          unstopped = subst (λ (ys : List Line). StartsWith (wrote ys) (done_by g.callers h.front)) (take-append_seam ls more) (h.unsynced (length ls) stop (slice_get_within ls k l there) stop-there ends_it);
          brought = h.brought;
          acts = h.acts;
          answer = h.answer;
          range = h.range;
        }

    front-one : (o : Option OnObject) → IsAnsweredBy g len told cells n (ls ++ more) found k o l → IsAnsweredBy g len told cells n ls found k o l
    front-one None h = tt
    front-one (Some on) h = front-looked on.at h

  pub front-answered : AreAnsweredByCells g len told cells (ls ++ more) → AreAnsweredByCells g len told cells ls
  front-answered a = record {
    found = a.found;
    each = λ k n l at his. front-one n a.found k l at (on_object l.op) (a.each k n l (left-there k l at) his);
    grow = λ j k n e l on_e on less at_e at_l his_e his_l is_e is_l same. a.grow j k n e l on_e on less (left-there j e at_e) (left-there k l at_l) his_e his_l is_e is_l same;
  }
