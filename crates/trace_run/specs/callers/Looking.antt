-- How callers' lines on objects looked at cells, group by group: behind all that was done before their group, and before what is done behind it.
use Rattle.std.specs.Prelude.{◌≡◌, ◌⊎◌, ℕ, ◌<◌, true, List, ◌++◌, Option, Some, IfSome, slice_get, take}
use mathlib.Core.Option.{some}
use lib.ListN.{get_elem?}
use Rattle.turn_table.specs.Places.{Place}
use Rattle.arc_core.specs.declared.config.Config.{Config}
use Rattle.arc_table.specs.declared.view.Known.{Known}
use Rattle.arc_table.specs.declared.view.Line.{Line as Seen}
use Rattle.arc_table.specs.Fronts.{StartsWith, front_of}
use Rattle.arc_table.specs.Geometry.{IsCell}
use Rattle.dbuf_cells.specs.Places.{cell_of}
use Rattle.dbuf_state.specs.declared.event.CellEvent.{CellEvent}
use Rattle.dbuf_state.specs.declared.oid.Oid.{Oid}
use Rattle.trace_run.specs.Deeds.{events_of_cell, lines_of_cell}
use Rattle.trace_run.specs.dbufs.CellEnds.{done_by}
use Rattle.trace_run.specs.Lines.{is_of_caller}
use Rattle.trace_run.specs.dbufs.ObjectLines.{cell_lines, on_object, OnObject}
use Rattle.trace_run.specs.dbufs.ObjectReplies.{AnswersFrom}
use Rattle.trace_run.specs.dbufs.Objects.{Line, Work, no_work}
use Rattle.trace_run.specs.RunWork.{lines_of_caller, lines_of_feeder}
use Rattle.trace_run.specs.Syncing.{lines_of}
use Rattle.trace_run.specs.callers.Together.{ends_group}
use Rattle.trace_run.specs.callers.WorkLines.{noted_of_work}

-- Each line of n's behind the place k, on a block of this cell, found of it, by the lines' places, what goes on from this.
abbrev pub FindMore : Config → (n : ℕ) → List Line → (found : (k : ℕ) → List Seen) → (k i : ℕ) → List Seen → Type 0
FindMore g n lines found k i seen =
    (x : ℕ) (e : Line) (on : OnObject) → k < x → slice_get lines x ≡ Some e → is_of_caller n e.op ≡ true → on_object e.op ≡ Some on → cell_of g.cells on.at ≡ i → StartsWith (found x) seen

-- The line that ended a group did this work. Of a cell all had seen `taken` before, and behind it the work's entries. Where it did anything, the feeder had done to the cell just what these lines before did.
pub record EndsCell (g : Config) (before : List Line) (work : Work) (i : ℕ) (taken level : List Seen) : Type 0 where
  pub is : level ≡ taken ++ lines_of_cell i work.noted
  pub fed : (work ≡ no_work) ⊎ ((es : List CellEvent) × (taken ≡ lines_of es) × (done_by g.callers es ≡ events_of_cell i (noted_of_work (lines_of_feeder before))))

-- A caller's line at the place k of these looked at the cell of its block, and was answered over what the pool told as its group began. The cell goes on from what all had seen of it behind the end of each earlier group; and what all had seen before the end of the line's
-- own group, or of a later one, goes on from what the line did there; and so does what a later line of the caller's found of that cell, where this line found that.
pub record LooksCut (g : Config) (pool_len : ℕ) (told : (k : ℕ) → Option (List ℕ)) (openings : List (List ℕ)) (seen : List (List Seen)) (lines : List Line) (level taken : (k i : ℕ) → List Seen) (found : (k : ℕ) → List Seen) (k n : ℕ) (at : Oid) (l : Line) : Type 0 where
  pub from : AnswersFrom g pool_len (told k) openings seen n (noted_of_work (lines_of_caller n (take k lines))) at l
  pub since : (x : ℕ) (e : Line) → x < k → slice_get lines x ≡ Some e → ends_group e.op ≡ true → StartsWith (cell_lines from.cell) (level x (cell_of g.cells at))
  pub until : (x : ℕ) (e : Line) → k < x → slice_get lines x ≡ Some e → ends_group e.op ≡ true
      → StartsWith (taken x (cell_of g.cells at)) (cell_lines from.cell ++ lines_of_cell (cell_of g.cells at) l.work.noted)
  pub is : cell_lines from.cell ≡ found k
  pub later : FindMore g n lines found k (cell_of g.cells at) (cell_lines from.cell ++ lines_of_cell (cell_of g.cells at) l.work.noted)

-- All lines on objects among these did, where the callers' parties are these, by their numbers, and the pool told this as the group of each line began. Each party has seen of each cell at least what all had seen behind the end of each group.
pub record HaveLooked {C : Type 0} (g : Config) (pool_len : ℕ) (told : (k : ℕ) → Option (List ℕ)) (lines : List Line) (ps : List (Place (Known C))) : Type 0 where
  pub level : (k i : ℕ) → List Seen
  -- and before it
  pub taken : (k i : ℕ) → List Seen
  pub wrote : (k : ℕ) (e : Line) → slice_get lines k ≡ Some e → ends_group e.op ≡ true → (i : ℕ) → IsCell g i → EndsCell g (take k lines) e.work i (taken k i) (level k i)
  pub reach : (k : ℕ) (e : Line) → slice_get lines k ≡ Some e → ends_group e.op ≡ true → (n : ℕ) (p : Place (Known C)) → get_elem? ps n ≡ some p → (i : ℕ) → IsCell g i → StartsWith (front_of i p.own.seen) (level k i)
  -- what each line of n's found of its cell
  pub found : (n k : ℕ) → List Seen
  pub looks : (k n : ℕ) (l : Line) (p : Place (Known C)) → slice_get lines k ≡ Some l → is_of_caller n l.op ≡ true → get_elem? ps n ≡ some p
      → IfSome (on_object l.op) (λ on. LooksCut g pool_len told p.own.about.openings p.own.seen lines level taken (found n) k n on.at l)
