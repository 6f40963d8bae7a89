-- How a run's answered lines on objects are answered, and what they did: by the cells of the closed cache.
use Rattle.std.specs.Prelude.{◌≡◌, ◌<◌, ◌≤◌, ◌+◌, ℕ, true, List, [], ◌∷◌, ◌++◌, length, Option, Some, None, slice_get, take}
use Rattle.arc_core.specs.declared.config.Config.{Config}
use Rattle.arc_table.specs.Fronts.{StartsWith}
use Rattle.dbuf_cells.specs.Places.{cell_of}
use Rattle.dbuf_cells.specs.Turns.{OnHeap}
use Rattle.dbuf_state.specs.Outline.{outline_after}
use Rattle.dbuf_state.specs.declared.event.CellEvent.{CellEvent}
use Rattle.dbuf_state.specs.declared.event.CellEvent.TheVariants.{End}
use Rattle.dbuf_state.specs.declared.oid.Oid.{Oid}
use Rattle.trace_run.specs.dbufs.CellEnds.{done_by}
use Rattle.trace_run.specs.Deeds.{events_of_cell}
use Rattle.trace_run.specs.Lines.{is_of_caller}
use Rattle.trace_run.specs.dbufs.Holders.{AreHolders}
use Rattle.trace_run.specs.dbufs.ObjectLines.{OnObject, TellsBrought, on_object}
use Rattle.trace_run.specs.dbufs.ObjectReplies.{ActsFor, AnswersObject, BringsAt}
use Rattle.trace_run.specs.dbufs.Objects.{Line, own_event}
use Rattle.trace_run.specs.RunWork.{lines_of_caller, lines_of_feeder}
use Rattle.trace_run.specs.callers.Together.{ends_group}
use Rattle.trace_run.specs.callers.WorkLines.{noted_of_work}

-- The cell of the block of a line of n's, which stands at the place k of these, has a history in the end with this front, at which the line looked: it has of n's what its earlier lines did, and
-- nothing else. What was brought for the line is by this front, what the line did stands right behind it, and by it the line was answered, over what the pool told as the line's group began. Where the pool gave
-- the block, the bytes that it told there then are of the block's pointer.
pub record LookedAt (g : Config) (pool_len : ℕ) (told : (k : ℕ) → Option (List ℕ)) (cells : List OnHeap) (n : ℕ) (lines : List Line) (found : (k : ℕ) → ℕ) (k : ℕ) (at : Oid) (l : Line) : Type 0 where
  pub cell : OnHeap
  pub there : slice_get cells (cell_of g.cells at) ≡ Some cell
  pub front : List CellEvent
  pub rest : List CellEvent
  -- so much of it the line found
  pub far : length front ≡ found k
  pub whole : cell.value.history ≡ front ++ (events_of_cell (cell_of g.cells at) l.work.noted ++ rest)
  -- the feeder ended the cell behind both
  pub ended : (before : List CellEvent) × (rest ≡ before ++ End g.callers ∷ [])
  pub mine : done_by n front ≡ events_of_cell (cell_of g.cells at) (noted_of_work (lines_of_caller n (take k lines)))
  -- it has what each caller's lines did there before a line that ends an earlier group, and nothing that any did behind one that ends this line's group or a later one
  pub since : (m x : ℕ) (e : Line) → m < g.callers → x < k → slice_get lines x ≡ Some e → ends_group e.op ≡ true → StartsWith (done_by m front) (events_of_cell (cell_of g.cells at) (noted_of_work (lines_of_caller m (take x lines))))
  pub until : (m x : ℕ) (e : Line) → m < g.callers → k < x → slice_get lines x ≡ Some e → ends_group e.op ≡ true → StartsWith (events_of_cell (cell_of g.cells at) (noted_of_work (lines_of_caller m (take x lines)))) (done_by m front)
  -- it has all that the syncs before the line wrote there, and nothing of one that ends this line's group or a later one
  pub synced : StartsWith (done_by g.callers front) (events_of_cell (cell_of g.cells at) (noted_of_work (lines_of_feeder (take k lines))))
  pub unsynced : (x : ℕ) (e : Line) → k < x → slice_get lines x ≡ Some e → ends_group e.op ≡ true → StartsWith (events_of_cell (cell_of g.cells at) (noted_of_work (lines_of_feeder (take x lines)))) (done_by g.callers front)
  -- and nothing of one that stopped, which is none of these lines: the feeder had done there at most what the syncs among them wrote
  pub unstopped : StartsWith (events_of_cell (cell_of g.cells at) (noted_of_work (lines_of_feeder lines))) (done_by g.callers front)
  pub brought : BringsAt pool_len at (outline_after cell.value.limit cell.value.opening front) l.work.brought
  pub acts : ActsFor g n (AreHolders front) (own_event l.op) (outline_after cell.value.limit cell.value.opening front) l.work l.reply
  pub answer : AnswersObject pool_len (told k) cell.value.limit cell.value.opening front l.work.brought l.op l.reply
  pub range : TellsBrought (told k) l.work.brought

-- so it is of a caller's line on an object; one on no object has its answer elsewhere
abbrev pub IsAnsweredBy : Config → (pool_len : ℕ) → (told : (k : ℕ) → Option (List ℕ)) → List OnHeap → (n : ℕ) → (lines : List Line) → (found : (k : ℕ) → ℕ) → (k : ℕ) → Option OnObject → Line → Type 0
IsAnsweredBy g pool_len told cells n lines found k None l = Unit {0}
IsAnsweredBy g pool_len told cells n lines found k (Some on) l = LookedAt g pool_len told cells n lines found k on.at l

-- Each of these lines is, behind those before it. By the lines' places this is what the pool told as the group of each began, and so much of its cell's history each line found: of one caller's lines on
-- blocks of one cell a later one found all that an earlier one had found, and what that one did.
pub record AreAnsweredByCells (g : Config) (pool_len : ℕ) (told : (k : ℕ) → Option (List ℕ)) (cells : List OnHeap) (ls : List Line) : Type 0 where
  pub found : (k : ℕ) → ℕ
  pub each : (k n : ℕ) (l : Line) → slice_get ls k ≡ Some l → is_of_caller n l.op ≡ true → IsAnsweredBy g pool_len told cells n ls found k (on_object l.op) l
  pub grow : (j k n : ℕ) (e l : Line) (on_e on : OnObject) → j < k → slice_get ls j ≡ Some e → slice_get ls k ≡ Some l → is_of_caller n e.op ≡ true → is_of_caller n l.op ≡ true
      → on_object e.op ≡ Some on_e → on_object l.op ≡ Some on → cell_of g.cells on_e.at ≡ cell_of g.cells on.at
      → found j + length (events_of_cell (cell_of g.cells on.at) e.work.noted) ≤ found k
