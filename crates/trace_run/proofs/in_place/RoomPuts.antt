-- A line that writes a block whole notes that in the block's cell.
use Rattle.std.proofs.Common.{◌≡◌, ◌<◌, ◌==◌, ℕ, true, false, List, [], ◌∷◌, Option, Some, refl, sym, ap, ◌∙◌, subst, inl, inr, eq-eqb}
use Rattle.std.specs.Prelude.{slice_get}
use Rattle.std.specs.List.{AllByRecursion, list_any}
use Rattle.arc_lists.proofs.Tables.{cases_true}
use Rattle.arc_core.specs.declared.config.Config.{Config}
use Rattle.dbuf_state.specs.declared.oid.Oid.{Oid}
use Rattle.dbuf_cells.specs.Laws.{is_put_of}
use Rattle.dbuf_cells.specs.Places.{cell_of}
use Rattle.dbuf_cells.specs.Turns.{OnHeap}
use Rattle.trace_text.specs.declared.op.Op.{Op}
use Rattle.trace_text.specs.declared.op.Op.TheVariants as ops
use Rattle.trace_text.specs.declared.reply.Reply.{Reply}
use Rattle.trace_text.specs.declared.reply.Reply.TheVariants as replies
use Rattle.trace_run.specs.Deeds.{events_of_cell}
use Rattle.trace_run.specs.InPlace.{is_put_to}
use Rattle.trace_run.specs.Lines.{caller_of, is_of_caller}
use Rattle.trace_run.specs.RunWork.{AllFit, FitsBy, lines_of_caller}
use Rattle.trace_run.specs.callers.WorkLines.{IsWorkOf, noted_of_work}
use Rattle.trace_run.specs.dbufs.ObjectAnswers.{AreAnsweredByCells}
use Rattle.trace_run.specs.dbufs.Objects.{Line, Work, ops_of}
use Rattle.trace_run.proofs.deeds.NotedCells.{cell-append}
use Rattle.trace_run.proofs.in_place.Mapped.{oid-is}
use Rattle.trace_run.proofs.in_place.ObjectLines.{is-done}
use Rattle.trace_run.proofs.in_place.PutLines.{any-left, any-right, put-noted}
use Rattle.trace_run.proofs.in_place.RoomNotes.{all-of}
use Rattle.trace_run.proofs.in_place.RunLists.{all-at}

-- a caller's line noted that it wrote this block
abbrev pub NotesPut : Config → Line → Oid → Type 0
NotesPut g l at = (n : ℕ) × (n < g.callers) × (is_of_caller n l.op ≡ true) × (list_any (is_put_of at) (events_of_cell (cell_of g.cells at) l.work.noted) ≡ true)

-- so did this line, where it writes it whole
abbrev pub IsPutNoted : Config → Line → Type 0
IsPutNoted g l = (at : Oid) → is_put_to at l.op ≡ true → NotesPut g l at

-- ---- among what lines note

module _ (g : Config) (at : Oid) where
  put-rest : (l : Line) (ls : List Line) → is_put_to at l.op ≡ false → list_any (is_put_to at) (ops_of (l ∷ ls)) ≡ true → list_any (is_put_to at) (ops_of ls) ≡ true
  put-rest l ls other has = let all : list_any (is_put_to at) (l.op ∷ ops_of ls) ≡ true = has in rw other at all

  -- a whole write by some of these lines
  pub put-among : (ls : List Line) → AllByRecursion (IsPutNoted g) ls → list_any (is_put_to at) (ops_of ls) ≡ true → list_any (is_put_of at) (events_of_cell (cell_of g.cells at) (noted_of_work ls)) ≡ true
  put-among [] noted has = absurd (let clash : false ≡ true = has in cc)
  put-among (l ∷ ls) noted has =
      ap (list_any (is_put_of at)) (cell-append (cell_of g.cells at) l.work.noted (noted_of_work ls)) ∙ elim (cases_true (is_put_to at l.op)) [
        | inl here ↦ any-left (is_put_of at) (events_of_cell (cell_of g.cells at) l.work.noted) (events_of_cell (cell_of g.cells at) (noted_of_work ls)) (noted.0 at here).3
        | inr other ↦ any-right (is_put_of at) (events_of_cell (cell_of g.cells at) l.work.noted) (events_of_cell (cell_of g.cells at) (noted_of_work ls)) (put-among ls noted.1 (put-rest l ls other has))
      ]

  -- the caller n did one
  abbrev pub PutsBy : (n : ℕ) → List Line → Type 0
  PutsBy n ls = list_any (is_put_of at) (events_of_cell (cell_of g.cells at) (noted_of_work (lines_of_caller n ls))) ≡ true

  puts-first : (n : ℕ) (l : Line) (ls : List Line) → is_of_caller n l.op ≡ true → list_any (is_put_of at) (events_of_cell (cell_of g.cells at) l.work.noted) ≡ true → PutsBy n (l ∷ ls)
  puts-first n l ls his has =
      rw his (ap (list_any (is_put_of at)) (cell-append (cell_of g.cells at) l.work.noted (noted_of_work (lines_of_caller n ls))) ∙ any-left (is_put_of at) (events_of_cell (cell_of g.cells at) l.work.noted) _ has)

  puts-behind : (n : ℕ) (l : Line) (ls : List Line) → PutsBy n ls → PutsBy n (l ∷ ls)
  puts-behind n l ls has = elim (cases_true (is_of_caller n l.op)) [
    | inl mine ↦
        rw mine (ap (list_any (is_put_of at)) (cell-append (cell_of g.cells at) l.work.noted (noted_of_work (lines_of_caller n ls))) ∙ any-right (is_put_of at) (events_of_cell (cell_of g.cells at) l.work.noted) _ has)
    | inr other ↦ rw other has
  ]

  pub put-by : (ls : List Line) → AllByRecursion (IsPutNoted g) ls → list_any (is_put_to at) (ops_of ls) ≡ true → (n : ℕ) × (n < g.callers) × PutsBy n ls
  put-by [] noted has = absurd (let clash : false ≡ true = has in cc)
  put-by (l ∷ ls) noted has = elim (cases_true (is_put_to at l.op)) [
    | inl here ↦ (let w = noted.0 at here in (w.0, w.1, puts-first w.0 l ls w.2 w.3))
    | inr other ↦ (let rest = put-by ls noted.1 (put-rest l ls other has) in (rest.0, rest.1, puts-behind rest.0 l ls rest.2))
  ]

-- ---- the lines of a run

module _ (g : Config) (len : ℕ) (told : (k : ℕ) → Option (List ℕ)) (closed : List OnHeap) (ls : List Line) (answered : AreAnsweredByCells g len told closed ls) (fits : AllFit g ls)
    (below : (k : ℕ) (l : Line) → slice_get ls k ≡ Some l → (n : ℕ) → caller_of l.op ≡ Some n → n < g.callers) where
  line-noted : (k : ℕ) (op : Op) (reply : Reply) (work : Work) → slice_get ls k ≡ Some (record { op = op; reply = reply; work = work }) → IsPutNoted g (record { op = op; reply = reply; work = work })
  line-noted k (ops.Put n t b size fill) reply work there at is =
      let l : Line = record { op = ops.Put n t b size fill; reply = reply; work = work } in
      let own : (n == n) ≡ true = eq-eqb n n refl in
      let looked = answered.each k n l there own in
      let done : reply ≡ replies.Done = is-done len (told k) looked.cell.value.limit looked.cell.value.opening looked.front work.brought reply looked.answer in
      let fit = all-at (λ (x : Line). FitsBy g (caller_of x.op) x) ls fits k l there in
      let noted = put-noted g n t b size fill work n (subst (λ (x : Reply). IsWorkOf g n (record { op = ops.Put n t b size fill; reply = x; work = work })) done fit) in
      subst (NotesPut g l) (sym (oid-is at b is)) (n, below k l there n refl, own, noted)
  line-noted k (ops.Patch n t b from bytes) reply work there at is = absurd (let clash : false ≡ true = is in cc)
  line-noted k (ops.Read n t x window) reply work there at is = absurd (let clash : false ≡ true = is in cc)
  line-noted k (ops.Hold n t x) reply work there at is = absurd (let clash : false ≡ true = is in cc)
  line-noted k (ops.Drop n x) reply work there at is = absurd (let clash : false ≡ true = is in cc)
  line-noted k (ops.Get n t b window) reply work there at is = absurd (let clash : false ≡ true = is in cc)
  line-noted k (ops.Pin n t b) reply work there at is = absurd (let clash : false ≡ true = is in cc)
  line-noted k (ops.Unpin n b) reply work there at is = absurd (let clash : false ≡ true = is in cc)
  line-noted k ops.Feed reply work there at is = absurd (let clash : false ≡ true = is in cc)
  line-noted k (ops.Txg t) reply work there at is = absurd (let clash : false ≡ true = is in cc)
  line-noted k (ops.Cap c) reply work there at is = absurd (let clash : false ≡ true = is in cc)

  pub lines-noted : AllByRecursion (IsPutNoted g) ls
  lines-noted = all-of (IsPutNoted g) ls (λ k l there. line-noted k l.op l.reply l.work there)
