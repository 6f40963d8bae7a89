-- Where nothing is out of place and no fault of the pool rose, a run does all lines, and refuses none.
use Rattle.std.proofs.Common.{◌≡◌, ℕ, ◌+◌, ◌^◌, ◌<◌, ◌≤◌, ◌==◌, cond, Bool, true, false, List, [], ◌∷◌, ◌++◌, length, take, Option, Some, IfSome, refl, sym, ap, ◌∙◌, subst, inl, inr, arith, eq-eqb, append-nil, append_assoc}
use Rattle.std.specs.Prelude.{count_by, slice_get}
use Rattle.std.specs.List.{AllByRecursion, list_any}
use Rattle.std.proofs.lemmas.Option.{slice_get_within}
use mathlib.Core.Logic.{dite}
use native.Mathlib.Decide.{ℕ_discrete}
use Rattle.arc_lists.proofs.Tables.{cases_true}
use Rattle.blk_ptr.specs.declared.ptr.Ptr.{Ptr}
use Rattle.arc_table.specs.Ended.{Ended}
use Rattle.dbuf_state.specs.History.{Leads}
use Rattle.dbuf_state.specs.Objects.{PlainCell, opening_cell}
use Rattle.dbuf_state.specs.Outline.{ArePinsCounted, has_pin_at, is_pin_of, is_unpin_of, outline_after, pins_at}
use Rattle.dbuf_state.specs.declared.event.CellEvent.{CellEvent}
use Rattle.dbuf_state.specs.declared.event.CellEvent.TheVariants.{End}
use Rattle.dbuf_state.specs.declared.oid.Oid.{Oid}
use Rattle.dbuf_state.proofs.PinLemmas.{pins-are-counted}
use Rattle.dbuf_state.specs.declared.window.Window.{Window}
use Rattle.dbuf_cells.specs.Laws.{is_put_of}
use Rattle.dbuf_cells.specs.Places.{cell_of}
use Rattle.dbuf_cells.specs.Turns.{OnHeap}
use Rattle.trace_text.specs.Grammar.{AreApart}
use Rattle.trace_text.specs.declared.op.Op.{Op}
use Rattle.trace_text.specs.declared.op.Op.TheVariants as ops
use Rattle.trace_text.specs.declared.reply.Refusal.{Refusal}
use Rattle.trace_text.specs.declared.reply.Refusal.TheVariants as refusals
use Rattle.trace_text.specs.declared.reply.Reply.{Reply}
use Rattle.trace_text.specs.declared.reply.Reply.TheVariants as replies
use Rattle.trace_text.specs.declared.report.Report.{Report}
use Rattle.trace_text.specs.declared.trace.Trace.{Trace}
use Rattle.vdev_io.specs.declared.device.CacheDev.{Ghosts as Devices}
use Rattle.vdev_io.specs.declared.pool.Pool.{Ghosts}
use Rattle.vdev_io.specs.Faults.{Rose}
use Rattle.trace_run.specs.declared.ran.Ending.{Ending}
use Rattle.trace_run.specs.declared.ran.Ending.TheVariants.{Full, Whole}
use Rattle.trace_run.specs.Answers.{AnswersAll, AnswersFeed, IsInside, dropped_reads, is_pool_fault, is_refusal, kept_reads}
use Rattle.trace_run.specs.Deeds.{Noted, events_of_cell}
use Rattle.trace_run.specs.InPlace.{EndsInAll, IsFound, IsInPlace, IsPutBefore, IsReadable, RefusesNothing, is_drop_of, is_hold_of, is_pin_by, is_unpin_by}
use Rattle.trace_run.specs.Lines.{caller_of, has_further, is_of_caller}
use Rattle.trace_run.specs.Outcome.{HasRun}
use Rattle.trace_run.specs.RunWork.{FitsBy, RunWork, lines_of_caller, noted_by, noted_of_syncs}
use Rattle.trace_run.specs.callers.Together.{ends_group, faults_told}
use Rattle.trace_run.specs.callers.WorkLines.{HasFront, IsWorkOf, noted_of_work}
use Rattle.trace_run.specs.dbufs.CellEnds.{IsCellOf, done_by, noted_ends}
use Rattle.trace_run.specs.dbufs.ObjectAnswers.{LookedAt}
use Rattle.trace_run.specs.dbufs.ObjectReplies.{RefusesAt, RefusesPin, RefusesWhole}
use Rattle.trace_run.specs.dbufs.Objects.{Line, Work, no_work, ops_of}
use Rattle.trace_run.proofs.CellLemmas.{ends-one}
use Rattle.trace_run.proofs.TraceLines.{all-callers}
use Rattle.trace_run.proofs.callers.CallerActLemmas.{caller-is}
use Rattle.trace_run.proofs.deeds.NotedCells.{cell-append}
use Rattle.trace_run.proofs.in_place.EventLines.{IsOfLines, all-front, history-all}
use Rattle.trace_run.proofs.in_place.FedFronts.{GoesOn, fed-going, feeder-front, front-all, next-end, none-ended, noted-all, other-readable}
use Rattle.trace_run.proofs.in_place.HeldReads.{IsKeptBy, Pairs, drop-fine, dropped-few, kept-counted, pairs-of, pairs-take}
use Rattle.trace_run.proofs.in_place.ObjectLines.{IsThere, done-fine, inside, is-done, refuse-at, refuse-whole, there-now, whole-at, window-fine}
use Rattle.trace_run.proofs.in_place.PinLines.{all-taken, leads-front, op-at, ops-taken, pins-done, pins-line, pins-more, unpins-done, unpins-few, unpins-line}
use Rattle.trace_run.proofs.in_place.PutLines.{LineAt, among-lines, any-done, line-at, put-noted}
use Rattle.trace_run.proofs.in_place.ReadableFront.{IsReadableNote, is_unread, load-fine}
use Rattle.trace_run.proofs.in_place.Refusals.{hold-kept, is-kept, read-fine}
use Rattle.trace_run.proofs.in_place.Room.{never-full}
use Rattle.trace_run.proofs.in_place.RunLists.{all-at, less-test, no-fault, no-refusal, none-told, some-reply, there-op, whole-ending}
use Rattle.trace_run.proofs.in_place.SyncedAlone.{get-read, patch-read, pin-read}
use Rattle.trace_run.proofs.in_place.SyncedTold.{fed_notes, several-told}

-- ---- all lines were done

module _ {P D : Type 0} (pool : Ghosts P) (told_len : (p : P) (bytes : List ℕ) → pool.told p ≡ Some bytes → length bytes ≡ pool.size p) (device : Devices D) (before after : P) (lent back : Option D) (trace : Trace) (closed : Ended OnHeap) (report : Report) (image : List ℕ)
    (r : HasRun pool device before after lent back trace Whole closed report) (tells : pool.told before ≡ Some image) (in_place : IsInPlace (pool.size before) image trace)
    (some : 1 ≤ trace.config.callers) (below : (k : ℕ) (op : Op) → slice_get trace.ops k ≡ Some op → (n : ℕ) → caller_of op ≡ Some n → n < trace.config.callers)
    (fine : (k : ℕ) (reply : Reply) → slice_get report.replies k ≡ Some reply → is_pool_fault reply ≡ false) where
  abbrev len : ℕ
  len = pool.size before

  abbrev lines : List Line
  lines = r.work.lines

  answers : AnswersAll len (Some image) trace.blocks trace.ops report.replies
  answers = subst (λ (o : Option (List ℕ)). AnswersAll len o trace.blocks trace.ops report.replies) tells r.run.answers

  -- no sync stopped
  still : r.work.stopped ≡ no_work
  still = dite (ℕ_discrete trace.config.callers 1)
      (λ one. elim (cases_true (has_further trace.ops)) [
        | inl further ↦ (r.run.in_turn one further).ended.0
        | inr plain ↦ ap (λ (w : RunWork). w.stopped) (r.plain one plain)
      ])
      (λ more. (r.run.together (omega (arith, more, some))).ended.0)

  -- ---- reads, holds and drops

  read-line : (k n t x : ℕ) (window : Window) (reply : Reply) → slice_get trace.ops k ≡ Some (ops.Read n t x window) → slice_get report.replies k ≡ Some reply → is_refusal reply ≡ false
  read-line k n t x window reply at told =
      let a = answers.each k (ops.Read n t x window) reply at told in
      let own = subst (λ (o : Option Ptr). IfSome o (λ ptr. IsReadable len image ptr × IsInside window ptr.key.size)) a.1 (in_place.lines k (ops.Read n t x window) at) in
      read-fine len image a.0 window reply own.0 own.1 a.2 (fine k reply told)

  hold-line : (k n t x : ℕ) (reply : Reply) → slice_get trace.ops k ≡ Some (ops.Hold n t x) → slice_get report.replies k ≡ Some reply → is_refusal reply ≡ false
  hold-line k n t x reply at told =
      let a = answers.each k (ops.Hold n t x) reply at told in
      let own = subst (λ (o : Option Ptr). IfSome o (IsReadable len image)) a.1 (in_place.lines k (ops.Hold n t x) at) in
      hold-kept len image a.0 reply own a.2 (fine k reply told)

  held-so : (k : ℕ) (o : Op) (reply : Reply) → slice_get trace.ops k ≡ Some o → slice_get report.replies k ≡ Some reply → IsKeptBy o reply
  held-so k (ops.Hold n t x) reply at told =
      let a = answers.each k (ops.Hold n t x) reply at told in
      is-kept len (Some image) a.0 reply a.2 (hold-line k n t x reply at told)
  held-so k o reply at told = tt

  held : Pairs IsKeptBy trace.ops report.replies
  held = pairs-of IsKeptBy trace.ops report.replies answers.all held-so

  drop-line : (k n x : ℕ) (reply : Reply) → slice_get trace.ops k ≡ Some (ops.Drop n x) → slice_get report.replies k ≡ Some reply → is_refusal reply ≡ false
  drop-line k n x reply at told =
      let a = answers.each k (ops.Drop n x) reply at told in
      let own : count_by (is_drop_of n x) (take k trace.ops) < count_by (is_hold_of n x) (take k trace.ops) = in_place.lines k (ops.Drop n x) at in
      let kept = kept-counted n x (take k trace.ops) (take k report.replies) (pairs-take IsKeptBy k trace.ops report.replies held) in
      let few = dropped-few n x (take k trace.ops) (take k report.replies) in
      drop-fine (kept_reads n x (take k trace.ops) (take k report.replies)) (dropped_reads n x (take k trace.ops) (take k report.replies)) x reply (omega (arith, own, kept, few)) a

  -- ---- lines on objects

  -- what a line on an object looked at
  abbrev Looks : (k n : ℕ) → Oid → Line → Type 0
  Looks k n at l = LookedAt trace.config len r.run.told closed.cells n lines r.run.objects.found k at l

  module _ (k n : ℕ) (at : Oid) (l : Line) (looked : Looks k n at l) where
    is-cell : IsCellOf trace (noted_by trace.config r.work) (cell_of trace.config.cells at) looked.cell
    is-cell = r.cells.each (cell_of trace.config.cells at) looked.cell looked.there

    all-events : AllByRecursion (IsOfLines trace.config.callers trace.ops) looked.front
    all-events = all-front (IsOfLines trace.config.callers trace.ops) looked.front (events_of_cell (cell_of trace.config.cells at) l.work.noted ++ looked.rest)
        (subst (AllByRecursion (IsOfLines trace.config.callers trace.ops)) looked.whole
        (history-all trace trace.ops report.replies r.work refl r.did.lines r.did.fits still (cell_of trace.config.cells at) looked.cell is-cell))

    -- that front is legal
    abbrev start : PlainCell
    start = opening_cell looked.cell.value.limit looked.cell.value.opening

    first : (bases : List (List ℕ)) × (mid : PlainCell) × Leads start looked.front bases mid
    first = leads-front start is-cell.end looked.front (events_of_cell (cell_of trace.config.cells at) l.work.noted ++ looked.rest) is-cell.bases
        (subst (λ (es : List CellEvent). Leads start es is-cell.bases is-cell.end) looked.whole is-cell.legal.legal)

    -- what the feeder did there begins what it did to the cell before it ended it
    fed-front : events_of_cell (cell_of trace.config.cells at) (fed_notes lines)
        ≡ done_by trace.config.callers looked.front ++ done_by trace.config.callers (events_of_cell (cell_of trace.config.cells at) l.work.noted ++ looked.ended.0)
    fed-front =
        let callers : ℕ = trace.config.callers in
        let i : ℕ = cell_of trace.config.cells at in
        let notes : List CellEvent = events_of_cell i l.work.noted in
        let here : (callers == callers) ≡ true = eq-eqb callers callers refl in
        let syncs : noted_of_syncs r.work ≡ fed_notes lines = (λ z. fed_notes lines ++ (still z).noted) ∙ append-nil (fed_notes lines) in
        let by : noted_by trace.config r.work callers ≡ fed_notes lines ++ noted_ends callers 0 trace.config.cells = rw here (ap (λ (ns : List Noted). ns ++ noted_ends callers 0 trace.config.cells) syncs) in
        let some_cells : i < trace.config.cells = subst (λ (x : ℕ). i < x) r.cells.count (slice_get_within closed.cells i looked.cell looked.there) in
        let did : done_by callers looked.cell.value.history ≡ events_of_cell i (fed_notes lines) ++ End callers ∷ [] =
        is-cell.did callers (omega arith) ∙ (ap (events_of_cell i) by ∙ (cell-append i (fed_notes lines) (noted_ends callers 0 trace.config.cells)
        ∙ ap (λ (es : List CellEvent). events_of_cell i (fed_notes lines) ++ es) (ends-one callers i 0 trace.config.cells (omega arith) (omega (arith, some_cells))))) in
        feeder-front callers looked.cell.value.history looked.front (notes ++ looked.ended.0) (events_of_cell i (fed_notes lines))
        (looked.whole ∙ (ap (λ (es : List CellEvent). looked.front ++ (notes ++ es)) looked.ended.1
        ∙ (ap (λ (es : List CellEvent). looked.front ++ es) (sym (append_assoc notes looked.ended.0 (End callers ∷ []))) ∙ sym (append_assoc looked.front (notes ++ looked.ended.0) (End callers ∷ []))))) did

    -- an earlier whole write was done
    put-found : IsPutBefore trace.ops k n at → list_any (is_put_of at) looked.front ≡ true
    put-found put =
        let w : LineAt (ops.Put put.writer put.tick at put.size put.fill) put.place report.replies lines = line-at trace.ops report.replies lines put.place (ops.Put put.writer put.tick at put.size put.fill) r.did.lines put.line in
        let own : (put.writer == put.writer) ≡ true = eq-eqb put.writer put.writer refl in
        let wrote = r.run.objects.each put.place put.writer (record { op = ops.Put put.writer put.tick at put.size put.fill; reply = w.reply; work = w.work }) w.there own in
        let done : w.reply ≡ replies.Done = is-done len (r.run.told put.place) wrote.cell.value.limit wrote.cell.value.opening wrote.front w.work.brought w.reply wrote.answer in
        let there : slice_get lines put.place ≡ Some (record { op = ops.Put put.writer put.tick at put.size put.fill; reply = replies.Done; work = w.work }) =
        subst (λ (x : Reply). slice_get lines put.place ≡ Some (record { op = ops.Put put.writer put.tick at put.size put.fill; reply = x; work = w.work })) done w.there in
        let fits = all-at (λ (x : Line). FitsBy trace.config (caller_of x.op) x) lines r.did.fits put.place (record { op = ops.Put put.writer put.tick at put.size put.fill; reply = replies.Done; work = w.work }) there in
        let noted = put-noted trace.config put.writer put.tick at put.size put.fill w.work put.writer fits in
        elim put.found [
          | inl same ↦
              let his : (put.writer == n) ≡ true = eq-eqb put.writer n same in
              any-done (is_put_of at) n looked.front (events_of_cell (cell_of trace.config.cells at) (noted_of_work (lines_of_caller n (take k lines)))) ([], looked.mine ∙ sym (append-nil _))
              (among-lines (is_put_of at) n (cell_of trace.config.cells at) _ lines put.place k there his put.before noted)
          | inr ends ↦
              let e = line-at trace.ops report.replies lines ends.place ends.op r.did.lines ends.line in
              let his = below put.place (ops.Put put.writer put.tick at put.size put.fill) put.line put.writer refl in
              any-done (is_put_of at) put.writer looked.front (events_of_cell (cell_of trace.config.cells at) (noted_of_work (lines_of_caller put.writer (take ends.place lines))))
              (looked.since put.writer ends.place (record { op = ends.op; reply = e.reply; work = e.work }) his ends.before e.there ends.ends)
              (among-lines (is_put_of at) put.writer (cell_of trace.config.cells at) _ lines put.place ends.place there own ends.after noted)
        ]

    found : IsFound len image trace k n at → IsThere len image trace at looked.front
    found (inl put) = inl (put-found put)
    found (inr begins) = inr begins

    front-told : HasFront r.run.place (Some image) (r.run.told k)
    front-told = subst (λ (o : Option (List ℕ)). HasFront r.run.place o (r.run.told k)) tells (r.run.told_front k)

    -- of several callers: what syncs noted there can be read
    notes-readable : 2 ≤ trace.config.callers → slice_get lines k ≡ Some l → ends_group l.op ≡ false → (now : List ℕ) × (r.run.told k ≡ Some now) × AllByRecursion (IsReadableNote len now) looked.front
    notes-readable several there grouped =
        let callers : ℕ = trace.config.callers in
        let i : ℕ = cell_of trace.config.cells at in
        let run = r.run.together several in
        let t = several-told len r.run.told pool told_len trace closed.cells before image r.run.place run.reached lines tells refl r.run.first run.groups r.did.fits k l there grouped in
        let Reads : CellEvent → Type 0 = IsReadableNote len t.image in
        let notes : AllByRecursion Reads (events_of_cell i (fed_notes (take k lines))) = noted-all Reads i (fed_notes (take k lines)) t.notes in
        let fed : AllByRecursion Reads (done_by callers looked.front) = elim (next-end trace.config lines k l r.did.fits there grouped) [
          | inl next ↦
              let u = looked.unsynced next.0 next.1 next.2 next.3 next.4 in
              all-front Reads (done_by callers looked.front) u.0 (subst (AllByRecursion Reads) (sym (ap (events_of_cell i) next.5) ∙ u.1) notes)
          | inr none ↦
              all-front Reads (done_by callers looked.front) (done_by callers (events_of_cell i l.work.noted ++ looked.ended.0)) (subst (AllByRecursion Reads) (sym (ap (events_of_cell i) none) ∙ fed-front) notes)
        ] in
        (t.image, t.is, front-all Reads callers trace.ops (other-readable len t.image callers trace.ops) looked.front all-events fed)

    several-read : 2 ≤ trace.config.callers → slice_get lines k ≡ Some l → ends_group l.op ≡ false → IsFound len image trace k n at → (last : ℕ) (refusal : Refusal)
        → RefusesAt len (r.run.told k) looked.cell.value.limit looked.cell.value.opening looked.front l.work.brought at last refusal → is_unread refusal ≡ true → ⊥
    several-read several there grouped is last refusal why un =
        let f = notes-readable several there grouped in
        let front = subst (HasFront r.run.place (Some image)) f.1 front-told in
        load-fine len f.0 at looked.cell.value.limit looked.cell.value.opening looked.front f.2
        (there-now len image trace at looked.front looked.cell.value.limit looked.cell.value.opening is-cell.opening r.run.place f.0 r.run.first front (found is)) l.work.brought last refusal
        (subst (λ (o : Option (List ℕ)). RefusesAt len o looked.cell.value.limit looked.cell.value.opening looked.front l.work.brought at last refusal) f.1 why) un

    refused-at : (last : ℕ) → IsFound len image trace k n at → EndsInAll trace at last → (refusal : Refusal) → (is_unread refusal ≡ true → ⊥)
        → RefusesAt len (r.run.told k) looked.cell.value.limit looked.cell.value.opening looked.front l.work.brought at last refusal → is_pool_fault (replies.Refused refusal) ≡ true
    refused-at last is ends refusal read why = refuse-at len image trace at looked.front looked.cell.value.limit looked.cell.value.opening is-cell.opening (r.run.told k) l.work.brought (found is) last
        (inside len image trace at looked.front looked.cell.value.limit looked.cell.value.opening is-cell.opening first.0 first.1 first.2 all-events last ends) refusal read why

    refused-whole : IsFound len image trace k n at → (refusal : Refusal) → (is_unread refusal ≡ true → ⊥)
        → RefusesWhole len (r.run.told k) looked.cell.value.limit looked.cell.value.opening looked.front l.work.brought at refusal → is_pool_fault (replies.Refused refusal) ≡ true
    refused-whole is refusal read why = refuse-whole len image trace at looked.front looked.cell.value.limit looked.cell.value.opening is-cell.opening (r.run.told k) l.work.brought (found is) refusal read why

  -- one caller's lines read in turn, several callers' in groups
  by-callers : {A : Type 0} → (trace.config.callers ≡ 1 → A) → (2 ≤ trace.config.callers → A) → A
  by-callers {A} alone several = dite (ℕ_discrete trace.config.callers 1) alone (λ more. several (omega (arith, more, some)))

  refused-there : (op : Op) (reply : Reply) (refusal : Refusal) (work : Work) (k : ℕ) → reply ≡ replies.Refused refusal → slice_get lines k ≡ Some (record { op = op; reply = reply; work = work })
      → slice_get lines k ≡ Some (record { op = op; reply = replies.Refused refusal; work = work })
  refused-there op reply refusal work k is there = there ∙ (λ z. Some (record { op = op; reply = is z; work = work }))

  get-line : (k n t : ℕ) (at : Oid) (w : Window) (reply : Reply) (work : Work) → slice_get trace.ops k ≡ Some (ops.Get n t at w) → slice_get report.replies k ≡ Some reply
      → slice_get lines k ≡ Some (record { op = ops.Get n t at w; reply = reply; work = work }) → is_refusal reply ≡ false
  get-line k n t at w reply work here told there =
      let own = in_place.lines k (ops.Get n t at w) here in
      let his : (n == n) ≡ true = eq-eqb n n refl in
      let l : Line = record { op = ops.Get n t at w; reply = reply; work = work } in
      let looked = r.run.objects.each k n l there his in
      window-fine len (r.run.told k) looked.cell.value.limit looked.cell.value.opening looked.front work.brought at w reply
      (λ refusal is why. refused-at k n at l looked (w.at + w.len) own.0 own.1 refusal
      (λ un. by-callers (λ one. get-read pool told_len device before after lent back trace closed report image r tells one k n t at w refusal work (refused-there (ops.Get n t at w) reply refusal work k is there) own.0 un)
      (λ several. several-read k n at l looked several there refl own.0 (w.at + w.len) refusal why un)) why) looked.answer (fine k reply told)

  patch-line : (k n t : ℕ) (at : Oid) (from : ℕ) (bytes : List ℕ) (reply : Reply) (work : Work) → slice_get trace.ops k ≡ Some (ops.Patch n t at from bytes) → slice_get report.replies k ≡ Some reply
      → slice_get lines k ≡ Some (record { op = ops.Patch n t at from bytes; reply = reply; work = work }) → is_refusal reply ≡ false
  patch-line k n t at from bytes reply work here told there =
      let own = in_place.lines k (ops.Patch n t at from bytes) here in
      let his : (n == n) ≡ true = eq-eqb n n refl in
      let l : Line = record { op = ops.Patch n t at from bytes; reply = reply; work = work } in
      let looked = r.run.objects.each k n l there his in
      done-fine len (r.run.told k) looked.cell.value.limit looked.cell.value.opening looked.front work.brought
      (RefusesAt len (r.run.told k) looked.cell.value.limit looked.cell.value.opening looked.front work.brought at (from + length bytes)) reply
      (λ refusal is why. refused-at k n at l looked (from + length bytes) own.0 own.1 refusal
      (λ un. by-callers (λ one. patch-read pool told_len device before after lent back trace closed report image r tells one k n t at from bytes refusal work (refused-there (ops.Patch n t at from bytes) reply refusal work k is there) own.0 un)
      (λ several. several-read k n at l looked several there refl own.0 (from + length bytes) refusal why un)) why) looked.answer (fine k reply told)

  pin-line : (k n t : ℕ) (at : Oid) (reply : Reply) (work : Work) → slice_get trace.ops k ≡ Some (ops.Pin n t at) → slice_get report.replies k ≡ Some reply
      → slice_get lines k ≡ Some (record { op = ops.Pin n t at; reply = reply; work = work }) → is_refusal reply ≡ false
  pin-line k n t at reply work here told there =
      let own = in_place.lines k (ops.Pin n t at) here in
      let his : (n == n) ≡ true = eq-eqb n n refl in
      let l : Line = record { op = ops.Pin n t at; reply = reply; work = work } in
      let looked = r.run.objects.each k n l there his in
      done-fine len (r.run.told k) looked.cell.value.limit looked.cell.value.opening looked.front work.brought
      (RefusesWhole len (r.run.told k) looked.cell.value.limit looked.cell.value.opening looked.front work.brought at) reply
      (λ refusal is why. refused-whole k n at l looked own refusal
      (λ un. by-callers (λ one. pin-read pool told_len device before after lent back trace closed report image r tells one k n t at refusal work (refused-there (ops.Pin n t at) reply refusal work k is there) own un)
      (λ several. several-read k n at l looked several there refl own 0 refusal (whole-at len (r.run.told k) looked.cell.value.limit looked.cell.value.opening looked.front work.brought at refusal why) un)) why) looked.answer (fine k reply told)

  -- ---- a line that takes a pin back

  fits-at : (n j : ℕ) (l : Line) → slice_get lines j ≡ Some l → is_of_caller n l.op ≡ true → IsWorkOf trace.config n l
  fits-at n j l there his = subst (λ (c : Option ℕ). FitsBy trace.config c l) (caller-is n l.op his) (all-at (λ (x : Line). FitsBy trace.config (caller_of x.op) x) lines r.did.fits j l there)

  pin-counted : (n : ℕ) (at : Oid) (j : ℕ) (l : Line) → slice_get lines j ≡ Some l → is_of_caller n l.op ≡ true
      → cond {A = ℕ} (is_pin_by n at l.op) 1 0 ≤ count_by (is_pin_of n at) (events_of_cell (cell_of trace.config.cells at) l.work.noted)
  pin-counted n at j l there his =
      let line = op-at trace.ops report.replies lines r.did.lines j l there in
      pins-line trace.config n at l.op l.reply l.work (fits-at n j l there his)
      (λ m t b is. pin-line j m t b l.reply l.work (line.0 ∙ ap (λ (o : Op). Some o) is) line.1 (there ∙ (λ i. Some (record { op = is i; reply = l.reply; work = l.work }))))

  module _ (k n : ℕ) (at : Oid) (l : Line) (looked : Looks k n at l) where
    front-pins : ArePinsCounted n at looked.front (outline_after looked.cell.value.limit looked.cell.value.opening looked.front)
    front-pins =
        let callers : ℕ = trace.config.callers in
        let i : ℕ = cell_of trace.config.cells at in
        let f = first k n at l looked in
        let going = all-front GoesOn (done_by callers looked.front) (done_by callers (events_of_cell i l.work.noted ++ looked.ended.0)) (subst (AllByRecursion GoesOn) (fed-front k n at l looked) (fed-going trace.config i lines r.did.fits)) in
        pins-are-counted looked.cell.value.limit looked.cell.value.opening looked.front f.0 f.1 n at f.2 (none-ended callers trace.ops looked.front (all-events k n at l looked) going)

    has-pin : count_by (is_unpin_by n at) (take k trace.ops) < count_by (is_pin_by n at) (take k trace.ops) → has_pin_at n at (outline_after looked.cell.value.limit looked.cell.value.opening looked.front) ≡ true
    has-pin own =
        let i : ℕ = cell_of trace.config.cells at in
        let counts = front-pins in
        let same : take k trace.ops ≡ ops_of (take k lines) = ops-taken trace.ops report.replies lines r.did.lines k in
        let a = ap (count_by (is_pin_by n at)) same in
        let b = ap (count_by (is_unpin_by n at)) same in
        let c = pins-more trace.config n at (take k lines) (all-taken _ lines k (pin-counted n at)) in
        let d = unpins-few trace.config n at (take k lines) (all-taken _ lines k (λ j x there his. unpins-line trace.config n at x.op x.reply x.work (fits-at n j x there his))) in
        let e = sym (pins-done n at looked.front) ∙ ap (count_by (is_pin_of n at)) looked.mine in
        let f = sym (unpins-done n at looked.front) ∙ ap (count_by (is_unpin_of n at)) looked.mine in
        let count = counts.count in
        let more : 0 < pins_at n at (outline_after looked.cell.value.limit looked.cell.value.opening looked.front) = omega (arith, own, a, b, c, d, e, f, count) in
        counts.some ∙ less-test 0 _ more

    unpin-fine : has_pin_at n at (outline_after looked.cell.value.limit looked.cell.value.opening looked.front) ≡ true → (refusal : Refusal)
        → RefusesPin len (r.run.told k) looked.cell.value.limit looked.cell.value.opening looked.front l.work.brought n at refusal → is_pool_fault (replies.Refused refusal) ≡ true
    unpin-fine has (refusals.NoPin named) is = absurd (let clash : true ≡ false = sym has ∙ is.1 in cc)
    unpin-fine has (refusals.NoBlock named) is = absurd is
    unpin-fine has (refusals.Range end size) is = absurd is
    unpin-fine has (refusals.Key why) is = absurd is
    unpin-fine has refusals.PoolFault is = absurd is
    unpin-fine has (refusals.Mismatch other) is = absurd is
    unpin-fine has (refusals.NoHold block) is = absurd is
    unpin-fine has refusals.NoMemory is = absurd is

  unpin-line : (k n : ℕ) (at : Oid) (reply : Reply) (work : Work) → slice_get trace.ops k ≡ Some (ops.Unpin n at) → slice_get report.replies k ≡ Some reply
      → slice_get lines k ≡ Some (record { op = ops.Unpin n at; reply = reply; work = work }) → is_refusal reply ≡ false
  unpin-line k n at reply work here told there =
      let own = in_place.lines k (ops.Unpin n at) here in
      let his : (n == n) ≡ true = eq-eqb n n refl in
      let l : Line = record { op = ops.Unpin n at; reply = reply; work = work } in
      let looked = r.run.objects.each k n l there his in
      done-fine len (r.run.told k) looked.cell.value.limit looked.cell.value.opening looked.front work.brought
      (RefusesPin len (r.run.told k) looked.cell.value.limit looked.cell.value.opening looked.front work.brought n at) reply
      (λ refusal is. unpin-fine k n at l looked (has-pin k n at l looked own) refusal) looked.answer (fine k reply told)

  put-line : (k n t : ℕ) (at : Oid) (size fill : ℕ) (reply : Reply) (work : Work) → slice_get lines k ≡ Some (record { op = ops.Put n t at size fill; reply = reply; work = work }) → is_refusal reply ≡ false
  put-line k n t at size fill reply work there =
      let his : (n == n) ≡ true = eq-eqb n n refl in
      let looked = r.run.objects.each k n (record { op = ops.Put n t at size fill; reply = reply; work = work }) there his in
      ap is_refusal (is-done len (r.run.told k) looked.cell.value.limit looked.cell.value.opening looked.front work.brought reply looked.answer)

  -- ---- all lines

  feed-fine : (reply : Reply) → AnswersFeed reply → is_refusal reply ≡ false
  feed-fine reply (inl none) = ap is_refusal none
  feed-fine reply (inr fed) = ap is_refusal fed.1

  line-fine : (k : ℕ) (op : Op) (reply : Reply) (work : Work) → slice_get trace.ops k ≡ Some op → slice_get report.replies k ≡ Some reply → slice_get lines k ≡ Some (record { op = op; reply = reply; work = work }) → is_refusal reply ≡ false
  line-fine k (ops.Read n t x window) reply work here told there = read-line k n t x window reply here told
  line-fine k (ops.Hold n t x) reply work here told there = hold-line k n t x reply here told
  line-fine k (ops.Drop n x) reply work here told there = drop-line k n x reply here told
  line-fine k (ops.Get n t at w) reply work here told there = get-line k n t at w reply work here told there
  line-fine k (ops.Put n t at size fill) reply work here told there = put-line k n t at size fill reply work there
  line-fine k (ops.Patch n t at from bytes) reply work here told there = patch-line k n t at from bytes reply work here told there
  line-fine k (ops.Pin n t at) reply work here told there = pin-line k n t at reply work here told there
  line-fine k (ops.Unpin n at) reply work here told there = unpin-line k n at reply work here told there
  line-fine k ops.Feed reply work here told there = feed-fine reply (answers.each k ops.Feed reply here told)
  line-fine k (ops.Txg t) reply work here told there = ap is_refusal (answers.each k (ops.Txg t) reply here told).3
  line-fine k (ops.Cap c) reply work here told there = ap is_refusal (answers.each k (ops.Cap c) reply here told)

  none-refused : list_any is_refusal report.replies ≡ false
  none-refused = no-refusal report.replies each
    where
      each : (k : ℕ) (reply : Reply) → slice_get report.replies k ≡ Some reply → is_refusal reply ≡ false
      each k reply told =
          let inside_it = slice_get_within report.replies k reply told in
          let op = there-op trace.ops k (let all = answers.all in omega (arith, inside_it, all)) in
          let w = line-at trace.ops report.replies lines k op.0 r.did.lines op.1 in
          ap is_refusal (some-reply reply w.reply (sym told ∙ w.replied)) ∙ line-fine k op.0 w.reply w.work op.1 w.replied w.there

  whole-run : (report.status ≡ 0) × (length report.replies ≡ length trace.ops)
  whole-run = (r.status ∙ ap (λ (b : Bool). cond {A = ℕ} b 1 0) none-refused, answers.all)

-- ---- the law

-- the callers of a trace are so many
pub run-fine : {P D : Type 0} (pool : Ghosts P) → ((p : P) (bytes : List ℕ) → pool.told p ≡ Some bytes → length bytes ≡ pool.size p) → (device : Devices D) (before after : P) (lent back : Option D) (trace : Trace) (ending : Ending) (closed : Ended OnHeap) (report : Report) (image : List ℕ)
    → HasRun pool device before after lent back trace ending closed report → 1 ≤ trace.config.callers → ((k : ℕ) (op : Op) → slice_get trace.ops k ≡ Some op → (n : ℕ) → caller_of op ≡ Some n → n < trace.config.callers) → AreApart trace.objects
    → pool.told before ≡ Some image → IsInPlace (pool.size before) image trace → pool.faults before < 2 ^ 63 → (Rose (pool.faults before) (pool.faults after) → ⊥)
    → (report.status ≡ 0) × (length report.replies ≡ length trace.ops)
run-fine pool told_len device before after lent back trace ending closed report image r some below apart tells in_place low still =
    let told = none-told (pool.faults before) (pool.faults after) (faults_told ending report.replies) (r.run.faults low) still low in
    let roomy : (need left : ℕ) → ending ≡ Full need left → ⊥ = λ need left is. never-full pool device before after lent back trace need left closed report image (subst (λ (e : Ending). HasRun pool device before after lent back trace e closed report) is r) some below apart in_place in
    let whole = whole-ending report.replies ending told roomy in
    let run = subst (λ (e : Ending). HasRun pool device before after lent back trace e closed report) whole r in
    let none : faults_told Whole report.replies ≡ 0 = ap (λ (e : Ending). faults_told e report.replies) (sym whole) ∙ told in
    whole-run pool told_len device before after lent back trace closed report image run tells in_place some below (no-fault report.replies none)

pub refuses-nothing : {P D : Type 0} (pool : Ghosts P) → ((p : P) (bytes : List ℕ) → pool.told p ≡ Some bytes → length bytes ≡ pool.size p) → (device : Devices D) → RefusesNothing pool device
refuses-nothing pool told_len device before after lent back trace ending closed report image r formed tells in_place low still =
    run-fine pool told_len device before after lent back trace ending closed report image r formed.config.counts.callers.0 (all-callers trace formed) formed.apart tells in_place low still
