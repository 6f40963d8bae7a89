-- One caller: behind each of its lines there is room for the syncs that come, so none stops for want of room.
use Rattle.std.proofs.Common.{◌≡◌, ◌+◌, ◌≤◌, ℕ, true, false, List, [], ◌∷◌, ◌++◌, Option, Some, None, refl, sym, ap, ◌∙◌, subst, arith, append-nil, append_assoc}
use Rattle.std.specs.Prelude.{slice_get}
use Rattle.std.specs.List.{AllByRecursion, list_any}
use Rattle.std.proofs.lemmas.List.{map-append}
use Rattle.std.proofs.lemmas.Option.{slice_get_within}
use Rattle.arc_core.specs.declared.event.Event.{Event}
use Rattle.arc_core.specs.declared.served.Restored.{Restored}
use Rattle.arc_table.specs.Geometry.{IsCell}
use Rattle.dbuf_cells.specs.Laws.{is_put_of}
use Rattle.dbuf_cells.specs.Turns.{OnHeap}
use Rattle.dbuf_state.specs.declared.event.CellEvent.{CellEvent}
use Rattle.dbuf_state.specs.declared.oid.Oid.{Oid}
use Rattle.dbuf_state.specs.declared.state.Mapping.{Mapping}
use Rattle.txg_sync.specs.Items.{SyncItem, items_from, need_of}
use Rattle.txg_sync.specs.Syncing.{IsFull, WritesAll}
use Rattle.txg_sync.specs.Turns.{synced_in}
use Rattle.txg_sync.specs.declared.due.Due.{Due}
use Rattle.trace_text.specs.Grammar.{AreApart}
use Rattle.trace_text.specs.declared.op.Op.{Op}
use Rattle.trace_text.specs.declared.op.Op.TheVariants as ops
use Rattle.trace_text.specs.declared.reply.Reply.{Reply}
use Rattle.trace_text.specs.declared.trace.Trace.{Trace}
use Rattle.vdev_io.specs.declared.device.CacheDev.{Ghosts as Devices}
use Rattle.vdev_io.specs.declared.pool.Pool.{Ghosts}
use Rattle.trace_run.specs.Deeds.{Noted, events_of_cell}
use Rattle.trace_run.specs.Feeds.{FeedDone}
use Rattle.trace_run.specs.InPlace.{HaveRoom, greatest_size, room_for}
use Rattle.trace_run.specs.Lines.{caller_of, is_sync}
use Rattle.trace_run.specs.Openings.{opening_map}
use Rattle.trace_run.specs.RunWork.{AllFit, FitsBy}
use Rattle.trace_run.specs.callers.Together.{BetweenGroups, between_groups}
use Rattle.trace_run.specs.callers.WorkLines.{noted_of_work}
use Rattle.trace_run.specs.dbufs.ObjectLines.{OnObject, on_object}
use Rattle.trace_run.specs.dbufs.Objects.{Line, Work, no_work, ops_of}
use Rattle.trace_run.specs.one_caller.Sequence.{AreInSequence, BetweenLines, DoesAnyLine, DoesLine, DoesOther, DoesOwn, DoesSync, GoesOn, TakesCells, TheseCells, begins_so}
use Rattle.trace_run.proofs.callers.LineLists.{noted-append}
use Rattle.trace_run.proofs.deeds.NotedCells.{cell-append}
use Rattle.trace_run.proofs.one_caller.TellLemmas.{all-append}
use Rattle.trace_run.proofs.syncs.SyncTold.{noted-there}
use Rattle.trace_run.proofs.in_place.DirtyBlocks.{IsCleanBehind, clean-at-first, clean-synced}
use Rattle.trace_run.proofs.in_place.RoomLines.{caller-unsynced, room-step}
use Rattle.trace_run.proofs.in_place.RoomNotes.{IsSized, all-among, events-all}
use Rattle.trace_run.proofs.in_place.RoomPuts.{IsPutNoted, put-among}
use Rattle.trace_run.proofs.in_place.RoomSyncs.{IsReady, calls-size, need-ready, ready-sized, synced-sized, there-cell}

module _ {P D : Type 0} (pools : Ghosts P) (devices : Devices D) (trace : Trace) (apart : AreApart trace.objects) (len : ℕ) where
  -- There is room for the syncs of these lines from here on. Of each cell, nothing was dirty behind the last sync, whole writes gave blocks at most what the early lines give them, and this was done to it
  -- since, by these lines.
  record HasRoom (at : BetweenLines P D) (left : List Op) : Type 0 where
    pub place : ℕ
    pub before : at.outside.next ≤ place
    pub size : pools.size at.outside.pool ≡ len
    pub early : List Op
    pub since : List Line
    pub fits : AllFit trace.config since
    pub noted : AllByRecursion (IsPutNoted trace.config) since
    pub synced : ℕ → List CellEvent
    pub cells : (i : ℕ) → IsCell trace.config i → at.cells i ≡ synced i ++ events_of_cell i (noted_of_work since)
    pub clean : (i : ℕ) → IsCell trace.config i → IsCleanBehind (opening_map trace i) (synced i)
    pub puts : (i : ℕ) → IsCell trace.config i → AllByRecursion (IsSized (greatest_size trace early)) (synced i)
    pub room : HaveRoom trace len place early (ops_of since) left

  has-room-first : (restored : List Restored) (before : P) (place : ℕ) (lent : Option D) (left : List Op) → pools.size before ≡ len → HaveRoom trace len place [] [] left
      → HasRoom (begins_so trace.config restored (between_groups before 1 place) lent) left
  has-room-first restored before place lent left size room = record {
    place = place;
    before = let e : place ≡ place = refl in omega (arith, e);
    size = size;
    early = [];
    since = [];
    fits = tt;
    noted = tt;
    synced = λ i. [];
    cells = λ i is_cell. refl;
    clean = λ i is_cell. clean-at-first (opening_map trace i);
    puts = λ i is_cell. tt;
    room = room;
  }

  -- ---- a line that is no sync

  -- it leaves place and pool as they are
  record LeavesRoom (l : Line) (from to : BetweenLines P D) : Type 0 where
    pub cells : (i : ℕ) → IsCell trace.config i → to.cells i ≡ from.cells i ++ events_of_cell i l.work.noted
    pub next : to.outside.next ≡ from.outside.next
    pub size : pools.size to.outside.pool ≡ pools.size from.outside.pool

  has-room-step : (l : Line) (from to : BetweenLines P D) (left : List Op) → is_sync l.op ≡ false → FitsBy trace.config (caller_of l.op) l → IsPutNoted trace.config l → LeavesRoom l from to
      → HasRoom from (l.op ∷ left) → HasRoom to left
  has-room-step l from to left un fits noted leaves h = record {
    place = h.place;
    before = let a = h.before in let b = leaves.next in omega (arith, a, b);
    size = leaves.size ∙ h.size;
    early = h.early;
    since = h.since ++ l ∷ [];
    fits = all-append (λ x. FitsBy trace.config (caller_of x.op) x) h.since (l ∷ []) h.fits (fits, tt);
    noted = all-append (IsPutNoted trace.config) h.since (l ∷ []) h.noted (noted, tt);
    synced = h.synced;
    cells = λ i is_cell.
        let was : List CellEvent = events_of_cell i (noted_of_work h.since) in
        let news : events_of_cell i (noted_of_work (h.since ++ l ∷ [])) ≡ was ++ events_of_cell i l.work.noted =
        ap (events_of_cell i) (noted-append h.since (l ∷ []) ∙ ap (λ (ns : List Noted). noted_of_work h.since ++ ns) (append-nil l.work.noted)) ∙ cell-append i (noted_of_work h.since) l.work.noted in
        leaves.cells i is_cell
        ∙ (ap (λ (es : List CellEvent). es ++ events_of_cell i l.work.noted) (h.cells i is_cell)
        ∙ (append_assoc (h.synced i) was (events_of_cell i l.work.noted) ∙ ap (λ (es : List CellEvent). h.synced i ++ es) (sym news)));
    clean = h.clean;
    puts = h.puts;
    room = subst (λ (os : List Op). HaveRoom trace len h.place h.early os left) (sym (map-append (λ (x : Line). x.op) h.since (l ∷ []))) (room-step trace len h.place h.early (ops_of h.since) left l.op un h.room);
  }

  -- ---- a sync

  module _ (from : BetweenLines P D) (left : List Op) (h : HasRoom from left) (work : Work) (cells : List OnHeap) (xs : List SyncItem) (takes : TakesCells trace from.cells work cells xs) where
    cell-is : (i : ℕ) (c : OnHeap) → slice_get cells i ≡ Some c → IsCell trace.config i
    cell-is i c there = let inside = slice_get_within cells i c there in let many = takes.many in omega (arith, inside, many)

    ready : (i : ℕ) (c : OnHeap) → slice_get cells i ≡ Some c → IsReady trace h.early (ops_of h.since) i c.value
    ready i c there = record {
      sound = takes.sound i c there;
      opening = takes.opening i c there;
      synced = h.synced i;
      since = events_of_cell i (noted_of_work h.since);
      split = takes.history i c there ∙ h.cells i (cell-is i c there);
      clean = h.clean i (cell-is i c there);
      sized = h.puts i (cell-is i c there);
      writes = events-all trace (ops_of h.since) i h.since h.fits (all-among trace h.since);
      puts = λ at has own. subst (λ (j : ℕ). list_any (is_put_of at) (events_of_cell j (noted_of_work h.since)) ≡ true) own (put-among trace.config at h.since h.noted has);
    }

  has-room-synced : (t : ℕ) (reply : Reply) (work : Work) (from to : BetweenLines P D) (left : List Op) → DoesSync pools devices trace t reply work from to → HasRoom from (ops.Txg t ∷ left) → HasRoom to left
  has-room-synced t reply work from to left does h = record {
    place = h.place + room_for trace h.early (ops_of h.since);
    before =
        let a = h.before in
        let b = does.synced.next in
        let c = w.next_is in
        omega (arith, a, b, c, need);
    size = w.outside.size ∙ h.size;
    early = h.early ++ ops_of h.since;
    since = [];
    fits = tt;
    noted = tt;
    synced = to.cells;
    cells = λ i is_cell. sym (append-nil (to.cells i));
    clean = λ i is_cell.
        let c = there-cell cells i (let m = takes.many in omega (arith, is_cell, m)) in
        let opening = takes.opening i c.0 c.1 in
        let sound = takes.sound i c.0 c.1 in
        subst (λ (es : List CellEvent). IsCleanBehind (opening_map trace i) es) (sym (now i is_cell ∙ ap (λ (es : List CellEvent). es ++ synced_in callers i items) (sym (takes.history i c.0 c.1))))
        (subst (λ (ms : List Mapping). IsCleanBehind ms (c.0.value.history ++ synced_in callers i items)) opening (clean-synced w.held from.outside.group from.outside.next callers cells dues w.dirty i c.0 c.1 sound));
    puts = λ i is_cell.
        let c = there-cell cells i (let m = takes.many in omega (arith, is_cell, m)) in
        let size : Oid → ℕ = greatest_size trace (h.early ++ ops_of h.since) in
        let had = subst (AllByRecursion (IsSized size)) (takes.history i c.0 c.1) (ready-sized trace h.early (ops_of h.since) i c.0.value (all-ready i c.0 c.1)) in
        subst (AllByRecursion (IsSized size)) (sym (now i is_cell)) (all-append (IsSized size) (from.cells i) (synced_in callers i items) had (synced-sized size callers i items));
    room = h.room.1;
  }
    where
      w : WritesAll pools from.outside.group from.outside.next from.outside.pool to.outside.pool trace.config (λ cells xs Besides. TheseCells trace from.cells [] t work cells xs) does.synced.done
      w = does.synced.answer

      callers : ℕ
      callers = trace.config.callers

      cells : List OnHeap
      cells = w.cells

      dues : List Due
      dues = w.dues

      items : List SyncItem
      items = items_from w.held from.outside.group from.outside.next cells dues

      takes : TakesCells trace from.cells work cells items
      takes = w.turns

      all-ready : (i : ℕ) (c : OnHeap) → slice_get cells i ≡ Some c → IsReady trace h.early (ops_of h.since) i c.value
      all-ready = ready from (ops.Txg t ∷ left) h work cells items takes

      need : need_of cells dues ≤ room_for trace h.early (ops_of h.since)
      need = need-ready trace h.early (ops_of h.since) apart cells dues w.dirty all-ready

      now : (i : ℕ) → IsCell trace.config i → to.cells i ≡ from.cells i ++ synced_in callers i items
      now i is_cell = does.leaves.goes_on.cells i is_cell ∙ ap (λ (es : List CellEvent). from.cells i ++ es) (ap (events_of_cell i) takes.noted ∙ noted-there trace.config callers i items)

  -- ---- any line

  none-noted : (l : Line) (from to : BetweenLines P D) (es : ℕ → List Event) → l.work ≡ no_work → GoesOn trace.config es [] from to → (i : ℕ) → IsCell trace.config i → to.cells i ≡ from.cells i ++ events_of_cell i l.work.noted
  none-noted l from to es none goes i is_cell = goes.cells i is_cell ∙ ap (λ (x : Work). from.cells i ++ events_of_cell i x.noted) (sym none)

  own-cells : (on : Option OnObject) (l : Line) (from to : BetweenLines P D) → DoesOwn pools devices trace on l from to → (i : ℕ) → IsCell trace.config i → to.cells i ≡ from.cells i ++ events_of_cell i l.work.noted
  own-cells None l from to does = none-noted l from to _ does.work does.goes_on
  own-cells (Some on) l from to does = does.goes_on.cells

  own-leaves : (l : Line) (from to : BetweenLines P D) → DoesLine pools devices trace l from to → LeavesRoom l from to
  own-leaves l from to does = record {
    cells = own-cells (on_object l.op) l from to does.did;
    next = does.next;
    size = calls-size pools _ from.outside.pool to.outside.pool does.calls;
  }

  other-line : (op : Op) (reply : Reply) (work : Work) (feeds : List FeedDone) (from to : BetweenLines P D) (left : List Op) → FitsBy trace.config None (record { op = op; reply = reply; work = work })
      → FitsBy trace.config (caller_of op) (record { op = op; reply = reply; work = work }) → IsPutNoted trace.config (record { op = op; reply = reply; work = work })
      → DoesOther pools devices trace op reply work feeds from to → HasRoom from (op ∷ left) → HasRoom to left
  other-line ops.Feed reply work feeds from to left fits f noted does h = has-room-step (record { op = ops.Feed; reply = reply; work = work }) from to left refl f noted (record {
    cells = none-noted (record { op = ops.Feed; reply = reply; work = work }) from to _ fits does.goes_on;
    next = ap (λ (b : BetweenGroups P). b.next) does.pool;
    size = ap (λ (b : BetweenGroups P). pools.size b.pool) does.pool;
  }) h
  other-line (ops.Txg t) reply work feeds from to left fits f noted does h = has-room-synced t reply work from to left does.1 h
  other-line (ops.Cap c) reply work feeds from to left fits f noted does h = has-room-step (record { op = ops.Cap c; reply = reply; work = work }) from to left refl f noted (record {
    cells = none-noted (record { op = ops.Cap c; reply = reply; work = work }) from to _ fits does.1.goes_on;
    next = ap (λ (b : BetweenGroups P). b.next) does.1.pool;
    size = ap (λ (b : BetweenGroups P). pools.size b.pool) does.1.pool;
  }) h
  other-line (ops.Read n t x window) reply work feeds from to left fits f noted does h = absurd does
  other-line (ops.Hold n t x) reply work feeds from to left fits f noted does h = absurd does
  other-line (ops.Drop n x) reply work feeds from to left fits f noted does h = absurd does
  other-line (ops.Get n t at window) reply work feeds from to left fits f noted does h = absurd does
  other-line (ops.Put n t at size fill) reply work feeds from to left fits f noted does h = absurd does
  other-line (ops.Patch n t at start bytes) reply work feeds from to left fits f noted does h = absurd does
  other-line (ops.Pin n t at) reply work feeds from to left fits f noted does h = absurd does
  other-line (ops.Unpin n at) reply work feeds from to left fits f noted does h = absurd does

  any-line : (by : Option ℕ) (l : Line) (feeds : List FeedDone) (from to : BetweenLines P D) (left : List Op) → caller_of l.op ≡ by → FitsBy trace.config by l → IsPutNoted trace.config l → DoesAnyLine pools devices trace by l feeds from to
      → HasRoom from (l.op ∷ left) → HasRoom to left
  any-line (Some n) l feeds from to left of fits noted does h =
      has-room-step l from to left (caller-unsynced l.op n of) (subst (λ (by : Option ℕ). FitsBy trace.config by l) (sym of) fits) noted (own-leaves l from to does.1) h
  any-line None l feeds from to left of fits noted does h = other-line l.op l.reply l.work feeds from to left fits (subst (λ (by : Option ℕ). FitsBy trace.config by l) (sym of) fits) noted does h

  all-lines : (ls : List Line) (feeds : List FeedDone) (from to : BetweenLines P D) (left : List Op) → AllFit trace.config ls → AllByRecursion (IsPutNoted trace.config) ls → AreInSequence pools devices trace ls feeds from to
      → HasRoom from (ops_of ls ++ left) → HasRoom to left
  all-lines [] feeds from to left fits noted does h = subst (λ (at : BetweenLines P D). HasRoom at left) (sym does.1) h
  all-lines (l ∷ ls) feeds from to left fits noted does h =
      let next : BetweenLines P D = does.0 in
      let here : List FeedDone = does.1 in
      let behind : List FeedDone = does.2 in
      all-lines ls behind next to left fits.1 noted.1 does.5 (any-line (caller_of l.op) l here from next (ops_of ls ++ left) refl fits.0 noted.0 does.4 h)

  -- ---- none stops for want of room

  not-full : (t : ℕ) (left : List Op) (work : Work) (from : BetweenLines P D) (after : P) (need room : ℕ) → HasRoom from (ops.Txg t ∷ left)
      → IsFull pools from.outside.group from.outside.next from.outside.pool after trace.config (λ cells xs Besides. TheseCells trace from.cells [] t work cells xs) need room → ⊥
  not-full t left work from after need room h full =
      let needs : need_of full.cells full.dues ≤ room_for trace h.early (ops_of h.since) =
      need-ready trace h.early (ops_of h.since) apart full.cells full.dues full.dirty (ready from (ops.Txg t ∷ left) h work full.cells [] full.turns) in
      let a = h.before in
      let b = h.room.0 in
      let c = full.need_is in
      let d = full.left_is in
      let e = full.full in
      let s = h.size in
      omega (arith, needs, a, b, c, d, e, s)

  -- lines that were done in sequence, and a sync behind them that stopped so
  pub never-in-turn : (restored : List Restored) (before after : P) (place : ℕ) (lent : Option D) (ls : List Line) (feeds : List FeedDone) (reached : BetweenLines P D) (t : ℕ) (left : List Op) (work : Work) (need room : ℕ) → pools.size before ≡ len
      → HaveRoom trace len place [] [] (ops_of ls ++ ops.Txg t ∷ left) → AllFit trace.config ls → AllByRecursion (IsPutNoted trace.config) ls
      → AreInSequence pools devices trace ls feeds (begins_so trace.config restored (between_groups before 1 place) lent) reached
      → IsFull pools reached.outside.group reached.outside.next reached.outside.pool after trace.config (λ cells xs Besides. TheseCells trace reached.cells [] t work cells xs) need room → ⊥
  never-in-turn restored before after place lent ls feeds reached t left work need room size has fits noted does full =
      not-full t left work reached after need room (all-lines ls feeds _ reached (ops.Txg t ∷ left) fits noted does (has-room-first restored before place lent (ops_of ls ++ ops.Txg t ∷ left) size has)) full
