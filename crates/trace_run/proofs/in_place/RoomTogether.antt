-- Several callers: behind each of their groups there is room for the syncs that come, so none stops for want of room.
use Rattle.std.proofs.Common.{◌≡◌, ◌+◌, ◌<◌, ◌≤◌, ◌==◌, ℕ, true, false, List, [], ◌∷◌, ◌++◌, length, length-append, Option, Some, None, refl, sym, ap, ◌∙◌, subst, inl, inr, arith, append-nil, append_assoc, eq-eqb, ne_eqb}
use Rattle.std.specs.Prelude.{slice_get}
use Rattle.std.specs.List.{AllByRecursion, list_any}
use Rattle.std.proofs.lemmas.List.Elements.{filter-append}
use Rattle.std.proofs.lemmas.Bool.{cases_lt, eqb-true}
use Rattle.std.proofs.lemmas.List.{append_cancel_left, map-append}
use Rattle.std.proofs.lemmas.Option.{slice_get_within}
use Rattle.arc_lists.proofs.Tables.{cases_true}
use Rattle.arc_core.specs.declared.config.Config.{Config}
use Rattle.arc_table.specs.Geometry.{parties_of}
use Rattle.dbuf_cells.specs.Laws.{is_put_of}
use Rattle.dbuf_cells.specs.Places.{cell_of}
use Rattle.dbuf_cells.specs.Turns.{OnHeap}
use Rattle.dbuf_state.specs.Numbers.{number_of}
use Rattle.dbuf_state.specs.declared.event.CellEvent.{CellEvent}
use Rattle.dbuf_state.specs.declared.oid.Oid.{Oid}
use Rattle.dbuf_state.specs.declared.state.Mapping.{Mapping}
use Rattle.txg_sync.specs.Items.{SyncItem, items_from, need_of}
use Rattle.txg_sync.specs.Syncing.{IsFull, WritesAll}
use Rattle.txg_sync.specs.Turns.{synced_in}
use Rattle.txg_sync.specs.declared.due.Due.{Due}
use Rattle.trace_text.specs.Grammar.{AreApart}
use Rattle.trace_text.specs.declared.op.Op.{Op}
use Rattle.trace_text.specs.declared.op.Op.TheVariants as ops
use Rattle.trace_text.specs.declared.reply.Reply.{Reply}
use Rattle.trace_text.specs.declared.trace.Trace.{Trace}
use Rattle.vdev_io.specs.declared.pool.Pool.{Ghosts}
use Rattle.trace_run.specs.Deeds.{events_of_cell}
use Rattle.trace_run.specs.InPlace.{HaveRoom, greatest_size, is_put_to, room_for}
use Rattle.trace_run.specs.Lines.{caller_of, is_sync}
use Rattle.trace_run.specs.Openings.{opening_map}
use Rattle.trace_run.specs.RunWork.{AllFit, FitsBy, lines_of_caller, lines_of_party}
use Rattle.trace_run.specs.callers.Together.{BetweenGroups, EndsBy, EndsGroup, GroupLines, HadThen, StoodThen, SyncsGroup, WorkInGroups, between_groups, groups_begun, lines_with_end, ends_group}
use Rattle.trace_run.specs.callers.WorkLines.{noted_of_work}
use Rattle.trace_run.specs.dbufs.CellEnds.{done_by}
use Rattle.trace_run.specs.dbufs.Objects.{Line, Work, ops_of}
use Rattle.trace_run.proofs.one_caller.TellLemmas.{all-append}
use Rattle.trace_run.proofs.in_place.DirtyBlocks.{IsCleanBehind, clean-at-first, clean-synced}
use Rattle.trace_run.proofs.in_place.EventLines.{all-front}
use Rattle.trace_run.proofs.in_place.PutLines.{any-done}
use Rattle.trace_run.proofs.in_place.RoomLines.{inside-unsynced, room-steps}
use Rattle.trace_run.proofs.in_place.RoomLists.{all-behind, all-done}
use Rattle.trace_run.proofs.in_place.RoomNotes.{IsAmong, IsSized, IsWriteOf, all-among, all-each, events-all}
use Rattle.trace_run.proofs.in_place.RoomPuts.{IsPutNoted, PutsBy, put-by}
use Rattle.trace_run.proofs.in_place.RoomSyncs.{IsReady, need-ready, ready-sized, synced-sized, there-cell}
use Rattle.trace_run.proofs.in_place.RoomGroups.{AllInside, by-append, by-none, by-synced, by_party, end_lines, flat, flat-begun, inside-begun, joined, longer, party-all, two-fronts, with-end}

module _ {P : Type 0} (pools : Ghosts P) (trace : Trace) (apart : AreApart trace.objects) (len : ℕ) (closed : List OnHeap)
    (opened : (i : ℕ) (end : OnHeap) → slice_get closed i ≡ Some end → end.value.opening ≡ opening_map trace i)
    (parties : (i : ℕ) (end : OnHeap) → slice_get closed i ≡ Some end → AllByRecursion (λ e. number_of e < parties_of trace.config) end.value.history) where
  abbrev g : Config
  g = trace.config

  -- Behind the last sync, which is that of the last of these lines, this was done to the closed cell, and nothing was dirty. Whole writes gave blocks at most what the early lines give them.
  record CellSynced (early : List Op) (front : List Line) (i : ℕ) (end : OnHeap) : Type 0 where
    pub synced : List CellEvent
    pub rest : List CellEvent
    pub whole : end.value.history ≡ synced ++ rest
    pub did : (n : ℕ) → n < parties_of g → done_by n synced ≡ by_party g n i front
    pub clean : IsCleanBehind (opening_map trace i) synced
    pub puts : AllByRecursion (IsSized (greatest_size trace early)) synced

  -- there is room for the syncs of the lines that are left, behind those that were done
  record HasRoom (before : List Line) (at : BetweenGroups P) (left : List Op) : Type 0 where
    pub place : ℕ
    pub below : at.next ≤ place
    pub size : pools.size at.pool ≡ len
    pub early : List Op
    pub front : List Line
    pub since : List Line
    pub are : before ≡ front ++ since
    pub fits : AllFit g since
    pub noted : AllByRecursion (IsPutNoted g) since
    pub cells : (i : ℕ) (end : OnHeap) → slice_get closed i ≡ Some end → CellSynced early front i end
    pub room : HaveRoom trace len place early (ops_of since) left

  has-room-first : (before : P) (place : ℕ) (left : List Op) → pools.size before ≡ len → HaveRoom trace len place [] [] left → HasRoom [] (between_groups before 1 place) left
  has-room-first before place left size room = record {
    place = place;
    below = let e : place ≡ place = refl in omega (arith, e);
    size = size;
    early = [];
    front = [];
    since = [];
    are = refl;
    fits = tt;
    noted = tt;
    cells = λ i end there. record {
      synced = [];
      rest = end.value.history;
      whole = refl;
      did = λ n less. sym (by-none g n i);
      clean = clean-at-first (opening_map trace i);
      puts = tt;
    };
    room = room;
  }

  -- ---- lines that are no sync

  more-lines : (ms before : List Line) (from to : BetweenGroups P) (left : List Op) → AllByRecursion (λ l. is_sync l.op ≡ false) ms → AllFit g ms → AllByRecursion (IsPutNoted g) ms → to.next ≡ from.next → pools.size to.pool ≡ pools.size from.pool
      → HasRoom before from (ops_of ms ++ left) → HasRoom (before ++ ms) to left
  more-lines ms before from to left un fits noted next size h = record {
    place = h.place;
    below = let a = h.below in omega (arith, a, next);
    size = size ∙ h.size;
    early = h.early;
    front = h.front;
    since = h.since ++ ms;
    are = ap (λ (ls : List Line). ls ++ ms) h.are ∙ append_assoc h.front h.since ms;
    fits = all-append (λ l. FitsBy g (caller_of l.op) l) h.since ms h.fits fits;
    noted = all-append (IsPutNoted g) h.since ms h.noted noted;
    cells = h.cells;
    room = subst (λ (os : List Op). HaveRoom trace len h.place h.early os left) (sym (map-append (λ (l : Line). l.op) h.since ms)) (room-steps trace len h.place h.early (ops_of h.since) left (ops_of ms) (op-all ms un) h.room);
  }
    where
      op-all : (ls : List Line) → AllByRecursion (λ l. is_sync l.op ≡ false) ls → AllByRecursion (λ o. is_sync o ≡ false) (ops_of ls)
      op-all [] all = tt
      op-all (l ∷ ls) all = (all.0, op-all ls all.1)

  -- ---- a cell as a sync takes it

  module _ (early : List Op) (front since : List Line) (fits : AllFit g since) (noted : AllByRecursion (IsPutNoted g) since) (i : ℕ) (news : List CellEvent) (cell end : OnHeap) (there : slice_get closed i ≡ Some end)
      (was : CellSynced early front i end) (had : HadThen g i (front ++ since) news cell end) where
    abbrev had_done : List CellEvent
    had_done = cell.value.history

    party-did : (n : ℕ) → n < parties_of g → done_by n had_done ≡ by_party g n i (front ++ since)
    party-did n less = elim (cases_true (n == g.callers)) [
      | inl feeder ↦ let same : n ≡ g.callers = eqb-true n g.callers feeder in rw feeder (ap (λ (m : ℕ). done_by m had_done) same ∙ had.fed)
      | inr caller ↦
          let differs : n ≡ g.callers → ⊥ = (λ is. let own : (n == g.callers) ≡ true = eq-eqb n g.callers is in cc) in
          rw caller (had.did n (below-last n less differs))
    ]
      where
        below-last : (n : ℕ) → n < parties_of g → (n ≡ g.callers → ⊥) → n < g.callers
        below-last n less differs = elim (cases_lt n g.callers) [
          | inl below ↦ below
          | inr past ↦ absurd (differs (omega (arith, less, past)))
        ]

    grew : (n : ℕ) → n < parties_of g → done_by n had_done ≡ done_by n was.synced ++ by_party g n i since
    grew n less = party-did n less ∙ (by-append g n i front since ∙ ap (λ (es : List CellEvent). es ++ by_party g n i since) (sym (was.did n less)))

    -- it has all that the last sync left
    behind : (zs : List CellEvent) × (had_done ≡ was.synced ++ zs)
    behind = elim (two-fronts was.synced had_done was.rest (news ++ had.rest) (sym was.whole ∙ had.whole)) [
      | inl first ↦ first
      | inr short ↦ absurd (clash short.0 short.1 short.2)
    ]
      where
        clash : (e : CellEvent) (zs : List CellEvent) → was.synced ≡ had_done ++ e ∷ zs → ⊥
        clash e zs is =
            let n : ℕ = number_of e in
            let all : AllByRecursion (λ x. number_of x < parties_of g) was.synced = all-front (λ x. number_of x < parties_of g) was.synced was.rest (subst (AllByRecursion (λ x. number_of x < parties_of g)) was.whole (parties i end there)) in
            let less : n < parties_of g = (all-behind (λ x. number_of x < parties_of g) had_done (e ∷ zs) (subst (AllByRecursion (λ x. number_of x < parties_of g)) is all)).0 in
            let a = ap length (grew n less) ∙ length-append (done_by n was.synced) (by_party g n i since) in
            let b = ap (λ (es : List CellEvent). length (done_by n es)) is ∙ (ap length (filter-append (λ e. number_of e == n) had_done (e ∷ zs)) ∙ length-append (done_by n had_done) (done_by n (e ∷ zs))) in
            let c = longer e zs in
            omega (arith, a, b, c)

    abbrev later : List CellEvent
    later = behind.0

    later-did : (n : ℕ) → n < parties_of g → done_by n later ≡ by_party g n i since
    later-did n less = append_cancel_left (done_by n was.synced) (done_by n later) (by_party g n i since)
        (sym (filter-append (λ e. number_of e == n) was.synced later) ∙ (ap (done_by n) (sym behind.1) ∙ grew n less))

    later-numbers : AllByRecursion (λ e. number_of e < parties_of g) later
    later-numbers =
        let all : AllByRecursion (λ e. number_of e < parties_of g) had_done = all-front (λ e. number_of e < parties_of g) had_done (news ++ had.rest) (subst (AllByRecursion (λ e. number_of e < parties_of g)) had.whole (parties i end there)) in
        all-behind (λ e. number_of e < parties_of g) was.synced later (subst (AllByRecursion (λ e. number_of e < parties_of g)) behind.1 all)

    later-writes : AllByRecursion (IsWriteOf trace (ops_of since) i) later
    later-writes = all-done (IsWriteOf trace (ops_of since) i) (parties_of g) later later-numbers
        (λ n less. subst (AllByRecursion (IsWriteOf trace (ops_of since) i)) (sym (later-did n less))
        (events-all trace (ops_of since) i (lines_of_party g n since) (party-all g (λ l. FitsBy g (caller_of l.op) l) n since fits) (party-all g (λ l. IsAmong trace (ops_of since) l.op) n since (all-among trace since))))

    put-later : (at : Oid) → cell_of g.cells at ≡ i → (n : ℕ) → n < g.callers → PutsBy g at n since → list_any (is_put_of at) later ≡ true
    put-later at own n below puts =
        let his : by_party g n i since ≡ events_of_cell i (noted_of_work (lines_of_caller n since)) = rw (ne_eqb n g.callers (λ is. omega (arith, is, below))) refl in
        let there : list_any (is_put_of at) (events_of_cell i (noted_of_work (lines_of_caller n since))) ≡ true = subst (λ (j : ℕ). list_any (is_put_of at) (events_of_cell j (noted_of_work (lines_of_caller n since))) ≡ true) own puts in
        any-done (is_put_of at) n later (by_party g n i since) ([], later-did n (omega (arith, below)) ∙ sym (append-nil (by_party g n i since))) (ap (list_any (is_put_of at)) his ∙ there)

    later-put : (at : Oid) → list_any (is_put_to at) (ops_of since) ≡ true → cell_of g.cells at ≡ i → list_any (is_put_of at) later ≡ true
    later-put at has own = let w = put-by g at since noted has in put-later at own w.0 w.1 w.2

    cell-ready : IsReady trace early (ops_of since) i cell.value
    cell-ready = record {
      sound = had.sound;
      opening = had.opening ∙ opened i end there;
      synced = was.synced;
      since = later;
      split = behind.1;
      clean = was.clean;
      sized = was.puts;
      writes = later-writes;
      puts = later-put;
    }

  -- ---- a sync

  module _ (before : List Line) (at : BetweenGroups P) (left : List Op) (h : HasRoom before at left) (t : ℕ) (work : Work) (cells : List OnHeap) (xs : List SyncItem) (stood : StoodThen trace closed before t work cells xs) where
    closed-there : (i : ℕ) (c : OnHeap) → slice_get cells i ≡ Some c → (end : OnHeap) × (slice_get closed i ≡ Some end)
    closed-there i c there = there-cell closed i (let inside = slice_get_within cells i c there in let count = stood.count in omega (arith, inside, count))

    had-then : (i : ℕ) (c end : OnHeap) → slice_get cells i ≡ Some c → slice_get closed i ≡ Some end → HadThen g i (h.front ++ h.since) (synced_in g.callers i xs) c end
    had-then i c end there ends = subst (λ (ls : List Line). HadThen g i ls (synced_in g.callers i xs) c end) h.are (stood.each i c end there ends)

    ready-with : (i : ℕ) (c end : OnHeap) → slice_get cells i ≡ Some c → slice_get closed i ≡ Some end → IsReady trace h.early (ops_of h.since) i c.value
    ready-with i c end there ends = cell-ready h.early h.front h.since h.fits h.noted i (synced_in g.callers i xs) c end ends (h.cells i end ends) (had-then i c end there ends)

    ready : (i : ℕ) (c : OnHeap) → slice_get cells i ≡ Some c → IsReady trace h.early (ops_of h.since) i c.value
    ready i c there = let end = closed-there i c there in ready-with i c end.0 there end.1

  has-room-synced : (before : List Line) (t : ℕ) (reply : Reply) (work : Work) (from to : BetweenGroups P) (left : List Op) → SyncsGroup pools g (StoodThen trace closed) before t reply work from to → HasRoom before from (ops.Txg t ∷ left)
      → HasRoom (before ++ record { op = ops.Txg t; reply = reply; work = work } ∷ []) to left
  has-room-synced before t reply work from to left does h = record {
    place = h.place + room_for trace h.early (ops_of h.since);
    below =
        let a = h.below in
        let b = does.next in
        let c = w.next_is in
        omega (arith, a, b, c, need);
    size = w.outside.size ∙ h.size;
    early = h.early ++ ops_of h.since;
    front = before ++ line ∷ [];
    since = [];
    are = sym (append-nil (before ++ line ∷ []));
    fits = tt;
    noted = tt;
    cells = now;
    room = h.room.1;
  }
    where
      line : Line
      line = record { op = ops.Txg t; reply = reply; work = work }

      w : WritesAll pools from.group from.next from.pool to.pool g (λ cells xs Besides. StoodThen trace closed before t work cells xs) does.done
      w = does.answer

      dues : List Due
      dues = w.dues

      items : List SyncItem
      items = items_from w.held from.group from.next w.cells dues

      stood : StoodThen trace closed before t work w.cells items
      stood = w.turns

      need : need_of w.cells dues ≤ room_for trace h.early (ops_of h.since)
      need = need-ready trace h.early (ops_of h.since) apart w.cells dues w.dirty (ready before from (ops.Txg t ∷ left) h t work w.cells items stood)

      now : (i : ℕ) (end : OnHeap) → slice_get closed i ≡ Some end → CellSynced (h.early ++ ops_of h.since) (before ++ line ∷ []) i end
      now i end ends =
          let there = there-cell w.cells i (let inside = slice_get_within closed i end ends in let count = stood.count in omega (arith, inside, count)) in
          let c : OnHeap = there.0 in
          let news : List CellEvent = synced_in g.callers i items in
          let had = had-then before from (ops.Txg t ∷ left) h t work w.cells items stood i c end there.1 ends in
          let is_ready = ready-with before from (ops.Txg t ∷ left) h t work w.cells items stood i c end there.1 ends in
          let did = party-did h.early h.front h.since h.fits h.noted i news c end ends (h.cells i end ends) had in
          record {
            synced = c.value.history ++ news;
            rest = had.rest;
            whole = joined end.value.history c.value.history news had.rest had.whole;
            did = λ n less.
                let more : done_by n (c.value.history ++ news) ≡ done_by n c.value.history ++ done_by n news = filter-append (λ e. number_of e == n) c.value.history news in
                let both : done_by n c.value.history ++ done_by n news ≡ by_party g n i (h.front ++ h.since) ++ by_party g n i (line ∷ []) = (λ z. did n less z ++ by-synced g n i t reply work items stood.noted z) in
                let whole : by_party g n i (h.front ++ h.since) ++ by_party g n i (line ∷ []) ≡ by_party g n i (before ++ line ∷ []) =
                ap (λ (ls : List Line). by_party g n i ls ++ by_party g n i (line ∷ [])) (sym h.are) ∙ sym (by-append g n i before (line ∷ [])) in
                more ∙ (both ∙ whole);
            clean = subst (λ (ms : List Mapping). IsCleanBehind ms (c.value.history ++ news)) is_ready.opening (clean-synced w.held from.group from.next g.callers w.cells dues w.dirty i c there.1 had.sound);
            puts = all-append (IsSized (greatest_size trace (h.early ++ ops_of h.since))) c.value.history news (ready-sized trace h.early (ops_of h.since) i c.value is_ready) (synced-sized (greatest_size trace (h.early ++ ops_of h.since)) g.callers i items);
          }

  -- ---- groups

  end-line : (op : Op) (reply : Reply) (work : Work) (before : List Line) (from to : BetweenGroups P) (left : List Op) → FitsBy g (caller_of op) (record { op = op; reply = reply; work = work }) → IsPutNoted g (record { op = op; reply = reply; work = work })
      → EndsBy pools g (StoodThen trace closed) before op reply work from to → HasRoom before from (op ∷ left) → HasRoom (before ++ record { op = op; reply = reply; work = work } ∷ []) to left
  end-line (ops.Txg t) reply work before from to left fits noted ends h = has-room-synced before t reply work from to left ends h
  end-line (ops.Cap c) reply work before from to left fits noted ends h = more-lines (record { op = ops.Cap c; reply = reply; work = work } ∷ []) before from to left (refl, tt) (fits, tt) (noted, tt)
      (ap (λ (b : BetweenGroups P). b.next) ends) (ap (λ (b : BetweenGroups P). pools.size b.pool) ends) h
  end-line ops.Feed reply work before from to left fits noted ends h = absurd ends
  end-line (ops.Read n t x window) reply work before from to left fits noted ends h = absurd ends
  end-line (ops.Hold n t x) reply work before from to left fits noted ends h = absurd ends
  end-line (ops.Drop n x) reply work before from to left fits noted ends h = absurd ends
  end-line (ops.Get n t at window) reply work before from to left fits noted ends h = absurd ends
  end-line (ops.Put n t at size fill) reply work before from to left fits noted ends h = absurd ends
  end-line (ops.Patch n t at start bytes) reply work before from to left fits noted ends h = absurd ends
  end-line (ops.Pin n t at) reply work before from to left fits noted ends h = absurd ends
  end-line (ops.Unpin n at) reply work before from to left fits noted ends h = absurd ends

  end-group : (end : Option Line) (before : List Line) (from to : BetweenGroups P) (left : List Op) → AllFit g (end_lines end) → AllByRecursion (IsPutNoted g) (end_lines end) → EndsGroup pools g (StoodThen trace closed) before end from to
      → HasRoom before from (ops_of (end_lines end) ++ left) → HasRoom (lines_with_end before end) to left
  end-group None before from to left fits noted ends h = subst (λ (at : BetweenGroups P). HasRoom before at left) (sym ends) h
  end-group (Some l) before from to left fits noted ends h = end-line l.op l.reply l.work before from to left fits.0 noted.0 ends h

  with-end-all : (Q : Line → Type 0) (ls : List Line) (end : Option Line) → AllByRecursion Q (lines_with_end ls end) → AllByRecursion Q ls × AllByRecursion Q (end_lines end)
  with-end-all Q ls end all = let both = subst (AllByRecursion Q) (with-end ls end) all in (all-front Q ls (end_lines end) both, all-behind Q ls (end_lines end) both)

  all-groups : (told : (k : ℕ) → Option (List ℕ)) (gs : List GroupLines) (before : List Line) (from to : BetweenGroups P) (left : List Op) → AllInside gs → AllFit g (flat gs) → AllByRecursion (IsPutNoted g) (flat gs)
      → WorkInGroups pools g (StoodThen trace closed) told before gs from to → HasRoom before from (ops_of (flat gs) ++ left) → HasRoom (before ++ flat gs) to left
  all-groups told [] before from to left inside fits noted works h =
      subst (λ (ls : List Line). HasRoom ls to left) (sym (append-nil before)) (subst (λ (at : BetweenGroups P). HasRoom before at left) (sym works) h)
  all-groups told (group ∷ gs) before from to left inside fits noted works h =
      let worked : P = works.0 in
      let next : BetweenGroups P = works.1 in
      let mid : BetweenGroups P = between_groups worked from.group from.next in
      let whole : List Line = lines_with_end group.lines group.end in
      let ended : List Line = end_lines group.end in
      let rest : List Op = ops_of (flat gs) ++ left in
      let f = with-end-all (λ l. FitsBy g (caller_of l.op) l) group.lines group.end (all-front (λ l. FitsBy g (caller_of l.op) l) whole (flat gs) fits) in
      let s = with-end-all (IsPutNoted g) group.lines group.end (all-front (IsPutNoted g) whole (flat gs) noted) in
      let split : ops_of (whole ++ flat gs) ++ left ≡ ops_of group.lines ++ (ops_of ended ++ rest) =
      ap (λ (os : List Op). os ++ left) (map-append (λ (l : Line). l.op) whole (flat gs) ∙ ap (λ (os : List Op). os ++ ops_of (flat gs)) (ap ops_of (with-end group.lines group.end) ∙ map-append (λ (l : Line). l.op) group.lines ended))
      ∙ (append_assoc (ops_of group.lines ++ ops_of ended) (ops_of (flat gs)) left ∙ append_assoc (ops_of group.lines) (ops_of ended) rest) in
      let un = all-each (λ l. ends_group l.op ≡ false) (λ l. is_sync l.op ≡ false) group.lines (λ l in_it. inside-unsynced l.op in_it) inside.0 in
      let a = more-lines group.lines before from mid (ops_of ended ++ rest) un f.0 s.0 refl works.2.keeps.0 (subst (HasRoom before from) split h) in
      let b = end-group group.end (before ++ group.lines) mid next rest f.1 s.1 works.3 a in
      let c = all-groups told gs (lines_with_end (before ++ group.lines) group.end) next to left inside.1 (all-behind (λ l. FitsBy g (caller_of l.op) l) whole (flat gs) fits) (all-behind (IsPutNoted g) whole (flat gs) noted) works.5 b in
      let same : lines_with_end (before ++ group.lines) group.end ++ flat gs ≡ before ++ (whole ++ flat gs) =
      ap (λ (ls : List Line). ls ++ flat gs) (with-end (before ++ group.lines) group.end ∙ (append_assoc before group.lines ended ∙ ap (λ (ls : List Line). before ++ ls) (sym (with-end group.lines group.end))))
      ∙ append_assoc before whole (flat gs) in
      subst (λ (ls : List Line). HasRoom ls to left) same c

  -- ---- none stops for want of room

  not-full : (before : List Line) (t : ℕ) (left : List Op) (work : Work) (from : BetweenGroups P) (after : P) (need room : ℕ) → HasRoom before from (ops.Txg t ∷ left)
      → IsFull pools from.group from.next from.pool after g (λ cells xs Besides. StoodThen trace closed before t work cells xs) need room → ⊥
  not-full before t left work from after need room h full =
      let needs : need_of full.cells full.dues ≤ room_for trace h.early (ops_of h.since) =
      need-ready trace h.early (ops_of h.since) apart full.cells full.dues full.dirty (ready before from (ops.Txg t ∷ left) h t work full.cells [] full.turns) in
      let a = h.below in
      let b = h.room.0 in
      let c = full.need_is in
      let d = full.left_is in
      let e = full.full in
      let s = h.size in
      omega (arith, needs, a, b, c, d, e, s)

  -- groups that were done, and a sync behind them that stopped so
  pub never-together : (told : (k : ℕ) → Option (List ℕ)) (before after : P) (place : ℕ) (ls : List Line) (reached : BetweenGroups P) (t : ℕ) (left : List Op) (work : Work) (need room : ℕ) → pools.size before ≡ len
      → HaveRoom trace len place [] [] (ops_of ls ++ ops.Txg t ∷ left) → AllFit g ls → AllByRecursion (IsPutNoted g) ls
      → WorkInGroups pools g (StoodThen trace closed) told [] (groups_begun ls) (between_groups before 1 place) reached
      → IsFull pools reached.group reached.next reached.pool after g (λ cells xs Besides. StoodThen trace closed ls t work cells xs) need room → ⊥
  never-together told before after place ls reached t left work need room size has fits noted works full =
      let same : flat (groups_begun ls) ≡ ls = flat-begun ls in
      let h = has-room-first before place (ops_of ls ++ ops.Txg t ∷ left) size has in
      let h' = subst (λ (xs : List Line). HasRoom [] (between_groups before 1 place) (ops_of xs ++ ops.Txg t ∷ left)) (sym same) h in
      let done = all-groups told (groups_begun ls) [] (between_groups before 1 place) reached (ops.Txg t ∷ left) (inside-begun ls) (subst (AllFit g) (sym same) fits) (subst (AllByRecursion (IsPutNoted g)) (sym same) noted) works h' in
      not-full ls t left work reached after need room (subst (λ (xs : List Line). HasRoom xs reached (ops.Txg t ∷ left)) same done) full
