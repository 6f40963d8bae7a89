-- One caller: what its gets, patches and pins bring can be read as they are done, where the caller finds the block.
use Rattle.std.proofs.Common.{◌≡◌, ℕ, zero, suc, ◌+◌, ◌%◌, ◌<◌, ◌≤◌, ◌==◌, Bool, true, false, List, [], ◌∷◌, ◌++◌, length, map, take, Option, Some, None, refl, ap, ◌∙◌, subst, inl, inr, arith, eq-eqb}
use Rattle.std.specs.Prelude.{slice_get}
use Rattle.std.specs.List.{AllByRecursion, list_any}
use Rattle.std.proofs.lemmas.Option.{slice_get_within}
use Rattle.blk_ptr.specs.Size.{sector}
use Rattle.vdev_io.specs.declared.device.CacheDev.{Ghosts as Devices}
use Rattle.vdev_io.specs.declared.pool.Pool.{Ghosts}
use Rattle.arc_table.specs.Ended.{Ended}
use Rattle.arc_table.specs.Geometry.{IsCell}
use Rattle.dbuf_cells.specs.Laws.{is_put_of}
use Rattle.dbuf_cells.specs.Places.{cell_of}
use Rattle.dbuf_cells.specs.Turns.{OnHeap}
use Rattle.dbuf_state.specs.Oids.{oid_eq}
use Rattle.dbuf_state.specs.declared.event.CellEvent.{CellEvent}
use Rattle.dbuf_state.specs.declared.event.CellEvent.TheVariants as events
use Rattle.dbuf_state.specs.declared.oid.Oid.{Oid}
use Rattle.dbuf_state.specs.declared.state.Mapping.{Mapping}
use Rattle.dbuf_state.specs.declared.window.Window.{Window}
use Rattle.trace_text.specs.declared.op.Op.{Op}
use Rattle.trace_text.specs.declared.op.Op.TheVariants as ops
use Rattle.trace_text.specs.declared.reply.Refusal.{Refusal}
use Rattle.trace_text.specs.declared.reply.Refusal.TheVariants as refusals
use Rattle.trace_text.specs.declared.reply.Reply.{Reply}
use Rattle.trace_text.specs.declared.reply.Reply.TheVariants as replies
use Rattle.trace_text.specs.declared.report.Report.{Report}
use Rattle.trace_text.specs.declared.trace.Trace.{Trace}
use Rattle.trace_run.specs.declared.ran.Ending.TheVariants.{Whole}
use Rattle.trace_run.specs.Deeds.{events_of_cell}
use Rattle.trace_run.specs.Feeds.{FeedDone}
use Rattle.trace_run.specs.InPlace.{IsFound}
use Rattle.trace_run.specs.Lines.{caller_of, has_further, is_further}
use Rattle.trace_run.specs.Openings.{opening_map}
use Rattle.trace_run.specs.Outcome.{HasRun}
use Rattle.trace_run.specs.Restores.{found_keys}
use Rattle.trace_run.specs.callers.Together.{between_groups}
use Rattle.trace_run.specs.dbufs.ObjectAnswers.{LookedAt}
use Rattle.trace_run.specs.dbufs.Holders.{AreHolders}
use Rattle.trace_run.specs.dbufs.ObjectLines.{OnObject, on_object}
use Rattle.trace_run.specs.dbufs.ObjectReplies.{ActsAt, ActsFor, RefusesAt, RefusesWhole}
use Rattle.trace_run.specs.dbufs.Objects.{Brought, Line, Work, loads_of}
use Rattle.trace_run.specs.one_caller.InTurn.{RunsInTurn}
use Rattle.trace_run.specs.one_caller.Sequence.{AreInSequence, BetweenLines, DoesAnyLine, DoesObject, DoesOther, DoesOwn, begins_so, outline_behind}
use Rattle.trace_run.proofs.deeds.NotedCells.{noted-here}
use Rattle.trace_run.proofs.one_caller.TellLemmas.{all-map}
use Rattle.trace_run.proofs.in_place.AloneStands.{IsToldUpTo, StandsFine, lines-fine, readable-on}
use Rattle.trace_run.proofs.in_place.ObjectLines.{is-done, opened-declared}
use Rattle.trace_run.proofs.in_place.PinLines.{op-at}
use Rattle.trace_run.proofs.in_place.PutLines.{LineAt, any-first, any-left, any-right, line-at}
use Rattle.trace_run.proofs.in_place.ReadableFront.{IsReadableNote, IsThereIn, is_unread, load-fine}

-- ---- lists

get-take : (xs : List Line) (j k : ℕ) (x : Line) → j < k → slice_get xs j ≡ Some x → slice_get (take k xs) j ≡ Some x
get-take [] j k x less at = absurd (let clash : ◌≡◌ {A = Option Line} None (Some x) = at in cc)
get-take (y ∷ ys) j zero x less at = absurd (omega (arith, less))
get-take (y ∷ ys) zero (suc k) x less at = at
get-take (y ∷ ys) (suc j) (suc k) x less at = get-take ys j k x (omega (arith, less)) at

some-line : (a b : Line) → ◌≡◌ {A = Option Line} (Some a) (Some b) → a ≡ b
some-line a b is = cc

any-at : (p : Op → Bool) (xs : List Op) (k : ℕ) (x : Op) → slice_get xs k ≡ Some x → p x ≡ true → list_any p xs ≡ true
any-at p [] k x at is = absurd (let clash : ◌≡◌ {A = Option Op} None (Some x) = at in cc)
any-at p (y ∷ ys) zero x at is = let same : y ≡ x = cc in let passes : p y ≡ true = ap p same ∙ is in any-first p y ys passes
any-at p (y ∷ ys) (suc k) x at is = any-right p (y ∷ []) ys (any-at p ys k x at is)

oid-same : (at : Oid) → oid_eq at at ≡ true
oid-same at = let a = eq-eqb at.object at.object refl in let b = eq-eqb at.block at.block refl in rw a b

-- ---- a line of a sequence

module _ {P D : Type 0} (pools : Ghosts P) (devices : Devices D) (trace : Trace) where
  -- the line at a place, between those before it and those behind it
  record IsReached (ls : List Line) (k : ℕ) (l : Line) (from to : BetweenLines P D) : Type 0 where
    pub done : List FeedDone
    pub at : BetweenLines P D
    pub before : AreInSequence pools devices trace (take k ls) done from at
    pub here : List FeedDone
    pub next : BetweenLines P D
    pub does : DoesAnyLine pools devices trace (caller_of l.op) l here at next
    pub left : List Line
    pub feeds : List FeedDone
    pub behind : AreInSequence pools devices trace left feeds next to

  reached : (ls : List Line) (feeds : List FeedDone) (from to : BetweenLines P D) → AreInSequence pools devices trace ls feeds from to → (k : ℕ) (l : Line) → slice_get ls k ≡ Some l → IsReached ls k l from to
  reached [] feeds from to did k l at = absurd (let clash : ◌≡◌ {A = Option Line} None (Some l) = at in cc)
  reached (x ∷ ls) feeds from to did zero l at = record {
    done = [];
    at = from;
    before = (refl, refl);
    here = did.1;
    next = did.0;
    does = subst (λ (y : Line). DoesAnyLine pools devices trace (caller_of y.op) y did.1 from did.0) (some-line x l at) did.4;
    left = ls;
    feeds = did.2;
    behind = did.5;
  }
  reached (x ∷ ls) feeds from to did (suc k) l at =
      let r = reached ls did.2 did.0 to did.5 k l at in
      record { done = did.1 ++ r.done; at = r.at; before = (did.0, did.1, r.done, refl, did.4, r.before); here = r.here; next = r.next; does = r.does; left = r.left; feeds = r.feeds; behind = r.behind }

  -- ---- what is in a cell stays there

  module _ (i : ℕ) (is_cell : IsCell trace.config i) (p : CellEvent → Bool) where
    own-keeps : (on : Option OnObject) (l : Line) (from to : BetweenLines P D) → DoesOwn pools devices trace on l from to → list_any p (from.cells i) ≡ true → list_any p (to.cells i) ≡ true
    own-keeps None l from to does has = ap (list_any p) (does.goes_on.cells i is_cell) ∙ any-left p (from.cells i) _ has
    own-keeps (Some on) l from to does has = ap (list_any p) (does.goes_on.cells i is_cell) ∙ any-left p (from.cells i) _ has

    other-keeps : (op : Op) (reply : Reply) (work : Work) (feeds : List FeedDone) (from to : BetweenLines P D) → DoesOther pools devices trace op reply work feeds from to → list_any p (from.cells i) ≡ true → list_any p (to.cells i) ≡ true
    other-keeps ops.Feed reply work feeds from to does has = ap (list_any p) (does.goes_on.cells i is_cell) ∙ any-left p (from.cells i) _ has
    other-keeps (ops.Txg t) reply work feeds from to does has = ap (list_any p) (does.1.leaves.goes_on.cells i is_cell) ∙ any-left p (from.cells i) _ has
    other-keeps (ops.Cap c) reply work feeds from to does has = ap (list_any p) (does.1.goes_on.cells i is_cell) ∙ any-left p (from.cells i) _ has
    other-keeps (ops.Read n t x window) reply work feeds from to does has = absurd does
    other-keeps (ops.Hold n t x) reply work feeds from to does has = absurd does
    other-keeps (ops.Drop n x) reply work feeds from to does has = absurd does
    other-keeps (ops.Get n t at window) reply work feeds from to does has = absurd does
    other-keeps (ops.Put n t at size fill) reply work feeds from to does has = absurd does
    other-keeps (ops.Patch n t at start bytes) reply work feeds from to does has = absurd does
    other-keeps (ops.Pin n t at) reply work feeds from to does has = absurd does
    other-keeps (ops.Unpin n at) reply work feeds from to does has = absurd does

    line-keeps : (by : Option ℕ) (l : Line) (feeds : List FeedDone) (from to : BetweenLines P D) → DoesAnyLine pools devices trace by l feeds from to → list_any p (from.cells i) ≡ true → list_any p (to.cells i) ≡ true
    line-keeps (Some n) l feeds from to does has = own-keeps (on_object l.op) l from to does.1.did has
    line-keeps None l feeds from to does has = other-keeps l.op l.reply l.work feeds from to does has

    lines-keep : (ls : List Line) (feeds : List FeedDone) (from to : BetweenLines P D) → AreInSequence pools devices trace ls feeds from to → list_any p (from.cells i) ≡ true → list_any p (to.cells i) ≡ true
    lines-keep [] feeds from to did has = ap (λ (x : BetweenLines P D). list_any p (x.cells i)) did.1 ∙ has
    lines-keep (l ∷ ls) feeds from to did has = lines-keep ls did.2 did.0 to did.5 (line-keeps (caller_of l.op) l did.1 from did.0 did.4 has)

  -- a whole write stands in its cell behind lines of which it is one
  module _ (m t : ℕ) (at : Oid) (size fill : ℕ) (is_cell : IsCell trace.config (cell_of trace.config.cells at)) where
    abbrev i : ℕ
    i = cell_of trace.config.cells at

    put-line : (reply : Reply) (work : Work) (from to : BetweenLines P D) → DoesObject pools devices trace at 0 (record { op = ops.Put m t at size fill; reply = reply; work = work }) from to → list_any (is_put_of at) (to.cells i) ≡ true
    put-line reply work from to does =
        let done : reply ≡ replies.Done =
        is-done (pools.size from.outside.pool) (pools.told from.outside.pool) trace.config.dbuf_bytes (opening_map trace i) (from.cells i) work.brought reply does.answer in
        let AreHeld : (Oid → Bool) → Type 0 = AreHolders (from.cells i) in
        let acts : ActsAt trace.config 0 AreHeld (record { at = at; event = events.Put m at size fill }) (outline_behind trace from.cells i) work =
        subst (λ (x : Reply). ActsFor trace.config 0 AreHeld (Some (record { at = at; event = events.Put m at size fill })) (outline_behind trace from.cells i) work x) done does.acts in
        let all : List CellEvent = loads_of 0 at work.brought ++ events.Put m at size fill ∷ map (events.Evict 0) acts.evictions in
        let is : events_of_cell i work.noted ≡ all = ap (events_of_cell i) acts.noted ∙ noted-here i all in
        ap (list_any (is_put_of at)) (does.goes_on.cells i is_cell)
        ∙ any-right (is_put_of at) (from.cells i) _ (ap (list_any (is_put_of at)) is ∙ any-right (is_put_of at) (loads_of 0 at work.brought) _ (any-first (is_put_of at) (events.Put m at size fill) (map (events.Evict 0) acts.evictions) (oid-same at)))

    put-stands : (ls : List Line) (feeds : List FeedDone) (from to : BetweenLines P D) → AreInSequence pools devices trace ls feeds from to → (j : ℕ) (reply : Reply) (work : Work)
        → slice_get ls j ≡ Some (record { op = ops.Put m t at size fill; reply = reply; work = work }) → list_any (is_put_of at) (to.cells i) ≡ true
    put-stands ls feeds from to did j reply work there =
        let r = reached ls feeds from to did j (record { op = ops.Put m t at size fill; reply = reply; work = work }) there in
        lines-keep i is_cell (is_put_of at) r.left r.feeds r.next to r.behind (put-line reply work r.at r.next r.does.1.did)

-- ---- what can be read is not refused so

note-of : (len end : ℕ) (now : List ℕ) (e : CellEvent) → IsToldUpTo len end now e → IsReadableNote len now e
note-of len end now (events.Synced n at ptr held) told = told.0
note-of len end now (events.Get n at) told = tt
note-of len end now (events.Put n at size fill) told = tt
note-of len end now (events.Patch n at from bytes) told = tt
note-of len end now (events.Pin n at) told = tt
note-of len end now (events.Unpin n at) told = tt
note-of len end now (events.Load n at held) told = tt
note-of len end now (events.Evict n at) told = tt
note-of len end now (events.End n) told = tt

module _ (len : ℕ) (now : List ℕ) (at : Oid) (limit : ℕ) (opening : List Mapping) (es : List CellEvent) (notes : AllByRecursion (IsReadableNote len now) es) (there : IsThereIn len now at opening es) (brought : Brought) where
  whole-fine : (refusal : Refusal) → RefusesWhole len (Some now) limit opening es brought at refusal → is_unread refusal ≡ true → ⊥
  whole-fine (refusals.Key why) is un = load-fine len now at limit opening es notes there brought 0 (refusals.Key why) is un
  whole-fine (refusals.Mismatch found) is un = load-fine len now at limit opening es notes there brought 0 (refusals.Mismatch found) is un
  whole-fine (refusals.NoBlock named) is un = let clash : false ≡ true = un in cc
  whole-fine (refusals.Range end size) is un = absurd is
  whole-fine refusals.PoolFault is un = let clash : false ≡ true = un in cc
  whole-fine (refusals.NoHold block) is un = absurd is
  whole-fine (refusals.NoPin named) is un = absurd is
  whole-fine refusals.NoMemory is un = absurd is

-- ---- the run

module _ {P D : Type 0} (pool : Ghosts P) (told_len : (p : P) (bytes : List ℕ) → pool.told p ≡ Some bytes → length bytes ≡ pool.size p) (device : Devices D) (before after : P) (lent back : Option D) (trace : Trace) (closed : Ended OnHeap)
    (report : Report) (image : List ℕ) (r : HasRun pool device before after lent back trace Whole closed report) (tells : pool.told before ≡ Some image) (one : trace.config.callers ≡ 1) where
  abbrev len : ℕ
  len = pool.size before

  abbrev begins : BetweenLines P D
  begins = begins_so trace.config (found_keys report.rebuilt) (between_groups before 1 r.run.place) lent

  abbrev StandsAlone : BetweenLines P D → Type 0
  StandsAlone = StandsFine pool device told_len trace len r.run.place image

  place-fine : (r.run.place % sector ≡ 0) × (r.run.place ≤ len)
  place-fine = elim r.run.first.least [
    | inl none ↦ (omega (arith, none), omega (arith, none))
    | inr end ↦
        let a = end.3.formed.aligned in
        let b = end.3.formed.sized.0 in
        let c : end.1.key.offset + end.1.key.size ≤ len = end.3.inside in
        let is : r.run.place ≡ end.1.key.offset + end.1.key.size = end.4 in
        (omega (arith, a, b, is), omega (arith, c, is))
  ]

  begins-fine : StandsAlone begins
  begins-fine = record {
    now = image;
    told = tells;
    size = refl;
    front = refl;
    behind = omega arith;
    inside = place-fine.1;
    aligned = place-fine.0;
    born = omega arith;
    notes = λ i is_cell. tt;
  }

  -- what a line on an object finds
  record FindsReadable (at : Oid) (tick : ℕ) (l : Line) : Type 0 where
    pub from : BetweenLines P D
    pub to : BetweenLines P D
    pub does : DoesObject pool device trace at tick l from to
    pub now : List ℕ
    pub told : pool.told from.outside.pool ≡ Some now
    pub size : pool.size from.outside.pool ≡ len
    pub notes : AllByRecursion (IsReadableNote len now) (from.cells (cell_of trace.config.cells at))
    pub there : IsThereIn len now at (opening_map trace (cell_of trace.config.cells at)) (from.cells (cell_of trace.config.cells at))

  module _ (k n : ℕ) (at : Oid) (tick : ℕ) (l : Line) (there : slice_get r.work.lines k ≡ Some l) (his : caller_of l.op ≡ Some n) (is_on : on_object l.op ≡ Some (record { at = at; tick = tick })) (is_cell : IsCell trace.config (cell_of trace.config.cells at))
      (found : IsFound len image trace k n at) (in_turn : RunsInTurn pool device before after lent back r.run.place trace Whole r.work r.run.explained.owner closed.cells report) where
    here : IsReached pool device trace r.work.lines k l begins in_turn.reached
    here = reached pool device trace r.work.lines r.work.feeds begins in_turn.reached in_turn.lines k l there

    fine : StandsAlone here.at
    fine = lines-fine pool device told_len trace len r.run.place image (take k r.work.lines) here.done begins here.at here.before begins-fine

    is-there : IsThereIn len fine.now at (opening_map trace (cell_of trace.config.cells at)) (here.at.cells (cell_of trace.config.cells at))
    is-there = elim found [
      | inl put ↦
          let w : LineAt (ops.Put put.writer put.tick at put.size put.fill) put.place report.replies r.work.lines =
          line-at trace.ops report.replies r.work.lines put.place (ops.Put put.writer put.tick at put.size put.fill) r.did.lines put.line in
          inl (put-stands pool device trace put.writer put.tick at put.size put.fill is_cell (take k r.work.lines) here.done begins here.at here.before put.place w.reply w.work
          (get-take r.work.lines put.place k (record { op = ops.Put put.writer put.tick at put.size put.fill; reply = w.reply; work = w.work }) put.before w.there))
      | inr opens ↦
          let declared = opened-declared trace.config.cells (cell_of trace.config.cells at) trace.blocks at opens.0 trace.objects opens.1 in
          let ends = r.run.first.behind declared.0 opens.0 declared.1 opens.2.valid in
          inr (opens.0, opens.1, readable-on len r.run.place image fine.now opens.0 fine.front ends opens.2)
    ]

    finds : FindsReadable at tick l
    finds =
        let own = subst (λ (c : Option ℕ). DoesAnyLine pool device trace c l here.here here.at here.next) his here.does in
        record {
          from = here.at;
          to = here.next;
          does = subst (λ (o : Option OnObject). DoesOwn pool device trace o l here.at here.next) is_on own.1.did;
          now = fine.now;
          told = fine.told;
          size = fine.size;
          notes = all-map (IsToldUpTo len here.at.outside.next fine.now) (IsReadableNote len fine.now) (here.at.cells (cell_of trace.config.cells at)) (note-of len here.at.outside.next fine.now) (fine.notes (cell_of trace.config.cells at) is_cell);
          there = is-there;
        }

  -- ---- by the line

  further : (k : ℕ) (l : Line) → slice_get r.work.lines k ≡ Some l → is_further l.op ≡ true → has_further trace.ops ≡ true
  further k l there is = any-at is_further trace.ops k l.op (op-at trace.ops report.replies r.work.lines r.did.lines k l there).0 is

  cell-of : (k n : ℕ) (at : Oid) (l : Line) → LookedAt trace.config len r.run.told closed.cells n r.work.lines r.run.objects.found k at l → IsCell trace.config (cell_of trace.config.cells at)
  cell-of k n at l looked = subst (λ (x : ℕ). cell_of trace.config.cells at < x) r.cells.count (slice_get_within closed.cells (cell_of trace.config.cells at) looked.cell looked.there)

  pub get-read : (k n t : ℕ) (at : Oid) (w : Window) (refusal : Refusal) (work : Work) → slice_get r.work.lines k ≡ Some (record { op = ops.Get n t at w; reply = replies.Refused refusal; work = work }) → IsFound len image trace k n at
      → is_unread refusal ≡ true → ⊥
  get-read k n t at w refusal work there found un =
      let l : Line = record { op = ops.Get n t at w; reply = replies.Refused refusal; work = work } in
      let his : (n == n) ≡ true = eq-eqb n n refl in
      let f = finds k n at t l there refl refl (cell-of k n at l (r.run.objects.each k n l there his)) found (r.run.in_turn one (further k l there refl)) in
      let i : ℕ = cell_of trace.config.cells at in
      load-fine len f.now at trace.config.dbuf_bytes (opening_map trace i) (f.from.cells i) f.notes f.there work.brought (w.at + w.len) refusal
      (subst (λ (x : ℕ × Option (List ℕ)). RefusesAt x.0 x.1 trace.config.dbuf_bytes (opening_map trace i) (f.from.cells i) work.brought at (w.at + w.len) refusal) (λ z. (f.size z, f.told z)) f.does.answer) un

  pub patch-read : (k n t : ℕ) (at : Oid) (from : ℕ) (bytes : List ℕ) (refusal : Refusal) (work : Work) → slice_get r.work.lines k ≡ Some (record { op = ops.Patch n t at from bytes; reply = replies.Refused refusal; work = work })
      → IsFound len image trace k n at → is_unread refusal ≡ true → ⊥
  patch-read k n t at from bytes refusal work there found un =
      let l : Line = record { op = ops.Patch n t at from bytes; reply = replies.Refused refusal; work = work } in
      let his : (n == n) ≡ true = eq-eqb n n refl in
      let f = finds k n at t l there refl refl (cell-of k n at l (r.run.objects.each k n l there his)) found (r.run.in_turn one (further k l there refl)) in
      let i : ℕ = cell_of trace.config.cells at in
      load-fine len f.now at trace.config.dbuf_bytes (opening_map trace i) (f.from.cells i) f.notes f.there work.brought (from + length bytes) refusal
      (subst (λ (x : ℕ × Option (List ℕ)). RefusesAt x.0 x.1 trace.config.dbuf_bytes (opening_map trace i) (f.from.cells i) work.brought at (from + length bytes) refusal) (λ z. (f.size z, f.told z)) f.does.answer) un

  pub pin-read : (k n t : ℕ) (at : Oid) (refusal : Refusal) (work : Work) → slice_get r.work.lines k ≡ Some (record { op = ops.Pin n t at; reply = replies.Refused refusal; work = work }) → IsFound len image trace k n at
      → is_unread refusal ≡ true → ⊥
  pin-read k n t at refusal work there found un =
      let l : Line = record { op = ops.Pin n t at; reply = replies.Refused refusal; work = work } in
      let his : (n == n) ≡ true = eq-eqb n n refl in
      let f = finds k n at t l there refl refl (cell-of k n at l (r.run.objects.each k n l there his)) found (r.run.in_turn one (further k l there refl)) in
      let i : ℕ = cell_of trace.config.cells at in
      whole-fine len f.now at trace.config.dbuf_bytes (opening_map trace i) (f.from.cells i) f.notes f.there work.brought refusal
      (subst (λ (x : ℕ × Option (List ℕ)). RefusesWhole x.0 x.1 trace.config.dbuf_bytes (opening_map trace i) (f.from.cells i) work.brought at refusal) (λ z. (f.size z, f.told z)) f.does.answer) un
