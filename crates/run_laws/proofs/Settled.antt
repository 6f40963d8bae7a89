-- Between two lines of a run of one caller no eviction is due in any cell: each cell's history goes on from there with an event that is no eviction, and is legal. And each of the caller's lines has its own work.
use Rattle.std.proofs.Common.{◌≡◌, ℕ, zero, suc, ◌==◌, Bool, true, false, not, List, [], ◌∷◌, ◌++◌, length, map, take, Option, Some, None, inl, inr, refl, sym, ap, subst, ◌∙◌, arith, append_assoc}
use Rattle.std.proofs.lemmas.List.{append-nil}
use Rattle.std.specs.List.{AllByRecursion}
use Rattle.std.specs.Prelude.{slice_get}
use mathlib.Core.Logic.{dite}
use native.Mathlib.Decide.{ℕ_discrete}
use Rattle.std.proofs.lemmas.Bool.{cases_Bool}
use Rattle.arc_core.specs.declared.config.Config.{Config}
use Rattle.arc_core.specs.declared.event.Event.{Event}
use Rattle.arc_table.specs.Geometry.{IsCell}
use Rattle.dbuf_cells.specs.Places.{cell_of}
use Rattle.dbuf_state.specs.History.{Leads}
use Rattle.dbuf_state.specs.Objects.{Evicting, IsLegal, Must, PlainCell, evicting_after, is_due, opening_cell}
use Rattle.dbuf_state.specs.Outline.{Outline}
use Rattle.dbuf_state.specs.declared.event.CellEvent.{CellEvent}
use Rattle.dbuf_state.specs.declared.event.CellEvent.TheVariants as events
use Rattle.dbuf_state.specs.declared.oid.Oid.{Oid}
use Rattle.dbuf_state.specs.declared.state.Mapping.{Mapping}
use Rattle.dbuf_state.proofs.IndexLemmas.{and-parts}
use Rattle.vdev_io.specs.declared.device.CacheDev.{Ghosts as Devices}
use Rattle.vdev_io.specs.declared.pool.Pool.{Ghosts}
use Rattle.trace_text.specs.Grammar.{IsFormed}
use Rattle.trace_text.specs.declared.op.Op.{Op}
use Rattle.trace_text.specs.declared.op.Op.TheVariants as ops
use Rattle.trace_text.specs.declared.reply.Reply.{Reply}
use Rattle.trace_text.specs.declared.reply.Reply.TheVariants as replies
use Rattle.trace_text.specs.declared.trace.Trace.{Trace}
use Rattle.trace_run.specs.declared.ran.Ending.{Ending}
use Rattle.trace_run.specs.declared.ran.Ending.TheVariants.{Fork, Full, Sync, Whole}
use Rattle.trace_run.specs.Deeds.{Noted, events_of_cell, noted_in}
use Rattle.trace_run.specs.Feeds.{FeedDone}
use Rattle.trace_run.specs.Lines.{caller_of}
use Rattle.trace_run.specs.Openings.{opening_map}
use Rattle.trace_run.specs.RunWork.{AllFit, FitsBy, FitsFeeder, IsSyncWork, IsSyncedNote}
use Rattle.trace_run.specs.callers.Together.{answered_ops}
use Rattle.trace_run.specs.callers.WorkLines.{IsWorkOf, NotesFor, NotesLine}
use Rattle.trace_run.specs.dbufs.ObjectLines.{OnObject, on_object}
use Rattle.trace_run.specs.dbufs.ObjectReplies.{ActsAt}
use Rattle.trace_run.specs.dbufs.Objects.{Brought, Line, Loaded, NotesOwn, Nothing, OwnEvent, Refused, Work, loads_of, no_work, own_event}
use Rattle.trace_run.specs.one_caller.Sequence.{AreInSequence, BetweenLines, DoesAnyLine, DoesOther, DoesOwn, EndsThere, GoesOn}
use Rattle.trace_run.proofs.TraceLines.{all-callers}
use Rattle.trace_run.proofs.deeds.NotedCells.{noted-else, noted-here}
use Rattle.trace_run.proofs.in_place.PinLines.{op-at}
use Rattle.trace_run.proofs.in_place.RoomSyncs.{there-cell}
use Rattle.run_laws.specs.Alike.{OneRun, begun}
use Rattle.run_laws.proofs.Due.{evictions-behind, parted}
use Rattle.run_laws.proofs.Facts.{AreSettled, IsSettled, OfEachLine, is_eviction}

-- ---- what goes on with no eviction

-- an event that is no eviction is legal only where none is due
not-due : (c : PlainCell) (e : CellEvent) → is_eviction e ≡ false → IsLegal c e → not (is_due c) ≡ true
not-due c (events.Get n at) un legal = (and-parts (not (is_due c)) _ legal).0
not-due c (events.Put n at size fill) un legal = legal
not-due c (events.Patch n at from bytes) un legal = (and-parts (not (is_due c)) _ legal).0
not-due c (events.Pin n at) un legal = (and-parts (not (is_due c)) _ legal).0
not-due c (events.Unpin n at) un legal = (and-parts (not (is_due c)) _ legal).0
not-due c (events.Load n at keeps) un legal = (and-parts (not (is_due c)) _ legal).0
not-due c (events.Evict n at) un legal = absurd (let clash : true ≡ false = un in cc)
not-due c (events.Synced n at ptr keeps) un legal = legal.0
not-due c (events.End n) un legal = legal

-- these events are the front of a legal history, which goes on with one that is no eviction
pub record GoesOnLegal (limit : ℕ) (opening : List Mapping) (es : List CellEvent) : Type 0 where
  pub next : CellEvent
  pub later : List CellEvent
  pub stays : is_eviction next ≡ false
  pub bases : List (List ℕ)
  pub end : PlainCell
  pub leads : Leads (opening_cell limit opening) (es ++ next ∷ later) bases end

pub settled-front : (limit : ℕ) (opening : List Mapping) (es : List CellEvent) → GoesOnLegal limit opening es → IsSettled limit opening es
settled-front limit opening es g =
    let p = parted (opening_cell limit opening) g.end es (g.next ∷ g.later) g.bases g.leads in
    record { bases = p.bases; state = p.state; leads = p.before; rests = not-due p.state g.next g.stays p.behind.0 }

-- the first of these, where there is one, is no eviction
abbrev pub BeginsAnew : List CellEvent → Type 0
BeginsAnew [] = Unit {0}
BeginsAnew (e ∷ es) = is_eviction e ≡ false

-- so it is of what stood before such events
legal-before : (limit : ℕ) (opening : List Mapping) (es news now : List CellEvent) → now ≡ es ++ news → BeginsAnew news → GoesOnLegal limit opening now → GoesOnLegal limit opening es
legal-before limit opening es [] now is anew g = subst (GoesOnLegal limit opening) (is ∙ append-nil es) g
legal-before limit opening es (e ∷ news) now is anew g = record {
  next = e;
  later = news ++ g.next ∷ g.later;
  stays = anew;
  bases = g.bases;
  end = g.end;
  leads = subst (λ (l : List CellEvent). Leads (opening_cell limit opening) l g.bases g.end) (ap (λ (l : List CellEvent). l ++ g.next ∷ g.later) is ∙ append_assoc es (e ∷ news) (g.next ∷ g.later)) g.leads;
}

-- ---- what a line notes begins with no eviction

cell-anew : (i j : ℕ) (es : List CellEvent) → BeginsAnew es → BeginsAnew (events_of_cell j (noted_in i es))
cell-anew i j es anew = dite (ℕ_discrete i j)
    (λ same. subst (λ (k : ℕ). BeginsAnew (events_of_cell k (noted_in i es))) same (subst BeginsAnew (sym (noted-here i es)) anew))
    (λ differs. subst BeginsAnew (sym (noted-else i j es differs)) tt)

loads-anew : (n : ℕ) (at : Oid) (brought : Brought) (e : CellEvent) (es : List CellEvent) → is_eviction e ≡ false → BeginsAnew (loads_of n at brought ++ e ∷ es)
loads-anew n at Nothing e es stays = stays
loads-anew n at (Loaded ptr from) e es stays = refl
loads-anew n at (Refused ptr) e es stays = stays

-- of each cell
abbrev NotesAnew : Work → Type 0
NotesAnew work = (i : ℕ) → BeginsAnew (events_of_cell i work.noted)

own-anew : (g : Config) (n : ℕ) (own : OwnEvent) (work : Work) → is_eviction own.event ≡ false → NotesOwn g n own work → NotesAnew work
own-anew g n own work stays notes i =
    subst (λ (ns : List Noted). BeginsAnew (events_of_cell i ns)) (sym notes.noted) (cell-anew (cell_of g.cells own.at) i _ (loads-anew n own.at work.brought own.event (map (events.Evict n) notes.evictions) stays))

nothing-anew : (work : Work) → work.noted ≡ [] → NotesAnew work
nothing-anew work none i = subst (λ (ns : List Noted). BeginsAnew (events_of_cell i ns)) (sym none) tt

line-anew : (g : Config) (n : ℕ) (own : OwnEvent) (work : Work) (reply : Reply) → is_eviction own.event ≡ false → NotesLine g n own work reply → NotesAnew work
line-anew g n own work (replies.Got size shown) stays notes = own-anew g n own work stays notes
line-anew g n own work replies.Done stays notes = own-anew g n own work stays notes
line-anew g n own work (replies.Refused refusal) stays notes = nothing-anew work notes.0
line-anew g n own work (replies.Read served digest shown) stays notes = absurd notes
line-anew g n own work (replies.Kept served) stays notes = absurd notes
line-anew g n own work replies.Dropped stays notes = absurd notes
line-anew g n own work (replies.Fed report) stays notes = absurd notes
line-anew g n own work replies.FedNone stays notes = absurd notes
line-anew g n own work (replies.Synced group blocks bytes) stays notes = absurd notes
line-anew g n own work (replies.Capped c) stays notes = absurd notes

plain-anew : (work : Work) → work ≡ no_work → NotesAnew work
plain-anew work none = nothing-anew work (ap (λ (w : Work). w.noted) none)

op-anew : (g : Config) (n : ℕ) (op : Op) (work : Work) (reply : Reply) → NotesFor g n (own_event op) work reply → NotesAnew work
op-anew g n (ops.Get m t at w) work reply notes = line-anew g n (record { at = at; event = events.Get m at }) work reply refl notes
op-anew g n (ops.Put m t at size fill) work reply notes = line-anew g n (record { at = at; event = events.Put m at size fill }) work reply refl notes
op-anew g n (ops.Patch m t at from bytes) work reply notes = line-anew g n (record { at = at; event = events.Patch m at from bytes }) work reply refl notes
op-anew g n (ops.Pin m t at) work reply notes = line-anew g n (record { at = at; event = events.Pin m at }) work reply refl notes
op-anew g n (ops.Unpin m at) work reply notes = line-anew g n (record { at = at; event = events.Unpin m at }) work reply refl notes
op-anew g n (ops.Read m t x window) work reply notes = plain-anew work notes
op-anew g n (ops.Hold m t x) work reply notes = plain-anew work notes
op-anew g n (ops.Drop m x) work reply notes = plain-anew work notes
op-anew g n ops.Feed work reply notes = plain-anew work notes
op-anew g n (ops.Txg t) work reply notes = plain-anew work notes
op-anew g n (ops.Cap c) work reply notes = plain-anew work notes

synced-anew : (g : Config) (i : ℕ) (ns : List Noted) → AllByRecursion (IsSyncedNote g) ns → BeginsAnew (events_of_cell i ns)
synced-anew g i [] all = tt
synced-anew g i (note ∷ ns) all = elim (cases_Bool (note.cell == i)) [
  | inl here ↦ rw here (ap is_eviction all.0.is)
  | inr other ↦ rw other (synced-anew g i ns all.1)
]

feeder-anew : (g : Config) (op : Op) (work : Work) → FitsFeeder g op work → NotesAnew work
feeder-anew g (ops.Txg t) work fits = λ i. synced-anew g i work.noted fits.synced
feeder-anew g (ops.Cap c) work fits = plain-anew work fits
feeder-anew g ops.Feed work fits = plain-anew work fits
feeder-anew g (ops.Read n t x window) work fits = absurd fits
feeder-anew g (ops.Hold n t x) work fits = absurd fits
feeder-anew g (ops.Drop n x) work fits = absurd fits
feeder-anew g (ops.Get n t at window) work fits = absurd fits
feeder-anew g (ops.Put n t at size fill) work fits = absurd fits
feeder-anew g (ops.Patch n t at from bytes) work fits = absurd fits
feeder-anew g (ops.Pin n t at) work fits = absurd fits
feeder-anew g (ops.Unpin n at) work fits = absurd fits

fits-anew : (g : Config) (by : Option ℕ) (l : Line) → FitsBy g by l → NotesAnew l.work
fits-anew g (Some n) l fits = op-anew g n l.op l.work l.reply fits.notes
fits-anew g None l fits = feeder-anew g l.op l.work fits

-- ---- lines in sequence

module _ {P D : Type 0} (trace : Trace) where
  -- none is due before the line, nor behind it
  abbrev pub StandsSettled : Line → (from to : BetweenLines P D) → Type 0
  StandsSettled l from to = AreSettled trace from.cells × AreSettled trace to.cells

  -- the work of a caller's line is the one caller's
  abbrev pub FitsOwn : Line → (from to : BetweenLines P D) → Type 0
  FitsOwn l from to = (n : ℕ) → caller_of l.op ≡ Some n → IsWorkOf trace.config 0 l

module _ {P D : Type 0} (pools : Ghosts P) (devices : Devices D) (trace : Trace) where
  -- what a line notes of a cell is all that it does to it
  abbrev pub NotesAll : (work : Work) (from to : BetweenLines P D) → Type 0
  NotesAll work from to = (i : ℕ) → IsCell trace.config i → to.cells i ≡ from.cells i ++ events_of_cell i work.noted

  none-notes : (work : Work) (from to : BetweenLines P D) (es : ℕ → List Event) → work ≡ no_work → GoesOn trace.config es [] from to → NotesAll work from to
  none-notes work from to es none goes i is_cell = goes.cells i is_cell ∙ ap (λ (x : Work). from.cells i ++ events_of_cell i x.noted) (sym none)

  own-notes : (on : Option OnObject) (l : Line) (from to : BetweenLines P D) → DoesOwn pools devices trace on l from to → NotesAll l.work from to
  own-notes None l from to does = none-notes l.work from to _ does.work does.goes_on
  own-notes (Some on) l from to does = does.goes_on.cells

  other-notes : (op : Op) (reply : Reply) (work : Work) (feeds : List FeedDone) (from to : BetweenLines P D) → FitsFeeder trace.config op work → DoesOther pools devices trace op reply work feeds from to → NotesAll work from to
  other-notes ops.Feed reply work feeds from to fits does = none-notes work from to _ fits does.goes_on
  other-notes (ops.Txg t) reply work feeds from to fits does = does.1.leaves.goes_on.cells
  other-notes (ops.Cap c) reply work feeds from to fits does = none-notes work from to _ fits does.1.goes_on
  other-notes (ops.Read n t x window) reply work feeds from to fits does = absurd does
  other-notes (ops.Hold n t x) reply work feeds from to fits does = absurd does
  other-notes (ops.Drop n x) reply work feeds from to fits does = absurd does
  other-notes (ops.Get n t at window) reply work feeds from to fits does = absurd does
  other-notes (ops.Put n t at size fill) reply work feeds from to fits does = absurd does
  other-notes (ops.Patch n t at start bytes) reply work feeds from to fits does = absurd does
  other-notes (ops.Pin n t at) reply work feeds from to fits does = absurd does
  other-notes (ops.Unpin n at) reply work feeds from to fits does = absurd does

  pub line-notes : (by : Option ℕ) (l : Line) (feeds : List FeedDone) (from to : BetweenLines P D) → FitsBy trace.config by l → DoesAnyLine pools devices trace by l feeds from to → NotesAll l.work from to
  line-notes (Some n) l feeds from to fits does = own-notes (on_object l.op) l from to does.1.did
  line-notes None l feeds from to fits does = other-notes l.op l.reply l.work feeds from to fits does

  -- each cell's history is legal, and goes on with no eviction
  abbrev AreGoingOn : (cells : ℕ → List CellEvent) → Type 0
  AreGoingOn cells = (i : ℕ) → IsCell trace.config i → GoesOnLegal trace.config.dbuf_bytes (opening_map trace i) (cells i)

  going-before : (work : Work) (from to : BetweenLines P D) → NotesAnew work → NotesAll work from to → AreGoingOn to.cells → AreGoingOn from.cells
  going-before work from to anew notes going i is_cell =
      legal-before trace.config.dbuf_bytes (opening_map trace i) (from.cells i) (events_of_cell i work.noted) (to.cells i) (notes i is_cell) (anew i) (going i is_cell)

  going-settled : (cells : ℕ → List CellEvent) → AreGoingOn cells → AreSettled trace cells
  going-settled cells going i is_cell = settled-front trace.config.dbuf_bytes (opening_map trace i) (cells i) (going i is_cell)

  record AreSettledLines (ls : List Line) (feeds : List FeedDone) (from to : BetweenLines P D) (did : AreInSequence pools devices trace ls feeds from to) : Type 0 where
    pub going : AreGoingOn from.cells
    pub each : OfEachLine pools devices trace (StandsSettled trace) ls feeds from to did

  all-settled : (ls : List Line) (feeds : List FeedDone) (from to : BetweenLines P D) (did : AreInSequence pools devices trace ls feeds from to) → AllFit trace.config ls → AreGoingOn to.cells → AreSettledLines ls feeds from to did
  all-settled [] feeds from to did fits going = record { going = subst (λ (x : BetweenLines P D). AreGoingOn x.cells) did.1 going; each = tt }
  all-settled (l ∷ ls) feeds from to did fits going =
      let next : BetweenLines P D = did.0 in
      let rest = all-settled ls did.2 next to did.5 fits.1 going in
      let before : AreGoingOn from.cells = going-before l.work from next (fits-anew trace.config (caller_of l.op) l fits.0) (line-notes (caller_of l.op) l did.1 from next fits.0 did.4) rest.going in
      record { going = before; each = ((going-settled from.cells before, going-settled next.cells rest.going), rest.each) }

  -- ---- behind them

  ended-going : (replies : List Reply) (work : Work) (ending : Ending) (at : BetweenLines P D) (after : P) (to : BetweenLines P D) → IsSyncWork trace.config work → EndsThere pools devices trace replies work ending at after to
      → AreGoingOn to.cells → AreGoingOn at.cells
  ended-going replies work Whole at after to fits ends going = subst (λ (x : BetweenLines P D). AreGoingOn x.cells) ends.2 going
  ended-going replies work Fork at after to fits ends going = absurd ends
  ended-going replies work Sync at after to fits ends going = going-before work at to (λ i. synced-anew trace.config i work.noted fits.synced) ends.leaves.goes_on.cells going
  ended-going replies work (Full need left) at after to fits ends going = going-before work at to (λ i. synced-anew trace.config i work.noted fits.synced) ends.leaves.goes_on.cells going

  module _ (run : OneRun pools devices trace) where
    last-going : AreGoingOn run.in_turn.last_line.cells
    last-going i is_cell =
        let c = there-cell run.closed.cells i (let count = run.run.cells.count in omega (arith, is_cell, count)) in
        let is = run.run.cells.each i c.0 c.1 in
        let told : c.0.value.history ≡ run.in_turn.last_line.cells i ++ events.End trace.config.callers ∷ [] = run.in_turn.closes.cells i c.0 c.1 in
        record {
          next = events.End trace.config.callers;
          later = [];
          stays = refl;
          bases = is.bases;
          end = is.end;
          leads = subst (λ (x : ℕ × List Mapping × List CellEvent). Leads (opening_cell x.0 x.1) x.2 is.bases is.end) (λ k. (is.limit k, is.opening k, told k)) is.legal.legal;
        }

    reached-going : AreGoingOn run.in_turn.reached.cells
    reached-going = ended-going run.report.replies run.run.work.stopped run.ending run.in_turn.reached run.after run.in_turn.last_line run.run.did.stopped run.in_turn.ended last-going

    lines-going : AreSettledLines run.run.work.lines run.run.work.feeds (begun pools devices trace run) run.in_turn.reached run.in_turn.lines
    lines-going = all-settled run.run.work.lines run.run.work.feeds (begun pools devices trace run) run.in_turn.reached run.in_turn.lines run.run.did.fits reached-going

    -- at each line of the run
    pub settled-lines : OfEachLine pools devices trace (StandsSettled trace) run.run.work.lines run.run.work.feeds (begun pools devices trace run) run.in_turn.reached run.in_turn.lines
    settled-lines = lines-going.each

    -- as it began, behind all lines, and behind a sync that stopped
    pub settled-first : AreSettled trace (begun pools devices trace run).cells
    settled-first = going-settled (begun pools devices trace run).cells lines-going.going

    pub settled-reached : AreSettled trace run.in_turn.reached.cells
    settled-reached = going-settled run.in_turn.reached.cells reached-going

    pub settled-last : AreSettled trace run.in_turn.last_line.cells
    settled-last = going-settled run.in_turn.last_line.cells last-going

-- ---- the caller's work is its own

get-taken : (n : ℕ) (xs : List Op) (k : ℕ) (x : Op) → slice_get (take n xs) k ≡ Some x → slice_get xs k ≡ Some x
get-taken zero xs k x at = absurd (let clash : ◌≡◌ {A = Option Op} None (Some x) = at in cc)
get-taken (suc n) [] k x at = at
get-taken (suc n) (y ∷ ys) zero x at = at
get-taken (suc n) (y ∷ ys) (suc k) x at = get-taken n ys k x at

-- an operation that was answered is the trace's
answered-at : (trace : Trace) (ending : Ending) (rs : List Reply) (k : ℕ) (x : Op) → slice_get (answered_ops trace ending rs) k ≡ Some x → slice_get trace.ops k ≡ Some x
answered-at trace Whole rs k x at = at
answered-at trace Fork rs k x at = get-taken (length rs) trace.ops k x at
answered-at trace Sync rs k x at = get-taken (length rs) trace.ops k x at
answered-at trace (Full need left) rs k x at = get-taken (length rs) trace.ops k x at

module _ {P D : Type 0} (pools : Ghosts P) (devices : Devices D) (trace : Trace) where
  all-fit : (ls : List Line) (feeds : List FeedDone) (from to : BetweenLines P D) (did : AreInSequence pools devices trace ls feeds from to) → AllFit trace.config ls
      → ((k : ℕ) (l : Line) → slice_get ls k ≡ Some l → (n : ℕ) → caller_of l.op ≡ Some n → n ≡ 0) → OfEachLine pools devices trace (FitsOwn trace) ls feeds from to did
  all-fit [] feeds from to did fits one = tt
  all-fit (l ∷ ls) feeds from to did fits one = (
    (λ n by. subst (λ (m : ℕ). IsWorkOf trace.config m l) (one 0 l refl n by) (subst (λ (b : Option ℕ). FitsBy trace.config b l) by fits.0)),
    all-fit ls did.2 did.0 to did.5 fits.1 (λ k x at. one (suc k) x at),
  )

  pub fits-lines : (run : OneRun pools devices trace) → IsFormed trace → trace.config.callers ≡ 1
      → OfEachLine pools devices trace (FitsOwn trace) run.run.work.lines run.run.work.feeds (begun pools devices trace run) run.in_turn.reached run.in_turn.lines
  fits-lines run formed one = all-fit run.run.work.lines run.run.work.feeds (begun pools devices trace run) run.in_turn.reached run.in_turn.lines run.run.did.fits (λ k l at n by.
      let op = (op-at (answered_ops trace run.ending run.report.replies) run.report.replies run.run.work.lines run.run.did.lines k l at).0 in
      let below = all-callers trace formed k l.op (answered-at trace run.ending run.report.replies k l.op op) n by in
      omega (arith, below, one))

-- ---- two lines on one object evict the same

same-own : (a b : OwnEvent) → ◌≡◌ {A = Option OwnEvent} (Some a) (Some b) → a ≡ b
same-own a b is = cc

-- behind these events whatever is due must be evicted
must-follow : (op : Op) (own : OwnEvent) → own_event op ≡ Some own → (v : Evicting) → evicting_after v own.event ≡ Must
must-follow (ops.Get n t at w) own is v = ap (λ (o : OwnEvent). evicting_after v o.event) (sym (same-own _ own is))
must-follow (ops.Put n t at size fill) own is v = ap (λ (o : OwnEvent). evicting_after v o.event) (sym (same-own _ own is))
must-follow (ops.Patch n t at from bytes) own is v = ap (λ (o : OwnEvent). evicting_after v o.event) (sym (same-own _ own is))
must-follow (ops.Pin n t at) own is v = ap (λ (o : OwnEvent). evicting_after v o.event) (sym (same-own _ own is))
must-follow (ops.Unpin n at) own is v = ap (λ (o : OwnEvent). evicting_after v o.event) (sym (same-own _ own is))
must-follow (ops.Read n t x window) own is v = absurd (let clash : ◌≡◌ {A = Option OwnEvent} None (Some own) = is in cc)
must-follow (ops.Hold n t x) own is v = absurd (let clash : ◌≡◌ {A = Option OwnEvent} None (Some own) = is in cc)
must-follow (ops.Drop n x) own is v = absurd (let clash : ◌≡◌ {A = Option OwnEvent} None (Some own) = is in cc)
must-follow ops.Feed own is v = absurd (let clash : ◌≡◌ {A = Option OwnEvent} None (Some own) = is in cc)
must-follow (ops.Txg t) own is v = absurd (let clash : ◌≡◌ {A = Option OwnEvent} None (Some own) = is in cc)
must-follow (ops.Cap c) own is v = absurd (let clash : ◌≡◌ {A = Option OwnEvent} None (Some own) = is in cc)

-- One operation was answered on two cells of one history, for which the same was brought; behind it, in both, none is due: it evicted the same dbufs, in the same order.
pub evicts-alike : (limit : ℕ) (opening : List Mapping) (op : Op) (own : OwnEvent) → own_event op ≡ Some own → (n : ℕ) (brought : Brought) (was : List CellEvent) (xs ys : List Oid)
    → IsSettled limit opening (was ++ (loads_of n own.at brought ++ own.event ∷ map (events.Evict n) xs)) → IsSettled limit opening (was ++ (loads_of n own.at brought ++ own.event ∷ map (events.Evict n) ys)) → ys ≡ xs
evicts-alike limit opening op own is n brought was xs ys one other =
    let front : List CellEvent = was ++ loads_of n own.at brought in
    evictions-behind limit opening front own.event (must-follow op own is) n xs ys one.bases other.bases one.state other.state
    (subst (λ (l : List CellEvent). Leads (opening_cell limit opening) l one.bases one.state) (sym (append_assoc was (loads_of n own.at brought) (own.event ∷ map (events.Evict n) xs))) one.leads)
    (subst (λ (l : List CellEvent). Leads (opening_cell limit opening) l other.bases other.state) (sym (append_assoc was (loads_of n own.at brought) (own.event ∷ map (events.Evict n) ys))) other.leads)
    one.rests other.rests

-- what is done to the cell of an answered line
abbrev done_on : (n : ℕ) → OwnEvent → Brought → (evictions : List Oid) → List CellEvent
done_on n own brought evictions = loads_of n own.at brought ++ own.event ∷ map (events.Evict n) evictions

-- The same of two lines in sequence, which found the block's cell with one history and left none due: what they noted is the same.
pub notes-alike : (trace : Trace) (op : Op) (own : OwnEvent) → own_event op ≡ Some own → (n : ℕ) (o q : Outline) (work there : Work)
    → (AreHeld OtherHeld : (Oid → Bool) → Type 0) (acts : ActsAt trace.config n AreHeld own o work) (other : ActsAt trace.config n OtherHeld own q there) → there.brought ≡ work.brought
    → (was now then : List CellEvent) → now ≡ was ++ events_of_cell (cell_of trace.config.cells own.at) work.noted → then ≡ was ++ events_of_cell (cell_of trace.config.cells own.at) there.noted
    → IsSettled trace.config.dbuf_bytes (opening_map trace (cell_of trace.config.cells own.at)) now → IsSettled trace.config.dbuf_bytes (opening_map trace (cell_of trace.config.cells own.at)) then
    → (other.evictions ≡ acts.evictions) × (there.noted ≡ work.noted)
notes-alike trace op own is n o q work there AreHeld OtherHeld acts other brings was now then goes other_goes rests other_rests =
    let i : ℕ = cell_of trace.config.cells own.at in
    let mine : now ≡ was ++ done_on n own work.brought acts.evictions =
    goes ∙ ap (λ (l : List CellEvent). was ++ l) (ap (events_of_cell i) acts.noted ∙ noted-here i (done_on n own work.brought acts.evictions)) in
    let its : then ≡ was ++ done_on n own work.brought other.evictions =
    other_goes ∙ ap (λ (l : List CellEvent). was ++ l) (ap (events_of_cell i) other.noted ∙ (noted-here i (done_on n own there.brought other.evictions) ∙ ap (λ (b : Brought). done_on n own b other.evictions) brings)) in
    let same : other.evictions ≡ acts.evictions =
    evicts-alike trace.config.dbuf_bytes (opening_map trace i) op own is n work.brought was acts.evictions other.evictions
    (subst (IsSettled trace.config.dbuf_bytes (opening_map trace i)) mine rests) (subst (IsSettled trace.config.dbuf_bytes (opening_map trace i)) its other_rests) in
    (same, other.noted ∙ ((λ k. noted_in i (done_on n own (brings k) (same k))) ∙ sym acts.noted))
