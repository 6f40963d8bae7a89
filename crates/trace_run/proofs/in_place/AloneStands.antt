-- One caller's lines in sequence: behind each the pool tells what it told in front of the first place, and what syncs wrote can be read.
use Rattle.std.proofs.Common.{◌≡◌, ℕ, ◌+◌, ◌%◌, ◌<◌, ◌≤◌, ◌==◌, Bool, true, false, List, [], ◌∷◌, ◌++◌, length, map, take, Option, Some, None, refl, sym, ap, ◌∙◌, subst, inl, inr, arith}
use Rattle.std.specs.List.{AllByRecursion}
use Rattle.arc_lists.proofs.Tables.{cases_true}
use Rattle.blk_ptr.specs.declared.ptr.Ptr.{Ptr}
use Rattle.blk_ptr.specs.Key.{key_end}
use Rattle.blk_ptr.specs.Ptr.{IsOf}
use Rattle.blk_ptr.specs.Size.{sector}
use Rattle.vdev_io.specs.Calls.{Call, KeepsPool, MakesCalls}
use Rattle.vdev_io.specs.declared.device.CacheDev.{Ghosts as Devices}
use Rattle.vdev_io.specs.declared.pool.Pool.{Ghosts}
use Rattle.arc_core.specs.declared.config.Config.{Config}
use Rattle.arc_table.specs.Geometry.{IsCell}
use Rattle.dbuf_cells.specs.Places.{cell_of}
use Rattle.dbuf_state.specs.Outline.{Outline}
use Rattle.dbuf_state.specs.declared.event.CellEvent.{CellEvent}
use Rattle.dbuf_state.specs.declared.event.CellEvent.TheVariants as events
use Rattle.dbuf_state.specs.declared.oid.Oid.{Oid}
use Rattle.txg_sync.specs.Items.{SyncItem, items_from, need_of, tells_written, written_over}
use Rattle.trace_text.specs.declared.op.Op.{Op}
use Rattle.trace_text.specs.declared.op.Op.TheVariants as ops
use Rattle.trace_text.specs.declared.reply.Reply.{Reply}
use Rattle.trace_text.specs.declared.reply.Reply.TheVariants as replies
use Rattle.trace_text.specs.declared.trace.Trace.{Trace}
use Rattle.trace_run.specs.Deeds.{Noted, events_of_cell, noted_in}
use Rattle.trace_run.specs.Feeds.{FeedDone}
use Rattle.trace_run.specs.InPlace.{IsReadable}
use Rattle.trace_run.specs.Lines.{caller_of}
use Rattle.trace_run.specs.Syncing.{noted_of}
use Rattle.trace_run.specs.callers.Together.{BetweenGroups}
use Rattle.trace_run.specs.callers.WorkLines.{calls_of_lines}
use Rattle.trace_run.specs.dbufs.ObjectLines.{OnObject, on_object}
use Rattle.trace_run.specs.dbufs.ObjectReplies.{ActsAt, ActsBy, ActsFor}
use Rattle.trace_run.specs.dbufs.Objects.{Brought, Line, Loaded, Nothing, OwnEvent, Refused, Work, loads_of, no_work, own_event}
use Rattle.trace_run.specs.one_caller.Sequence.{AreInSequence, BetweenLines, DoesAnyLine, DoesCap, DoesFeed, DoesLine, DoesOther, DoesOwn, DoesSync}
use Rattle.trace_run.proofs.RunLemmas.{keeps-then}
use Rattle.trace_run.proofs.callers.FrontLemmas.{range-front}
use Rattle.trace_run.proofs.one_caller.TellLemmas.{all-append, all-map}
use Rattle.trace_run.proofs.in_place.Mapped.{is_synced}
use Rattle.trace_run.proofs.syncs.SyncFront.{front-below}
use Rattle.trace_run.proofs.in_place.SyncedBlocks.{IsReadableBlock, items-readable, next-aligned, written-front}

-- ---- what a caller's line notes is no sync's

abbrev pub AreNoSyncs : List CellEvent → Type 0
AreNoSyncs = AllByRecursion (λ e. is_synced e ≡ false)

loads-no-syncs : (n : ℕ) (at : Oid) (brought : Brought) → AreNoSyncs (loads_of n at brought)
loads-no-syncs n at Nothing = tt
loads-no-syncs n at (Loaded ptr from) = (refl, tt)
loads-no-syncs n at (Refused ptr) = tt

evicts-no-syncs : (n : ℕ) (xs : List Oid) → AreNoSyncs (map (events.Evict n) xs)
evicts-no-syncs n [] = tt
evicts-no-syncs n (x ∷ xs) = (refl, evicts-no-syncs n xs)

-- of each cell
abbrev pub NotesNoSyncs : Work → Type 0
NotesNoSyncs work = (i : ℕ) → AreNoSyncs (events_of_cell i work.noted)

in-no-syncs : (i j : ℕ) (es : List CellEvent) → AreNoSyncs es → AreNoSyncs (events_of_cell j (noted_in i es))
in-no-syncs i j [] all = tt
in-no-syncs i j (e ∷ es) all = elim (cases_true (i == j)) [
  | inl here ↦ rw here (all.0, in-no-syncs i j es all.1)
  | inr other ↦ rw other (in-no-syncs i j es all.1)
]

acts-no-syncs : (g : Config) (n : ℕ) (AreHeld : (Oid → Bool) → Type 0) (own : OwnEvent) (o : Outline) (work : Work) → is_synced own.event ≡ false → ActsAt g n AreHeld own o work → NotesNoSyncs work
acts-no-syncs g n AreHeld own o work un acts i =
    subst (λ (ns : List Noted). AreNoSyncs (events_of_cell i ns)) (sym acts.noted)
    (in-no-syncs (cell_of g.cells own.at) i _ (all-append (λ e. is_synced e ≡ false) (loads_of n own.at work.brought) (own.event ∷ map (events.Evict n) acts.evictions) (loads-no-syncs n own.at work.brought) (un, evicts-no-syncs n acts.evictions)))

reply-no-syncs : (g : Config) (n : ℕ) (AreHeld : (Oid → Bool) → Type 0) (own : OwnEvent) (o : Outline) (work : Work) (reply : Reply) → is_synced own.event ≡ false → ActsBy g n AreHeld own o work reply → NotesNoSyncs work
reply-no-syncs g n AreHeld own o work (replies.Got size shown) un acts = acts-no-syncs g n AreHeld own o work un acts
reply-no-syncs g n AreHeld own o work replies.Done un acts = acts-no-syncs g n AreHeld own o work un acts
reply-no-syncs g n AreHeld own o work (replies.Refused refusal) un acts = λ i. subst (λ (ns : List Noted). AreNoSyncs (events_of_cell i ns)) (sym acts.0) tt
reply-no-syncs g n AreHeld own o work (replies.Read served digest shown) un acts = absurd acts
reply-no-syncs g n AreHeld own o work (replies.Kept served) un acts = absurd acts
reply-no-syncs g n AreHeld own o work replies.Dropped un acts = absurd acts
reply-no-syncs g n AreHeld own o work (replies.Fed report) un acts = absurd acts
reply-no-syncs g n AreHeld own o work replies.FedNone un acts = absurd acts
reply-no-syncs g n AreHeld own o work (replies.Synced group blocks bytes) un acts = absurd acts
reply-no-syncs g n AreHeld own o work (replies.Capped c) un acts = absurd acts

none-no-syncs : (work : Work) → work ≡ no_work → NotesNoSyncs work
none-no-syncs work none i = subst (λ (w : Work). AreNoSyncs (events_of_cell i w.noted)) (sym none) tt

pub op-no-syncs : (g : Config) (n : ℕ) (AreHeld : (Oid → Bool) → Type 0) (op : Op) (o : Outline) (work : Work) (reply : Reply) → ActsFor g n AreHeld (own_event op) o work reply → NotesNoSyncs work
op-no-syncs g n AreHeld (ops.Get m t at w) o work reply acts = reply-no-syncs g n AreHeld (record { at = at; event = events.Get m at }) o work reply refl acts
op-no-syncs g n AreHeld (ops.Put m t at size fill) o work reply acts = reply-no-syncs g n AreHeld (record { at = at; event = events.Put m at size fill }) o work reply refl acts
op-no-syncs g n AreHeld (ops.Patch m t at from bytes) o work reply acts = reply-no-syncs g n AreHeld (record { at = at; event = events.Patch m at from bytes }) o work reply refl acts
op-no-syncs g n AreHeld (ops.Pin m t at) o work reply acts = reply-no-syncs g n AreHeld (record { at = at; event = events.Pin m at }) o work reply refl acts
op-no-syncs g n AreHeld (ops.Unpin m at) o work reply acts = reply-no-syncs g n AreHeld (record { at = at; event = events.Unpin m at }) o work reply refl acts
op-no-syncs g n AreHeld (ops.Read m t x window) o work reply acts = none-no-syncs work acts
op-no-syncs g n AreHeld (ops.Hold m t x) o work reply acts = none-no-syncs work acts
op-no-syncs g n AreHeld (ops.Drop m x) o work reply acts = none-no-syncs work acts
op-no-syncs g n AreHeld ops.Feed o work reply acts = none-no-syncs work acts
op-no-syncs g n AreHeld (ops.Txg t) o work reply acts = none-no-syncs work acts
op-no-syncs g n AreHeld (ops.Cap c) o work reply acts = none-no-syncs work acts

-- ---- what a sync notes can be read

-- where the event is a sync's, its pointer can be read, and ends at or before this place
abbrev pub IsToldUpTo : (len end : ℕ) (now : List ℕ) → CellEvent → Type 0
IsToldUpTo len end now (events.Synced n at ptr held) = IsReadable len now ptr × (key_end ptr.key ≤ end)
IsToldUpTo len end now (events.Get n at) = Unit {0}
IsToldUpTo len end now (events.Put n at size fill) = Unit {0}
IsToldUpTo len end now (events.Patch n at from bytes) = Unit {0}
IsToldUpTo len end now (events.Pin n at) = Unit {0}
IsToldUpTo len end now (events.Unpin n at) = Unit {0}
IsToldUpTo len end now (events.Load n at held) = Unit {0}
IsToldUpTo len end now (events.Evict n at) = Unit {0}
IsToldUpTo len end now (events.End n) = Unit {0}

no-sync-told : (len end : ℕ) (now : List ℕ) (e : CellEvent) → is_synced e ≡ false → IsToldUpTo len end now e
no-sync-told len end now (events.Synced n at ptr held) un = absurd (let clash : true ≡ false = un in cc)
no-sync-told len end now (events.Get n at) un = tt
no-sync-told len end now (events.Put n at size fill) un = tt
no-sync-told len end now (events.Patch n at from bytes) un = tt
no-sync-told len end now (events.Pin n at) un = tt
no-sync-told len end now (events.Unpin n at) un = tt
no-sync-told len end now (events.Load n at held) un = tt
no-sync-told len end now (events.Evict n at) un = tt
no-sync-told len end now (events.End n) un = tt

-- what can be read and ends before a place is still told where nothing before that place is changed
pub readable-on : (len end : ℕ) (old now : List ℕ) (ptr : Ptr) → take end now ≡ take end old → key_end ptr.key ≤ end → IsReadable len old ptr → IsReadable len now ptr
readable-on len end old now ptr same ends readable = record { valid = readable.valid; of = subst (λ (l : List ℕ). IsOf l ptr) (range-front end ptr.key old now ends (sym same)) readable.of }

told-on : (len end last : ℕ) (old now : List ℕ) → take end now ≡ take end old → end ≤ last → (e : CellEvent) → IsToldUpTo len end old e → IsToldUpTo len last now e
told-on len end last old now same more (events.Synced n at ptr held) told = (readable-on len end old now ptr same told.1 told.0, let t = told.1 in omega (arith, t, more))
told-on len end last old now same more (events.Get n at) told = tt
told-on len end last old now same more (events.Put n at size fill) told = tt
told-on len end last old now same more (events.Patch n at from bytes) told = tt
told-on len end last old now same more (events.Pin n at) told = tt
told-on len end last old now same more (events.Unpin n at) told = tt
told-on len end last old now same more (events.Load n at held) told = tt
told-on len end last old now same more (events.Evict n at) told = tt
told-on len end last old now same more (events.End n) told = tt

items-told : (len end n i : ℕ) (now : List ℕ) (xs : List SyncItem) → AllByRecursion (IsReadableBlock len end now) xs → AllByRecursion (IsToldUpTo len end now) (events_of_cell i (noted_of n xs))
items-told len end n i now [] all = tt
items-told len end n i now (x ∷ xs) all = elim (cases_true (x.due.cell == i)) [
  | inl here ↦ rw here (all.0, items-told len end n i now xs all.1)
  | inr other ↦ rw other (items-told len end n i now xs all.1)
]

-- ---- lines in sequence

pub calls-keep : {P : Type 0} (pool : Ghosts P) (cs : List Call) (a b : P) → MakesCalls pool cs a b → KeepsPool pool a b
calls-keep {P} pool [] a b made = subst (KeepsPool pool a) (sym made) (record { size = refl; told = refl; faults = omega arith; others = refl })
calls-keep pool (c ∷ cs) a b made = keeps-then pool a made.0 b made.1.keeps (calls-keep pool cs made.0 b made.2)

module _ {P D : Type 0} (pools : Ghosts P) (devices : Devices D) (told_len : (p : P) (bytes : List ℕ) → pools.told p ≡ Some bytes → length bytes ≡ pools.size p) (trace : Trace) (len place : ℕ) (image : List ℕ) where
  -- what is so between two lines
  pub record StandsFine (at : BetweenLines P D) : Type 0 where
    pub now : List ℕ
    pub told : pools.told at.outside.pool ≡ Some now
    pub size : pools.size at.outside.pool ≡ len
    pub front : take place now ≡ take place image
    pub behind : place ≤ at.outside.next
    pub inside : at.outside.next ≤ len
    pub aligned : at.outside.next % sector ≡ 0
    pub born : 0 < at.outside.group
    pub notes : (i : ℕ) → IsCell trace.config i → AllByRecursion (IsToldUpTo len at.outside.next now) (at.cells i)

  -- a line that leaves what the pool tells, and notes no sync
  keeps-fine : (from to : BetweenLines P D) (noted : List Noted) → StandsFine from → pools.told to.outside.pool ≡ pools.told from.outside.pool → pools.size to.outside.pool ≡ pools.size from.outside.pool
      → to.outside.next ≡ from.outside.next → from.outside.group ≤ to.outside.group → ((i : ℕ) → IsCell trace.config i → to.cells i ≡ from.cells i ++ events_of_cell i noted) → ((i : ℕ) → AreNoSyncs (events_of_cell i noted)) → StandsFine to
  keeps-fine from to noted f told size next group cells un = record {
    now = f.now;
    told = told ∙ f.told;
    size = size ∙ f.size;
    front = f.front;
    behind = let b = f.behind in omega (arith, b, next);
    inside = let b = f.inside in omega (arith, b, next);
    aligned = ap (λ (n : ℕ). n % sector) next ∙ f.aligned;
    born = let b = f.born in omega (arith, b, group);
    notes = λ i is_cell. subst (AllByRecursion (IsToldUpTo len to.outside.next f.now)) (sym (cells i is_cell))
        (all-append (IsToldUpTo len to.outside.next f.now) (from.cells i) (events_of_cell i noted)
        (all-map (IsToldUpTo len from.outside.next f.now) (IsToldUpTo len to.outside.next f.now) (from.cells i) (told-on len from.outside.next to.outside.next f.now f.now refl (omega (arith, next))) (f.notes i is_cell))
        (all-map (λ e. is_synced e ≡ false) (IsToldUpTo len to.outside.next f.now) (events_of_cell i noted) (no-sync-told len to.outside.next f.now) (un i)));
  }

  -- what a caller's line does to cells
  record NotesOwnLine (from to : BetweenLines P D) : Type 0 where
    pub noted : List Noted
    pub cells : (i : ℕ) → IsCell trace.config i → to.cells i ≡ from.cells i ++ events_of_cell i noted
    pub un : (i : ℕ) → AreNoSyncs (events_of_cell i noted)

  own-notes : (on : Option OnObject) (l : Line) (from to : BetweenLines P D) → DoesOwn pools devices trace on l from to → NotesOwnLine from to
  own-notes None l from to does = record { noted = []; cells = does.goes_on.cells; un = λ i. tt }
  own-notes (Some on) l from to does = record { noted = l.work.noted; cells = does.goes_on.cells; un = op-no-syncs trace.config 0 _ l.op _ l.work l.reply does.acts }

  own-fine : (l : Line) (from to : BetweenLines P D) → StandsFine from → DoesLine pools devices trace l from to → StandsFine to
  own-fine l from to f does =
      let keeps = calls-keep pools (calls_of_lines (l ∷ [])) from.outside.pool to.outside.pool does.calls in
      let o = own-notes (on_object l.op) l from to does.did in
      keeps-fine from to o.noted f keeps.told keeps.size does.next (let g = does.group in omega (arith, g)) o.cells o.un

  feed-fine : (reply : Reply) (feeds : List FeedDone) (from to : BetweenLines P D) → StandsFine from → DoesFeed pools devices trace reply feeds from to → StandsFine to
  feed-fine reply feeds from to f does =
      keeps-fine from to [] f (ap (λ (o : BetweenGroups P). pools.told o.pool) does.pool) (ap (λ (o : BetweenGroups P). pools.size o.pool) does.pool) (ap (λ (o : BetweenGroups P). o.next) does.pool) (let g = ap (λ (o : BetweenGroups P). o.group) does.pool in omega (arith, g)) does.goes_on.cells (λ i. tt)

  cap-fine : (c : ℕ) (reply : Reply) (from to : BetweenLines P D) → StandsFine from → DoesCap pools devices trace c reply from to → StandsFine to
  cap-fine c reply from to f does =
      keeps-fine from to [] f (ap (λ (o : BetweenGroups P). pools.told o.pool) does.pool) (ap (λ (o : BetweenGroups P). pools.size o.pool) does.pool) (ap (λ (o : BetweenGroups P). o.next) does.pool) (let g = ap (λ (o : BetweenGroups P). o.group) does.pool in omega (arith, g)) does.goes_on.cells (λ i. tt)

  sync-fine : (t : ℕ) (reply : Reply) (work : Work) (from to : BetweenLines P D) → StandsFine from → DoesSync pools devices trace t reply work from to → StandsFine to
  sync-fine t reply work from to f does =
      let s = does.synced in
      let w = s.answer in
      let next : ℕ = from.outside.next in
      let need : ℕ = need_of w.cells w.dues in
      let xs : List SyncItem = items_from w.held from.outside.group next w.cells w.dues in
      let now : List ℕ = written_over xs f.now in
      let long : length f.now ≡ len = told_len from.outside.pool f.now f.told ∙ f.size in
      let fits = w.fits in
      let same_size = f.size in
      let inside = f.inside in
      let room : next + need ≤ len = omega (arith, fits, same_size, inside) in
      let kept = written-front w.held from.outside.group next w.cells w.dues f.now (omega (arith, room, long)) in
      let last : to.outside.next ≡ next + need = s.next ∙ w.next_is in
      let readable = subst (λ (end : ℕ). AllByRecursion (IsReadableBlock len end now) xs) (sym last) (items-readable len w.held from.outside.group next w.cells w.dues f.now long f.aligned f.born w.sized room) in
      record {
        now = now;
        told = w.told ∙ ap (tells_written xs) f.told;
        size = w.outside.size ∙ f.size;
        front = front-below place next now f.now f.behind kept.front ∙ f.front;
        behind = let b = f.behind in omega (arith, b, last);
        inside = omega (arith, last, room);
        aligned = ap (λ (n : ℕ). n % sector) last ∙ next-aligned next w.cells w.dues f.aligned w.sized;
        born = let g = s.group in omega (arith, g);
        notes = λ i is_cell. subst (AllByRecursion (IsToldUpTo len to.outside.next now)) (sym (does.leaves.goes_on.cells i is_cell))
            (all-append (IsToldUpTo len to.outside.next now) (from.cells i) (events_of_cell i work.noted)
            (all-map (IsToldUpTo len next f.now) (IsToldUpTo len to.outside.next now) (from.cells i) (told-on len next to.outside.next f.now now kept.front (omega (arith, last))) (f.notes i is_cell))
            (subst (λ (ns : List Noted). AllByRecursion (IsToldUpTo len to.outside.next now) (events_of_cell i ns)) (sym w.turns.noted) (items-told len to.outside.next trace.config.callers i now xs readable)));
      }

  other-fine : (op : Op) (reply : Reply) (work : Work) (feeds : List FeedDone) (from to : BetweenLines P D) → StandsFine from → DoesOther pools devices trace op reply work feeds from to → StandsFine to
  other-fine ops.Feed reply work feeds from to f does = feed-fine reply feeds from to f does
  other-fine (ops.Txg t) reply work feeds from to f does = sync-fine t reply work from to f does.1
  other-fine (ops.Cap c) reply work feeds from to f does = cap-fine c reply from to f does.1
  other-fine (ops.Read n t x window) reply work feeds from to f does = absurd does
  other-fine (ops.Hold n t x) reply work feeds from to f does = absurd does
  other-fine (ops.Drop n x) reply work feeds from to f does = absurd does
  other-fine (ops.Get n t at window) reply work feeds from to f does = absurd does
  other-fine (ops.Put n t at size fill) reply work feeds from to f does = absurd does
  other-fine (ops.Patch n t at start bytes) reply work feeds from to f does = absurd does
  other-fine (ops.Pin n t at) reply work feeds from to f does = absurd does
  other-fine (ops.Unpin n at) reply work feeds from to f does = absurd does

  pub line-fine : (by : Option ℕ) (l : Line) (feeds : List FeedDone) (from to : BetweenLines P D) → StandsFine from → DoesAnyLine pools devices trace by l feeds from to → StandsFine to
  line-fine (Some n) l feeds from to f does = own-fine l from to f does.1
  line-fine None l feeds from to f does = other-fine l.op l.reply l.work feeds from to f does

  pub lines-fine : (ls : List Line) (feeds : List FeedDone) (from to : BetweenLines P D) → AreInSequence pools devices trace ls feeds from to → StandsFine from → StandsFine to
  lines-fine [] feeds from to did f = subst StandsFine (sym did.1) f
  lines-fine (l ∷ ls) feeds from to did f = lines-fine ls did.2 did.0 to did.5 (line-fine (caller_of l.op) l did.1 from did.0 f did.4)
