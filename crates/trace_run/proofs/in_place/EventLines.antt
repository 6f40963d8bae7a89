-- Each event of a closed cell comes from a line of the trace: a whole write from one that says so, and what is synced or ended is the feeder's.
use Rattle.std.proofs.Common.{◌≡◌, ℕ, zero, suc, ◌<◌, ◌==◌, Bool, true, List, [], ◌∷◌, ◌++◌, map, Option, Some, None, refl, sym, ap, ◌∙◌, subst, inl, inr, eq-eqb}
use Rattle.std.specs.Prelude.{filter, slice_get}
use Rattle.std.specs.List.{AllByRecursion}
use Rattle.std.proofs.lemmas.Bool.{eqb-true}
use Rattle.arc_lists.proofs.Tables.{cases_true}
use Rattle.arc_core.specs.declared.config.Config.{Config}
use Rattle.arc_table.specs.Geometry.{parties_of}
use Rattle.dbuf_state.specs.Numbers.{number_of}
use Rattle.dbuf_state.specs.declared.event.CellEvent.{CellEvent}
use Rattle.dbuf_state.specs.declared.event.CellEvent.TheVariants as events
use Rattle.dbuf_state.specs.declared.oid.Oid.{Oid}
use Rattle.dbuf_cells.specs.Turns.{OnHeap}
use Rattle.trace_text.specs.declared.op.Op.{Op}
use Rattle.trace_text.specs.declared.op.Op.TheVariants as ops
use Rattle.trace_text.specs.declared.reply.Reply.{Reply}
use Rattle.trace_text.specs.declared.reply.Reply.TheVariants as replies
use Rattle.trace_text.specs.declared.trace.Trace.{Trace}
use Rattle.trace_run.specs.Deeds.{Noted, events_of_cell, noted_in}
use Rattle.trace_run.specs.Lines.{caller_of}
use Rattle.trace_run.specs.RunWork.{AllFit, FitsBy, FitsFeeder, IsSyncedNote, RunWork, lines_of_caller, lines_of_feeder, noted_by, noted_of_syncs}
use Rattle.trace_run.specs.callers.WorkLines.{AreLinesOf, IsWorkOf, NotesLine, noted_of_work}
use Rattle.trace_run.specs.dbufs.CellEnds.{IsCellOf, done_by, noted_ends}
use Rattle.trace_run.specs.dbufs.Objects.{Brought, Line, Loaded, NotesOwn, Nothing, OwnEvent, Refused, Work, loads_of, no_work}
use Rattle.trace_run.proofs.one_caller.TellLemmas.{all-append, all-map}

-- a whole write is a line's; a Synced and an End are the feeder's, which is the number behind so many callers
abbrev pub IsOfLines : (callers : ℕ) → List Op → CellEvent → Type 0
IsOfLines callers lines (events.Put n b size fill) = (k : ℕ) × (t : ℕ) × (slice_get lines k ≡ Some (ops.Put n t b size fill))
IsOfLines callers lines (events.Get n b) = Unit {0}
IsOfLines callers lines (events.Patch n b from bytes) = Unit {0}
IsOfLines callers lines (events.Pin n b) = Unit {0}
IsOfLines callers lines (events.Unpin n b) = Unit {0}
IsOfLines callers lines (events.Load n b held) = Unit {0}
IsOfLines callers lines (events.Evict n b) = Unit {0}
IsOfLines callers lines (events.Synced n b ptr held) = n ≡ callers
IsOfLines callers lines (events.End n) = n ≡ callers

pub all-filter : {X : Type 0} (P : X → Type 0) (p : X → Bool) (xs : List X) → AllByRecursion P xs → AllByRecursion P (filter p xs)
all-filter P p [] all = tt
all-filter P p (x ∷ xs) all = elim (cases_true (p x)) [
  | inl passes ↦ rw passes (all.0, all-filter P p xs all.1)
  | inr fails ↦ rw fails (all-filter P p xs all.1)
]

pub all-front : {X : Type 0} (P : X → Type 0) (xs ys : List X) → AllByRecursion P (xs ++ ys) → AllByRecursion P xs
all-front P [] ys all = tt
all-front P (x ∷ xs) ys all = (all.0, all-front P xs ys all.1)

module _ (callers : ℕ) (lines : List Op) where
  abbrev OfNote : Noted → Type 0
  OfNote note = IsOfLines callers lines note.event

  noted-all : (i : ℕ) (es : List CellEvent) → AllByRecursion (IsOfLines callers lines) es → AllByRecursion OfNote (noted_in i es)
  noted-all i [] all = tt
  noted-all i (e ∷ es) all = (all.0, noted-all i es all.1)

  cell-all : (i : ℕ) (ns : List Noted) → AllByRecursion OfNote ns → AllByRecursion (IsOfLines callers lines) (events_of_cell i ns)
  cell-all i [] all = tt
  cell-all i (n ∷ ns) all = elim (cases_true (n.cell == i)) [
    | inl here ↦ rw here (all.0, cell-all i ns all.1)
    | inr other ↦ rw other (cell-all i ns all.1)
  ]

  abbrev OfLine : Line → Type 0
  OfLine l = AllByRecursion OfNote l.work.noted

  work-all : (ls : List Line) → AllByRecursion OfLine ls → AllByRecursion OfNote (noted_of_work ls)
  work-all [] all = tt
  work-all (l ∷ ls) all = all-append OfNote l.work.noted (noted_of_work ls) all.0 (work-all ls all.1)

  -- ---- a line

  loads-all : (n : ℕ) (at : Oid) (brought : Brought) → AllByRecursion (IsOfLines callers lines) (loads_of n at brought)
  loads-all n at Nothing = tt
  loads-all n at (Loaded ptr from) = (tt, tt)
  loads-all n at (Refused ptr) = tt

  evicts-all : (n : ℕ) (xs : List Oid) → AllByRecursion (IsOfLines callers lines) (map (events.Evict n) xs)
  evicts-all n [] = tt
  evicts-all n (x ∷ xs) = (tt, evicts-all n xs)

  own-all : (g : Config) (n : ℕ) (own : OwnEvent) (work : Work) → IsOfLines callers lines own.event → NotesOwn g n own work → AllByRecursion OfNote work.noted
  own-all g n own work is notes =
      subst (AllByRecursion OfNote) (sym notes.noted) (noted-all _ _ (all-append (IsOfLines callers lines) (loads_of n own.at work.brought) (own.event ∷ map (events.Evict n) notes.evictions) (loads-all n own.at work.brought) (is, evicts-all n notes.evictions)))

  reply-all : (g : Config) (n : ℕ) (own : OwnEvent) (work : Work) (reply : Reply) → IsOfLines callers lines own.event → NotesLine g n own work reply → AllByRecursion OfNote work.noted
  reply-all g n own work (replies.Got size shown) is notes = own-all g n own work is notes
  reply-all g n own work replies.Done is notes = own-all g n own work is notes
  reply-all g n own work (replies.Refused refusal) is notes = subst (AllByRecursion OfNote) (sym notes.0) tt
  reply-all g n own work (replies.Read served digest shown) is notes = absurd notes
  reply-all g n own work (replies.Kept served) is notes = absurd notes
  reply-all g n own work replies.Dropped is notes = absurd notes
  reply-all g n own work (replies.Fed report) is notes = absurd notes
  reply-all g n own work replies.FedNone is notes = absurd notes
  reply-all g n own work (replies.Synced group blocks bytes) is notes = absurd notes
  reply-all g n own work (replies.Capped c) is notes = absurd notes

  none-all : (work : Work) → work ≡ no_work → AllByRecursion OfNote work.noted
  none-all work none = subst (λ (w : Work). AllByRecursion OfNote w.noted) (sym none) tt

  -- an operation of these
  abbrev IsAmong : Op → Type 0
  IsAmong op = (k : ℕ) × (slice_get lines k ≡ Some op)

  caller-all : (g : Config) (n : ℕ) (op : Op) (reply : Reply) (work : Work) → IsAmong op → IsWorkOf g n (record { op = op; reply = reply; work = work }) → AllByRecursion OfNote work.noted
  caller-all g n (ops.Get m t at w) reply work among f = reply-all g n (record { at = at; event = events.Get m at }) work reply tt f.notes
  caller-all g n (ops.Put m t at size fill) reply work among f = reply-all g n (record { at = at; event = events.Put m at size fill }) work reply (among.0, t, among.1) f.notes
  caller-all g n (ops.Patch m t at from bytes) reply work among f = reply-all g n (record { at = at; event = events.Patch m at from bytes }) work reply tt f.notes
  caller-all g n (ops.Pin m t at) reply work among f = reply-all g n (record { at = at; event = events.Pin m at }) work reply tt f.notes
  caller-all g n (ops.Unpin m at) reply work among f = reply-all g n (record { at = at; event = events.Unpin m at }) work reply tt f.notes
  caller-all g n (ops.Read m t x window) reply work among f = none-all work f.notes
  caller-all g n (ops.Hold m t x) reply work among f = none-all work f.notes
  caller-all g n (ops.Drop m x) reply work among f = none-all work f.notes
  caller-all g n ops.Feed reply work among f = none-all work f.notes
  caller-all g n (ops.Txg t) reply work among f = none-all work f.notes
  caller-all g n (ops.Cap c) reply work among f = none-all work f.notes

  feeder-all : (g : Config) (op : Op) (work : Work) → g.callers ≡ callers → FitsFeeder g op work → AllByRecursion OfNote work.noted
  feeder-all g (ops.Txg t) work so_many f = all-map (IsSyncedNote g) OfNote work.noted (λ note is. subst (IsOfLines callers lines) (sym is.is) so_many) f.synced
  feeder-all g (ops.Cap c) work so_many f = none-all work f
  feeder-all g ops.Feed work so_many f = none-all work f
  feeder-all g (ops.Read n t x window) work so_many f = absurd f
  feeder-all g (ops.Hold n t x) work so_many f = absurd f
  feeder-all g (ops.Drop n x) work so_many f = absurd f
  feeder-all g (ops.Get n t at window) work so_many f = absurd f
  feeder-all g (ops.Put n t at size fill) work so_many f = absurd f
  feeder-all g (ops.Patch n t at from bytes) work so_many f = absurd f
  feeder-all g (ops.Pin n t at) work so_many f = absurd f
  feeder-all g (ops.Unpin n at) work so_many f = absurd f

  fit-all : (g : Config) (by : Option ℕ) (l : Line) → g.callers ≡ callers → IsAmong l.op → FitsBy g by l → OfLine l
  fit-all g None l so_many among f = feeder-all g l.op l.work so_many f
  fit-all g (Some n) l so_many among f = caller-all g n l.op l.reply l.work among f

  lines-all : (g : Config) (os : List Op) (rs : List Reply) (ls : List Line) → g.callers ≡ callers → AreLinesOf os rs ls → AllFit g ls → ((k : ℕ) (op : Op) → slice_get os k ≡ Some op → IsAmong op) → AllByRecursion OfLine ls
  lines-all g [] [] [] so_many are fits each = tt
  lines-all g [] [] (l ∷ ls) so_many are fits each = absurd are
  lines-all g [] (r ∷ rs) ls so_many are fits each = absurd are
  lines-all g (o ∷ os) [] ls so_many are fits each = absurd are
  lines-all g (o ∷ os) (r ∷ rs) [] so_many are fits each = absurd are
  lines-all g (o ∷ os) (r ∷ rs) (l ∷ ls) so_many are fits each =
      (fit-all g (caller_of l.op) l so_many (subst IsAmong (sym are.0) (each 0 o refl)) fits.0, lines-all g os rs ls so_many are.2 fits.1 (λ k op at. each (suc k) op at))

  -- ---- a cell

  ends-all : (n i count : ℕ) → n ≡ callers → AllByRecursion OfNote (noted_ends n i count)
  ends-all n i zero is = tt
  ends-all n i (suc count) is = (is, ends-all n (suc i) count is)

  -- what is noted of a party
  party-all : (g : Config) (work : RunWork) → g.callers ≡ callers → work.stopped ≡ no_work → AllByRecursion OfLine work.lines → (n : ℕ) → AllByRecursion OfNote (noted_by g work n)
  party-all g work so_many still all n = elim (cases_true (n == g.callers)) [
    | inl feeder ↦ rw feeder (all-append OfNote (noted_of_syncs work) (noted_ends n 0 g.cells)
        (all-append OfNote (noted_of_work (lines_of_feeder work.lines)) work.stopped.noted (work-all (lines_of_feeder work.lines) (all-filter OfLine _ work.lines all)) (none-all work.stopped still)) (ends-all n 0 g.cells (eqb-true n g.callers feeder ∙ so_many)))
    | inr caller ↦ rw caller (work-all (lines_of_caller n work.lines) (all-filter OfLine _ work.lines all))
  ]

  -- events of which each number's are such
  rest-all : (n : ℕ) (e : CellEvent) (es : List CellEvent) → AllByRecursion (IsOfLines callers lines) (done_by n (e ∷ es)) → AllByRecursion (IsOfLines callers lines) (done_by n es)
  rest-all n e es all = elim (cases_true (number_of e == n)) [
    | inl mine ↦ (let both : AllByRecursion (IsOfLines callers lines) (e ∷ done_by n es) = rw mine at all in both.1)
    | inr other ↦ (let same : AllByRecursion (IsOfLines callers lines) (done_by n es) = rw other at all in same)
  ]

  first-of : (e : CellEvent) (es : List CellEvent) → AllByRecursion (IsOfLines callers lines) (done_by (number_of e) (e ∷ es)) → IsOfLines callers lines e
  first-of e es all =
      let same : (number_of e == number_of e) ≡ true = eq-eqb (number_of e) (number_of e) refl in
      let both : AllByRecursion (IsOfLines callers lines) (e ∷ done_by (number_of e) es) = rw same at all in
      both.0

  numbers-all : (parties : ℕ) (h : List CellEvent) → AllByRecursion (λ e. number_of e < parties) h → ((n : ℕ) → n < parties → AllByRecursion (IsOfLines callers lines) (done_by n h)) → AllByRecursion (IsOfLines callers lines) h
  numbers-all parties [] below his = tt
  numbers-all parties (e ∷ es) below his = (first-of e es (his (number_of e) below.0), numbers-all parties es below.1 (λ n lt. rest-all n e es (his n lt)))

-- each event of a closed cell
pub history-all : (trace : Trace) (os : List Op) (rs : List Reply) (work : RunWork) → os ≡ trace.ops → AreLinesOf os rs work.lines → AllFit trace.config work.lines → work.stopped ≡ no_work
    → (i : ℕ) (cell : OnHeap) → IsCellOf trace (noted_by trace.config work) i cell → AllByRecursion (IsOfLines trace.config.callers trace.ops) cell.value.history
history-all trace os rs work whole are fits still i cell of =
    let all = lines-all trace.config.callers trace.ops trace.config os rs work.lines refl are fits (λ k op at. (k, ap (λ (l : List Op). slice_get l k) (sym whole) ∙ at)) in
    numbers-all trace.config.callers trace.ops (parties_of trace.config) cell.value.history of.parties
    (λ n lt. subst (AllByRecursion (IsOfLines trace.config.callers trace.ops)) (sym (of.did n lt)) (cell-all trace.config.callers trace.ops i (noted_by trace.config work n) (party-all trace.config.callers trace.ops trace.config work refl still all n)))
