-- What lines note of a cell: each write there is of a block of the cell that one of the lines writes, and a whole write gives it at most what one of them says.
use Rattle.std.proofs.Common.{◌≡◌, ◌≤◌, ◌==◌, ℕ, zero, suc, if◌then◌else◌, Bool, true, false, List, [], ◌∷◌, ◌++◌, map, Option, Some, None, refl, sym, subst, inl, inr, arith}
use Rattle.std.specs.Prelude.{slice_get}
use Rattle.std.specs.List.{AllByRecursion, list_any}
use Rattle.std.proofs.lemmas.Bool.{eqb-true}
use Rattle.arc_lists.proofs.Tables.{cases_true}
use Rattle.arc_core.specs.declared.config.Config.{Config}
use Rattle.dbuf_state.specs.Oids.{oid_eq}
use Rattle.dbuf_state.specs.declared.event.CellEvent.{CellEvent}
use Rattle.dbuf_state.specs.declared.event.CellEvent.TheVariants as events
use Rattle.dbuf_state.specs.declared.oid.Oid.{Oid}
use Rattle.dbuf_cells.specs.Places.{cell_of}
use Rattle.txg_sync.proofs.Gathering.{oid-same}
use Rattle.trace_text.specs.declared.op.Op.{Op}
use Rattle.trace_text.specs.declared.op.Op.TheVariants as ops
use Rattle.trace_text.specs.declared.reply.Reply.{Reply}
use Rattle.trace_text.specs.declared.reply.Reply.TheVariants as replies
use Rattle.trace_text.specs.declared.trace.Trace.{Trace}
use Rattle.trace_run.specs.Deeds.{Noted, events_of_cell, noted_in}
use Rattle.trace_run.specs.InPlace.{block_written, blocks_written, greatest_put, size_put}
use Rattle.trace_run.specs.Lines.{caller_of}
use Rattle.trace_run.specs.RunWork.{AllFit, FitsBy, FitsFeeder, IsSyncedNote}
use Rattle.trace_run.specs.callers.WorkLines.{IsWorkOf, NotesLine, noted_of_work}
use Rattle.trace_run.specs.dbufs.Objects.{Brought, Line, Loaded, NotesOwn, Nothing, OwnEvent, Refused, Work, loads_of, no_work, ops_of}
use Rattle.trace_run.proofs.one_caller.TellLemmas.{all-append}
use Rattle.trace_run.proofs.in_place.DirtyBlocks.{is_write_of}
use Rattle.trace_run.proofs.in_place.DirtySizes.{IsPutWithin}
use Rattle.trace_run.proofs.in_place.Mapped.{oid-is}
use Rattle.trace_run.proofs.in_place.RoomLists.{greatest-has, written-among}

-- ---- lists

pub all-of : {X : Type 0} (P : X → Type 0) (xs : List X) → ((k : ℕ) (x : X) → slice_get xs k ≡ Some x → P x) → AllByRecursion P xs
all-of P [] each = tt
all-of P (x ∷ xs) each = (each 0 x refl, all-of P xs (λ k y at. each (suc k) y at))

pub all-each : {X : Type 0} (P Q : X → Type 0) (xs : List X) → ((x : X) → P x → Q x) → AllByRecursion P xs → AllByRecursion Q xs
all-each P Q [] f all = tt
all-each P Q (x ∷ xs) f all = (f x all.0, all-each P Q xs f all.1)

-- ---- sizes

-- a whole write gives the block at most so many bytes
abbrev pub IsSized : (size : Oid → ℕ) → CellEvent → Type 0
IsSized size (events.Put n b most fill) = most ≤ size b
IsSized size (events.Get n b) = Unit {0}
IsSized size (events.Patch n b from bytes) = Unit {0}
IsSized size (events.Pin n b) = Unit {0}
IsSized size (events.Unpin n b) = Unit {0}
IsSized size (events.Load n b held) = Unit {0}
IsSized size (events.Evict n b) = Unit {0}
IsSized size (events.Synced n b ptr held) = Unit {0}
IsSized size (events.End n) = Unit {0}

event-within : (size : Oid → ℕ) (at : Oid) (e : CellEvent) → IsSized size e → IsPutWithin at (size at) e
event-within size at (events.Put n b most fill) sized = λ same. subst (λ (x : Oid). most ≤ size x) (sym (oid-is at b same)) sized
event-within size at (events.Get n b) sized = tt
event-within size at (events.Patch n b from bytes) sized = tt
event-within size at (events.Pin n b) sized = tt
event-within size at (events.Unpin n b) sized = tt
event-within size at (events.Load n b held) sized = tt
event-within size at (events.Evict n b) sized = tt
event-within size at (events.Synced n b ptr held) sized = tt
event-within size at (events.End n) sized = tt

pub puts-within : (size : Oid → ℕ) (at : Oid) (h : List CellEvent) → AllByRecursion (IsSized size) h → AllByRecursion (IsPutWithin at (size at)) h
puts-within size at h all = all-each (IsSized size) (IsPutWithin at (size at)) h (event-within size at) all

module _ (few more : Oid → ℕ) (le : (at : Oid) → few at ≤ more at) where
  event-more : (e : CellEvent) → IsSized few e → IsSized more e
  event-more (events.Put n b most fill) sized = let a : most ≤ few b = sized in let c : few b ≤ more b = le b in let e : most ≤ more b = omega (arith, a, c) in e
  event-more (events.Get n b) sized = tt
  event-more (events.Patch n b from bytes) sized = tt
  event-more (events.Pin n b) sized = tt
  event-more (events.Unpin n b) sized = tt
  event-more (events.Load n b held) sized = tt
  event-more (events.Evict n b) sized = tt
  event-more (events.Synced n b ptr held) sized = tt
  event-more (events.End n) sized = tt

  pub sized-more : (h : List CellEvent) → AllByRecursion (IsSized few) h → AllByRecursion (IsSized more) h
  sized-more h all = all-each (IsSized few) (IsSized more) h event-more all

-- ---- writes

module _ (trace : Trace) (os : List Op) where
  abbrev g : Config
  g = trace.config

  -- the block is of this cell, and these lines write it
  abbrev pub IsOwnHere : (i : ℕ) → Oid → Type 0
  IsOwnHere i b = (cell_of g.cells b ≡ i) × (list_any (oid_eq b) (blocks_written os) ≡ true)

  -- a write of the cell i is such
  abbrev pub IsWriteOf : (i : ℕ) → CellEvent → Type 0
  IsWriteOf i (events.Put n b size fill) = IsOwnHere i b × (size ≤ greatest_put b os)
  IsWriteOf i (events.Patch n b from bytes) = IsOwnHere i b
  IsWriteOf i (events.Get n b) = Unit {0}
  IsWriteOf i (events.Pin n b) = Unit {0}
  IsWriteOf i (events.Unpin n b) = Unit {0}
  IsWriteOf i (events.Load n b held) = Unit {0}
  IsWriteOf i (events.Evict n b) = Unit {0}
  IsWriteOf i (events.Synced n b ptr held) = Unit {0}
  IsWriteOf i (events.End n) = Unit {0}

  write-sized : (i : ℕ) (e : CellEvent) → IsWriteOf i e → IsSized (λ at. greatest_put at os) e
  write-sized i (events.Put n b size fill) w = w.1
  write-sized i (events.Patch n b from bytes) w = tt
  write-sized i (events.Get n b) w = tt
  write-sized i (events.Pin n b) w = tt
  write-sized i (events.Unpin n b) w = tt
  write-sized i (events.Load n b held) w = tt
  write-sized i (events.Evict n b) w = tt
  write-sized i (events.Synced n b ptr held) w = tt
  write-sized i (events.End n) w = tt

  pub writes-sized : (i : ℕ) (h : List CellEvent) → AllByRecursion (IsWriteOf i) h → AllByRecursion (IsSized (λ at. greatest_put at os)) h
  writes-sized i h all = all-each (IsWriteOf i) (IsSized (λ at. greatest_put at os)) h (write-sized i) all

  named : (i : ℕ) (at b : Oid) → oid_eq at b ≡ true → IsOwnHere i b → IsOwnHere i at
  named i at b same own = subst (IsOwnHere i) (sym (oid-is at b same)) own

  write-own : (i : ℕ) (at : Oid) (e : CellEvent) → IsWriteOf i e → is_write_of at e ≡ true → IsOwnHere i at
  write-own i at (events.Put n b size fill) w is = named i at b is w.0
  write-own i at (events.Patch n b from bytes) w is = named i at b is w
  write-own i at (events.Get n b) w is = absurd (let clash : false ≡ true = is in cc)
  write-own i at (events.Pin n b) w is = absurd (let clash : false ≡ true = is in cc)
  write-own i at (events.Unpin n b) w is = absurd (let clash : false ≡ true = is in cc)
  write-own i at (events.Load n b held) w is = absurd (let clash : false ≡ true = is in cc)
  write-own i at (events.Evict n b) w is = absurd (let clash : false ≡ true = is in cc)
  write-own i at (events.Synced n b ptr held) w is = absurd (let clash : false ≡ true = is in cc)
  write-own i at (events.End n) w is = absurd (let clash : false ≡ true = is in cc)

  pub written-own : (i : ℕ) (at : Oid) (h : List CellEvent) → AllByRecursion (IsWriteOf i) h → list_any (is_write_of at) h ≡ true → IsOwnHere i at
  written-own i at [] all has = absurd (let clash : false ≡ true = has in cc)
  written-own i at (e ∷ es) all has = elim (cases_true (is_write_of at e)) [
    | inl here ↦ write-own i at e all.0 here
    | inr other ↦ written-own i at es all.1 (rw other at has)
  ]

  -- ---- what is noted

  abbrev OfNote : Noted → Type 0
  OfNote note = IsWriteOf note.cell note.event

  noted-all : (i : ℕ) (es : List CellEvent) → AllByRecursion (IsWriteOf i) es → AllByRecursion OfNote (noted_in i es)
  noted-all i [] all = tt
  noted-all i (e ∷ es) all = (all.0, noted-all i es all.1)

  cell-all : (i : ℕ) (ns : List Noted) → AllByRecursion OfNote ns → AllByRecursion (IsWriteOf i) (events_of_cell i ns)
  cell-all i [] all = tt
  cell-all i (n ∷ ns) all = elim (cases_true (n.cell == i)) [
    | inl here ↦ rw here (subst (λ (j : ℕ). IsWriteOf j n.event) (eqb-true n.cell i here) all.0, cell-all i ns all.1)
    | inr other ↦ rw other (cell-all i ns all.1)
  ]

  abbrev OfLine : Line → Type 0
  OfLine l = AllByRecursion OfNote l.work.noted

  work-all : (ls : List Line) → AllByRecursion OfLine ls → AllByRecursion OfNote (noted_of_work ls)
  work-all [] all = tt
  work-all (l ∷ ls) all = all-append OfNote l.work.noted (noted_of_work ls) all.0 (work-all ls all.1)

  -- ---- a line

  loads-all : (i n : ℕ) (at : Oid) (brought : Brought) → AllByRecursion (IsWriteOf i) (loads_of n at brought)
  loads-all i n at Nothing = tt
  loads-all i n at (Loaded ptr from) = (tt, tt)
  loads-all i n at (Refused ptr) = tt

  evicts-all : (i n : ℕ) (xs : List Oid) → AllByRecursion (IsWriteOf i) (map (events.Evict n) xs)
  evicts-all i n [] = tt
  evicts-all i n (x ∷ xs) = (tt, evicts-all i n xs)

  own-all : (n : ℕ) (own : OwnEvent) (work : Work) → IsWriteOf (cell_of g.cells own.at) own.event → NotesOwn g n own work → AllByRecursion OfNote work.noted
  own-all n own work is notes =
      let i : ℕ = cell_of g.cells own.at in
      subst (AllByRecursion OfNote) (sym notes.noted) (noted-all i (loads_of n own.at work.brought ++ own.event ∷ map (events.Evict n) notes.evictions)
      (all-append (IsWriteOf i) (loads_of n own.at work.brought) (own.event ∷ map (events.Evict n) notes.evictions) (loads-all i n own.at work.brought) (is, evicts-all i n notes.evictions)))

  reply-all : (n : ℕ) (own : OwnEvent) (work : Work) (reply : Reply) → IsWriteOf (cell_of g.cells own.at) own.event → NotesLine g n own work reply → AllByRecursion OfNote work.noted
  reply-all n own work (replies.Got size shown) is notes = own-all n own work is notes
  reply-all n own work replies.Done is notes = own-all n own work is notes
  reply-all n own work (replies.Refused refusal) is notes = subst (AllByRecursion OfNote) (sym notes.0) tt
  reply-all n own work (replies.Read served digest shown) is notes = absurd notes
  reply-all n own work (replies.Kept served) is notes = absurd notes
  reply-all n own work replies.Dropped is notes = absurd notes
  reply-all n own work (replies.Fed report) is notes = absurd notes
  reply-all n own work replies.FedNone is notes = absurd notes
  reply-all n own work (replies.Synced group blocks bytes) is notes = absurd notes
  reply-all n own work (replies.Capped c) is notes = absurd notes

  none-all : (work : Work) → work ≡ no_work → AllByRecursion OfNote work.noted
  none-all work none = subst (λ (w : Work). AllByRecursion OfNote w.noted) (sym none) tt

  -- what it writes is among what these lines write, and has at most the greatest size that they give it
  abbrev pub IsAmong : Op → Type 0
  IsAmong op = ((at : Oid) → block_written op ≡ Some at → list_any (oid_eq at) (blocks_written os) ≡ true) × ((at : Oid) → size_put at op ≤ greatest_put at os)

  put-all : (m t : ℕ) (at : Oid) (size fill : ℕ) → IsAmong (ops.Put m t at size fill) → IsWriteOf (cell_of g.cells at) (events.Put m at size fill)
  put-all m t at size fill among = ((refl, among.0 at refl), subst (λ (b : Bool). (if b then size else 0) ≤ greatest_put at os) (oid-same at) (among.1 at))

  caller-all : (n : ℕ) (op : Op) (reply : Reply) (work : Work) → IsAmong op → IsWorkOf g n (record { op = op; reply = reply; work = work }) → AllByRecursion OfNote work.noted
  caller-all n (ops.Get m t at w) reply work among f = reply-all n (record { at = at; event = events.Get m at }) work reply tt f.notes
  caller-all n (ops.Put m t at size fill) reply work among f = reply-all n (record { at = at; event = events.Put m at size fill }) work reply (put-all m t at size fill among) f.notes
  caller-all n (ops.Patch m t at from bytes) reply work among f = reply-all n (record { at = at; event = events.Patch m at from bytes }) work reply (refl, among.0 at refl) f.notes
  caller-all n (ops.Pin m t at) reply work among f = reply-all n (record { at = at; event = events.Pin m at }) work reply tt f.notes
  caller-all n (ops.Unpin m at) reply work among f = reply-all n (record { at = at; event = events.Unpin m at }) work reply tt f.notes
  caller-all n (ops.Read m t x window) reply work among f = none-all work f.notes
  caller-all n (ops.Hold m t x) reply work among f = none-all work f.notes
  caller-all n (ops.Drop m x) reply work among f = none-all work f.notes
  caller-all n ops.Feed reply work among f = none-all work f.notes
  caller-all n (ops.Txg t) reply work among f = none-all work f.notes
  caller-all n (ops.Cap c) reply work among f = none-all work f.notes

  synced-note : (note : Noted) → IsSyncedNote g note → OfNote note
  synced-note note s = subst (IsWriteOf note.cell) (sym s.is) tt

  feeder-all : (op : Op) (work : Work) → FitsFeeder g op work → AllByRecursion OfNote work.noted
  feeder-all (ops.Txg t) work f = all-each (IsSyncedNote g) OfNote work.noted synced-note f.synced
  feeder-all (ops.Cap c) work f = none-all work f
  feeder-all ops.Feed work f = none-all work f
  feeder-all (ops.Read n t x window) work f = absurd f
  feeder-all (ops.Hold n t x) work f = absurd f
  feeder-all (ops.Drop n x) work f = absurd f
  feeder-all (ops.Get n t at window) work f = absurd f
  feeder-all (ops.Put n t at size fill) work f = absurd f
  feeder-all (ops.Patch n t at from bytes) work f = absurd f
  feeder-all (ops.Pin n t at) work f = absurd f
  feeder-all (ops.Unpin n at) work f = absurd f

  fit-all : (by : Option ℕ) (l : Line) → IsAmong l.op → FitsBy g by l → OfLine l
  fit-all None l among f = feeder-all l.op l.work f
  fit-all (Some n) l among f = caller-all n l.op l.reply l.work among f

  lines-all : (ls : List Line) → AllFit g ls → AllByRecursion (λ l. IsAmong l.op) ls → AllByRecursion OfLine ls
  lines-all [] fits among = tt
  lines-all (l ∷ ls) fits among = (fit-all (caller_of l.op) l among.0 fits.0, lines-all ls fits.1 among.1)

  -- of the cell i
  pub events-all : (i : ℕ) (ls : List Line) → AllFit g ls → AllByRecursion (λ l. IsAmong l.op) ls → AllByRecursion (IsWriteOf i) (events_of_cell i (noted_of_work ls))
  events-all i ls fits among = cell-all i (noted_of_work ls) (work-all ls (lines-all ls fits among))

-- ---- lines are among themselves

pub op-there : (ls : List Line) (k : ℕ) (l : Line) → slice_get ls k ≡ Some l → slice_get (ops_of ls) k ≡ Some l.op
op-there [] k l at = absurd (let clash : ◌≡◌ {A = Option Line} None (Some l) = at in cc)
op-there (x ∷ ls) zero l at = let same : x ≡ l = cc in (λ i. Some (same i).op)
op-there (x ∷ ls) (suc k) l at = op-there ls k l at

pub all-among : (trace : Trace) (ls : List Line) → AllByRecursion (λ l. IsAmong trace (ops_of ls) l.op) ls
all-among trace ls = all-of (λ l. IsAmong trace (ops_of ls) l.op) ls
    (λ k l there. ((λ at writes. written-among at (ops_of ls) k l.op (op-there ls k l there) writes), (λ at. greatest-has at (ops_of ls) k l.op (op-there ls k l there))))
