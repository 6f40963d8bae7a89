-- Between two lines of a run of one caller each clean block that a cell keeps has a key that names one of the pool: it was loaded by a pointer with such a key, or a sync wrote it.
use Rattle.std.proofs.Common.{◌≡◌, ℕ, ◌+◌, ◌%◌, ◌≤◌, ◌==◌, Bool, true, false, List, [], ◌∷◌, ◌++◌, length, map, Option, Some, None, inl, inr, refl, sym, ap, subst, ◌∙◌, arith}
use Rattle.std.proofs.lemmas.Bool.{cases_Bool, false≢true}
use Rattle.std.specs.List.{AllByRecursion}
use Rattle.std.specs.Option.{option_map, option_map_or}
use mathlib.Core.Logic.{dite}
use native.Mathlib.Decide.{ℕ_discrete}
use Rattle.arc_core.specs.declared.config.Config.{Config}
use Rattle.arc_table.specs.Geometry.{IsCell}
use Rattle.blk_ptr.specs.declared.ptr.Ptr.{Ptr}
use Rattle.blk_ptr.specs.Key.{IsValid}
use Rattle.blk_ptr.specs.Size.{sector}
use Rattle.dbuf_cells.specs.Places.{cell_of}
use Rattle.dbuf_state.specs.Objects.{opened, opening_cell}
use Rattle.dbuf_state.specs.Oids.{item_at, oid_eq, with_item}
use Rattle.dbuf_state.specs.Outline.{Outline, OutlineDbuf, after, after_all, changed, dbuf_oid, dirtied, effect, ended, is_cached_at, is_clean, mapped_at, mapped_size, outline_dbuf, outline_of, touched, with_pins}
use Rattle.dbuf_state.specs.Objects as plain
use Rattle.dbuf_state.specs.Pins.{pinned, unpinned}
use Rattle.dbuf_state.specs.declared.event.CellEvent.{CellEvent}
use Rattle.dbuf_state.specs.declared.event.CellEvent.TheVariants as events
use Rattle.dbuf_state.specs.declared.oid.Oid.{Oid}
use Rattle.dbuf_state.specs.declared.state.Mapped.{Mapped}
use Rattle.dbuf_state.specs.declared.state.Mapped.TheVariants.{Clean, Dirty}
use Rattle.dbuf_state.specs.declared.state.Mapping.{Mapping}
use Rattle.vdev_io.specs.declared.device.CacheDev.{Ghosts as Devices}
use Rattle.vdev_io.specs.declared.pool.Pool.{Ghosts}
use Rattle.trace_text.specs.declared.op.Op.{Op}
use Rattle.trace_text.specs.declared.op.Op.TheVariants as ops
use Rattle.trace_text.specs.declared.reply.Reply.{Reply}
use Rattle.trace_text.specs.declared.reply.Reply.TheVariants as replies
use Rattle.trace_text.specs.declared.trace.Trace.{Trace}
use Rattle.trace_run.specs.Deeds.{Noted, events_of_cell, noted_in}
use Rattle.trace_run.specs.Feeds.{FeedDone}
use Rattle.trace_run.specs.Lines.{caller_of}
use Rattle.trace_run.specs.Openings.{opening_map}
use Rattle.trace_run.specs.RunWork.{AllFit, FitsBy, FitsFeeder, IsSyncedNote}
use Rattle.trace_run.specs.dbufs.ObjectLines.{OnObject, on_object}
use Rattle.trace_run.specs.dbufs.ObjectReplies.{ActsAt, ActsBy, ActsFor, BringsAt}
use Rattle.trace_run.specs.dbufs.Objects.{Brought, Line, Loaded, Nothing, OwnEvent, Refused, Work, gives_hold, loads_of, no_work, own_event}
use Rattle.trace_run.specs.one_caller.Sequence.{AreInSequence, BetweenLines, DoesAnyLine, DoesOther, DoesOwn, outline_behind}
use Rattle.trace_run.proofs.deeds.NotedCells.{noted-else, noted-here}
use Rattle.trace_run.proofs.in_place.AloneStands.{IsToldUpTo, StandsFine, line-fine}
use Rattle.trace_run.proofs.in_place.RoomLists.{all-behind}
use Rattle.run_laws.specs.Alike.{OneRun, begun}
use Rattle.run_laws.proofs.Facts.{AreCachedValid, OfEachLine}
use Rattle.run_laws.proofs.Settled.{line-notes}

-- ---- dbufs

all-map : {X : Type 0} (P Q : X → Type 0) (xs : List X) → ((x : X) → P x → Q x) → AllByRecursion P xs → AllByRecursion Q xs
all-map P Q [] f all = tt
all-map P Q (x ∷ xs) f all = (f x all.0, all-map P Q xs f all.1)

-- what is so of each dbuf, where the one of an Oid is changed
changed-all : (P : OutlineDbuf → Type 0) (at : Oid) (f : OutlineDbuf → OutlineDbuf) (ds : List OutlineDbuf) → ((d : OutlineDbuf) → item_at dbuf_oid at ds ≡ Some d → P d → P (f d)) → AllByRecursion P ds → AllByRecursion P (changed at f ds)
changed-all P at f [] becomes all = tt
changed-all P at f (d ∷ ds) becomes all = elim (cases_Bool (oid_eq at d.at)) [
  | inl here ↦ rw here (becomes d (rw here refl) all.0, all.1)
  | inr past ↦ rw past (all.0, changed-all P at f ds (λ x found. becomes x (rw past found)) all.1)
]

put-all : (P : OutlineDbuf → Type 0) (at : Oid) (f : OutlineDbuf → OutlineDbuf) (new : OutlineDbuf) (ds : List OutlineDbuf) → ((d : OutlineDbuf) → P d → P (f d)) → P new → AllByRecursion P ds → AllByRecursion P (with_item dbuf_oid at f new ds)
put-all P at f new [] becomes first all = (first, tt)
put-all P at f new (d ∷ ds) becomes first all = elim (cases_Bool (oid_eq at d.at)) [
  | inl here ↦ rw here (becomes d all.0, all.1)
  | inr past ↦ rw past (all.0, put-all P at f new ds becomes first all.1)
]

mapped-all : (P : OutlineDbuf → Type 0) (f : OutlineDbuf → OutlineDbuf) (ds : List OutlineDbuf) → ((d : OutlineDbuf) → P (f d)) → AllByRecursion P (map f ds)
mapped-all P f [] becomes = tt
mapped-all P f (d ∷ ds) becomes = (becomes d, mapped-all P f ds becomes)

-- ---- events

same-on : (a b : OnObject) → ◌≡◌ {A = Option OnObject} (Some a) (Some b) → b.at ≡ a.at
same-on a b is = let same : a ≡ b = cc in ap (λ (o : OnObject). o.at) (sym same)

same-mapped : (a b : Mapped) → ◌≡◌ {A = Option Mapped} (Some a) (Some b) → a ≡ b
same-mapped a b is = cc

same-pointer : (p q : Ptr) → ◌≡◌ {A = Mapped} (Clean p) (Clean q) → p ≡ q
same-pointer p q is = cc

module _ (len : ℕ) where
  -- where the dbuf keeps a clean block, its key is valid
  pub record IsKeptValid (d : OutlineDbuf) : Type 0 where
    pub valid : d.cached ≡ true → (ptr : Ptr) → d.mapped ≡ Clean ptr → IsValid len ptr.key

  abbrev pub AreKeptValid : Outline → Type 0
  AreKeptValid o = AllByRecursion IsKeptValid o.dbufs

  -- what the event makes the cell keep has a valid key
  abbrev pub IsValidNote : Outline → CellEvent → Type 0
  IsValidNote o (events.Load n at keeps) = (ptr : Ptr) → mapped_at at o ≡ Some (Clean ptr) → IsValid len ptr.key
  IsValidNote o (events.Synced n at ptr keeps) = IsValid len ptr.key
  IsValidNote o (events.Get n at) = Unit {0}
  IsValidNote o (events.Put n at size fill) = Unit {0}
  IsValidNote o (events.Patch n at from bytes) = Unit {0}
  IsValidNote o (events.Pin n at) = Unit {0}
  IsValidNote o (events.Unpin n at) = Unit {0}
  IsValidNote o (events.Evict n at) = Unit {0}
  IsValidNote o (events.End n) = Unit {0}

  abbrev pub AreValidNotes : Outline → List CellEvent → Type 0
  AreValidNotes o [] = Unit {0}
  AreValidNotes o (e ∷ es) = IsValidNote o e × AreValidNotes (after o e) es

  -- a dbuf that keeps none
  keeps-none : (d : OutlineDbuf) → d.cached ≡ false → IsKeptValid d
  keeps-none d none = record { valid = λ kept ptr is. absurd (false≢true (sym none ∙ kept)) }

  effect-valid : (o : Outline) (e : CellEvent) → IsValidNote o e → AreKeptValid o → AllByRecursion IsKeptValid (effect o.dbufs e)
  effect-valid o (events.Get n at) note all = all
  effect-valid o (events.Put n at size fill) note all =
      let new : OutlineDbuf = record { at = at; mapped = Dirty size; cached = false; pins = []; used = 0 } in
      put-all IsKeptValid at (dirtied size) new o.dbufs (λ d v. keeps-none (dirtied size d) refl) (keeps-none new refl) all
  effect-valid o (events.Patch n at from bytes) note all = changed-all IsKeptValid at (λ d. dirtied (mapped_size d.mapped) d) o.dbufs (λ d found v. keeps-none (dirtied (mapped_size d.mapped) d) refl) all
  effect-valid o (events.Pin n at) note all = changed-all IsKeptValid at (with_pins (pinned n)) o.dbufs (λ d found v. record { valid = v.valid }) all
  effect-valid o (events.Unpin n at) note all = changed-all IsKeptValid at (with_pins (unpinned n)) o.dbufs (λ d found v. record { valid = v.valid }) all
  effect-valid o (events.Load n at keeps) note all = changed-all IsKeptValid at (λ d. record d { cached = is_clean d.mapped }) o.dbufs
      (λ d found v. record { valid = λ kept ptr is. note ptr (ap (option_map (λ (x : OutlineDbuf). x.mapped)) found ∙ ap (λ (m : Mapped). Some m) is) }) all
  effect-valid o (events.Evict n at) note all = changed-all IsKeptValid at (λ d. record d { cached = false }) o.dbufs (λ d found v. keeps-none (record d { cached = false }) refl) all
  effect-valid o (events.Synced n at ptr keeps) note all = changed-all IsKeptValid at (λ d. record d { mapped = Clean ptr; cached = true }) o.dbufs
      (λ d found v. record { valid = λ kept other is. subst (λ (p : Ptr). IsValid len p.key) (same-pointer ptr other is) note }) all
  effect-valid o (events.End n) note all = mapped-all IsKeptValid ended o.dbufs (λ d. keeps-none (ended d) refl)

  touched-valid : (tick : ℕ) (used : Option Oid) (ds : List OutlineDbuf) → AllByRecursion IsKeptValid ds → AllByRecursion IsKeptValid (touched tick used ds)
  touched-valid tick None ds all = all
  touched-valid tick (Some at) ds all = changed-all IsKeptValid at (λ d. record d { used = tick }) ds (λ d found v. record { valid = v.valid }) all

  after-valid : (o : Outline) (e : CellEvent) → IsValidNote o e → AreKeptValid o → AreKeptValid (after o e)
  after-valid o e note all = touched-valid (o.events + 1) (plain.use_of e) (effect o.dbufs e) (effect-valid o e note all)

  pub all-valid : (o : Outline) (es : List CellEvent) → AreValidNotes o es → AreKeptValid o → AreKeptValid (after_all o es)
  all-valid o [] notes all = all
  all-valid o (e ∷ es) notes all = all-valid (after o e) es notes.1 (after-valid o e notes.0 all)

  -- the opening keeps none
  opening-valid : (limit : ℕ) (opening : List Mapping) → AreKeptValid (outline_of (opening_cell limit opening))
  opening-valid limit [] = tt
  opening-valid limit (m ∷ ms) = (keeps-none (outline_dbuf (opened m)) refl, opening-valid limit ms)

  -- what is kept of an Oid
  found-valid : (ds : List OutlineDbuf) (at : Oid) (ptr : Ptr) → AllByRecursion IsKeptValid ds → option_map_or (λ (d : OutlineDbuf). d.cached) (item_at dbuf_oid at ds) false ≡ true
      → option_map (λ (d : OutlineDbuf). d.mapped) (item_at dbuf_oid at ds) ≡ Some (Clean ptr) → IsValid len ptr.key
  found-valid [] at ptr all kept is = absurd (false≢true kept)
  found-valid (d ∷ ds) at ptr all kept is = elim (cases_Bool (oid_eq at d.at)) [
    | inl here ↦
        let mapped : ◌≡◌ {A = Option Mapped} (Some d.mapped) (Some (Clean ptr)) = rw here at is in
        all.0.valid (rw here at kept) ptr (same-mapped d.mapped (Clean ptr) mapped)
    | inr past ↦ found-valid ds at ptr all.1 (rw past at kept) (rw past at is)
  ]

  pub kept-valid : (o : Outline) (at : Oid) (ptr : Ptr) → AreKeptValid o → is_cached_at at o ≡ true → mapped_at at o ≡ Some (Clean ptr) → IsValid len ptr.key
  kept-valid o at ptr all kept is = found-valid o.dbufs at ptr all kept is

  -- ---- a line on an object

  evicts-noted : (n : ℕ) (xs : List Oid) (o : Outline) → AreValidNotes o (map (events.Evict n) xs)
  evicts-noted n [] o = tt
  evicts-noted n (x ∷ xs) o = (tt, evicts-noted n xs (after o (events.Evict n x)))

  line-noted : (n : ℕ) (at : Oid) (brought : Brought) (e : CellEvent) (xs : List Oid) (o : Outline) → ((q : Outline) → IsValidNote q e) → BringsAt len at o brought → AreValidNotes o (loads_of n at brought ++ e ∷ map (events.Evict n) xs)
  line-noted n at Nothing e xs o own brings = (own o, evicts-noted n xs (after o e))
  line-noted n at (Loaded ptr from) e xs o own brings = (
    (λ other is. subst (λ (p : Ptr). IsValid len p.key) (same-pointer ptr other (same-mapped (Clean ptr) (Clean other) (sym brings.0.pointer ∙ is))) brings.1),
    (own (after o (events.Load n at (gives_hold from))), evicts-noted n xs (after (after o (events.Load n at (gives_hold from))) e)),
  )
  line-noted n at (Refused ptr) e xs o own brings = (own o, evicts-noted n xs (after o e))

  -- what is noted of one cell is valid there, and nothing is noted of another
  abbrev AreNotedHere : (outlines : ℕ → Outline) → List Noted → Type 0
  AreNotedHere outlines noted = (i : ℕ) → AreValidNotes (outlines i) (events_of_cell i noted)

  in-noted : (outlines : ℕ → Outline) (i : ℕ) (es : List CellEvent) → AreValidNotes (outlines i) es → AreNotedHere outlines (noted_in i es)
  in-noted outlines i es notes j = dite (ℕ_discrete i j)
      (λ same. subst (λ (k : ℕ). AreValidNotes (outlines k) (events_of_cell k (noted_in i es))) same (subst (AreValidNotes (outlines i)) (sym (noted-here i es)) notes))
      (λ differs. subst (AreValidNotes (outlines j)) (sym (noted-else i j es differs)) tt)

  acts-noted : (g : Config) (n : ℕ) (AreHeld : (Oid → Bool) → Type 0) (own : OwnEvent) (outlines : ℕ → Outline) (work : Work) → ((q : Outline) → IsValidNote q own.event) → BringsAt len own.at (outlines (cell_of g.cells own.at)) work.brought
      → ActsAt g n AreHeld own (outlines (cell_of g.cells own.at)) work → AreNotedHere outlines work.noted
  acts-noted g n AreHeld own outlines work plain brings acts =
      subst (AreNotedHere outlines) (sym acts.noted)
      (in-noted outlines (cell_of g.cells own.at) _ (line-noted n own.at work.brought own.event acts.evictions (outlines (cell_of g.cells own.at)) plain brings))

  none-noted : (outlines : ℕ → Outline) (work : Work) → work.noted ≡ [] → AreNotedHere outlines work.noted
  none-noted outlines work none = subst (AreNotedHere outlines) (sym none) (λ i. tt)

  reply-noted : (g : Config) (n : ℕ) (AreHeld : (Oid → Bool) → Type 0) (own : OwnEvent) (outlines : ℕ → Outline) (work : Work) (reply : Reply) → ((q : Outline) → IsValidNote q own.event) → BringsAt len own.at (outlines (cell_of g.cells own.at)) work.brought
      → ActsBy g n AreHeld own (outlines (cell_of g.cells own.at)) work reply → AreNotedHere outlines work.noted
  reply-noted g n AreHeld own outlines work (replies.Got size shown) plain brings acts = acts-noted g n AreHeld own outlines work plain brings acts
  reply-noted g n AreHeld own outlines work replies.Done plain brings acts = acts-noted g n AreHeld own outlines work plain brings acts
  reply-noted g n AreHeld own outlines work (replies.Refused refusal) plain brings acts = none-noted outlines work acts.0
  reply-noted g n AreHeld own outlines work (replies.Read served digest shown) plain brings acts = absurd acts
  reply-noted g n AreHeld own outlines work (replies.Kept served) plain brings acts = absurd acts
  reply-noted g n AreHeld own outlines work replies.Dropped plain brings acts = absurd acts
  reply-noted g n AreHeld own outlines work (replies.Fed report) plain brings acts = absurd acts
  reply-noted g n AreHeld own outlines work replies.FedNone plain brings acts = absurd acts
  reply-noted g n AreHeld own outlines work (replies.Synced group blocks bytes) plain brings acts = absurd acts
  reply-noted g n AreHeld own outlines work (replies.Capped c) plain brings acts = absurd acts

  plain-noted : (outlines : ℕ → Outline) (work : Work) → work ≡ no_work → AreNotedHere outlines work.noted
  plain-noted outlines work none = none-noted outlines work (ap (λ (w : Work). w.noted) none)

  -- the line's block is that of its operation
  on-noted : (g : Config) (AreHeld : (Oid → Bool) → Type 0) (op : Op) (on : OnObject) (outlines : ℕ → Outline) (work : Work) (reply : Reply) → on_object op ≡ Some on → BringsAt len on.at (outlines (cell_of g.cells on.at)) work.brought
      → ActsFor g 0 AreHeld (own_event op) (outlines (cell_of g.cells on.at)) work reply → AreNotedHere outlines work.noted
  on-noted g AreHeld (ops.Get m t at w) on outlines work reply is brings acts =
      let same : on.at ≡ at = same-on _ on is in
      reply-noted g 0 AreHeld (record { at = at; event = events.Get m at }) outlines work reply (λ q. tt) (subst (λ (b : Oid). BringsAt len b (outlines (cell_of g.cells b)) work.brought) same brings)
      (subst (λ (b : Oid). ActsBy g 0 AreHeld (record { at = at; event = events.Get m at }) (outlines (cell_of g.cells b)) work reply) same acts)
  on-noted g AreHeld (ops.Put m t at size fill) on outlines work reply is brings acts =
      let same : on.at ≡ at = same-on _ on is in
      reply-noted g 0 AreHeld (record { at = at; event = events.Put m at size fill }) outlines work reply (λ q. tt) (subst (λ (b : Oid). BringsAt len b (outlines (cell_of g.cells b)) work.brought) same brings)
      (subst (λ (b : Oid). ActsBy g 0 AreHeld (record { at = at; event = events.Put m at size fill }) (outlines (cell_of g.cells b)) work reply) same acts)
  on-noted g AreHeld (ops.Patch m t at from bytes) on outlines work reply is brings acts =
      let same : on.at ≡ at = same-on _ on is in
      reply-noted g 0 AreHeld (record { at = at; event = events.Patch m at from bytes }) outlines work reply (λ q. tt) (subst (λ (b : Oid). BringsAt len b (outlines (cell_of g.cells b)) work.brought) same brings)
      (subst (λ (b : Oid). ActsBy g 0 AreHeld (record { at = at; event = events.Patch m at from bytes }) (outlines (cell_of g.cells b)) work reply) same acts)
  on-noted g AreHeld (ops.Pin m t at) on outlines work reply is brings acts =
      let same : on.at ≡ at = same-on _ on is in
      reply-noted g 0 AreHeld (record { at = at; event = events.Pin m at }) outlines work reply (λ q. tt) (subst (λ (b : Oid). BringsAt len b (outlines (cell_of g.cells b)) work.brought) same brings)
      (subst (λ (b : Oid). ActsBy g 0 AreHeld (record { at = at; event = events.Pin m at }) (outlines (cell_of g.cells b)) work reply) same acts)
  on-noted g AreHeld (ops.Unpin m at) on outlines work reply is brings acts =
      let same : on.at ≡ at = same-on _ on is in
      reply-noted g 0 AreHeld (record { at = at; event = events.Unpin m at }) outlines work reply (λ q. tt) (subst (λ (b : Oid). BringsAt len b (outlines (cell_of g.cells b)) work.brought) same brings)
      (subst (λ (b : Oid). ActsBy g 0 AreHeld (record { at = at; event = events.Unpin m at }) (outlines (cell_of g.cells b)) work reply) same acts)
  on-noted g AreHeld (ops.Read m t x window) on outlines work reply is brings acts = plain-noted outlines work acts
  on-noted g AreHeld (ops.Hold m t x) on outlines work reply is brings acts = plain-noted outlines work acts
  on-noted g AreHeld (ops.Drop m x) on outlines work reply is brings acts = plain-noted outlines work acts
  on-noted g AreHeld ops.Feed on outlines work reply is brings acts = plain-noted outlines work acts
  on-noted g AreHeld (ops.Txg t) on outlines work reply is brings acts = plain-noted outlines work acts
  on-noted g AreHeld (ops.Cap c) on outlines work reply is brings acts = plain-noted outlines work acts

  -- ---- a sync

  synced-noted : (g : Config) (end : ℕ) (now : List ℕ) (i : ℕ) (ns : List Noted) (o : Outline) → AllByRecursion (IsSyncedNote g) ns → AllByRecursion (IsToldUpTo len end now) (events_of_cell i ns) → AreValidNotes o (events_of_cell i ns)
  synced-noted g end now i [] o are told = tt
  synced-noted g end now i (note ∷ ns) o are told = elim (cases_Bool (note.cell == i)) [
    | inl here ↦
        let each : AllByRecursion (IsToldUpTo len end now) (note.event ∷ events_of_cell i ns) = rw here at told in
        let valid : IsValid len are.0.ptr.key = (subst (IsToldUpTo len end now) are.0.is each.0).0.valid in
        let first : IsValidNote o note.event = subst (IsValidNote o) (sym are.0.is) valid in
        rw here (first, synced-noted g end now i ns (after o note.event) are.1 each.1)
    | inr other ↦ rw other (synced-noted g end now i ns o are.1 (rw other at told))
  ]

-- ---- lines in sequence

after-behind : (o : Outline) (es more : List CellEvent) → after_all o (es ++ more) ≡ after_all (after_all o es) more
after-behind o [] more = refl
after-behind o (e ∷ es) more = after-behind (after o e) es more

-- what a line finds kept has valid keys
module _ {P D : Type 0} (pools : Ghosts P) (trace : Trace) where
  abbrev pub FindsValid : Line → (from to : BetweenLines P D) → Type 0
  FindsValid l from to = AreCachedValid trace (pools.size from.outside.pool) from.cells

module _ {P D : Type 0} (pools : Ghosts P) (devices : Devices D) (told_len : (p : P) (bytes : List ℕ) → pools.told p ≡ Some bytes → length bytes ≡ pools.size p) (trace : Trace) (len place : ℕ) (image : List ℕ) where
  abbrev StandsTold : BetweenLines P D → Type 0
  StandsTold = StandsFine pools devices told_len trace len place image

  abbrev StandsValid : BetweenLines P D → Type 0
  StandsValid at = (i : ℕ) → IsCell trace.config i → AreKeptValid len (outline_behind trace at.cells i)

  -- a line that notes what is valid
  noted-valid : (work : Work) (from to : BetweenLines P D) → ((i : ℕ) → IsCell trace.config i → to.cells i ≡ from.cells i ++ events_of_cell i work.noted)
      → ((i : ℕ) → IsCell trace.config i → AreValidNotes len (outline_behind trace from.cells i) (events_of_cell i work.noted)) → StandsValid from → StandsValid to
  noted-valid work from to cells notes valid i is_cell =
      let begins : Outline = outline_of (opening_cell trace.config.dbuf_bytes (opening_map trace i)) in
      let is : outline_behind trace to.cells i ≡ after_all (outline_behind trace from.cells i) (events_of_cell i work.noted) =
      ap (after_all begins) (cells i is_cell) ∙ after-behind begins (from.cells i) (events_of_cell i work.noted) in
      subst (AreKeptValid len) (sym is) (all-valid len (outline_behind trace from.cells i) (events_of_cell i work.noted) (notes i is_cell) (valid i is_cell))

  own-noted : (on : Option OnObject) (l : Line) (from to : BetweenLines P D) → on_object l.op ≡ on → pools.size from.outside.pool ≡ len → DoesOwn pools devices trace on l from to
      → (i : ℕ) → AreValidNotes len (outline_behind trace from.cells i) (events_of_cell i l.work.noted)
  own-noted None l from to is size does = plain-noted len (outline_behind trace from.cells) l.work does.work
  own-noted (Some on) l from to is size does =
      on-noted len trace.config _ l.op on (outline_behind trace from.cells) l.work l.reply is
      (subst (λ (s : ℕ). BringsAt s on.at (outline_behind trace from.cells (cell_of trace.config.cells on.at)) l.work.brought) size does.brought) does.acts

  other-noted : (op : Op) (reply : Reply) (work : Work) (feeds : List FeedDone) (from to : BetweenLines P D) → FitsFeeder trace.config op work → DoesOther pools devices trace op reply work feeds from to → StandsTold to
      → (i : ℕ) → IsCell trace.config i → AreValidNotes len (outline_behind trace from.cells i) (events_of_cell i work.noted)
  other-noted (ops.Txg t) reply work feeds from to fits does then i is_cell =
      let told : AllByRecursion (IsToldUpTo len to.outside.next then.now) (from.cells i ++ events_of_cell i work.noted) =
      subst (AllByRecursion (IsToldUpTo len to.outside.next then.now)) (does.1.leaves.goes_on.cells i is_cell) (then.notes i is_cell) in
      synced-noted len trace.config to.outside.next then.now i work.noted (outline_behind trace from.cells i) fits.synced
      (all-behind (IsToldUpTo len to.outside.next then.now) (from.cells i) (events_of_cell i work.noted) told)
  other-noted ops.Feed reply work feeds from to fits does then i is_cell = plain-noted len (outline_behind trace from.cells) work fits i
  other-noted (ops.Cap c) reply work feeds from to fits does then i is_cell = plain-noted len (outline_behind trace from.cells) work fits i
  other-noted (ops.Read n t x window) reply work feeds from to fits does then i is_cell = absurd fits
  other-noted (ops.Hold n t x) reply work feeds from to fits does then i is_cell = absurd fits
  other-noted (ops.Drop n x) reply work feeds from to fits does then i is_cell = absurd fits
  other-noted (ops.Get n t at window) reply work feeds from to fits does then i is_cell = absurd fits
  other-noted (ops.Put n t at size fill) reply work feeds from to fits does then i is_cell = absurd fits
  other-noted (ops.Patch n t at start bytes) reply work feeds from to fits does then i is_cell = absurd fits
  other-noted (ops.Pin n t at) reply work feeds from to fits does then i is_cell = absurd fits
  other-noted (ops.Unpin n at) reply work feeds from to fits does then i is_cell = absurd fits

  line-noted-valid : (by : Option ℕ) (l : Line) (feeds : List FeedDone) (from to : BetweenLines P D) → FitsBy trace.config by l → DoesAnyLine pools devices trace by l feeds from to → StandsTold from → StandsTold to
      → (i : ℕ) → IsCell trace.config i → AreValidNotes len (outline_behind trace from.cells i) (events_of_cell i l.work.noted)
  line-noted-valid (Some n) l feeds from to fits does fine then i is_cell = own-noted (on_object l.op) l from to refl fine.size does.1.did i
  line-noted-valid None l feeds from to fits does fine then i is_cell = other-noted l.op l.reply l.work feeds from to fits does then i is_cell

  stands-cached : (at : BetweenLines P D) → StandsTold at → StandsValid at → AreCachedValid trace (pools.size at.outside.pool) at.cells
  stands-cached at fine valid = subst (λ (s : ℕ). AreCachedValid trace s at.cells) (sym fine.size) (λ i is_cell oid ptr kept is. kept-valid len (outline_behind trace at.cells i) oid ptr (valid i is_cell) kept is)

  all-cached : (ls : List Line) (feeds : List FeedDone) (from to : BetweenLines P D) (did : AreInSequence pools devices trace ls feeds from to) → AllFit trace.config ls → StandsTold from → StandsValid from
      → OfEachLine pools devices trace (FindsValid pools trace) ls feeds from to did
  all-cached [] feeds from to did fits fine valid = tt
  all-cached (l ∷ ls) feeds from to did fits fine valid =
      let next : BetweenLines P D = did.0 in
      let then : StandsTold next = line-fine pools devices told_len trace len place image (caller_of l.op) l did.1 from next fine did.4 in
      let more : StandsValid next = noted-valid l.work from next (line-notes pools devices trace (caller_of l.op) l did.1 from next fits.0 did.4) (line-noted-valid (caller_of l.op) l did.1 from next fits.0 did.4 fine then) valid in
      (stands-cached from fine valid, all-cached ls did.2 next to did.5 fits.1 then more)

-- ---- the run

module _ {P D : Type 0} (pools : Ghosts P) (devices : Devices D) (told_len : (p : P) (bytes : List ℕ) → pools.told p ≡ Some bytes → length bytes ≡ pools.size p) (trace : Trace) (run : OneRun pools devices trace) (image : List ℕ)
    (tells : pools.told run.before ≡ Some image) where
  abbrev StandsSo : BetweenLines P D → Type 0
  StandsSo = StandsFine pools devices told_len trace (pools.size run.before) run.run.run.place image

  place-fine : (run.run.run.place % sector ≡ 0) × (run.run.run.place ≤ pools.size run.before)
  place-fine = elim run.run.run.first.least [
    | inl none ↦ (omega (arith, none), omega (arith, none))
    | inr end ↦
        let a = end.3.formed.aligned in
        let b = end.3.formed.sized.0 in
        let c : end.1.key.offset + end.1.key.size ≤ pools.size run.before = end.3.inside in
        let is : run.run.run.place ≡ end.1.key.offset + end.1.key.size = end.4 in
        (omega (arith, a, b, is), omega (arith, c, is))
  ]

  begins-fine : StandsSo (begun pools devices trace run)
  begins-fine = record {
    now = image;
    told = tells;
    size = refl;
    front = refl;
    behind = omega arith;
    inside = place-fine.1;
    aligned = place-fine.0;
    born = omega arith;
    notes = λ i is_cell. tt;
  }

  pub valid-lines : OfEachLine pools devices trace (FindsValid pools trace) run.run.work.lines run.run.work.feeds (begun pools devices trace run) run.in_turn.reached run.in_turn.lines
  valid-lines = all-cached pools devices told_len trace (pools.size run.before) run.run.run.place image run.run.work.lines run.run.work.feeds (begun pools devices trace run) run.in_turn.reached run.in_turn.lines run.run.did.fits begins-fine
      (λ i is_cell. opening-valid (pools.size run.before) trace.config.dbuf_bytes (opening_map trace i))
