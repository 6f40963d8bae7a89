-- A line on an object, by the history of its block's cell: which bytes it asks for, or how it is answered; and the events that two lines of the same acts made with the cell's number are the same.
use Rattle.std.proofs.Common.{◌≡◌, ℕ, ◌+◌, ◌<◌, ◌≤◌, ◌==◌, ◌&&◌, ◌%◌, nat_le, not, Bool, true, false, IsTrue, List, [], ◌∷◌, ◌++◌, length, map, Option, Some, None, inl, inr, refl, sym, ap, subst, ◌∙◌, arith, append_assoc, eq-eqb}
use Rattle.std.proofs.lemmas.Bool.{false≢true}
use Rattle.std.proofs.lemmas.Bool.Decides.{nat_tests}
use Rattle.std.specs.List.{AllByRecursion}
use Rattle.std.specs.Option.{option_map, option_map_or}
use Rattle.blk_ptr.specs.declared.key.Key.{Key}
use Rattle.blk_ptr.specs.declared.ptr.Ptr.{Ptr}
use Rattle.blk_ptr.specs.Hash.{hash_of_key, shard_of}
use Rattle.arc_core.specs.declared.config.Config.{Config}
use Rattle.arc_core.specs.declared.event.Event.{Event}
use Rattle.arc_core.specs.declared.event.Event.TheVariants as event
use Rattle.arc_core.specs.Operations.{Act, GivesBack, MakesPrivate, Writes, event_key}
use Rattle.arc_core.specs.PlainShard.{PlainShard}
use Rattle.arc_core.specs.Replay.{is_legal_history, replay}
use Rattle.arc_core.specs.Step.{legal}
use Rattle.arc_core.specs.Step as step
use Rattle.dbuf_cells.specs.Places.{cell_of}
use Rattle.dbuf_state.specs.Answers.{AreBytesAt, IsAnswerAfter}
use Rattle.dbuf_state.specs.Objects.{AreBytesOf, Block, Cached, IsLegal, PlainCell, PlainDbuf, Uncached, has_bytes, is_due, opening_cell, size_of}
use Rattle.dbuf_state.specs.Objects as plain
use Rattle.dbuf_state.specs.Outline.{Outline, OutlineDbuf, after_all, has_pin_at, is_cached_at, mapped_at, mapped_in, mapped_size, outline_after, outline_dbuf, outline_of}
use Rattle.dbuf_state.specs.Outline as outline
use Rattle.dbuf_state.specs.Pins.{has_pin}
use Rattle.dbuf_state.specs.declared.event.CellEvent.{CellEvent}
use Rattle.dbuf_state.specs.declared.event.CellEvent.TheVariants as events
use Rattle.dbuf_state.specs.declared.oid.Oid.{Oid}
use Rattle.dbuf_state.specs.declared.state.Mapped.{Mapped}
use Rattle.dbuf_state.specs.declared.state.Mapped.TheVariants.{Clean}
use Rattle.dbuf_state.specs.declared.state.Mapping.{Mapping}
use Rattle.dbuf_state.specs.declared.window.Window.{Window}
use Rattle.dbuf_state.proofs.Changes.{view-found}
use Rattle.dbuf_state.proofs.IndexLemmas.{and-parts, bool_cases}
use Rattle.dbuf_state.proofs.OutlineLemmas.{leads-outline, outline-is-told}
use Rattle.trace_text.specs.declared.op.Op.{Op}
use Rattle.trace_text.specs.declared.op.Op.TheVariants as ops
use Rattle.trace_text.specs.declared.reply.Refusal.{Refusal}
use Rattle.trace_text.specs.declared.reply.Refusal.TheVariants as refusals
use Rattle.trace_text.specs.declared.reply.Reply.{Reply}
use Rattle.trace_text.specs.declared.reply.Reply.TheVariants as replies
use Rattle.trace_run.specs.Deeds.{HasAct, act_of_event, acts_of_events, events_of_cell, events_there}
use Rattle.trace_run.specs.dbufs.ObjectLines.{EndsInside, TellsBrought, WasToBring}
use Rattle.trace_run.specs.dbufs.ObjectReplies.{ActsAt, ActsBy, AnswersObject, BringsAt, RefusesAt, RefusesPin, RefusesWhole}
use Rattle.trace_run.specs.dbufs.Objects.{Brought, GoesTogether, IsAnswered, Loaded, Nothing, OwnEvent, Refused, Work, gives_hold, loads_of}
use Rattle.trace_run.proofs.deeds.NotedCells.{noted-here}
use Rattle.trace_run.proofs.in_place.Mapped.{mapped-all}
use Rattle.run_laws.proofs.BringAlike.{AsksSo, IsNothing, TellsRefusal, refusal_of}
use Rattle.run_laws.proofs.Due.{parted}
use Rattle.run_laws.proofs.Facts.{IsSettled}
use Rattle.run_laws.proofs.MadeActs.{IsActing, acting, drops, inserts, releases, sole-is}

-- ---- legal histories of a cell

-- a line's own event was legal when it came
pub own-legal : (limit : ℕ) (opening : List Mapping) (front loads : List CellEvent) (own : CellEvent) (rest : List CellEvent) → IsSettled limit opening (front ++ (loads ++ own ∷ rest))
    → (mid : PlainCell) × (outline_of mid ≡ after_all (outline_after limit opening front) loads) × IsLegal mid own
own-legal limit opening front loads own rest settled =
    let first = parted (opening_cell limit opening) settled.state front (loads ++ own ∷ rest) settled.bases settled.leads in
    let second = parted first.state settled.state loads (own ∷ rest) first.rest first.behind in
    let told : outline_of first.state ≡ outline_after limit opening front = outline-is-told limit opening front first.bases first.state first.before in
    let now : outline_of second.state ≡ after_all (outline_of first.state) loads = leads-outline first.state loads second.bases second.state second.before in
    (second.state, now ∙ ap (λ (o : Outline). after_all o loads) told, second.behind.0)

-- ---- a dbuf and its outline

-- the dbuf that passes a test
dbuf-there : (test : PlainDbuf → Bool) (o : Option PlainDbuf) → option_map_or test o false ≡ true → (d : PlainDbuf) × (o ≡ Some d) × (test d ≡ true)
dbuf-there test None is = absurd (false≢true is)
dbuf-there test (Some d) is = (d, refl, is)

found-as : (at : Oid) (c : PlainCell) (o : Outline) (d : PlainDbuf) → outline_of c ≡ o → plain.dbuf_at at c ≡ Some d → outline.dbuf_at at o ≡ Some (outline_dbuf d)
found-as at c o d told is =
    ap (λ (x : Outline). outline.dbuf_at at x) (sym told) ∙ (view-found plain.dbuf_oid outline.dbuf_oid outline_dbuf (λ d. refl) at c.dbufs ∙ ap (option_map outline_dbuf) is)

mapped-as : (at : Oid) (o : Outline) (d : PlainDbuf) → outline.dbuf_at at o ≡ Some (outline_dbuf d) → mapped_at at o ≡ Some (mapped_in d.block)
mapped-as at o d is = ap (option_map (λ (x : OutlineDbuf). x.mapped)) is

cached-as : (at : Oid) (o : Outline) (d : PlainDbuf) → outline.dbuf_at at o ≡ Some (outline_dbuf d) → is_cached_at at o ≡ plain.is_cached d.block
cached-as at o d is = ap (λ (x : Option OutlineDbuf). option_map_or (λ (y : OutlineDbuf). y.cached) x false) is

pinned-as : (n : ℕ) (at : Oid) (o : Outline) (d : PlainDbuf) → outline.dbuf_at at o ≡ Some (outline_dbuf d) → has_pin_at n at o ≡ has_pin n d.pins
pinned-as n at o d is = ap (λ (x : Option OutlineDbuf). option_map_or (λ (y : OutlineDbuf). has_pin n y.pins) x false) is

same-size : (block : Block) → mapped_size (mapped_in block) ≡ size_of block
same-size (Uncached ptr) = refl
same-size (Cached ptr) = refl
same-size (plain.Dirty bytes) = refl

bytes-size : (block : Block) (bytes : List ℕ) → AreBytesOf bytes block → length bytes ≡ mapped_size (mapped_in block)
bytes-size (Uncached ptr) bytes of = of.size
bytes-size (Cached ptr) bytes of = of.size
bytes-size (plain.Dirty written) bytes of = ap length (sym of)

-- a block whose bytes are there is none that would be read
not-to-bring : (block : Block) (ptr : Ptr) → has_bytes block ≡ true → ◌≡◌ {A = Option Mapped} (Some (mapped_in block)) (Some (Clean ptr)) → plain.is_cached block ≡ false → ⊥
not-to-bring (Uncached p) ptr there mapped uncached = false≢true there
not-to-bring (Cached p) ptr there mapped uncached = false≢true (sym uncached)
not-to-bring (plain.Dirty bytes) ptr there mapped uncached = cc

bytes-there : (at : Oid) (o : Outline) (d : PlainDbuf) → outline.dbuf_at at o ≡ Some (outline_dbuf d) → has_bytes d.block ≡ true → (ptr : Ptr) → WasToBring at ptr o → ⊥
bytes-there at o d is there ptr was = not-to-bring d.block ptr there (sym (mapped-as at o d is) ∙ was.pointer) (sym (cached-as at o d is) ∙ was.uncached)

-- a Load changes nothing of the object map
mapped-loads : (at : Oid) (o : Outline) (brought : Brought) → mapped_at at (after_all o (loads_of 0 at brought)) ≡ mapped_at at o
mapped-loads at o Nothing = refl
mapped-loads at o (Loaded ptr from) = mapped-all at o (events.Load 0 at (gives_hold from) ∷ [])
mapped-loads at o (Refused ptr) = refl

-- ---- events that need a block's bytes

-- where the event is legal the block's bytes are there, and so many of them
abbrev pub NeedsBytes : CellEvent → Oid → (last : ℕ) → Type 0
NeedsBytes own at last = (c : PlainCell) → IsLegal c own → (d : PlainDbuf) × (plain.dbuf_at at c ≡ Some d) × (has_bytes d.block ≡ true) × (last ≤ size_of d.block)

zero-least : (n : ℕ) → 0 ≤ n
zero-least n = omega arith

get-needs : (n : ℕ) (at : Oid) → NeedsBytes (events.Get n at) at 0
get-needs n at c legal = let d = dbuf-there (λ d. has_bytes d.block) (plain.dbuf_at at c) (and-parts (not (is_due c)) _ legal).1 in (d.0, d.1, d.2, zero-least (size_of d.0.block))

pin-needs : (n : ℕ) (at : Oid) → NeedsBytes (events.Pin n at) at 0
pin-needs n at c legal = let d = dbuf-there (λ d. has_bytes d.block) (plain.dbuf_at at c) (and-parts (not (is_due c)) _ legal).1 in (d.0, d.1, d.2, zero-least (size_of d.0.block))

patch-needs : (n : ℕ) (at : Oid) (from : ℕ) (bytes : List ℕ) → NeedsBytes (events.Patch n at from bytes) at (from + length bytes)
patch-needs n at from bytes c legal =
    let d = dbuf-there (λ d. has_bytes d.block && nat_le (from + length bytes) (size_of d.block)) (plain.dbuf_at at c) (and-parts (not (is_due c)) _ legal).1 in
    let both = and-parts (has_bytes d.0.block) _ d.2 in
    (d.0, d.1, both.0, fits (from + length bytes) (size_of d.0.block) both.1)
  where
    fits : (a b : ℕ) → nat_le a b ≡ true → a ≤ b
    fits a b h = grind (arith, nat_tests)

module _ (limit : ℕ) (opening : List Mapping) (front : List CellEvent) where
  -- the block is there, and so many bytes of it
  own-ends : (at : Oid) (last : ℕ) (brought : Brought) (own : CellEvent) (rest : List CellEvent) → NeedsBytes own at last → IsSettled limit opening (front ++ (loads_of 0 at brought ++ own ∷ rest))
      → EndsInside at last (outline_after limit opening front)
  own-ends at last brought own rest needs settled =
      let o : Outline = outline_after limit opening front in
      let here = own-legal limit opening front (loads_of 0 at brought) own rest settled in
      let d = needs here.0 here.2 in
      let is = found-as at here.0 (after_all o (loads_of 0 at brought)) d.0 here.1 d.1 in
      let size = same-size d.0.block in
      let most = d.3 in
      record { mapped = mapped_in d.0.block; there = sym (mapped-loads at o brought) ∙ mapped-as at (after_all o (loads_of 0 at brought)) d.0 is; inside = omega (arith, size, most) }

  -- where nothing was brought the bytes were there
  own-there : (at : Oid) (last : ℕ) (brought : Brought) (own : CellEvent) (rest : List CellEvent) → NeedsBytes own at last → IsSettled limit opening (front ++ (loads_of 0 at brought ++ own ∷ rest))
      → IsNothing brought → (ptr : Ptr) → WasToBring at ptr (outline_after limit opening front) → ⊥
  own-there at last Nothing own rest needs settled none ptr was =
      let here = own-legal limit opening front [] own rest settled in
      let d = needs here.0 here.2 in
      bytes-there at (outline_after limit opening front) d.0 (found-as at here.0 (outline_after limit opening front) d.0 here.1 d.1) d.2 ptr was
  own-there at last (Loaded p from) own rest needs settled none ptr was = none
  own-there at last (Refused p) own rest needs settled none ptr was = none

  -- a window that was shown ends inside the block
  got-ends : (at : Oid) (w : Window) (size : ℕ) (shown : List ℕ) → IsAnswerAfter limit opening front at w size shown → EndsInside at (w.at + w.len) (outline_after limit opening front)
  got-ends at w size shown got = go (plain.dbuf_at at got.cell) refl got.answer.of
    where
      go : (found : Option PlainDbuf) → plain.dbuf_at at got.cell ≡ found → AreBytesAt got.answer.bytes found → EndsInside at (w.at + w.len) (outline_after limit opening front)
      go None is of = absurd of
      go (Some d) is of =
          let told : outline_of got.cell ≡ outline_after limit opening front = outline-is-told limit opening front got.bases got.cell got.legal in
          let there = found-as at got.cell (outline_after limit opening front) d told is in
          let many = bytes-size d.block got.answer.bytes of in
          let sized = got.answer.sized in
          let inside = got.answer.inside in
          record { mapped = mapped_in d.block; there = mapped-as at (outline_after limit opening front) d there; inside = omega (arith, many, sized, inside) }

-- ---- what is known of one line on an object

-- What a line did, and what it was answered, by the front of its cell's history that it found; and the history goes on to where no eviction is due.
pub record LooksSo (g : Config) (image : List ℕ) (limit : ℕ) (opening : List Mapping) (front : List CellEvent) (AreHeld : (Oid → Bool) → Type 0) (own : OwnEvent) (op : Op) (reply : Reply) (work : Work) : Type 0 where
  pub brings : BringsAt (length image) own.at (outline_after limit opening front) work.brought
  pub range : TellsBrought (Some image) work.brought
  pub acts : ActsBy g 0 AreHeld own (outline_after limit opening front) work reply
  pub answer : AnswersObject (length image) (Some image) limit opening front work.brought op reply
  pub together : GoesTogether op reply work.brought
  pub settled : IsSettled limit opening (front ++ events_of_cell (cell_of g.cells own.at) work.noted)

module _ (g : Config) (image : List ℕ) (limit : ℕ) (opening : List Mapping) (front : List CellEvent) (AreHeld : (Oid → Bool) → Type 0) where
  -- what an answered line did stands in that history
  own-settled : (own : OwnEvent) (work : Work) (acts : ActsAt g 0 AreHeld own (outline_after limit opening front) work) → IsSettled limit opening (front ++ events_of_cell (cell_of g.cells own.at) work.noted)
      → IsSettled limit opening (front ++ (loads_of 0 own.at work.brought ++ own.event ∷ map (events.Evict 0) acts.evictions))
  own-settled own work acts settled =
      let i : ℕ = cell_of g.cells own.at in
      let es : List CellEvent = loads_of 0 own.at work.brought ++ own.event ∷ map (events.Evict 0) acts.evictions in
      let noted : events_of_cell i work.noted ≡ es = ap (events_of_cell i) acts.noted ∙ noted-here i es in
      subst (λ (l : List CellEvent). IsSettled limit opening (front ++ l)) noted settled

  -- how a line asks for its block's bytes, and that its reply tells no read but one that was refused
  abbrev pub Asks : Oid → (last : ℕ) → Brought → Reply → Type 0
  Asks at last brought reply = AsksSo image limit opening front at last brought (refusal_of reply) × TellsRefusal reply

  -- of an answered line
  done-asks : (own : OwnEvent) (last : ℕ) (work : Work) → NeedsBytes own.event own.at last → IsAnswered work.brought → (acts : ActsAt g 0 AreHeld own (outline_after limit opening front) work)
      → IsSettled limit opening (front ++ events_of_cell (cell_of g.cells own.at) work.noted) → AsksSo image limit opening front own.at last work.brought None
  done-asks own last work needs answered acts settled =
      let its = own-settled own work acts settled in
      let rest : List CellEvent = map (events.Evict 0) acts.evictions in
      (answered, own-ends limit opening front own.at last work.brought own.event rest needs its, own-there limit opening front own.at last work.brought own.event rest needs its)

  pub get-asks : (n t : ℕ) (at : Oid) (w : Window) (reply : Reply) (work : Work) → LooksSo g image limit opening front AreHeld (record { at = at; event = events.Get n at }) (ops.Get n t at w) reply work → Asks at (w.at + w.len) work.brought reply
  get-asks n t at w (replies.Got size shown) work looks =
      let own : OwnEvent = record { at = at; event = events.Get n at } in
      let its = own-settled own work looks.acts looks.settled in
      ((looks.together, got-ends limit opening front at w size shown looks.answer, own-there limit opening front at 0 work.brought (events.Get n at) (map (events.Evict 0) looks.acts.evictions) (get-needs n at) its), refl)
  get-asks n t at w (replies.Refused refusal) work looks = ((looks.together, looks.answer), refl)
  get-asks n t at w replies.Done work looks = absurd looks.answer
  get-asks n t at w (replies.Read from digest shown) work looks = absurd looks.answer
  get-asks n t at w (replies.Kept from) work looks = absurd looks.answer
  get-asks n t at w replies.Dropped work looks = absurd looks.answer
  get-asks n t at w (replies.Fed report) work looks = absurd looks.answer
  get-asks n t at w replies.FedNone work looks = absurd looks.answer
  get-asks n t at w (replies.Synced group blocks bytes) work looks = absurd looks.answer
  get-asks n t at w (replies.Capped c) work looks = absurd looks.answer

  pub patch-asks : (n t : ℕ) (at : Oid) (from : ℕ) (bytes : List ℕ) (reply : Reply) (work : Work) → LooksSo g image limit opening front AreHeld (record { at = at; event = events.Patch n at from bytes }) (ops.Patch n t at from bytes) reply work
      → Asks at (from + length bytes) work.brought reply
  patch-asks n t at from bytes replies.Done work looks =
      (done-asks (record { at = at; event = events.Patch n at from bytes }) (from + length bytes) work (patch-needs n at from bytes) looks.together looks.acts looks.settled, refl)
  patch-asks n t at from bytes (replies.Refused refusal) work looks = ((looks.together, looks.answer), refl)
  patch-asks n t at from bytes (replies.Got size shown) work looks = absurd looks.answer
  patch-asks n t at from bytes (replies.Read served digest shown) work looks = absurd looks.answer
  patch-asks n t at from bytes (replies.Kept served) work looks = absurd looks.answer
  patch-asks n t at from bytes replies.Dropped work looks = absurd looks.answer
  patch-asks n t at from bytes (replies.Fed report) work looks = absurd looks.answer
  patch-asks n t at from bytes replies.FedNone work looks = absurd looks.answer
  patch-asks n t at from bytes (replies.Synced group blocks written) work looks = absurd looks.answer
  patch-asks n t at from bytes (replies.Capped c) work looks = absurd looks.answer

  -- a pin asks for the block, and for no range
  whole-refused : (brought : Brought) (at : Oid) (refusal : Refusal) → RefusesWhole (length image) (Some image) limit opening front brought at refusal → RefusesAt (length image) (Some image) limit opening front brought at 0 refusal
  whole-refused brought at (refusals.NoBlock named) refuses = refuses
  whole-refused brought at (refusals.Range end size) refuses = absurd refuses
  whole-refused brought at (refusals.Key why) refuses = refuses
  whole-refused brought at refusals.PoolFault refuses = refuses
  whole-refused brought at (refusals.Mismatch other) refuses = refuses
  whole-refused brought at (refusals.NoHold block) refuses = absurd refuses
  whole-refused brought at (refusals.NoPin named) refuses = absurd refuses
  whole-refused brought at refusals.NoMemory refuses = absurd refuses

  pub pin-asks : (n t : ℕ) (at : Oid) (reply : Reply) (work : Work) → LooksSo g image limit opening front AreHeld (record { at = at; event = events.Pin n at }) (ops.Pin n t at) reply work → Asks at 0 work.brought reply
  pin-asks n t at replies.Done work looks = (done-asks (record { at = at; event = events.Pin n at }) 0 work (pin-needs n at) looks.together looks.acts looks.settled, refl)
  pin-asks n t at (replies.Refused refusal) work looks = ((looks.together, whole-refused work.brought at refusal looks.answer), refl)
  pin-asks n t at (replies.Got size shown) work looks = absurd looks.answer
  pin-asks n t at (replies.Read from digest shown) work looks = absurd looks.answer
  pin-asks n t at (replies.Kept from) work looks = absurd looks.answer
  pin-asks n t at replies.Dropped work looks = absurd looks.answer
  pin-asks n t at (replies.Fed report) work looks = absurd looks.answer
  pin-asks n t at replies.FedNone work looks = absurd looks.answer
  pin-asks n t at (replies.Synced group blocks bytes) work looks = absurd looks.answer
  pin-asks n t at (replies.Capped c) work looks = absurd looks.answer

  -- ---- lines that ask for no bytes

  -- a whole write is never refused
  pub put-done : (n t : ℕ) (at : Oid) (size fill : ℕ) (reply : Reply) (work : Work) → LooksSo g image limit opening front AreHeld (record { at = at; event = events.Put n at size fill }) (ops.Put n t at size fill) reply work → reply ≡ replies.Done
  put-done n t at size fill replies.Done work looks = refl
  put-done n t at size fill (replies.Refused refusal) work looks = absurd looks.answer
  put-done n t at size fill (replies.Got most shown) work looks = absurd looks.answer
  put-done n t at size fill (replies.Read from digest shown) work looks = absurd looks.answer
  put-done n t at size fill (replies.Kept from) work looks = absurd looks.answer
  put-done n t at size fill replies.Dropped work looks = absurd looks.answer
  put-done n t at size fill (replies.Fed report) work looks = absurd looks.answer
  put-done n t at size fill replies.FedNone work looks = absurd looks.answer
  put-done n t at size fill (replies.Synced group blocks bytes) work looks = absurd looks.answer
  put-done n t at size fill (replies.Capped c) work looks = absurd looks.answer

  -- a pin is taken back where there is one
  abbrev pub unpin_reply : (has : Bool) → Oid → Reply
  unpin_reply true at = replies.Done
  unpin_reply false at = replies.Refused (refusals.NoPin at)

  own-pin : (n : ℕ) (at : Oid) (rest : List CellEvent) → IsSettled limit opening (front ++ (events.Unpin n at ∷ rest)) → has_pin_at n at (outline_after limit opening front) ≡ true
  own-pin n at rest settled =
      let here = own-legal limit opening front [] (events.Unpin n at) rest settled in
      let d = dbuf-there (λ d. has_pin n d.pins) (plain.dbuf_at at here.0) (and-parts (not (is_due here.0)) _ here.2).1 in
      pinned-as n at (outline_after limit opening front) d.0 (found-as at here.0 (outline_after limit opening front) d.0 here.1 d.1) ∙ d.2

  pin-refused : (brought : Brought) (n : ℕ) (at : Oid) (refusal : Refusal) → RefusesPin (length image) (Some image) limit opening front brought n at refusal → replies.Refused refusal ≡ unpin_reply (has_pin_at n at (outline_after limit opening front)) at
  pin-refused brought n at (refusals.NoPin named) refuses =
      ap (λ (x : Oid). replies.Refused (refusals.NoPin x)) refuses.0 ∙ ap (λ (has : Bool). unpin_reply has at) (sym refuses.1)
  pin-refused brought n at (refusals.NoBlock named) refuses = absurd refuses
  pin-refused brought n at (refusals.Range end size) refuses = absurd refuses
  pin-refused brought n at (refusals.Key why) refuses = absurd refuses
  pin-refused brought n at refusals.PoolFault refuses = absurd refuses
  pin-refused brought n at (refusals.Mismatch other) refuses = absurd refuses
  pin-refused brought n at (refusals.NoHold block) refuses = absurd refuses
  pin-refused brought n at refusals.NoMemory refuses = absurd refuses

  pub unpin-done : (n : ℕ) (at : Oid) (reply : Reply) (work : Work) → LooksSo g image limit opening front AreHeld (record { at = at; event = events.Unpin n at }) (ops.Unpin n at) reply work
      → reply ≡ unpin_reply (has_pin_at n at (outline_after limit opening front)) at
  unpin-done n at replies.Done work looks =
      let own : OwnEvent = record { at = at; event = events.Unpin n at } in
      let rest : List CellEvent = map (events.Evict 0) looks.acts.evictions in
      let its : IsSettled limit opening (front ++ (loads_of 0 at Nothing ++ events.Unpin n at ∷ rest)) =
      subst (λ (b : Brought). IsSettled limit opening (front ++ (loads_of 0 at b ++ events.Unpin n at ∷ rest))) looks.together (own-settled own work looks.acts looks.settled) in
      ap (λ (has : Bool). unpin_reply has at) (sym (own-pin n at rest its))
  unpin-done n at (replies.Refused refusal) work looks = pin-refused work.brought n at refusal looks.answer
  unpin-done n at (replies.Got size shown) work looks = absurd looks.answer
  unpin-done n at (replies.Read from digest shown) work looks = absurd looks.answer
  unpin-done n at (replies.Kept from) work looks = absurd looks.answer
  unpin-done n at replies.Dropped work looks = absurd looks.answer
  unpin-done n at (replies.Fed report) work looks = absurd looks.answer
  unpin-done n at replies.FedNone work looks = absurd looks.answer
  unpin-done n at (replies.Synced group blocks bytes) work looks = absurd looks.answer
  unpin-done n at (replies.Capped c) work looks = absurd looks.answer

-- ---- the events of acts

-- one act and those behind it
record AreTwo (a b : Act) (xs ys : List Act) : Type 0 where
  pub first : a ≡ b
  pub rest : xs ≡ ys

two : (a b : Act) (xs ys : List Act) → ◌≡◌ {A = List Act} (a ∷ xs) (b ∷ ys) → AreTwo a b xs ys
two a b xs ys is = record { first = cc; rest = cc }

none-front : (a : Act) (xs : List Act) → ◌≡◌ {A = List Act} (a ∷ xs) [] → ⊥
none-front a xs is = cc

none-left : {e : Event} → IsActing e → (xs : List Act) → act_of_event e ++ xs ≡ [] → ⊥
none-left (drops n k) xs is = none-front (GivesBack n k) xs is
none-left (releases n k sole) xs is = none-front (MakesPrivate n k) xs is
none-left (inserts n k d t) xs is = none-front (Writes n t (record { key = k; digest = d })) xs is

-- the key of an acting event
abbrev pub key_of : {e : Event} → IsActing e → Key
key_of (drops n k) = k
key_of (releases n k sole) = k
key_of (inserts n k d t) = k

given-is : (n m : ℕ) (k j : Key) → ◌≡◌ {A = Act} (GivesBack n k) (GivesBack m j) → ◌≡◌ {A = Event} (event.Drop m j) (event.Drop n k)
given-is n m k j is = let a : m ≡ n = cc in let b : j ≡ k = cc in (λ i. event.Drop (a i) (b i))

-- of a block that was made private
record IsPrivate (n m : ℕ) (k j : Key) : Type 0 where
  pub number : m ≡ n
  pub key : j ≡ k

private-is : (n m : ℕ) (k j : Key) → ◌≡◌ {A = Act} (MakesPrivate n k) (MakesPrivate m j) → IsPrivate n m k j
private-is n m k j is = record { number = cc; key = cc }

record IsWritten (n m t u : ℕ) (p q : Ptr) : Type 0 where
  pub number : m ≡ n
  pub tick : u ≡ t
  pub ptr : q ≡ p

written-is : (n m t u : ℕ) (p q : Ptr) → ◌≡◌ {A = Act} (Writes n t p) (Writes m u q) → IsWritten n m t u p q
written-is n m t u p q is = record { number = cc; tick = cc; ptr = cc }

module _ (g : Config) (sh : ℕ → PlainShard) where
  -- it is legal in the shard of its key
  abbrev pub IsLegalThere : (e : Event) → IsActing e → Type 0
  IsLegalThere e a = IsTrue (legal (sh (shard_of g.shards (key_of a))) e)

  released-is : (n m : ℕ) (k j : Key) (x y : Bool) → IsPrivate n m k j → IsTrue (legal (sh (shard_of g.shards k)) (event.Release n k x)) → IsTrue (legal (sh (shard_of g.shards j)) (event.Release m j y))
      → ◌≡◌ {A = Event} (event.Release m j y) (event.Release n k x)
  released-is n m k j x y same one other =
      let moved : IsTrue (legal (sh (shard_of g.shards k)) (event.Release n k y)) = subst (λ (z : ℕ × Key). IsTrue (legal (sh (shard_of g.shards z.1)) (event.Release z.0 z.1 y))) (λ h. (same.number h, same.key h)) other in
      let sole : y ≡ x = sole-is (sh (shard_of g.shards k)) n k y x moved one in
      λ h. event.Release (same.number h) (same.key h) (sole h)

  -- two events of one act, each legal in the same shard, are one
  same-event : {e f : Event} → (a : IsActing e) → (b : IsActing f) → (xs ys : List Act) → act_of_event e ++ xs ≡ act_of_event f ++ ys → IsLegalThere e a → IsLegalThere f b → (f ≡ e) × (ys ≡ xs)
  same-event (drops n k) (drops m j) xs ys same one other = let t = two (GivesBack n k) (GivesBack m j) xs ys same in (given-is n m k j t.first, sym t.rest)
  same-event (drops n k) (releases m j y) xs ys same one other = let t = two (GivesBack n k) (MakesPrivate m j) xs ys same in absurd (let clash : ◌≡◌ {A = Act} (GivesBack n k) (MakesPrivate m j) = t.first in cc)
  same-event (drops n k) (inserts m j d u) xs ys same one other = let t = two (GivesBack n k) (Writes m u (record { key = j; digest = d })) xs ys same in absurd (let clash : ◌≡◌ {A = Act} (GivesBack n k) (Writes m u (record { key = j; digest = d })) = t.first in cc)
  same-event (releases n k x) (releases m j y) xs ys same one other = let t = two (MakesPrivate n k) (MakesPrivate m j) xs ys same in (released-is n m k j x y (private-is n m k j t.first) one other, sym t.rest)
  same-event (releases n k x) (drops m j) xs ys same one other = let t = two (MakesPrivate n k) (GivesBack m j) xs ys same in absurd (let clash : ◌≡◌ {A = Act} (MakesPrivate n k) (GivesBack m j) = t.first in cc)
  same-event (releases n k x) (inserts m j d u) xs ys same one other = let t = two (MakesPrivate n k) (Writes m u (record { key = j; digest = d })) xs ys same in absurd (let clash : ◌≡◌ {A = Act} (MakesPrivate n k) (Writes m u (record { key = j; digest = d })) = t.first in cc)
  same-event (inserts n k d t) (inserts m j b u) xs ys same one other =
      let w = two (Writes n t (record { key = k; digest = d })) (Writes m u (record { key = j; digest = b })) xs ys same in
      let is = written-is n m t u (record { key = k; digest = d }) (record { key = j; digest = b }) w.first in
      ((λ h. event.Insert (is.number h) ((is.ptr h).key) ((is.ptr h).digest) (is.tick h)), sym w.rest)
  same-event (inserts n k d t) (drops m j) xs ys same one other = let w = two (Writes n t (record { key = k; digest = d })) (GivesBack m j) xs ys same in absurd (let clash : ◌≡◌ {A = Act} (Writes n t (record { key = k; digest = d })) (GivesBack m j) = w.first in cc)
  same-event (inserts n k d t) (releases m j y) xs ys same one other = let w = two (Writes n t (record { key = k; digest = d })) (MakesPrivate m j) xs ys same in absurd (let clash : ◌≡◌ {A = Act} (Writes n t (record { key = k; digest = d })) (MakesPrivate m j) = w.first in cc)

-- the event behind a front of a legal history is legal
legal-next : (s : PlainShard) (front : List Event) (e : Event) (rest : List Event) → is_legal_history s (front ++ e ∷ rest) ≡ true → legal (replay s front) e ≡ true
legal-next s [] e rest ok = (and-parts (legal s e) _ ok).0
legal-next s (f ∷ front) e rest ok = legal-next (step.after s f) front e rest (and-parts (legal s f) _ ok).1

-- among the events of its key's shard it stands first
there-first : (g : Config) {e : Event} → (a : IsActing e) → (es : List Event) → events_there g (shard_of g.shards (key_of a)) (e ∷ es) ≡ e ∷ events_there g (shard_of g.shards (key_of a)) es
there-first g (drops n k) es = let here : (shard_of g.shards k == shard_of g.shards k) ≡ true = eq-eqb (shard_of g.shards k) (shard_of g.shards k) refl in rw here refl
there-first g (releases n k sole) es = let here : (shard_of g.shards k == shard_of g.shards k) ≡ true = eq-eqb (shard_of g.shards k) (shard_of g.shards k) refl in rw here refl
there-first g (inserts n k d t) es = let here : (shard_of g.shards k == shard_of g.shards k) ≡ true = eq-eqb (shard_of g.shards k) (shard_of g.shards k) refl in rw here refl

there-cons : (g : Config) (shard : ℕ) (e : Event) (es : List Event) → events_there g shard (e ∷ es) ≡ events_there g shard (e ∷ []) ++ events_there g shard es
there-cons g shard e es = elim (bool_cases (option_map_or (λ (k : Key). shard_of g.shards k == shard) (event_key e) false)) [
  | inl its ↦ rw its refl
  | inr other ↦ rw other refl
]

shard-in : (g : Config) → 0 < g.shards → (k : Key) → shard_of g.shards k < g.shards
shard-in g some k = inside (hash_of_key k) g.shards some
  where
    inside : (n m : ℕ) → 0 < m → n % m < m
    inside n m some = omega (arith, some)

module _ (g : Config) (start : PlainShard) where
  -- the history of each shard is legal, where these events were done behind these fronts
  abbrev pub AreLegalBehind : (fronts : ℕ → List Event) → List Event → Type 0
  AreLegalBehind fronts made = (shard : ℕ) → shard < g.shards → is_legal_history start (fronts shard ++ events_there g shard made) ≡ true

  made-next : (fronts : ℕ → List Event) (e : Event) (es : List Event) → AreLegalBehind fronts (e ∷ es) → AreLegalBehind (λ shard. fronts shard ++ events_there g shard (e ∷ [])) es
  made-next fronts e es ok shard there =
      let moved : fronts shard ++ events_there g shard (e ∷ es) ≡ (fronts shard ++ events_there g shard (e ∷ [])) ++ events_there g shard es
      = ap (λ (l : List Event). fronts shard ++ l) (there-cons g shard e es) ∙ sym (append_assoc (fronts shard) (events_there g shard (e ∷ [])) (events_there g shard es)) in
      subst (λ (l : List Event). is_legal_history start l ≡ true) moved (ok shard there)

  made-first : 0 < g.shards → (fronts : ℕ → List Event) (e : Event) (es : List Event) → AreLegalBehind fronts (e ∷ es) → (a : IsActing e) → IsLegalThere g (λ shard. replay start (fronts shard)) e a
  made-first some fronts e es ok a =
      let j : ℕ = shard_of g.shards (key_of a) in
      let its : is_legal_history start (fronts j ++ e ∷ events_there g j es) ≡ true = subst (λ (l : List Event). is_legal_history start (fronts j ++ l) ≡ true) (there-first g a es) (ok j (shard-in g some (key_of a))) in
      legal-next start (fronts j) e (events_there g j es) its

  -- Two rows of events that stand for the same acts, each of which is legal behind the same fronts, are one: a Release is of the last hold just where there is one hold in all.
  pub made-one : 0 < g.shards → (fronts : ℕ → List Event) (made others : List Event) → AllByRecursion HasAct made → AllByRecursion HasAct others → acts_of_events others ≡ acts_of_events made → AreLegalBehind fronts made → AreLegalBehind fronts others
      → others ≡ made
  made-one some fronts [] [] all other_all same ok other_ok = refl
  made-one some fronts [] (f ∷ fs) all other_all same ok other_ok = absurd (none-left (acting f other_all.0) (acts_of_events fs) same)
  made-one some fronts (e ∷ es) [] all other_all same ok other_ok = absurd (none-left (acting e all.0) (acts_of_events es) (sym same))
  made-one some fronts (e ∷ es) (f ∷ fs) all other_all same ok other_ok =
      let a = acting e all.0 in
      let b = acting f other_all.0 in
      let first = same-event g (λ shard. replay start (fronts shard)) a b (acts_of_events es) (acts_of_events fs) (sym same) (made-first some fronts e es ok a) (made-first some fronts f fs other_ok b) in
      let moved : AreLegalBehind fronts (e ∷ fs) = subst (λ (x : Event). AreLegalBehind fronts (x ∷ fs)) first.0 other_ok in
      let rest = made-one some (λ shard. fronts shard ++ events_there g shard (e ∷ [])) es fs all.1 other_all.1 first.1 (made-next fronts e es ok) (made-next fronts e fs moved) in
      λ h. first.0 h ∷ rest h
