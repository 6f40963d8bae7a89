-- A line on an object, with what it did beside its reply: by what the contract of its call says it came to.
use Rattle.std.proofs.Common.{◌≡◌, ℕ, ◌+◌, Bool, true, List, [], ◌++◌, length, refl, sym, ap, ◌∙◌, subst}
use Rattle.std.specs.Prelude.{IfSome, IsSome}
use Rattle.std.proofs.lemmas.Bool.{eqb-true, false≢true}
use Rattle.std.specs.List.{AllByRecursion}
use Rattle.blk_ptr.specs.declared.ptr.Ptr.{Ptr}
use Rattle.vdev_io.specs.declared.device.CacheDev.{Ghosts as DeviceGhosts}
use Rattle.vdev_io.specs.declared.pool.Pool.{Ghosts as PoolGhosts}
use Rattle.vdev_io.specs.Calls.{KeepsPool, MakesCalls}
use Rattle.arc_core.specs.Config.{IsConfig}
use Rattle.arc_core.specs.declared.config.Config.{Config}
use Rattle.arc_core.specs.Operations.{Act, actor_of}
use Rattle.arc_table.specs.Geometry.{cell_number}
use Rattle.arc_table.specs.Reading.{KeepsDevice, Outside}
use Rattle.arc_table.specs.Seen.{HasAll}
use Rattle.dbuf_cells.specs.Places.{cell_of}
use Rattle.dbuf_cells.specs.Turns.{OnHeap, PartyPlace, outline_in}
use Rattle.dbuf_state.specs.Outline.{Outline}
use Rattle.dbuf_state.specs.declared.event.CellEvent.{CellEvent}
use Rattle.dbuf_state.specs.declared.event.CellEvent.TheVariants as events
use Rattle.dbuf_state.specs.declared.oid.Oid.{Oid}
use Rattle.dbuf_state.specs.declared.window.Window.{Window}
use Rattle.trace_text.specs.declared.op.Op.{Op}
use Rattle.trace_text.specs.declared.op.Op.TheVariants as ops
use Rattle.trace_text.specs.declared.reply.Refusal.{Refusal}
use Rattle.trace_text.specs.declared.reply.Refusal.TheVariants as refusals
use Rattle.trace_text.specs.declared.reply.Reply.{Reply}
use Rattle.trace_text.specs.declared.reply.Reply.TheVariants as replies
use Rattle.trace_run.specs.callers.WorkLines.{DidAlone, DidWorkLine, IsWorkOf, acts_with_op, effect_with, size_brought}
use Rattle.trace_run.specs.Deeds.{HasToldAll, Noted, acts_of_events}
use Rattle.trace_run.specs.DeviceReads.{AsksFor}
use Rattle.trace_run.specs.Effects.{Effect, NoEffect, calls_of, effect_of}
use Rattle.trace_run.specs.KeptReads.{KeptRead}
use Rattle.trace_run.specs.Lines.{is_of_caller}
use Rattle.trace_run.specs.dbufs.ObjectLines.{Did, DidGet, DidNot, DidObjectLine, DidPatch, DidPin, DidPut, DidUnpin, DidWork, IsBrought, RefusesBlock, RefusesBytes, RefusesUnpin, SpentOn, TellsBrought, its_number, on_object}
use Rattle.trace_run.specs.dbufs.ObjectReplies.{ActsFor, BringsAt, LooksFrom, RefusesAt}
use Rattle.trace_run.specs.dbufs.Objects.{Brought, IsAnswered, IsRefusedWith, Loaded, NotesNothing, NotesOwn, Nothing, Refused, Work, own_event}
use Rattle.trace_run.proofs.deeds.ObjectReplies.{By, From, bad-key, brings-so, dbufs-so, did-work, found_outline, from-done, from-not, inside-it, made-of, no-block, past-it, same-pin, to-bring, tried}
use Rattle.trace_run.proofs.deeds.WorkDone.{of-acts}

module _ (g : Config) (at : Oid) (t : ℕ) (p q : PartyPlace) where
  answered : (o : Outline) (brought : Brought) → IsBrought at o brought → IsAnswered brought
  answered o Nothing b = tt
  answered o (Loaded ptr from) b = tt
  answered o (Refused ptr) b = absurd b

  module _ (own : CellEvent) (brought : Brought) (Fits : OnHeap → Type 0) (d : Did g at t p q own brought Fits) where
    pub did-acts : AllByRecursion (λ (act : Act). actor_of act ≡ cell_number g (cell_of g.cells at)) (acts_of_events (d.released ++ d.drops))
    did-acts = of-acts (its_number g at t p q) (d.released ++ d.drops) (made-of g at t p q own brought Fits d)

    pub did-notes : NotesOwn g p.number (record { at = at; event = own }) (did-work g at t p q own brought Fits d)
    did-notes = record { evictions = d.evicted; noted = refl; acts = did-acts }

    pub did-answered : IsAnswered brought
    did-answered = answered (outline_in d.cell) brought d.brings

module _ {P D : Type 0} (pools : PoolGhosts P) (devices : DeviceGhosts D) (g : Config) (blocks : List Ptr) (kept : List KeptRead) (before now : Outside P D) (p q : PartyPlace) (pool : KeepsPool pools before.pool now.pool)
    (device : KeepsDevice devices before.device now.device) where
  abbrev pub HasWork : Op → Reply → Type 0
  HasWork op reply = (work : Work) × DidWorkLine pools devices g blocks kept before now p q (record { op = op; reply = reply; work = work })

  -- what was read for what was brought: nothing, where the reply tells of no read
  record Spent (brought : Brought) (reply : Reply) : Type 0 where
    pub calls : MakesCalls pools (calls_of (effect_with brought reply)) before.pool now.pool
    pub range : TellsBrought (pools.told before.pool) brought
    pub asked : AsksFor devices (size_brought brought) (effect_with brought reply) before.device now.device

  none-spent : (reply : Reply) → effect_of reply ≡ NoEffect → now ≡ before → Spent Nothing reply
  none-spent reply quiet same = record {
    calls = subst (λ (e : Effect). MakesCalls pools (calls_of e) before.pool now.pool) (sym quiet) (ap (λ (x : Outside P D). x.pool) same);
    range = tt;
    asked = subst (λ (e : Effect). AsksFor devices 0 e before.device now.device) (sym quiet) (ap (λ (x : Outside P D). x.device) same);
  }

  spent-on : (brought : Brought) (reply : Reply) → effect_of reply ≡ NoEffect → SpentOn pools devices g p before now brought reply → Spent brought reply
  spent-on Nothing reply quiet s = none-spent reply quiet s
  spent-on (Loaded ptr from) reply quiet s = record { calls = s.calls; range = s.range; asked = s.asked }
  spent-on (Refused ptr) reply quiet s = record { calls = s.calls; range = tt; asked = s.asked }

  -- what a line that has this work was answered, by the cell that was found
  abbrev AnswersSo : Op → Reply → Work → Type 0
  AnswersSo op reply work = (IsConfig g → (did : List Act) (had : List Noted) → HasToldAll g did had p
      → IfSome (on_object op) (λ on. LooksFrom g (pools.size before.pool) (pools.told before.pool) p.own.about.openings p.own.seen q.own.seen p.number had on.at (record { op = op; reply = reply; work = work })))
      × (HasAll p → IfSome (on_object op) (λ on. DidAlone pools devices g before now p q on (record { op = op; reply = reply; work = work })))

  -- a line that was answered, and one that was refused
  done-line : (op : Op) (reply : Reply) (at : Oid) (t : ℕ) (own : CellEvent) (brought : Brought) (Fits : OnHeap → Type 0) (d : Did g at t p q own brought Fits) → DidObjectLine pools devices g before now p q op reply → Spent brought reply
      → IsWorkOf g p.number (record { op = op; reply = reply; work = did-work g at t p q own brought Fits d })
      → ((did : List Act) (had : List Noted) → HasToldAll g did had p
      → HasToldAll g (did ++ acts_with_op g blocks kept op reply (did-work g at t p q own brought Fits d)) (had ++ (did-work g at t p q own brought Fits d).noted) q)
      → AnswersSo op reply (did-work g at t p q own brought Fits d) → HasWork op reply
  done-line op reply at t own brought Fits d came spent fits told answers = (
    did-work g at t p q own brought Fits d,
    record {
      came = came;
      answers = answers.0;
      alone = answers.1;
      fits = fits;
      number = d.work.number;
      told = told;
      joined = d.work.joined;
      keeps = d.work.keeps;
      calls = spent.calls;
      range = spent.range;
      asked = spent.asked;
      pool = pool;
      device = device;
    },
  )

  not-line : (op : Op) (reply : Reply) (at : Oid) (t : ℕ) (brought : Brought) → DidWork g t (cell_number g (cell_of g.cells at)) brought [] [] p q → DidObjectLine pools devices g before now p q op reply → Spent brought reply
      → IsWorkOf g p.number (record { op = op; reply = reply; work = tried brought })
      → ((did : List Act) (had : List Noted) → HasToldAll g did had p → HasToldAll g (did ++ acts_with_op g blocks kept op reply (tried brought)) (had ++ []) q)
      → AnswersSo op reply (tried brought) → HasWork op reply
  not-line op reply at t brought w came spent fits told answers = (
    tried brought,
    record {
      came = came;
      answers = answers.0;
      alone = answers.1;
      fits = fits;
      number = w.number;
      told = told;
      joined = w.joined;
      keeps = w.keeps;
      calls = spent.calls;
      range = spent.range;
      asked = spent.asked;
      pool = pool;
      device = device;
    },
  )

  -- Why a line that asks for a block's bytes was refused, and what had been brought then; such a line did nothing.
  module _ (at : Oid) (t last : ℕ) (op : Op) (quiet : (AreHeld : (Oid → Bool) → Type 0) (o : Outline) (brought : Brought) (refusal : Refusal) → NotesNothing (tried brought) → ActsFor g p.number AreHeld (own_event op) o (tried brought) (replies.Refused refusal)) where
    -- the line tells this cause as any line does
    abbrev So : Refusal → Type 0
    So refusal = (cell : OnHeap) (brought : Brought) → RefusesAt (pools.size before.pool) (pools.told before.pool) cell.value.limit cell.value.opening cell.value.history brought at last refusal
        → By pools devices g before now p q cell brought op (replies.Refused refusal)

    abbrev Tried : Refusal → Brought → Type 0
    Tried refusal brought = IsRefusedWith refusal brought × DidWork g t (cell_number g (cell_of g.cells at)) brought [] [] p q × Spent brought (replies.Refused refusal)
        × From pools devices g before now p q at t (record { op = op; reply = replies.Refused refusal; work = tried brought })

    refused-from : (brought : Brought) (Why : OnHeap → Type 0) (refusal : Refusal) → So refusal → (d : DidNot g at t p q brought Why) → BringsAt (pools.size before.pool) at (found_outline d.cell) brought
        → RefusesAt (pools.size before.pool) (pools.told before.pool) d.cell.value.limit d.cell.value.opening d.cell.value.history brought at last refusal → SpentOn pools devices g p before now brought (replies.Refused refusal)
        → From pools devices g before now p q at t (record { op = op; reply = replies.Refused refusal; work = tried brought })
    refused-from brought Why refusal so d brings why spent =
        from-not pools devices g before now p q at t brought Why op (replies.Refused refusal) d (λ AreHeld. quiet AreHeld (found_outline d.cell) brought refusal) brings (so d.cell brought why) spent

    refused-bytes : (refusal : Refusal) → So refusal → RefusesBytes pools devices g at t before now p q last refusal → (brought : Brought) × Tried refusal brought
    refused-bytes (refusals.NoBlock named) so r =
        let d = r.0 in (
          Nothing,
          (
            refl,
            d.work,
            none-spent (replies.Refused (refusals.NoBlock named)) refl r.1,
            refused-from Nothing _ (refusals.NoBlock named) so d tt (no-block at (outline_in d.cell) (found_outline d.cell) (dbufs-so d.cell d.found.sound) named d.why) r.1,
          ),
        )
    refused-bytes (refusals.Range end size) so r =
        let d = r.0 in (
          Nothing,
          (
            refl,
            d.work,
            none-spent (replies.Refused (refusals.Range end size)) refl r.1,
            refused-from Nothing _ (refusals.Range end size) so d tt (past-it at (outline_in d.cell) (found_outline d.cell) (dbufs-so d.cell d.found.sound) last end size d.why) r.1,
          ),
        )
    refused-bytes (refusals.Key why) so r =
        let d = r.0 in
        let same = dbufs-so d.cell d.found.sound in (
          Nothing,
          (
            refl,
            d.work,
            none-spent (replies.Refused (refusals.Key why)) refl r.1,
            refused-from Nothing _ (refusals.Key why) so d tt
                (inside-it at (outline_in d.cell) (found_outline d.cell) same last d.why.0, bad-key at (outline_in d.cell) (found_outline d.cell) same (pools.size before.pool) why d.why.1) r.1,
          ),
        )
    refused-bytes refusals.PoolFault so r =
        let d = r.1 in
        let same = dbufs-so d.cell d.found.sound in
        let brings = to-bring at (outline_in d.cell) (found_outline d.cell) same r.0 d.why.1 in (
          Refused r.0,
          (
            (r.0, refl),
            d.work,
            record { calls = r.2.calls; range = tt; asked = r.2.asked },
            refused-from (Refused r.0) _ refusals.PoolFault so d (brings, r.2.valid) (r.0, refl, inside-it at (outline_in d.cell) (found_outline d.cell) same last d.why.0, brings, d.why.2) r.2,
          ),
        )
    refused-bytes (refusals.Mismatch found) so r =
        let d = r.1 in
        let same = dbufs-so d.cell d.found.sound in
        let brings = to-bring at (outline_in d.cell) (found_outline d.cell) same r.0 d.why.1 in (
          Refused r.0,
          (
            (r.0, refl),
            d.work,
            record { calls = r.2.calls; range = tt; asked = r.2.asked },
            refused-from (Refused r.0) _ (refusals.Mismatch found) so d (brings, r.2.valid) (r.0, refl, inside-it at (outline_in d.cell) (found_outline d.cell) same last d.why.0, brings, d.why.2) r.2,
          ),
        )
    refused-bytes (refusals.NoHold block) so r = absurd r
    refused-bytes (refusals.NoPin named) so r = absurd r
    refused-bytes refusals.NoMemory so r = absurd r

  get-work : (t : ℕ) (at : Oid) (w : Window) (reply : Reply) → DidGet pools devices g at t before now p q w reply → HasWork (ops.Get p.number t at w) reply
  get-work t at w (replies.Got size shown) d =
      done-line (ops.Get p.number t at w) (replies.Got size shown) at t (events.Get p.number at) d.0 _ d.1 d (spent-on d.0 (replies.Got size shown) refl d.2)
      record { together = did-answered g at t p q (events.Get p.number at) d.0 _ d.1; notes = did-notes g at t p q (events.Get p.number at) d.0 _ d.1 } d.1.work.told
      (from-done pools devices g before now p q at t (events.Get p.number at) d.0 _ (ops.Get p.number t at w) (replies.Got size shown) d.1 (λ AreHeld a. a)
      (brings-so pools devices g before now p q at d.0 (replies.Got size shown) d.1.cell d.1.found.sound d.1.brings d.2) d.1.fits d.2)
  get-work t at w (replies.Refused refusal) d =
      let r = refused-bytes at t (w.at + w.len) (ops.Get p.number t at w) (λ AreHeld o brought why x. x) refusal (λ cell brought x. x) d in
      not-line (ops.Get p.number t at w) (replies.Refused refusal) at t r.0 r.1.1 d r.1.2 record { together = r.1.0; notes = (refl, refl) } r.1.1.told r.1.3
  get-work t at w replies.Done d = absurd d
  get-work t at w (replies.Read served digest shown) d = absurd d
  get-work t at w (replies.Kept served) d = absurd d
  get-work t at w replies.Dropped d = absurd d
  get-work t at w (replies.Fed report) d = absurd d
  get-work t at w replies.FedNone d = absurd d
  get-work t at w (replies.Synced group blocks_of bytes) d = absurd d
  get-work t at w (replies.Capped c) d = absurd d

  patch-work : (t : ℕ) (at : Oid) (from : ℕ) (bytes : List ℕ) (reply : Reply) → DidPatch pools devices g at t before now p q from bytes reply → HasWork (ops.Patch p.number t at from bytes) reply
  patch-work t at from bytes replies.Done d =
      done-line (ops.Patch p.number t at from bytes) replies.Done at t (events.Patch p.number at from bytes) d.0 _ d.1 d (spent-on d.0 replies.Done refl d.2)
      record { together = did-answered g at t p q (events.Patch p.number at from bytes) d.0 _ d.1; notes = did-notes g at t p q (events.Patch p.number at from bytes) d.0 _ d.1 } d.1.work.told
      (from-done pools devices g before now p q at t (events.Patch p.number at from bytes) d.0 _ (ops.Patch p.number t at from bytes) replies.Done d.1 (λ AreHeld a. a)
      (brings-so pools devices g before now p q at d.0 replies.Done d.1.cell d.1.found.sound d.1.brings d.2) tt d.2)
  patch-work t at from bytes (replies.Refused refusal) d =
      let r = refused-bytes at t (from + length bytes) (ops.Patch p.number t at from bytes) (λ AreHeld o brought why x. x) refusal (λ cell brought x. x) d in
      not-line (ops.Patch p.number t at from bytes) (replies.Refused refusal) at t r.0 r.1.1 d r.1.2 record { together = r.1.0; notes = (refl, refl) } r.1.1.told r.1.3
  patch-work t at from bytes (replies.Got size shown) d = absurd d
  patch-work t at from bytes (replies.Read served digest shown) d = absurd d
  patch-work t at from bytes (replies.Kept served) d = absurd d
  patch-work t at from bytes replies.Dropped d = absurd d
  patch-work t at from bytes (replies.Fed report) d = absurd d
  patch-work t at from bytes replies.FedNone d = absurd d
  patch-work t at from bytes (replies.Synced group blocks_of written) d = absurd d
  patch-work t at from bytes (replies.Capped c) d = absurd d

  -- a pin asks for the block alone
  pin-refused : (t : ℕ) (at : Oid) (refusal : Refusal) → RefusesBytes pools devices g at t before now p q 0 refusal → DidPin pools devices g at t before now p q (replies.Refused refusal)
      → ((cell : OnHeap) (brought : Brought) → RefusesAt (pools.size before.pool) (pools.told before.pool) cell.value.limit cell.value.opening cell.value.history brought at 0 refusal
      → By pools devices g before now p q cell brought (ops.Pin p.number t at) (replies.Refused refusal)) → HasWork (ops.Pin p.number t at) (replies.Refused refusal)
  pin-refused t at refusal bytes d so =
      let r = refused-bytes at t 0 (ops.Pin p.number t at) (λ AreHeld o brought why x. x) refusal so bytes in
      not-line (ops.Pin p.number t at) (replies.Refused refusal) at t r.0 r.1.1 d r.1.2 record { together = r.1.0; notes = (refl, refl) } r.1.1.told r.1.3

  pin-not : (t : ℕ) (at : Oid) (refusal : Refusal) → RefusesBlock pools devices g at t before now p q refusal → HasWork (ops.Pin p.number t at) (replies.Refused refusal)
  pin-not t at (refusals.NoBlock named) d = pin-refused t at (refusals.NoBlock named) d d (λ cell brought x. x)
  pin-not t at (refusals.Range end size) d = absurd d
  pin-not t at (refusals.Key why) d = pin-refused t at (refusals.Key why) d d (λ cell brought x. x)
  pin-not t at refusals.PoolFault d = pin-refused t at refusals.PoolFault d d (λ cell brought x. x)
  pin-not t at (refusals.Mismatch found) d = pin-refused t at (refusals.Mismatch found) d d (λ cell brought x. x)
  pin-not t at (refusals.NoHold block) d = absurd d
  pin-not t at (refusals.NoPin named) d = absurd d
  pin-not t at refusals.NoMemory d = absurd d

  pin-work : (t : ℕ) (at : Oid) (reply : Reply) → DidPin pools devices g at t before now p q reply → HasWork (ops.Pin p.number t at) reply
  pin-work t at replies.Done d =
      done-line (ops.Pin p.number t at) replies.Done at t (events.Pin p.number at) d.0 _ d.1 d (spent-on d.0 replies.Done refl d.2)
      record { together = did-answered g at t p q (events.Pin p.number at) d.0 _ d.1; notes = did-notes g at t p q (events.Pin p.number at) d.0 _ d.1 } d.1.work.told
      (from-done pools devices g before now p q at t (events.Pin p.number at) d.0 _ (ops.Pin p.number t at) replies.Done d.1 (λ AreHeld a. a)
      (brings-so pools devices g before now p q at d.0 replies.Done d.1.cell d.1.found.sound d.1.brings d.2) tt d.2)
  pin-work t at (replies.Refused refusal) d = pin-not t at refusal d
  pin-work t at (replies.Got size shown) d = absurd d
  pin-work t at (replies.Read served digest shown) d = absurd d
  pin-work t at (replies.Kept served) d = absurd d
  pin-work t at replies.Dropped d = absurd d
  pin-work t at (replies.Fed report) d = absurd d
  pin-work t at replies.FedNone d = absurd d
  pin-work t at (replies.Synced group blocks_of bytes) d = absurd d
  pin-work t at (replies.Capped c) d = absurd d

  put-work : (t : ℕ) (at : Oid) (size fill : ℕ) (reply : Reply) → DidPut g at p q size fill reply → now ≡ before → HasWork (ops.Put p.number t at size fill) reply
  put-work t at size fill replies.Done d none =
      done-line (ops.Put p.number t at size fill) replies.Done at 0 (events.Put p.number at size fill) Nothing _ d (d, none) (none-spent replies.Done refl none)
      record { together = refl; notes = did-notes g at 0 p q (events.Put p.number at size fill) Nothing _ d } d.work.told
      (from-done pools devices g before now p q at 0 (events.Put p.number at size fill) Nothing _ (ops.Put p.number t at size fill) replies.Done d (λ AreHeld a. a) tt tt none)
  put-work t at size fill (replies.Refused refusal) d none = absurd d
  put-work t at size fill (replies.Got most shown) d none = absurd d
  put-work t at size fill (replies.Read served digest shown) d none = absurd d
  put-work t at size fill (replies.Kept served) d none = absurd d
  put-work t at size fill replies.Dropped d none = absurd d
  put-work t at size fill (replies.Fed report) d none = absurd d
  put-work t at size fill replies.FedNone d none = absurd d
  put-work t at size fill (replies.Synced group blocks_of bytes) d none = absurd d
  put-work t at size fill (replies.Capped c) d none = absurd d

  no-pin : (at : Oid) (refusal : Refusal) → RefusesUnpin g at p q refusal → now ≡ before → (effect_of (replies.Refused refusal) ≡ NoEffect) × DidWork g 0 (cell_number g (cell_of g.cells at)) Nothing [] [] p q
      × From pools devices g before now p q at 0 (record { op = ops.Unpin p.number at; reply = replies.Refused refusal; work = tried Nothing })
  no-pin at (refusals.NoPin named) r none = (
    refl,
    r.work,
    from-not pools devices g before now p q at 0 Nothing _ (ops.Unpin p.number at) (replies.Refused (refusals.NoPin named)) r (λ AreHeld a. a) tt
        (r.why.0, same-pin at (outline_in r.cell) (found_outline r.cell) (dbufs-so r.cell r.found.sound) p.number ∙ r.why.1) none,
  )
  no-pin at (refusals.NoBlock named) r none = absurd r
  no-pin at (refusals.Range end size) r none = absurd r
  no-pin at (refusals.Key why) r none = absurd r
  no-pin at refusals.PoolFault r none = absurd r
  no-pin at (refusals.Mismatch found) r none = absurd r
  no-pin at (refusals.NoHold block) r none = absurd r
  no-pin at refusals.NoMemory r none = absurd r

  unpin-work : (at : Oid) (reply : Reply) → DidUnpin g at p q reply → now ≡ before → HasWork (ops.Unpin p.number at) reply
  unpin-work at replies.Done d none =
      done-line (ops.Unpin p.number at) replies.Done at 0 (events.Unpin p.number at) Nothing _ d (d, none) (none-spent replies.Done refl none) record { together = refl; notes = did-notes g at 0 p q (events.Unpin p.number at) Nothing _ d } d.work.told
      (from-done pools devices g before now p q at 0 (events.Unpin p.number at) Nothing _ (ops.Unpin p.number at) replies.Done d (λ AreHeld a. a) tt tt none)
  unpin-work at (replies.Refused refusal) d none =
      let w = no-pin at refusal d none in
      not-line (ops.Unpin p.number at) (replies.Refused refusal) at 0 Nothing w.1 (d, none) (none-spent (replies.Refused refusal) w.0 none) record { together = refl; notes = (refl, refl) } w.1.told w.2
  unpin-work at (replies.Got size shown) d none = absurd d
  unpin-work at (replies.Read served digest shown) d none = absurd d
  unpin-work at (replies.Kept served) d none = absurd d
  unpin-work at replies.Dropped d none = absurd d
  unpin-work at (replies.Fed report) d none = absurd d
  unpin-work at replies.FedNone d none = absurd d
  unpin-work at (replies.Synced group blocks_of bytes) d none = absurd d
  unpin-work at (replies.Capped c) d none = absurd d

  -- each line on an object has such a work
  pub object-work : (op : Op) (reply : Reply) → is_of_caller p.number op ≡ true → DidObjectLine pools devices g before now p q op reply → IsSome (on_object op) → HasWork op reply
  object-work (ops.Get n t at w) reply his d some = subst (λ (m : ℕ). HasWork (ops.Get m t at w) reply) (sym (eqb-true n p.number his)) (get-work t at w reply d)
  object-work (ops.Patch n t at from bytes) reply his d some = subst (λ (m : ℕ). HasWork (ops.Patch m t at from bytes) reply) (sym (eqb-true n p.number his)) (patch-work t at from bytes reply d)
  object-work (ops.Pin n t at) reply his d some = subst (λ (m : ℕ). HasWork (ops.Pin m t at) reply) (sym (eqb-true n p.number his)) (pin-work t at reply d)
  object-work (ops.Put n t at size fill) reply his d some = subst (λ (m : ℕ). HasWork (ops.Put m t at size fill) reply) (sym (eqb-true n p.number his)) (put-work t at size fill reply d.0 d.1)
  object-work (ops.Unpin n at) reply his d some = subst (λ (m : ℕ). HasWork (ops.Unpin m at) reply) (sym (eqb-true n p.number his)) (unpin-work at reply d.0 d.1)
  object-work (ops.Read n t x window) reply his d some = absurd (false≢true some)
  object-work (ops.Hold n t x) reply his d some = absurd (false≢true some)
  object-work (ops.Drop n x) reply his d some = absurd (false≢true some)
  object-work ops.Feed reply his d some = absurd (false≢true some)
  object-work (ops.Txg t) reply his d some = absurd (false≢true some)
  object-work (ops.Cap c) reply his d some = absurd (false≢true some)
