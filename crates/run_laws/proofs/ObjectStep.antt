-- A line on an object of two runs that stand alike: it brings the same block, is answered the same, does the same to its cell and makes the same events, and they stand alike again; or a get shows two contents of one digest,
-- or the cell has come to two states by one history (dbuf_hold, dbuf_read and dbuf_dirty of dbuf.c, for a single thread).
use Rattle.std.proofs.Common.{◌≡◌, ◌⊎◌, ℕ, ◌+◌, ◌<◌, Bool, IsTrue, List, ◌++◌, length, Option, Some, None, inl, inr, refl, sym, ap, subst, ◌∙◌, append_assoc, arith}
use Rattle.blk_ptr.specs.Key.{IsValid}
use Rattle.arc_core.specs.Config.{IsConfig}
use Rattle.arc_core.specs.declared.config.Config.{Config}
use Rattle.arc_core.specs.declared.event.Event.{Event}
use Rattle.arc_core.specs.Replay.{is_legal_history}
use Rattle.arc_table.specs.Geometry.{IsCell, cell_number}
use Rattle.arc_table.specs.Telling.{opening_of}
use Rattle.dbuf_cells.specs.Places.{cell_of}
use Rattle.dbuf_state.specs.Objects.{Evicting, Must, evicting_after}
use Rattle.dbuf_state.specs.Outline.{Outline, outline_after}
use Rattle.dbuf_state.specs.declared.event.CellEvent.{CellEvent}
use Rattle.dbuf_state.specs.declared.event.CellEvent.TheVariants as events
use Rattle.dbuf_state.specs.declared.oid.Oid.{Oid}
use Rattle.dbuf_state.specs.declared.state.Mapping.{Mapping}
use Rattle.dbuf_state.specs.declared.window.Window.{Window}
use Rattle.vdev_io.specs.declared.device.CacheDev.{Ghosts as Devices}
use Rattle.vdev_io.specs.declared.pool.Pool.{Ghosts}
use Rattle.trace_text.specs.declared.op.Op.{Op}
use Rattle.trace_text.specs.declared.op.Op.TheVariants as ops
use Rattle.trace_text.specs.declared.reply.Refusal.{Refusal}
use Rattle.trace_text.specs.declared.reply.Reply.{Reply}
use Rattle.trace_text.specs.declared.reply.Reply.TheVariants as replies
use Rattle.trace_text.specs.declared.trace.Trace.{Trace}
use Rattle.trace_run.specs.Deeds.{events_of_cell, events_there}
use Rattle.trace_run.specs.Effects.{calls_of}
use Rattle.trace_run.specs.Feeds.{FeedDone}
use Rattle.trace_run.specs.Lines.{caller_of}
use Rattle.trace_run.specs.Openings.{opening_map}
use Rattle.trace_run.specs.callers.WorkLines.{IsWorkOf, effect_with}
use Rattle.trace_run.specs.dbufs.Holders.{AreHolders}
use Rattle.trace_run.specs.dbufs.ObjectLines.{TellsBrought, brought_there, events_of_bringing}
use Rattle.trace_run.specs.dbufs.ObjectReplies.{ActsAt, ActsBy, AnswersDone, AnswersObject, AnswersWindow, BringsAt, RefusesAt, RefusesWhole}
use Rattle.trace_run.specs.dbufs.Objects.{Brought, GoesTogether, NotesNothing, OwnEvent, Work}
use Rattle.trace_run.specs.one_caller.Sequence.{BetweenLines, DoesAnyLine, DoesLine, DoesObject, bringing_in, outline_behind, shard_behind}
use Rattle.trace_run.proofs.deeds.OperatesDone.{cell-there}
use Rattle.run_laws.specs.Alike.{AreAlike, AreAlikeSoFar, AreDevicesAlike, device_answers_to, pool_answers_to, writes_of}
use Rattle.run_laws.proofs.ActsAlike.{acts-alike}
use Rattle.run_laws.proofs.Behind.{caller-then, goes-cell, goes-shard, same-shard}
use Rattle.run_laws.proofs.BringAlike.{IsKeptValid, bringing_row, brought-alike, device-same, refusal_of}
use Rattle.run_laws.proofs.Facts.{AreCachedValid, AreSettled, IsSettled}
use Rattle.run_laws.proofs.GotAlike.{got-alike}
use Rattle.run_laws.proofs.ObjectAlike.{AreLegalBehind, Asks, LooksSo, get-asks, made-one, patch-asks, pin-asks, put-done, unpin-done}
use Rattle.run_laws.proofs.ReadStep.{line_of}
use Rattle.run_laws.proofs.Rows.{so-far-front}
use Rattle.run_laws.proofs.ShardsLegal.{AreLegalShards}
use Rattle.run_laws.proofs.Steps.{PartsAt, StepAlike}

-- ---- replies

same-refusal : (x y : Refusal) → ◌≡◌ {A = Option Refusal} (Some y) (Some x) → ◌≡◌ {A = Reply} (replies.Refused y) (replies.Refused x)
same-refusal x y same = let is : y ≡ x = cc in ap (λ (r : Refusal). replies.Refused r) is

not-refused : (x : Refusal) → ◌≡◌ {A = Option Refusal} (Some x) None → ⊥
not-refused x same = cc

-- of a line that shows nothing
module _ (len : ℕ) (image : Option (List ℕ)) (limit : ℕ) (opening : List Mapping) (front : List CellEvent) (b c : Brought) (Why Whence : Refusal → Type 0) where
  done-reply : (r q : Reply) → AnswersDone len image limit opening front b Why r → AnswersDone len image limit opening front c Whence q → refusal_of q ≡ refusal_of r → q ≡ r
  done-reply replies.Done replies.Done answer other_answer same = refl
  done-reply replies.Done (replies.Refused y) answer other_answer same = absurd (not-refused y same)
  done-reply replies.Done other answer other_answer same = absurd other_answer
  done-reply (replies.Refused x) replies.Done answer other_answer same = absurd (not-refused x (sym same))
  done-reply (replies.Refused x) (replies.Refused y) answer other_answer same = same-refusal x y same
  done-reply (replies.Refused x) other answer other_answer same = absurd other_answer
  done-reply other q answer other_answer same = absurd answer

-- ---- what an answered line did, and one that was refused

abbrev pub ActsSo : (AreHeld : (Oid → Bool) → Type 0) → (own : OwnEvent) → Outline → (g : Config) → Work → Option Refusal → Type 0
ActsSo AreHeld own o g work None = ActsAt g 0 AreHeld own o work
ActsSo AreHeld own o g work (Some refusal) = NotesNothing work

acts-so : (g : Config) (AreHeld : (Oid → Bool) → Type 0) (own : OwnEvent) (o : Outline) (work : Work) (reply : Reply) → ActsBy g 0 AreHeld own o work reply → ActsSo AreHeld own o g work (refusal_of reply)
acts-so g AreHeld own o work (replies.Got size shown) acts = acts
acts-so g AreHeld own o work replies.Done acts = acts
acts-so g AreHeld own o work (replies.Refused refusal) acts = acts
acts-so g AreHeld own o work (replies.Read from digest shown) acts = absurd acts
acts-so g AreHeld own o work (replies.Kept from) acts = absurd acts
acts-so g AreHeld own o work replies.Dropped acts = absurd acts
acts-so g AreHeld own o work (replies.Fed report) acts = absurd acts
acts-so g AreHeld own o work replies.FedNone acts = absurd acts
acts-so g AreHeld own o work (replies.Synced group blocks bytes) acts = absurd acts
acts-so g AreHeld own o work (replies.Capped c) acts = absurd acts

-- behind the operation's own event evictions have to be made
abbrev pub MustFollow : OwnEvent → Type 0
MustFollow own = (x : Evicting) → evicting_after x own.event ≡ Must

-- both lines noted the same of their cell, and made the same acts
abbrev pub IsSameWork : Work → Work → Type 0
IsSameWork w v = (v.noted ≡ w.noted) × (v.acts ≡ w.acts)

work-same : (g : Config) (limit : ℕ) (opening : List Mapping) (front : List CellEvent) (own : OwnEvent) (w v : Work) (refused : Option Refusal) → MustFollow own
    → IsSettled limit opening (front ++ events_of_cell (cell_of g.cells own.at) w.noted) → IsSettled limit opening (front ++ events_of_cell (cell_of g.cells own.at) v.noted)
    → ActsSo (AreHolders front) own (outline_after limit opening front) g w refused → ActsSo (AreHolders front) own (outline_after limit opening front) g v refused → v.brought ≡ w.brought → IsSameWork w v
work-same g limit opening front own w v None must rests other_rests so other_so brings = acts-alike g limit opening front own w v must rests other_rests so other_so brings
work-same g limit opening front own w v (Some refusal) must rests other_rests so other_so brings = (other_so.0 ∙ sym so.0, other_so.1 ∙ sym so.1)

-- the operation is on an object
abbrev pub IsOnObject : Op → Type 0
IsOnObject (ops.Get n t at w) = Unit {0}
IsOnObject (ops.Put n t at size fill) = Unit {0}
IsOnObject (ops.Patch n t at from bytes) = Unit {0}
IsOnObject (ops.Pin n t at) = Unit {0}
IsOnObject (ops.Unpin n at) = Unit {0}
IsOnObject (ops.Read n t x window) = ⊥
IsOnObject (ops.Hold n t x) = ⊥
IsOnObject (ops.Drop n x) = ⊥
IsOnObject ops.Feed = ⊥
IsOnObject (ops.Txg t) = ⊥
IsOnObject (ops.Cap c) = ⊥

module _ {P D : Type 0} (pools : Ghosts P) (devices : Devices D) (pool_len : (p : P) (bytes : List ℕ) → pools.told p ≡ Some bytes → length bytes ≡ pools.size p) (trace : Trace) (valid : IsConfig trace.config) where
  shards_there : 0 < trace.config.shards
  shards_there = let some = valid.counts.shards.0 in omega (arith, some)

  -- ---- what is known of one line

  -- the history of the cell as the line found it, and what that makes of it
  abbrev its_front : (own : OwnEvent) → BetweenLines P D → List CellEvent
  its_front own from = from.cells (cell_of trace.config.cells own.at)

  abbrev its_outline : (own : OwnEvent) → BetweenLines P D → Outline
  its_outline own from = outline_behind trace from.cells (cell_of trace.config.cells own.at)

  abbrev Looks : (image : List ℕ) → List CellEvent → OwnEvent → Op → Reply → Work → Type 0
  Looks image front own op reply work = LooksSo trace.config image trace.config.dbuf_bytes (opening_map trace (cell_of trace.config.cells own.at)) front (AreHolders front) own op reply work

  one-looks : (op : Op) (own : OwnEvent) (tick : ℕ) (r : Reply) (w : Work) (from to : BetweenLines P D) (image : List ℕ) → pools.told from.outside.pool ≡ Some image → DoesObject pools devices trace own.at tick (line_of op r w) from to
      → ActsBy trace.config 0 (AreHolders (its_front own from)) own (its_outline own from) w r → GoesTogether op r w.brought → AreSettled trace to.cells → Looks image (its_front own from) own op r w
  one-looks op own tick r w from to image told did acts together settled =
      let i : ℕ = cell_of trace.config.cells own.at in
      let is_cell : IsCell trace.config i = cell-there trace.config valid own.at in
      let limit : ℕ = trace.config.dbuf_bytes in
      let opening : List Mapping = opening_map trace i in
      let size : pools.size from.outside.pool ≡ length image = sym (pool_len from.outside.pool image told) in
      record {
        brings = subst (λ (n : ℕ). BringsAt n own.at (its_outline own from) w.brought) size did.brought;
        range = subst (λ (o : Option (List ℕ)). TellsBrought o w.brought) told did.range;
        acts = acts;
        answer = subst (λ (x : ℕ × Option (List ℕ)). AnswersObject x.0 x.1 limit opening (its_front own from) w.brought op r) (λ h. (size h, told h)) did.answer;
        together = together;
        settled = subst (λ (es : List CellEvent). IsSettled limit opening es) (did.goes_on.cells i is_cell) (settled i is_cell);
      }

  -- ---- what is known of both

  pub record BothOn (op : Op) (own : OwnEvent) (tick : ℕ) (r q : Reply) (w v : Work) (from to other other_to : BetweenLines P D) : Type 0 where
    pub alike : AreAlike pools devices trace from other
    pub must : MustFollow own
    pub did : DoesObject pools devices trace own.at tick (line_of op r w) from to
    pub other_did : DoesObject pools devices trace own.at tick (line_of op q v) other other_to
    pub looks : Looks alike.image (its_front own from) own op r w
    pub other_looks : Looks alike.image (its_front own from) own op q v
    pub kept : IsKeptValid alike.image own.at (its_outline own from)
    pub legal : AreLegalShards trace to.shards
    pub other_legal : AreLegalShards trace other_to.shards
    pub calls : AreAlikeSoFar (calls_of (effect_with w.brought r)) (calls_of (effect_with v.brought q))
    pub rows : AreAlikeSoFar (bringing_row pools devices trace (shard_behind trace.config from.shards) w.brought r from.device to.device did.asks)
        (bringing_row pools devices trace (shard_behind trace.config other.shards) v.brought q other.device other_to.device other_did.asks)

  module _ (op : Op) (own : OwnEvent) (tick : ℕ) (r q : Reply) (w v : Work) (from to other other_to : BetweenLines P D) (both : BothOn op own tick r q w v from to other other_to) where
    -- one block is brought, or none, and both are answered or refused for one cause
    asks-alike : (last : ℕ) → Asks trace.config both.alike.image trace.config.dbuf_bytes (opening_map trace (cell_of trace.config.cells own.at)) (its_front own from) (AreHolders (its_front own from)) own.at last w.brought r
        → Asks trace.config both.alike.image trace.config.dbuf_bytes (opening_map trace (cell_of trace.config.cells own.at)) (its_front own from) (AreHolders (its_front own from)) own.at last v.brought q → (v.brought ≡ w.brought) × (refusal_of q ≡ refusal_of r)
    asks-alike last asks other_asks =
        brought-alike pools devices trace (shard_behind trace.config from.shards) (shard_behind trace.config other.shards) (same-shard pools devices trace from other both.alike)
        from.device to.device other.device other_to.device both.alike.device both.alike.image trace.config.dbuf_bytes (opening_map trace (cell_of trace.config.cells own.at)) (its_front own from) own.at last w.brought v.brought r q
        asks.1 other_asks.1 asks.0 other_asks.0 both.kept both.looks.brings both.other_looks.brings both.looks.range both.other_looks.range both.did.found both.other_did.found both.did.asks both.other_did.asks both.rows both.calls

    -- the events for what was brought
    abbrev brings_in : (brought : Brought) → BetweenLines P D → (shard : ℕ) → List Event
    brings_in brought at shard = bringing_in trace.config (shard_behind trace.config at.shards) 0 tick (cell_number trace.config (cell_of trace.config.cells own.at)) brought shard

    module _ (brings : v.brought ≡ w.brought) (same : q ≡ r) where
      -- both noted the same and made the same acts
      works : IsSameWork w v
      works =
          let o : Outline = its_outline own from in
          let Held : (Oid → Bool) → Type 0 = AreHolders (its_front own from) in
          let mine = acts-so trace.config Held own o w r both.looks.acts in
          let its = subst (λ (z : Option Refusal). ActsSo Held own o trace.config v z) (λ h. refusal_of (same h)) (acts-so trace.config Held own o v q both.other_looks.acts) in
          work-same trace.config trace.config.dbuf_bytes (opening_map trace (cell_of trace.config.cells own.at)) (its_front own from) own w v (refusal_of r) both.must both.looks.settled both.other_looks.settled mine its brings

      brings-same : (shard : ℕ) → brings_in v.brought other shard ≡ brings_in w.brought from shard
      brings-same shard = λ h. brought_there trace.config.shards shard (brings h)
          (events_of_bringing (same-shard pools devices trace from other both.alike shard h) 0 tick (cell_number trace.config (cell_of trace.config.cells own.at)) (brings h))

      -- behind what was brought
      abbrev fronts : ℕ → List Event
      fronts shard = from.shards shard ++ brings_in w.brought from shard

      mine-legal : AreLegalBehind trace.config (opening_of trace.config) fronts both.did.made
      mine-legal shard there =
          let goes : to.shards shard ≡ (from.shards shard ++ brings_in w.brought from shard) ++ events_there trace.config shard both.did.made
          = both.did.goes_on.shards shard ∙ sym (append_assoc (from.shards shard) (brings_in w.brought from shard) (events_there trace.config shard both.did.made)) in
          subst (λ (es : List Event). IsTrue (is_legal_history (opening_of trace.config) es)) goes (both.legal shard there)

      its-legal : AreLegalBehind trace.config (opening_of trace.config) fronts both.other_did.made
      its-legal shard there =
          let made : List Event = events_there trace.config shard both.other_did.made in
          let moved : other.shards shard ++ (brings_in v.brought other shard ++ made) ≡ from.shards shard ++ (brings_in w.brought from shard ++ made) = λ h. both.alike.shards shard h ++ (brings-same shard h ++ made) in
          let goes : other_to.shards shard ≡ (from.shards shard ++ brings_in w.brought from shard) ++ made
          = both.other_did.goes_on.shards shard ∙ (moved ∙ sym (append_assoc (from.shards shard) (brings_in w.brought from shard) made)) in
          subst (λ (es : List Event). IsTrue (is_legal_history (opening_of trace.config) es)) goes (both.other_legal shard there)

      device-then : (bringing_row pools devices trace (shard_behind trace.config other.shards) v.brought q other.device other_to.device both.other_did.asks
          ≡ bringing_row pools devices trace (shard_behind trace.config from.shards) w.brought r from.device to.device both.did.asks) × AreDevicesAlike pools devices trace (shard_behind trace.config from.shards) to.device other_to.device
      device-then = device-same pools devices trace (shard_behind trace.config from.shards) (shard_behind trace.config other.shards) (same-shard pools devices trace from other both.alike) from.device to.device other.device other_to.device both.alike.device
          w.brought v.brought r q brings same both.did.asks both.other_did.asks both.rows

      -- and the same events
      made-same : both.other_did.made ≡ both.did.made
      made-same = made-one trace.config (opening_of trace.config) shards_there fronts both.did.made both.other_did.made both.did.kinds both.other_did.kinds
          (sym both.other_did.are ∙ (works.1 ∙ both.did.are)) mine-legal its-legal

      -- so what stands behind the line is alike
      object-then : DoesLine pools devices trace (line_of op r w) from to → DoesLine pools devices trace (line_of op q v) other other_to → AreAlike pools devices trace to other_to
      object-then does other_does =
          let es : ℕ → List Event = λ shard. brings_in w.brought from shard ++ events_there trace.config shard both.did.made in
          let fs : ℕ → List Event = λ shard. brings_in v.brought other shard ++ events_there trace.config shard both.other_did.made in
          let same_events : (shard : ℕ) → fs shard ≡ es shard = λ shard h. brings-same shard h ++ events_there trace.config shard (made-same h) in
          caller-then pools devices trace valid (line_of op r w) (line_of op q v) from to other other_to both.alike does other_does both.legal device-then.1
          (λ shard. goes-shard trace.config es fs w.noted v.noted from to other other_to both.did.goes_on both.other_did.goes_on shard (both.alike.shards shard) (same_events shard))
          (λ i is. goes-cell trace.config es fs w.noted v.noted from to other other_to both.did.goes_on both.other_did.goes_on i is (both.alike.cells i is) works.0)
          (both.other_did.kept ∙ (both.alike.kept ∙ sym both.did.kept))

  -- ---- what both lines come to

  abbrev pub ComesOn : (op : Op) (r q : Reply) (w v : Work) (here there : List FeedDone) (from to other other_to : BetweenLines P D) → DoesAnyLine pools devices trace (caller_of op) (line_of op r w) here from to
      → DoesAnyLine pools devices trace (caller_of op) (line_of op q v) there other other_to → Type 0
  ComesOn op r q w v here there from to other other_to did other_did =
      StepAlike pools devices trace (line_of op r w) (line_of op q v) here there from to other other_to did other_did ⊎ PartsAt pools devices trace from.cells (line_of op r w) (line_of op q v) here there

  -- What is known of two lines of one operation: what stood before them was alike; each line's work fits its reply; each leaves its cell with no eviction due; a cached block's key is valid; the histories of shards behind them are legal; and of their calls the same failed.
  pub record BothObjects (op : Op) (r q : Reply) (w v : Work) (here there : List FeedDone) (from to other other_to : BetweenLines P D) (did : DoesAnyLine pools devices trace (caller_of op) (line_of op r w) here from to)
      (other_did : DoesAnyLine pools devices trace (caller_of op) (line_of op q v) there other other_to) : Type 0 where
    pub alike : AreAlike pools devices trace from other
    pub fits : IsWorkOf trace.config 0 (line_of op r w)
    pub other_fits : IsWorkOf trace.config 0 (line_of op q v)
    pub settled : AreSettled trace to.cells
    pub other_settled : AreSettled trace other_to.cells
    pub cached : AreCachedValid trace (pools.size from.outside.pool) from.cells
    pub legal : AreLegalShards trace to.shards
    pub other_legal : AreLegalShards trace other_to.shards
    pub pool : AreAlikeSoFar (pool_answers_to (line_of op r w)) (pool_answers_to (line_of op q v))
    pub device : AreAlikeSoFar (device_answers_to pools devices trace (caller_of op) (line_of op r w) here from to did) (device_answers_to pools devices trace (caller_of op) (line_of op q v) there other other_to other_did)

  module _ (op : Op) (own : OwnEvent) (tick : ℕ) (r q : Reply) (w v : Work) (here there : List FeedDone) (from to other other_to : BetweenLines P D) (line : DoesAnyLine pools devices trace (caller_of op) (line_of op r w) here from to)
      (other_line : DoesAnyLine pools devices trace (caller_of op) (line_of op q v) there other other_to) (b : BothObjects op r q w v here there from to other other_to line other_line) where
    -- so both are known by one front of the cell's history
    both-on : MustFollow own → (did : DoesObject pools devices trace own.at tick (line_of op r w) from to) (other_did : DoesObject pools devices trace own.at tick (line_of op q v) other other_to)
        → ActsBy trace.config 0 (AreHolders (its_front own from)) own (its_outline own from) w r → ActsBy trace.config 0 (AreHolders (its_front own other)) own (its_outline own other) v q
        → AreAlikeSoFar (bringing_row pools devices trace (shard_behind trace.config from.shards) w.brought r from.device to.device did.asks)
        (bringing_row pools devices trace (shard_behind trace.config other.shards) v.brought q other.device other_to.device other_did.asks)
        → BothOn op own tick r q w v from to other other_to
    both-on must did other_did acts other_acts rows =
        let i : ℕ = cell_of trace.config.cells own.at in
        let is_cell : IsCell trace.config i = cell-there trace.config valid own.at in
        let alike = b.alike in
        let mine : Looks alike.image (its_front own from) own op r w = one-looks op own tick r w from to alike.image alike.told did acts b.fits.together b.settled in
        let its : Looks alike.image (its_front own other) own op q v = one-looks op own tick q v other other_to alike.image alike.other_told other_did other_acts b.other_fits.together b.other_settled in
        let size : pools.size from.outside.pool ≡ length alike.image = sym (pool_len from.outside.pool alike.image alike.told) in
        record {
          alike = alike;
          must = must;
          did = did;
          other_did = other_did;
          looks = mine;
          other_looks = subst (λ (z : List CellEvent). Looks alike.image z own op q v) (alike.cells i is_cell) its;
          kept = λ ptr cached mapped. subst (λ (n : ℕ). IsValid n ptr.key) size (b.cached i is_cell own.at ptr cached mapped);
          legal = b.legal;
          other_legal = b.other_legal;
          calls = so-far-front (calls_of (effect_with w.brought r)) (writes_of op w) (calls_of (effect_with v.brought q)) (writes_of op v) b.pool;
          rows = rows;
        }

  -- both read the pool alike
  pool-then : (op : Op) (r q : Reply) (w v : Work) → v.brought ≡ w.brought → q ≡ r → IsSameWork w v
      → pool_answers_to (line_of op q v) ≡ pool_answers_to (line_of op r w)
  pool-then op r q w v brings same did =
      let one : v ≡ w = λ h. record { brought = brings h; noted = did.0 h; acts = did.1 h } in
      λ h. pool_answers_to (line_of op (same h) (one h))

  -- ---- by the operation

  -- a get shows the same in both runs, or they part at it
  get-reply : (cells : ℕ → List CellEvent) (n t : ℕ) (at : Oid) (window : Window) (image : List ℕ) (r q : Reply) (w v : Work) (here there : List FeedDone)
      → AnswersWindow (length image) (Some image) trace.config.dbuf_bytes (opening_map trace (cell_of trace.config.cells at)) (cells (cell_of trace.config.cells at)) w.brought at window r
      → AnswersWindow (length image) (Some image) trace.config.dbuf_bytes (opening_map trace (cell_of trace.config.cells at)) (cells (cell_of trace.config.cells at)) v.brought at window q → refusal_of q ≡ refusal_of r
      → (q ≡ r) ⊎ PartsAt pools devices trace cells (line_of (ops.Get n t at window) r w) (line_of (ops.Get n t at window) q v) here there
  get-reply cells n t at window image (replies.Got size shown) (replies.Got z s) w v here there answer other_answer same =
      got-alike pools devices trace cells n t at window size z shown s w v here there (cell-there trace.config valid at) answer other_answer
  get-reply cells n t at window image (replies.Got size shown) (replies.Refused y) w v here there answer other_answer same = absurd (not-refused y same)
  get-reply cells n t at window image (replies.Got size shown) q w v here there answer other_answer same = absurd other_answer
  get-reply cells n t at window image (replies.Refused x) (replies.Got z s) w v here there answer other_answer same = absurd (not-refused x (sym same))
  get-reply cells n t at window image (replies.Refused x) (replies.Refused y) w v here there answer other_answer same = inl (same-refusal x y same)
  get-reply cells n t at window image (replies.Refused x) q w v here there answer other_answer same = absurd other_answer
  get-reply cells n t at window image r q w v here there answer other_answer same = absurd answer

  -- Two lines of one operation on an object, over cells, shards, pools and devices that are alike, come to the same; or the runs part there.
  pub object-step : (op : Op) → IsOnObject op → (r q : Reply) (w v : Work) (here there : List FeedDone) (from to other other_to : BetweenLines P D) (line : DoesAnyLine pools devices trace (caller_of op) (line_of op r w) here from to)
      (other_line : DoesAnyLine pools devices trace (caller_of op) (line_of op q v) there other other_to) → BothObjects op r q w v here there from to other other_to line other_line
      → ComesOn op r q w v here there from to other other_to line other_line
  unfolding both-on
  object-step (ops.Get n t at window) on r q w v here there from to other other_to line other_line b =
      let op : Op = ops.Get n t at window in
      let own : OwnEvent = record { at = at; event = events.Get n at } in
      let did = line.1.did in
      let other_did = other_line.1.did in
      let both : BothOn op own t r q w v from to other other_to = both-on op own t r q w v here there from to other other_to line other_line b (λ x. refl) did other_did did.acts other_did.acts b.device in
      let held : (Oid → Bool) → Type 0 = AreHolders (its_front own from) in
      let limit : ℕ = trace.config.dbuf_bytes in
      let opening : List Mapping = opening_map trace (cell_of trace.config.cells at) in
      let came = asks-alike op own t r q w v from to other other_to both (window.at + window.len)
      (get-asks trace.config both.alike.image limit opening (its_front own from) held n t at window r w both.looks) (get-asks trace.config both.alike.image limit opening (its_front own from) held n t at window q v both.other_looks) in
      elim (get-reply from.cells n t at window both.alike.image r q w v here there both.looks.answer both.other_looks.answer came.1) [
        | inl same ↦ inl (record {
          then = object-then op own t r q w v from to other other_to both came.0 same line.1 other_line.1;
          reply = same;
          pool = pool-then op r q w v came.0 same (works op own t r q w v from to other other_to both came.0 same);
          device = (device-then op own t r q w v from to other other_to both came.0 same).0;
          many = ap (λ (fs : List FeedDone). length fs) (other_line.0 ∙ sym line.0);
        })
        | inr parts ↦ inr parts
      ]
  object-step (ops.Patch n t at start bytes) on r q w v here there from to other other_to line other_line b =
      let op : Op = ops.Patch n t at start bytes in
      let own : OwnEvent = record { at = at; event = events.Patch n at start bytes } in
      let did = line.1.did in
      let other_did = other_line.1.did in
      let both : BothOn op own t r q w v from to other other_to = both-on op own t r q w v here there from to other other_to line other_line b (λ x. refl) did other_did did.acts other_did.acts b.device in
      let held : (Oid → Bool) → Type 0 = AreHolders (its_front own from) in
      let limit : ℕ = trace.config.dbuf_bytes in
      let opening : List Mapping = opening_map trace (cell_of trace.config.cells at) in
      let came = asks-alike op own t r q w v from to other other_to both (start + length bytes)
      (patch-asks trace.config both.alike.image limit opening (its_front own from) held n t at start bytes r w both.looks) (patch-asks trace.config both.alike.image limit opening (its_front own from) held n t at start bytes q v both.other_looks) in
      let why : Brought → Refusal → Type 0 = λ brought. RefusesAt (length both.alike.image) (Some both.alike.image) limit opening (its_front own from) brought at (start + length bytes) in
      let same : q ≡ r = done-reply (length both.alike.image) (Some both.alike.image) limit opening (its_front own from) w.brought v.brought (why w.brought) (why v.brought) r q both.looks.answer both.other_looks.answer came.1 in
      inl (record {
        then = object-then op own t r q w v from to other other_to both came.0 same line.1 other_line.1;
        reply = same;
        pool = pool-then op r q w v came.0 same (works op own t r q w v from to other other_to both came.0 same);
        device = (device-then op own t r q w v from to other other_to both came.0 same).0;
        many = ap (λ (fs : List FeedDone). length fs) (other_line.0 ∙ sym line.0);
      })
  object-step (ops.Pin n t at) on r q w v here there from to other other_to line other_line b =
      let op : Op = ops.Pin n t at in
      let own : OwnEvent = record { at = at; event = events.Pin n at } in
      let did = line.1.did in
      let other_did = other_line.1.did in
      let both : BothOn op own t r q w v from to other other_to = both-on op own t r q w v here there from to other other_to line other_line b (λ x. refl) did other_did did.acts other_did.acts b.device in
      let held : (Oid → Bool) → Type 0 = AreHolders (its_front own from) in
      let limit : ℕ = trace.config.dbuf_bytes in
      let opening : List Mapping = opening_map trace (cell_of trace.config.cells at) in
      let came = asks-alike op own t r q w v from to other other_to both 0
      (pin-asks trace.config both.alike.image limit opening (its_front own from) held n t at r w both.looks) (pin-asks trace.config both.alike.image limit opening (its_front own from) held n t at q v both.other_looks) in
      let why : Brought → Refusal → Type 0 = λ brought. RefusesWhole (length both.alike.image) (Some both.alike.image) limit opening (its_front own from) brought at in
      let same : q ≡ r = done-reply (length both.alike.image) (Some both.alike.image) limit opening (its_front own from) w.brought v.brought (why w.brought) (why v.brought) r q both.looks.answer both.other_looks.answer came.1 in
      inl (record {
        then = object-then op own t r q w v from to other other_to both came.0 same line.1 other_line.1;
        reply = same;
        pool = pool-then op r q w v came.0 same (works op own t r q w v from to other other_to both came.0 same);
        device = (device-then op own t r q w v from to other other_to both came.0 same).0;
        many = ap (λ (fs : List FeedDone). length fs) (other_line.0 ∙ sym line.0);
      })
  object-step (ops.Put n t at size fill) on r q w v here there from to other other_to line other_line b =
      let op : Op = ops.Put n t at size fill in
      let own : OwnEvent = record { at = at; event = events.Put n at size fill } in
      let did = line.1.did in
      let other_did = other_line.1.did in
      let both : BothOn op own 0 r q w v from to other other_to = both-on op own 0 r q w v here there from to other other_to line other_line b (λ x. refl) did other_did did.acts other_did.acts b.device in
      let held : (Oid → Bool) → Type 0 = AreHolders (its_front own from) in
      let limit : ℕ = trace.config.dbuf_bytes in
      let opening : List Mapping = opening_map trace (cell_of trace.config.cells at) in
      let brings : v.brought ≡ w.brought = both.other_looks.together ∙ sym both.looks.together in
      let same : q ≡ r = put-done trace.config both.alike.image limit opening (its_front own from) held n t at size fill q v both.other_looks ∙ sym (put-done trace.config both.alike.image limit opening (its_front own from) held n t at size fill r w both.looks) in
      inl (record {
        then = object-then op own 0 r q w v from to other other_to both brings same line.1 other_line.1;
        reply = same;
        pool = pool-then op r q w v brings same (works op own 0 r q w v from to other other_to both brings same);
        device = (device-then op own 0 r q w v from to other other_to both brings same).0;
        many = ap (λ (fs : List FeedDone). length fs) (other_line.0 ∙ sym line.0);
      })
  object-step (ops.Unpin n at) on r q w v here there from to other other_to line other_line b =
      let op : Op = ops.Unpin n at in
      let own : OwnEvent = record { at = at; event = events.Unpin n at } in
      let did = line.1.did in
      let other_did = other_line.1.did in
      let both : BothOn op own 0 r q w v from to other other_to = both-on op own 0 r q w v here there from to other other_to line other_line b (λ x. refl) did other_did did.acts other_did.acts b.device in
      let held : (Oid → Bool) → Type 0 = AreHolders (its_front own from) in
      let limit : ℕ = trace.config.dbuf_bytes in
      let opening : List Mapping = opening_map trace (cell_of trace.config.cells at) in
      let brings : v.brought ≡ w.brought = both.other_looks.together ∙ sym both.looks.together in
      let same : q ≡ r = unpin-done trace.config both.alike.image limit opening (its_front own from) held n at q v both.other_looks ∙ sym (unpin-done trace.config both.alike.image limit opening (its_front own from) held n at r w both.looks) in
      inl (record {
        then = object-then op own 0 r q w v from to other other_to both brings same line.1 other_line.1;
        reply = same;
        pool = pool-then op r q w v brings same (works op own 0 r q w v from to other other_to both brings same);
        device = (device-then op own 0 r q w v from to other other_to both brings same).0;
        many = ap (λ (fs : List FeedDone). length fs) (other_line.0 ∙ sym line.0);
      })
  object-step (ops.Read n t x window) on r q w v here there from to other other_to line other_line b = absurd on
  object-step (ops.Hold n t x) on r q w v here there from to other other_to line other_line b = absurd on
  object-step (ops.Drop n x) on r q w v here there from to other other_to line other_line b = absurd on
  object-step ops.Feed on r q w v here there from to other other_to line other_line b = absurd on
  object-step (ops.Txg t) on r q w v here there from to other other_to line other_line b = absurd on
  object-step (ops.Cap c) on r q w v here there from to other other_to line other_line b = absurd on
