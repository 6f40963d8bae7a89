-- What a caller's line on an object came to: how the block's cell was found, what was brought for the line, what it did, and why it was refused.
use Rattle.std.specs.Prelude.{◌≡◌, ℕ, ◌+◌, ◌==◌, ◌≤◌, Bool, false, if◌then◌else◌, List, [], ◌∷◌, ◌++◌, length, map, slice_index_or, Option, Some, None, IfSome}
use Rattle.blk_ptr.specs.declared.ptr.Ptr.{Ptr}
use Rattle.blk_ptr.specs.declared.key.Key.{Key}
use Rattle.blk_ptr.specs.Hash.{shard_of}
use Rattle.blk_ptr.specs.Key.{IsValid}
use Rattle.blk_ptr.specs.Size.{IsBlockSize}
use Rattle.vdev_io.specs.declared.device.CacheDev.{Ghosts as DeviceGhosts}
use Rattle.vdev_io.specs.declared.pool.Pool.{Ghosts as PoolGhosts}
use Rattle.vdev_io.specs.Calls.{MakesCalls}
use Rattle.arc_core.specs.declared.config.Config.{Config}
use Rattle.arc_core.specs.declared.event.Event.{Event}
use Rattle.arc_core.specs.declared.event.Event.TheVariants.{Hand}
use Rattle.arc_core.specs.Operations.{Act}
use Rattle.arc_core.specs.PlainShard.{PlainShard}
use Rattle.arc_table.specs.declared.view.Line.{Line}
use Rattle.arc_table.specs.declared.view.Line.TheVariants as line
use Rattle.arc_table.specs.Fronts.{StartsWith, front_of}
use Rattle.arc_table.specs.Geometry.{IsCell, cell_number}
use Rattle.arc_table.specs.Reading.{Outside}
use Rattle.arc_table.specs.Seen.{HasAll, seen_of}
use Rattle.dbuf_cells.specs.Places.{cell_of}
use Rattle.dbuf_cells.specs.Putting.{Releases}
use Rattle.dbuf_cells.specs.Turns.{AreEvictions, OnHeap, PartyPlace, held_in, outline_in}
use Rattle.dbuf_state.specs.Answers.{IsAnswerAfter}
use Rattle.dbuf_state.specs.Numbers.{event_numbers, opening_numbers}
use Rattle.dbuf_state.specs.Outline.{Outline, after_all, has_pin_at, is_cached_at, mapped_at, mapped_size}
use Rattle.dbuf_state.specs.Soundness.{IsSound}
use Rattle.dbuf_state.specs.declared.event.CellEvent.{CellEvent}
use Rattle.dbuf_state.specs.declared.event.CellEvent.TheVariants as events
use Rattle.dbuf_state.specs.declared.fault.DbufFault.{DbufFault}
use Rattle.dbuf_state.specs.declared.fault.DbufFault.TheVariants as fault
use Rattle.dbuf_state.specs.declared.oid.Oid.{Oid}
use Rattle.dbuf_state.specs.declared.state.Mapped.{Mapped}
use Rattle.dbuf_state.specs.declared.state.Mapped.TheVariants.{Clean}
use Rattle.dbuf_state.specs.declared.window.Window.{Window}
use Rattle.trace_text.specs.declared.op.Op.{Op}
use Rattle.trace_text.specs.declared.op.Op.TheVariants as ops
use Rattle.trace_text.specs.declared.reply.Refusal.{Refusal}
use Rattle.trace_text.specs.declared.reply.Refusal.TheVariants as refusals
use Rattle.trace_text.specs.declared.reply.Reply.{Reply}
use Rattle.trace_text.specs.declared.reply.Reply.TheVariants as replies
use Rattle.trace_run.specs.Answers.{IsReadRefusal}
use Rattle.trace_run.specs.dbufs.CellEnds.{done_by}
use Rattle.trace_run.specs.Deeds.{HasToldAll, KeepsCells, Noted, acts_of_events, events_there, lines_of_cell, noted_in}
use Rattle.trace_run.specs.DeviceReads.{AsksFor}
use Rattle.trace_run.specs.Effects.{Effect, Answered, calls_of, effect_of}
use Rattle.trace_run.specs.MadeLines.{made_of}
use Rattle.trace_run.specs.dbufs.Holders.{AreHolders}
use Rattle.trace_run.specs.dbufs.Objects.{AnswersKey, AnswersNoBlock, AnswersRange, Brought, Nothing, Loaded, Refused, acts_of_bringing, held_once, loads_of}
use Rattle.trace_run.specs.one_caller.Access.{AsksPool, MayComeFrom, access_of, events_of_answered, events_of_refused, held_by_access}
use Rattle.trace_run.specs.one_caller.Asking.{Asks}
use Rattle.trace_run.specs.Read.{IsFromPool, TellsBlock}
use Rattle.trace_run.specs.Reads.{CameFromPool, IsRefused, access_now, now_of}

-- ---- the block's cell

-- what a cell's history adds to what is seen of it
abbrev pub cell_lines : OnHeap → List Line
cell_lines cell = map line.Entry (map event_numbers cell.value.history)

-- In a turn of its own between p and q the party found the cell so: it was sound, with the opening with which it moved in. What the party had seen of
-- its history begins it, and one that had every number had seen all of it; what the party itself had done there is just what it had made. What the
-- party has seen of it since goes on from it.
pub record FindsCell (g : Config) (i : ℕ) (cell : OnHeap) (p q : PartyPlace) : Type 0 where
  pub sound : IsSound cell.value
  pub opening : opening_numbers cell.value.limit cell.value.opening ≡ slice_index_or p.own.about.openings i []
  pub had : StartsWith (cell_lines cell) (front_of i p.own.seen)
  pub alone : HasAll p → cell_lines cell ≡ front_of i p.own.seen
  pub mine : made_of i p ≡ map line.Entry (map event_numbers (done_by p.number cell.value.history))
  pub seen : StartsWith (front_of i q.own.seen) (cell_lines cell)

-- ---- what was brought, and what that asked of the pool and of the cache device

module _ {P D : Type 0} (pools : PoolGhosts P) (devices : DeviceGhosts D) (g : Config) (p : PartyPlace) (before now : Outside P D) where
  -- The reads for a pointer that came to this, whose key names a block of the pool. What a party that has every number asked the device for follows from the
  -- shard. Where the pool gave the bytes, those that it tells in the key's range are of the pointer.
  pub record SpentOnRead (ptr : Ptr) (e : Effect) : Type 0 where
    pub valid : IsValid (pools.size before.pool) ptr.key
    pub calls : MakesCalls pools (calls_of e) before.pool now.pool
    pub range : CameFromPool e → TellsBlock (pools.told before.pool) ptr
    pub asked : AsksFor devices ptr.key.size e before.device now.device
    pub asks : HasAll p → Asks devices (now_of g (shard_of g.shards ptr.key) p) ptr e before.device now.device

  -- the reads for what was brought for a line that was answered so: for nothing, none
  abbrev pub SpentOn : Brought → Reply → Type 0
  SpentOn Nothing reply = now ≡ before
  SpentOn (Loaded ptr from) reply = SpentOnRead ptr (Answered from)
  SpentOn (Refused ptr) reply = SpentOnRead ptr (effect_of reply)

-- The bytes of what was brought came from where the party's access found them; of one that was refused the pool had to be asked for them.
abbrev pub CameFrom : Config → PartyPlace → Brought → Type 0
CameFrom g p Nothing = Unit {0}
CameFrom g p (Loaded ptr from) = MayComeFrom (access_now g ptr p) from
CameFrom g p (Refused ptr) = AsksPool (access_now g ptr p)

-- where the pool gave a block, the bytes that it tells in the key's range are of the block's pointer
abbrev pub TellsBrought : (image : Option (List ℕ)) → Brought → Type 0
TellsBrought image Nothing = Unit {0}
TellsBrought image (Loaded ptr from) = IsFromPool from → TellsBlock image ptr
TellsBrought image (Refused ptr) = Unit {0}

-- ---- the events of shards

-- a hold that a read gave is handed to the cell of the number c; a read past the cache gave none
abbrev pub events_of_hand : (n c : ℕ) → Option Key → List Event
events_of_hand n c None = []
events_of_hand n c (Some key) = Hand n key c ∷ []

-- what a party that is alone makes for what was brought, in the shard of its key, which it finds so
abbrev pub events_of_bringing : PlainShard → (n t c : ℕ) → Brought → List Event
events_of_bringing s n t c Nothing = []
events_of_bringing s n t c (Loaded ptr from) = events_of_answered n t ptr from (access_of s ptr) ++ events_of_hand n c (held_by_access ptr (access_of s ptr))
events_of_bringing s n t c (Refused ptr) = events_of_refused n t ptr (access_of s ptr)

-- what was brought is of this shard, of so many
abbrev pub brought_there : (shards shard : ℕ) → Brought → (es : List Event) → List Event
brought_there shards shard Nothing es = []
brought_there shards shard (Loaded ptr from) es = if shard_of shards ptr.key == shard then es else []
brought_there shards shard (Refused ptr) es = if shard_of shards ptr.key == shard then es else []

-- Which holds of the cell of the number c the operation itself gave up, where these dbufs had one: a put and a patch that of the block that they write over.
abbrev pub ReleasesFor : (c : ℕ) → (held : Oid → Bool) → CellEvent → Outline → List Event → Type 0
ReleasesFor c held (events.Put n at size fill) o es = Releases c at (held at) o es
ReleasesFor c held (events.Patch n at from bytes) o es = Releases c at (held at) o es
ReleasesFor c held (events.Get n at) o es = es ≡ []
ReleasesFor c held (events.Pin n at) o es = es ≡ []
ReleasesFor c held (events.Unpin n at) o es = es ≡ []
ReleasesFor c held (events.Load n at keeps) o es = es ≡ []
ReleasesFor c held (events.Evict n at) o es = es ≡ []
ReleasesFor c held (events.Synced n at ptr keeps) o es = es ≡ []
ReleasesFor c held (events.End n) o es = es ≡ []

-- ---- what a line did

-- The party's own acts are those for what was brought at this tick; and it made these events with the number c of a cell, and did this to cells. One that is
-- alone has seen in each shard just what was made for the block that was brought, and then those events more.
pub record DidWork (g : Config) (t c : ℕ) (brought : Brought) (es : List Event) (noted : List Noted) (p q : PartyPlace) : Type 0 where
  pub number : q.number ≡ p.number
  pub told : (did : List Act) (had : List Noted) → HasToldAll g did had p → HasToldAll g (did ++ (acts_of_bringing p.number t c brought ++ acts_of_events es)) (had ++ noted) q
  pub alone : HasAll p → (shard : ℕ) → seen_of g shard q ≡ seen_of g shard p
      ++ (brought_there g.shards shard brought (events_of_bringing (now_of g shard p) p.number t c brought) ++ events_there g shard es)
  pub source : HasAll p → CameFrom g p brought
  pub all : HasAll p → HasAll q
  pub joined : q.joined ≡ p.joined
  pub keeps : KeepsCells g p q
  pub cells_alone : HasAll p → (i : ℕ) → IsCell g i → front_of i q.own.seen ≡ front_of i p.own.seen ++ lines_of_cell i noted

-- the block was clean with this pointer, and its bytes were not there
pub record WasToBring (at : Oid) (ptr : Ptr) (o : Outline) : Type 0 where
  pub pointer : mapped_at at o ≡ Some (Clean ptr)
  pub uncached : is_cached_at at o ≡ false

-- what was brought for an answered line is the block that the object map has there, whose bytes are not there
abbrev pub IsBrought : Oid → Outline → Brought → Type 0
IsBrought at o Nothing = Unit {0}
IsBrought at o (Loaded ptr from) = WasToBring at ptr o
IsBrought at o (Refused ptr) = ⊥

-- the object map has the block, and the range ends inside it
pub record EndsInside (at : Oid) (last : ℕ) (o : Outline) : Type 0 where
  pub mapped : Mapped
  pub there : mapped_at at o ≡ Some mapped
  pub inside : last ≤ mapped_size mapped

module _ (g : Config) (at : Oid) (t : ℕ) (p q : PartyPlace) where
  abbrev pub its_cell : ℕ
  its_cell = cell_of g.cells at

  abbrev pub its_number : ℕ
  its_number = cell_number g its_cell

  -- The party did this to the block's cell, which it found so, right behind the Load if a block was brought. It gave up the hold of what the operation writes over,
  -- and then what was over the limit was evicted, each block with the drop of its hold; where the dbuf had none, without. Which dbufs had a hold, the cell's history tells. All that stands in the cell's history right behind what it found there.
  pub record Did (own : CellEvent) (brought : Brought) (Fits : OnHeap → Type 0) : Type 0 where
    pub cell : OnHeap
    pub found : FindsCell g its_cell cell p q
    pub fits : Fits cell
    pub brings : IsBrought at (outline_in cell) brought
    pub released : List Event
    pub releases : ReleasesFor its_number (held_once at brought (held_in cell)) own (after_all (outline_in cell) (loads_of p.number at brought)) released
    pub evicted : List Oid
    pub drops : List Event
    pub evictions : AreEvictions p.number its_number (held_once at brought (held_in cell)) (after_all (outline_in cell) (loads_of p.number at brought ++ own ∷ [])) (map (events.Evict p.number) evicted) drops
    pub placed : StartsWith (front_of its_cell q.own.seen) (cell_lines cell ++ lines_of_cell its_cell (noted_in its_cell (loads_of p.number at brought ++ own ∷ map (events.Evict p.number) evicted)))
    pub holders : AreHolders cell.value.history (held_in cell)
    pub work : DidWork g t its_number brought (released ++ drops) (noted_in its_cell (loads_of p.number at brought ++ own ∷ map (events.Evict p.number) evicted)) p q

  -- The line was refused for this cause, as the party found the block's cell. Nothing was done to cells, and what was tried to be brought, if anything was, was refused.
  pub record DidNot (brought : Brought) (Why : OnHeap → Type 0) : Type 0 where
    pub cell : OnHeap
    pub found : FindsCell g its_cell cell p q
    pub why : Why cell
    pub work : DidWork g t its_number brought [] [] p q

-- ---- the lines that ask for no block's bytes, and so for no tick, by their replies

module _ (g : Config) (at : Oid) (p q : PartyPlace) where
  -- the block was written whole
  abbrev pub DidPut : (size fill : ℕ) → Reply → Type 0
  DidPut size fill replies.Done = Did g at 0 p q (events.Put p.number at size fill) Nothing (λ cell. Unit {0})
  DidPut size fill (replies.Refused refusal) = ⊥
  DidPut size fill (replies.Got most shown) = ⊥
  DidPut size fill (replies.Read served digest shown) = ⊥
  DidPut size fill (replies.Kept served) = ⊥
  DidPut size fill replies.Dropped = ⊥
  DidPut size fill (replies.Fed report) = ⊥
  DidPut size fill replies.FedNone = ⊥
  DidPut size fill (replies.Synced group blocks bytes) = ⊥
  DidPut size fill (replies.Capped c) = ⊥

  -- there was no pin of the party's
  abbrev pub RefusesUnpin : Refusal → Type 0
  RefusesUnpin (refusals.NoPin named) = DidNot g at 0 p q Nothing (λ cell. (named ≡ at) × (has_pin_at p.number at (outline_in cell) ≡ false))
  RefusesUnpin (refusals.NoBlock named) = ⊥
  RefusesUnpin (refusals.Range end size) = ⊥
  RefusesUnpin (refusals.Key why) = ⊥
  RefusesUnpin refusals.PoolFault = ⊥
  RefusesUnpin (refusals.Mismatch found) = ⊥
  RefusesUnpin (refusals.NoHold block) = ⊥
  RefusesUnpin refusals.NoMemory = ⊥

  -- a pin of the party's went, or there was none
  abbrev pub DidUnpin : Reply → Type 0
  DidUnpin replies.Done = Did g at 0 p q (events.Unpin p.number at) Nothing (λ cell. Unit {0})
  DidUnpin (replies.Refused refusal) = RefusesUnpin refusal
  DidUnpin (replies.Got size shown) = ⊥
  DidUnpin (replies.Read served digest shown) = ⊥
  DidUnpin (replies.Kept served) = ⊥
  DidUnpin replies.Dropped = ⊥
  DidUnpin (replies.Fed report) = ⊥
  DidUnpin replies.FedNone = ⊥
  DidUnpin (replies.Synced group blocks bytes) = ⊥
  DidUnpin (replies.Capped c) = ⊥

module _ {P D : Type 0} (pools : PoolGhosts P) (devices : DeviceGhosts D) (g : Config) (at : Oid) (t : ℕ) (before now : Outside P D) (p q : PartyPlace) where
  -- ---- why a line was refused that asks for a block's bytes

  -- nothing was brought, for this cause
  abbrev pub AsksNothing : Refusal → (OnHeap → Type 0) → Type 0
  AsksNothing refusal Why = DidNot g at t p q Nothing Why × SpentOn pools devices g p before now Nothing (replies.Refused refusal)

  -- the bytes of the block were asked for, and refused for this cause
  abbrev pub FailsToBring : (last : ℕ) → Refusal → Type 0
  FailsToBring last refusal = (ptr : Ptr) × DidNot g at t p q (Refused ptr) (λ cell. EndsInside at last (outline_in cell)
      × WasToBring at ptr (outline_in cell) × IsReadRefusal (pools.size before.pool) (pools.told before.pool) ptr refusal)
      × SpentOn pools devices g p before now (Refused ptr) (replies.Refused refusal)

  -- By the refusal, where the range ends here. In this order: there is no such block; the range ends past it; its key names none of the pool; the bytes were refused.
  abbrev pub RefusesBytes : (last : ℕ) → Refusal → Type 0
  RefusesBytes last (refusals.NoBlock named) = AsksNothing (refusals.NoBlock named) (λ cell. AnswersNoBlock at named (outline_in cell))
  RefusesBytes last (refusals.Range end size) = AsksNothing (refusals.Range end size) (λ cell. AnswersRange at last end size (outline_in cell))
  RefusesBytes last (refusals.Key why) = AsksNothing (refusals.Key why) (λ cell. EndsInside at last (outline_in cell) × AnswersKey (pools.size before.pool) at (outline_in cell) (refusals.Key why))
  RefusesBytes last refusals.PoolFault = FailsToBring last refusals.PoolFault
  RefusesBytes last (refusals.Mismatch found) = FailsToBring last (refusals.Mismatch found)
  RefusesBytes last (refusals.NoHold block) = ⊥
  RefusesBytes last (refusals.NoPin named) = ⊥
  RefusesBytes last refusals.NoMemory = ⊥

  -- a line that asks for the block alone, and for no range
  abbrev pub RefusesBlock : Refusal → Type 0
  RefusesBlock (refusals.NoBlock named) = RefusesBytes 0 (refusals.NoBlock named)
  RefusesBlock (refusals.Range end size) = ⊥
  RefusesBlock (refusals.Key why) = RefusesBytes 0 (refusals.Key why)
  RefusesBlock refusals.PoolFault = RefusesBytes 0 refusals.PoolFault
  RefusesBlock (refusals.Mismatch found) = RefusesBytes 0 (refusals.Mismatch found)
  RefusesBlock (refusals.NoHold block) = ⊥
  RefusesBlock (refusals.NoPin named) = ⊥
  RefusesBlock refusals.NoMemory = ⊥

  -- ---- these lines, by their replies

  -- the operation was done, and this was asked for what was brought for it
  abbrev pub Brings : CellEvent → Reply → (OnHeap → Type 0) → Type 0
  Brings own reply Fits = (brought : Brought) × Did g at t p q own brought Fits × SpentOn pools devices g p before now brought reply

  -- the block's size and the window were shown, as some legal replay of the cell's history has them
  abbrev pub DidGet : Window → Reply → Type 0
  DidGet w (replies.Got size shown) = Brings (events.Get p.number at) (replies.Got size shown) (λ cell. IsAnswerAfter cell.value.limit cell.value.opening cell.value.history at w size shown)
  DidGet w (replies.Refused refusal) = RefusesBytes (w.at + w.len) refusal
  DidGet w replies.Done = ⊥
  DidGet w (replies.Read served digest shown) = ⊥
  DidGet w (replies.Kept served) = ⊥
  DidGet w replies.Dropped = ⊥
  DidGet w (replies.Fed report) = ⊥
  DidGet w replies.FedNone = ⊥
  DidGet w (replies.Synced group blocks bytes) = ⊥
  DidGet w (replies.Capped c) = ⊥

  -- the part was written over
  abbrev pub DidPatch : (from : ℕ) → List ℕ → Reply → Type 0
  DidPatch from bytes replies.Done = Brings (events.Patch p.number at from bytes) replies.Done (λ cell. Unit {0})
  DidPatch from bytes (replies.Refused refusal) = RefusesBytes (from + length bytes) refusal
  DidPatch from bytes (replies.Got size shown) = ⊥
  DidPatch from bytes (replies.Read served digest shown) = ⊥
  DidPatch from bytes (replies.Kept served) = ⊥
  DidPatch from bytes replies.Dropped = ⊥
  DidPatch from bytes (replies.Fed report) = ⊥
  DidPatch from bytes replies.FedNone = ⊥
  DidPatch from bytes (replies.Synced group blocks written) = ⊥
  DidPatch from bytes (replies.Capped c) = ⊥

  -- the block was pinned
  abbrev pub DidPin : Reply → Type 0
  DidPin replies.Done = Brings (events.Pin p.number at) replies.Done (λ cell. Unit {0})
  DidPin (replies.Refused refusal) = RefusesBlock refusal
  DidPin (replies.Got size shown) = ⊥
  DidPin (replies.Read served digest shown) = ⊥
  DidPin (replies.Kept served) = ⊥
  DidPin replies.Dropped = ⊥
  DidPin (replies.Fed report) = ⊥
  DidPin replies.FedNone = ⊥
  DidPin (replies.Synced group blocks bytes) = ⊥
  DidPin (replies.Capped c) = ⊥

  -- ---- by the line: no other one is on an object

  abbrev pub DidObject : Op → Reply → Type 0
  DidObject (ops.Get n u x w) reply = DidGet w reply
  DidObject (ops.Patch n u x from bytes) reply = DidPatch from bytes reply
  DidObject (ops.Pin n u x) reply = DidPin reply
  DidObject (ops.Put n u x size fill) reply = DidPut g at p q size fill reply × (now ≡ before)
  DidObject (ops.Unpin n x) reply = DidUnpin g at p q reply × (now ≡ before)
  DidObject (ops.Read n u x window) reply = ⊥
  DidObject (ops.Hold n u x) reply = ⊥
  DidObject (ops.Drop n x) reply = ⊥
  DidObject ops.Feed reply = ⊥
  DidObject (ops.Txg u) reply = ⊥
  DidObject (ops.Cap c) reply = ⊥

-- the block of the object map that a line is on, and the tick at which its bytes are brought; a line that brings none has none
pub record OnObject : Type 0 where
  pub at : Oid
  pub tick : ℕ

abbrev pub on_object : Op → Option OnObject
on_object (ops.Get n t at w) = Some (record { at = at; tick = t })
on_object (ops.Patch n t at from bytes) = Some (record { at = at; tick = t })
on_object (ops.Pin n t at) = Some (record { at = at; tick = t })
on_object (ops.Put n t at size fill) = Some (record { at = at; tick = 0 })
on_object (ops.Unpin n at) = Some (record { at = at; tick = 0 })
on_object (ops.Read n t x window) = None
on_object (ops.Hold n t x) = None
on_object (ops.Drop n x) = None
on_object ops.Feed = None
on_object (ops.Txg t) = None
on_object (ops.Cap c) = None

-- a block that is written whole has a size that a block may have
abbrev pub IsSized : Op → Type 0
IsSized (ops.Put n t at size fill) = IsBlockSize size
IsSized (ops.Get n t at w) = Unit {0}
IsSized (ops.Patch n t at from bytes) = Unit {0}
IsSized (ops.Pin n t at) = Unit {0}
IsSized (ops.Unpin n at) = Unit {0}
IsSized (ops.Read n t x window) = Unit {0}
IsSized (ops.Hold n t x) = Unit {0}
IsSized (ops.Drop n x) = Unit {0}
IsSized ops.Feed = Unit {0}
IsSized (ops.Txg t) = Unit {0}
IsSized (ops.Cap c) = Unit {0}

-- what a line on an object came to
abbrev pub DidObjectLine : {P D : Type 0} → PoolGhosts P → DeviceGhosts D → Config → (before now : Outside P D) → (p q : PartyPlace) → Op → Reply → Type 0
DidObjectLine pools devices g before now p q op reply = IfSome (on_object op) (λ on. DidObject pools devices g on.at on.tick before now p q op reply)

-- ---- what a refusal tells

-- the refusal tells this fault of a call on dbufs; want of memory it does not tell
abbrev pub TellsFault : DbufFault → Refusal → Type 0
TellsFault (fault.Read why) refusal = IsRefused why refusal
TellsFault (fault.NoBlock named) refusal = refusal ≡ refusals.NoBlock named
TellsFault (fault.Range end size) refusal = refusal ≡ refusals.Range end size
TellsFault (fault.NoPin named) refusal = refusal ≡ refusals.NoPin named
TellsFault fault.NoMemory refusal = ⊥
