-- What a line on an object may be answered and what it may do, by how the cell of its block stood when the line looked at it; and that a party found it so.
use Rattle.std.specs.Prelude.{◌≡◌, ℕ, ◌+◌, Bool, false, List, [], ◌∷◌, ◌++◌, length, map, Option, Some, None, slice_index_or}
use Rattle.blk_ptr.specs.declared.ptr.Ptr.{Ptr}
use Rattle.blk_ptr.specs.Key.{IsValid}
use Rattle.arc_core.specs.declared.config.Config.{Config}
use Rattle.arc_core.specs.declared.event.Event.{Event}
use Rattle.arc_table.specs.declared.view.Line.{Line as Seen}
use Rattle.arc_table.specs.Fronts.{StartsWith, front_of}
use Rattle.arc_table.specs.Geometry.{cell_number}
use Rattle.dbuf_cells.specs.Places.{cell_of}
use Rattle.dbuf_cells.specs.Turns.{AreEvictions, OnHeap}
use Rattle.dbuf_state.specs.Answers.{IsAnswerAfter}
use Rattle.dbuf_state.specs.Numbers.{opening_numbers}
use Rattle.dbuf_state.specs.Outline.{Outline, after_all, has_pin_at, outline_after}
use Rattle.dbuf_state.specs.Soundness.{IsSound}
use Rattle.dbuf_state.specs.declared.event.CellEvent.{CellEvent}
use Rattle.dbuf_state.specs.declared.event.CellEvent.TheVariants as events
use Rattle.dbuf_state.specs.declared.oid.Oid.{Oid}
use Rattle.dbuf_state.specs.declared.state.Mapping.{Mapping}
use Rattle.dbuf_state.specs.declared.window.Window.{Window}
use Rattle.trace_text.specs.declared.op.Op.{Op}
use Rattle.trace_text.specs.declared.op.Op.TheVariants as ops
use Rattle.trace_text.specs.declared.reply.Refusal.{Refusal}
use Rattle.trace_text.specs.declared.reply.Refusal.TheVariants as refusals
use Rattle.trace_text.specs.declared.reply.Reply.{Reply}
use Rattle.trace_text.specs.declared.reply.Reply.TheVariants as replies
use Rattle.trace_run.specs.Answers.{IsReadRefusal}
use Rattle.trace_run.specs.dbufs.CellEnds.{done_by}
use Rattle.trace_run.specs.dbufs.Holders.{AreHolders}
use Rattle.trace_run.specs.Deeds.{Noted, acts_of_events, events_of_cell, lines_of_cell, noted_in}
use Rattle.trace_run.specs.dbufs.ObjectLines.{EndsInside, ReleasesFor, TellsBrought, WasToBring, cell_lines}
use Rattle.trace_run.specs.dbufs.Objects.{AnswersKey, AnswersNoBlock, AnswersRange, Brought, Line, Loaded, NotesNothing, Nothing, OwnEvent, Refused, Work, held_once, loads_of, no_work, own_event}

-- over a pool of this length that may tell its bytes, by a cell with this limit and opening to which this had been done, and where this was brought for the line
module _ (pool_len : ℕ) (image : Option (List ℕ)) (limit : ℕ) (opening : List Mapping) (front : List CellEvent) (brought : Brought) where
  -- how the cell stood
  abbrev pub stood : Outline
  stood = outline_after limit opening front

  -- the block's bytes were not there, and were refused: those of the pointer that was to be brought
  abbrev pub BringingFails : Oid → (last : ℕ) → Refusal → Type 0
  BringingFails at last refusal = (ptr : Ptr) × (brought ≡ Refused ptr) × EndsInside at last stood × WasToBring at ptr stood × IsReadRefusal pool_len image ptr refusal

  -- Why a line was refused that asks for a block's bytes up to here. In this order: there is no such block; the range ends past it; its key names none of the pool; its bytes were refused.
  abbrev pub RefusesAt : Oid → (last : ℕ) → Refusal → Type 0
  RefusesAt at last (refusals.NoBlock named) = AnswersNoBlock at named stood
  RefusesAt at last (refusals.Range end size) = AnswersRange at last end size stood
  RefusesAt at last (refusals.Key why) = EndsInside at last stood × AnswersKey pool_len at stood (refusals.Key why)
  RefusesAt at last refusals.PoolFault = BringingFails at last refusals.PoolFault
  RefusesAt at last (refusals.Mismatch other) = BringingFails at last (refusals.Mismatch other)
  RefusesAt at last (refusals.NoHold block) = ⊥
  RefusesAt at last (refusals.NoPin named) = ⊥
  RefusesAt at last refusals.NoMemory = ⊥

  -- why one was refused that asks for the block alone, and for no range
  abbrev pub RefusesWhole : Oid → Refusal → Type 0
  RefusesWhole at (refusals.NoBlock named) = RefusesAt at 0 (refusals.NoBlock named)
  RefusesWhole at (refusals.Range end size) = ⊥
  RefusesWhole at (refusals.Key why) = RefusesAt at 0 (refusals.Key why)
  RefusesWhole at refusals.PoolFault = RefusesAt at 0 refusals.PoolFault
  RefusesWhole at (refusals.Mismatch other) = RefusesAt at 0 (refusals.Mismatch other)
  RefusesWhole at (refusals.NoHold block) = ⊥
  RefusesWhole at (refusals.NoPin named) = ⊥
  RefusesWhole at refusals.NoMemory = ⊥

  -- why a pin could not be taken back: there was none of this caller's
  abbrev pub RefusesPin : (n : ℕ) → Oid → Refusal → Type 0
  RefusesPin n at (refusals.NoPin named) = (named ≡ at) × (has_pin_at n at stood ≡ false)
  RefusesPin n at (refusals.NoBlock named) = ⊥
  RefusesPin n at (refusals.Range end size) = ⊥
  RefusesPin n at (refusals.Key why) = ⊥
  RefusesPin n at refusals.PoolFault = ⊥
  RefusesPin n at (refusals.Mismatch other) = ⊥
  RefusesPin n at (refusals.NoHold block) = ⊥
  RefusesPin n at refusals.NoMemory = ⊥

  -- the answers to a read of a window: the block's size and its bytes there, as some legal replay of what had been done has them
  abbrev pub AnswersWindow : Oid → Window → Reply → Type 0
  AnswersWindow at w (replies.Got size shown) = IsAnswerAfter limit opening front at w size shown
  AnswersWindow at w (replies.Refused refusal) = RefusesAt at (w.at + w.len) refusal
  AnswersWindow at w replies.Done = ⊥
  AnswersWindow at w (replies.Read served digest shown) = ⊥
  AnswersWindow at w (replies.Kept served) = ⊥
  AnswersWindow at w replies.Dropped = ⊥
  AnswersWindow at w (replies.Fed report) = ⊥
  AnswersWindow at w replies.FedNone = ⊥
  AnswersWindow at w (replies.Synced group blocks bytes) = ⊥
  AnswersWindow at w (replies.Capped c) = ⊥

  -- The answers to a line that shows nothing: it was done, or refused for such a cause. What was done, the cell's history tells.
  abbrev pub AnswersDone : (Refusal → Type 0) → Reply → Type 0
  AnswersDone Why replies.Done = Unit {0}
  AnswersDone Why (replies.Refused refusal) = Why refusal
  AnswersDone Why (replies.Got size shown) = ⊥
  AnswersDone Why (replies.Read served digest shown) = ⊥
  AnswersDone Why (replies.Kept served) = ⊥
  AnswersDone Why replies.Dropped = ⊥
  AnswersDone Why (replies.Fed report) = ⊥
  AnswersDone Why replies.FedNone = ⊥
  AnswersDone Why (replies.Synced group blocks bytes) = ⊥
  AnswersDone Why (replies.Capped c) = ⊥

  -- by the line: no other one is on an object, and a write of a whole block is never refused
  abbrev pub AnswersObject : Op → Reply → Type 0
  AnswersObject (ops.Get n t at w) reply = AnswersWindow at w reply
  AnswersObject (ops.Patch n t at from bytes) reply = AnswersDone (RefusesAt at (from + length bytes)) reply
  AnswersObject (ops.Pin n t at) reply = AnswersDone (RefusesWhole at) reply
  AnswersObject (ops.Put n t at size fill) reply = AnswersDone (λ refusal. ⊥) reply
  AnswersObject (ops.Unpin n at) reply = AnswersDone (RefusesPin n at) reply
  AnswersObject (ops.Read n t x window) reply = ⊥
  AnswersObject (ops.Hold n t x) reply = ⊥
  AnswersObject (ops.Drop n x) reply = ⊥
  AnswersObject ops.Feed reply = ⊥
  AnswersObject (ops.Txg t) reply = ⊥
  AnswersObject (ops.Cap c) reply = ⊥

-- ---- what a line did beside its reply, by how its cell was found

-- what was brought is the block that the object map has there, whose bytes are not there; and its key names one of a pool of this length
abbrev pub BringsAt : (pool_len : ℕ) → Oid → Outline → Brought → Type 0
BringsAt pool_len at o Nothing = Unit {0}
BringsAt pool_len at o (Loaded ptr from) = WasToBring at ptr o × IsValid pool_len ptr.key
BringsAt pool_len at o (Refused ptr) = WasToBring at ptr o × IsValid pool_len ptr.key

-- What an answered line of n's did to its cell, which it found so, and with the cell's number. Of the dbufs that had a hold then this is so. The operation gave up the hold of what it writes over, and then
-- that of each evicted block was given back; of a block without a hold there is nothing to give.
pub record ActsAt (g : Config) (n : ℕ) (AreHeld : (Oid → Bool) → Type 0) (own : OwnEvent) (o : Outline) (work : Work) : Type 0 where
  pub held : Oid → Bool
  pub are_held : AreHeld held
  pub evictions : List Oid
  pub noted : work.noted ≡ noted_in (cell_of g.cells own.at) (loads_of n own.at work.brought ++ own.event ∷ map (events.Evict n) evictions)
  pub released : List Event
  pub drops : List Event
  pub releases : ReleasesFor (cell_number g (cell_of g.cells own.at)) (held_once own.at work.brought held) own.event (after_all o (loads_of n own.at work.brought)) released
  pub evicted : AreEvictions n (cell_number g (cell_of g.cells own.at)) (held_once own.at work.brought held) (after_all o (loads_of n own.at work.brought ++ own.event ∷ [])) (map (events.Evict n) evictions) drops
  pub acts : work.acts ≡ acts_of_events (released ++ drops)

-- by its reply: a refused line did nothing there
abbrev pub ActsBy : Config → (n : ℕ) → ((Oid → Bool) → Type 0) → OwnEvent → Outline → Work → Reply → Type 0
ActsBy g n AreHeld own o work (replies.Got size shown) = ActsAt g n AreHeld own o work
ActsBy g n AreHeld own o work replies.Done = ActsAt g n AreHeld own o work
ActsBy g n AreHeld own o work (replies.Refused refusal) = NotesNothing work
ActsBy g n AreHeld own o work (replies.Read served digest shown) = ⊥
ActsBy g n AreHeld own o work (replies.Kept served) = ⊥
ActsBy g n AreHeld own o work replies.Dropped = ⊥
ActsBy g n AreHeld own o work (replies.Fed report) = ⊥
ActsBy g n AreHeld own o work replies.FedNone = ⊥
ActsBy g n AreHeld own o work (replies.Synced group blocks bytes) = ⊥
ActsBy g n AreHeld own o work (replies.Capped c) = ⊥

-- by the line's own event
abbrev pub ActsFor : Config → (n : ℕ) → ((Oid → Bool) → Type 0) → Option OwnEvent → Outline → Work → Reply → Type 0
ActsFor g n AreHeld None o work reply = work ≡ no_work
ActsFor g n AreHeld (Some own) o work reply = ActsBy g n AreHeld own o work reply

-- The line of the caller n looked at the cell of its block, which was so, with the opening with which it began: the caller had done just this to it. By that front of the cell's
-- history go what was brought for the line, what the line did and what it was answered. What is seen of the history goes on from there, with what the line did first. Where the pool gave
-- the block, the bytes that it told there are of the block's pointer.
pub record AnswersFrom (g : Config) (pool_len : ℕ) (image : Option (List ℕ)) (openings : List (List ℕ)) (seen : List (List Seen)) (n : ℕ) (had : List Noted) (at : Oid) (l : Line) : Type 0 where
  pub cell : OnHeap
  pub sound : IsSound cell.value
  pub opening : opening_numbers cell.value.limit cell.value.opening ≡ slice_index_or openings (cell_of g.cells at) []
  pub mine : done_by n cell.value.history ≡ events_of_cell (cell_of g.cells at) had
  pub front : StartsWith (front_of (cell_of g.cells at) seen) (cell_lines cell ++ lines_of_cell (cell_of g.cells at) l.work.noted)
  pub brought : BringsAt pool_len at (outline_after cell.value.limit cell.value.opening cell.value.history) l.work.brought
  pub acts : ActsFor g n (AreHolders cell.value.history) (own_event l.op) (outline_after cell.value.limit cell.value.opening cell.value.history) l.work l.reply
  pub answer : AnswersObject pool_len image cell.value.limit cell.value.opening cell.value.history l.work.brought l.op l.reply
  pub range : TellsBrought image l.work.brought

-- The same, by a cell that goes on from what was seen of it right before.
pub record LooksFrom (g : Config) (pool_len : ℕ) (image : Option (List ℕ)) (openings : List (List ℕ)) (begun seen : List (List Seen)) (n : ℕ) (had : List Noted) (at : Oid) (l : Line) : Type 0 where
  pub from : AnswersFrom g pool_len image openings seen n had at l
  pub since : StartsWith (cell_lines from.cell) (front_of (cell_of g.cells at) begun)
