-- Lines on objects: what was brought for one, what it did, and what it may be answered.
use Rattle.std.specs.Prelude.{◌≡◌, ℕ, ◌<◌, Bool, true, false, if◌then◌else◌, List, [], ◌∷◌, ◌++◌, map, Option, Some, None}
use Rattle.std.specs.List.{AllByRecursion}
use Rattle.blk_ptr.specs.declared.ptr.Ptr.{Ptr}
use Rattle.blk_ptr.specs.Key.{IsFirstKeyFault}
use Rattle.arc_core.specs.declared.config.Config.{Config}
use Rattle.arc_core.specs.declared.served.Served.{Served}
use Rattle.arc_core.specs.declared.served.Served.TheVariants as served
use Rattle.arc_core.specs.Operations.{Act, Fails, Loads, actor_of}
use Rattle.arc_table.specs.Geometry.{cell_number}
use Rattle.dbuf_cells.specs.Places.{cell_of}
use Rattle.dbuf_state.specs.Outline.{Outline, mapped_at, mapped_size}
use Rattle.dbuf_state.specs.Oids.{oid_eq}
use Rattle.dbuf_state.specs.declared.event.CellEvent.{CellEvent}
use Rattle.dbuf_state.specs.declared.event.CellEvent.TheVariants as events
use Rattle.dbuf_state.specs.declared.oid.Oid.{Oid}
use Rattle.dbuf_state.specs.declared.state.Mapped.{Mapped}
use Rattle.dbuf_state.specs.declared.state.Mapped.TheVariants.{Clean}
use Rattle.trace_text.specs.declared.op.Op.{Op}
use Rattle.trace_text.specs.declared.op.Op.TheVariants as ops
use Rattle.trace_text.specs.declared.reply.Refusal.{Refusal}
use Rattle.trace_text.specs.declared.reply.Refusal.TheVariants as refusals
use Rattle.trace_text.specs.declared.reply.Reply.{Reply}
use Rattle.trace_text.specs.declared.reply.Reply.TheVariants as replies
use Rattle.trace_run.specs.Deeds.{Noted, noted_in}

-- the block that was brought for a line, so that a dbuf has its bytes
pub data Brought : Type 0 where
  -- none: the bytes were there, the line asks for none, or it was refused before they were asked for
  Nothing : Brought
  -- this one, from here
  Loaded : Ptr → Served → Brought
  -- this one, and it was refused
  Refused : Ptr → Brought

-- What a line did beside its reply: what was brought for it, what it did to cells, and its acts with the numbers of cells.
pub record Work : Type 0 where
  pub brought : Brought
  pub noted : List Noted
  pub acts : List Act

-- it did nothing
abbrev pub no_work : Work
no_work = record { brought = Nothing; noted = []; acts = [] }

-- a line with its reply and its work
pub record Line : Type 0 where
  pub op : Op
  pub reply : Reply
  pub work : Work

-- the operations of these lines, and their replies
abbrev pub ops_of : List Line → List Op
ops_of = map (λ l. l.op)

abbrev pub replies_of : List Line → List Reply
replies_of = map (λ l. l.reply)

-- ---- which go together

-- an answer says nothing of a block that was refused
abbrev pub IsAnswered : Brought → Type 0
IsAnswered Nothing = Unit {0}
IsAnswered (Loaded ptr from) = Unit {0}
IsAnswered (Refused ptr) = ⊥

-- the refusal is of the pointer that was brought where the pool was asked; else nothing was
abbrev pub IsRefusedWith : Refusal → Brought → Type 0
IsRefusedWith refusals.PoolFault brought = (ptr : Ptr) × (brought ≡ Refused ptr)
IsRefusedWith (refusals.Mismatch found) brought = (ptr : Ptr) × (brought ≡ Refused ptr)
IsRefusedWith (refusals.Key why) brought = brought ≡ Nothing
IsRefusedWith (refusals.Range end size) brought = brought ≡ Nothing
IsRefusedWith (refusals.NoBlock at) brought = brought ≡ Nothing
IsRefusedWith (refusals.NoHold block) brought = ⊥
IsRefusedWith (refusals.NoPin at) brought = ⊥
IsRefusedWith refusals.NoMemory brought = ⊥

-- the block was pinned, or written in part: or it could not be
abbrev pub IsDoneWith : Reply → Brought → Type 0
IsDoneWith replies.Done brought = IsAnswered brought
IsDoneWith (replies.Refused refusal) brought = IsRefusedWith refusal brought
IsDoneWith (replies.Read served digest shown) brought = ⊥
IsDoneWith (replies.Kept served) brought = ⊥
IsDoneWith replies.Dropped brought = ⊥
IsDoneWith (replies.Got size shown) brought = ⊥
IsDoneWith (replies.Fed report) brought = ⊥
IsDoneWith replies.FedNone brought = ⊥
IsDoneWith (replies.Synced group blocks bytes) brought = ⊥
IsDoneWith (replies.Capped c) brought = ⊥

abbrev pub IsGotWith : Reply → Brought → Type 0
IsGotWith (replies.Got size shown) brought = IsAnswered brought
IsGotWith (replies.Refused refusal) brought = IsRefusedWith refusal brought
IsGotWith (replies.Read served digest shown) brought = ⊥
IsGotWith (replies.Kept served) brought = ⊥
IsGotWith replies.Dropped brought = ⊥
IsGotWith replies.Done brought = ⊥
IsGotWith (replies.Fed report) brought = ⊥
IsGotWith replies.FedNone brought = ⊥
IsGotWith (replies.Synced group blocks bytes) brought = ⊥
IsGotWith (replies.Capped c) brought = ⊥

-- a line that asks for no block's bytes brings none
abbrev pub GoesTogether : Op → Reply → Brought → Type 0
GoesTogether (ops.Get n t at w) reply brought = IsGotWith reply brought
GoesTogether (ops.Patch n t at from bytes) reply brought = IsDoneWith reply brought
GoesTogether (ops.Pin n t at) reply brought = IsDoneWith reply brought
GoesTogether (ops.Put n t at size fill) reply brought = brought ≡ Nothing
GoesTogether (ops.Unpin n at) reply brought = brought ≡ Nothing
GoesTogether (ops.Read n t x window) reply brought = brought ≡ Nothing
GoesTogether (ops.Hold n t x) reply brought = brought ≡ Nothing
GoesTogether (ops.Drop n x) reply brought = brought ≡ Nothing
GoesTogether ops.Feed reply brought = brought ≡ Nothing
GoesTogether (ops.Txg t) reply brought = brought ≡ Nothing
GoesTogether (ops.Cap c) reply brought = brought ≡ Nothing

-- ---- what a line on an object does

-- the block of an operation, and what the operation does to its cell
pub record OwnEvent : Type 0 where
  pub at : Oid
  pub event : CellEvent

abbrev pub own_event : Op → Option OwnEvent
own_event (ops.Get n t at w) = Some (record { at = at; event = events.Get n at })
own_event (ops.Put n t at size fill) = Some (record { at = at; event = events.Put n at size fill })
own_event (ops.Patch n t at from bytes) = Some (record { at = at; event = events.Patch n at from bytes })
own_event (ops.Pin n t at) = Some (record { at = at; event = events.Pin n at })
own_event (ops.Unpin n at) = Some (record { at = at; event = events.Unpin n at })
own_event (ops.Read n t x window) = None
own_event (ops.Hold n t x) = None
own_event (ops.Drop n x) = None
own_event ops.Feed = None
own_event (ops.Txg t) = None
own_event (ops.Cap c) = None

-- a block that was served from here comes with a hold; one that was read past the cache has none
abbrev pub gives_hold : Served → Bool
gives_hold served.Hit = true
gives_hold served.Pool = true
gives_hold served.L2 = true
gives_hold served.Past = false

-- a Load stands for a block that was brought
abbrev pub loads_of : (n : ℕ) → Oid → Brought → List CellEvent
loads_of n at Nothing = []
loads_of n at (Loaded ptr from) = events.Load n at (gives_hold from) ∷ []
loads_of n at (Refused ptr) = []

-- which dbufs of a cell have a hold once the block was brought for the Oid of a line, where these had one before
abbrev pub held_once : Oid → Brought → (Oid → Bool) → Oid → Bool
held_once at Nothing held b = held b
held_once at (Loaded ptr from) held b = if oid_eq at b then gives_hold from else held b
held_once at (Refused ptr) held b = held b

-- what is done to the cell of an answered line: the Load, the operation's own event right behind it, and evictions
pub record NotesOwn (g : Config) (n : ℕ) (own : OwnEvent) (work : Work) : Type 0 where
  pub evictions : List Oid
  pub noted : work.noted ≡ noted_in (cell_of g.cells own.at) (loads_of n own.at work.brought ++ own.event ∷ map (events.Evict n) evictions)
  -- and its acts with the cell's number, each on one block
  pub acts : AllByRecursion (λ act. actor_of act ≡ cell_number g (cell_of g.cells own.at)) work.acts

-- a refused one leaves cells as they were
abbrev pub NotesNothing : Work → Type 0
NotesNothing work = (work.noted ≡ []) × (work.acts ≡ [])

-- the caller's own acts: an access whose hold goes to the cell, or one that was refused
abbrev pub acts_of_bringing : (n t cell : ℕ) → Brought → List Act
acts_of_bringing n t cell Nothing = []
acts_of_bringing n t cell (Loaded ptr from) = Loads n t ptr from cell ∷ []
acts_of_bringing n t cell (Refused ptr) = Fails n t ptr ∷ []

-- ---- what it may be answered, by what had been done to its cell then

-- no such block is mapped
abbrev pub AnswersNoBlock : Oid → Oid → Outline → Type 0
AnswersNoBlock at named o = (named ≡ at) × (mapped_at at o ≡ None)

-- the range ends past the block
pub record AnswersRange (at : Oid) (last end size : ℕ) (o : Outline) : Type 0 where
  pub end_is : end ≡ last
  pub mapped : Mapped
  pub there : mapped_at at o ≡ Some mapped
  pub size_is : size ≡ mapped_size mapped
  pub past : size < end

-- the key of the block's pointer names none of the pool
abbrev pub AnswersKey : (pool_len : ℕ) → Oid → Outline → Refusal → Type 0
AnswersKey pool_len at o (refusals.Key why) = (ptr : Ptr) × (mapped_at at o ≡ Some (Clean ptr)) × IsFirstKeyFault pool_len ptr.key why
AnswersKey pool_len at o refusals.PoolFault = ⊥
AnswersKey pool_len at o (refusals.Mismatch found) = ⊥
AnswersKey pool_len at o (refusals.Range end size) = ⊥
AnswersKey pool_len at o (refusals.NoBlock named) = ⊥
AnswersKey pool_len at o (refusals.NoHold block) = ⊥
AnswersKey pool_len at o (refusals.NoPin named) = ⊥
AnswersKey pool_len at o refusals.NoMemory = ⊥
