-- A caller's lines, those on objects among them, each with what it did beside its reply; and what such lines come to, one after another.
use Rattle.std.specs.Prelude.{◌≡◌, ◌≢◌, ℕ, List, [], ◌∷◌, ◌++◌, Option, Some, None, IfSome, slice_index_or, take}
use Rattle.std.specs.Option.{option_map}
use Rattle.std.specs.List.{AllByRecursion}
use Rattle.blk_ptr.specs.declared.ptr.Ptr.{Ptr}
use Rattle.blk_ptr.specs.Hash.{shard_of}
use Rattle.vdev_io.specs.declared.device.CacheDev.{Ghosts as DeviceGhosts}
use Rattle.vdev_io.specs.declared.pool.Pool.{Ghosts as PoolGhosts}
use Rattle.vdev_io.specs.Calls.{Call, KeepsPool, MakesCalls}
use Rattle.arc_core.specs.Config.{IsConfig}
use Rattle.arc_core.specs.declared.config.Config.{Config}
use Rattle.arc_core.specs.declared.served.Served.TheVariants as served
use Rattle.arc_core.specs.declared.event.Event.{Event}
use Rattle.arc_core.specs.Operations.{Act}
use Rattle.arc_core.specs.PlainShard.{PlainShard}
use Rattle.arc_table.specs.declared.view.Line.{Line as Seen}
use Rattle.arc_table.specs.Fronts.{front_of}
use Rattle.arc_table.specs.Geometry.{IsCell, cell_number}
use Rattle.arc_table.specs.Reading.{KeepsDevice, Outside}
use Rattle.arc_table.specs.Seen.{HasAll, seen_of}
use Rattle.dbuf_cells.specs.Places.{cell_of}
use Rattle.dbuf_cells.specs.Turns.{PartyPlace, OnHeap}
use Rattle.dbuf_state.specs.Numbers.{opening_numbers}
use Rattle.dbuf_state.specs.Outline.{outline_after}
use Rattle.dbuf_state.specs.Soundness.{IsSound}
use Rattle.dbuf_state.specs.declared.oid.Oid.{Oid}
use Rattle.trace_text.specs.declared.op.Op.{Op}
use Rattle.trace_text.specs.declared.op.Op.TheVariants as ops
use Rattle.trace_text.specs.declared.reply.Reply.{Reply}
use Rattle.trace_text.specs.declared.reply.Reply.TheVariants as replies
use Rattle.trace_run.specs.Acts.{acts_of}
use Rattle.trace_run.specs.callers.CallerLines.{DidLine, at}
use Rattle.trace_run.specs.Deeds.{CellsGrow, HasAct, HasToldAll, KeepsCells, Noted, acts_of_events, events_there, lines_of_cell}
use Rattle.trace_run.specs.Effects.{Effect, Answered, calls_of, effect_of}
use Rattle.trace_run.specs.KeptReads.{KeptRead}
use Rattle.trace_run.specs.DeviceReads.{AsksFor, LineAsks, size_asked}
use Rattle.trace_run.specs.Lines.{shard_of_line}
use Rattle.trace_run.specs.dbufs.Holders.{AreHolders}
use Rattle.trace_run.specs.dbufs.ObjectLines.{CameFrom, DidObjectLine, OnObject, TellsBrought, brought_there, cell_lines, events_of_bringing, on_object}
use Rattle.trace_run.specs.dbufs.ObjectReplies.{ActsFor, AnswersFrom, AnswersObject, BringsAt, LooksFrom}
use Rattle.trace_run.specs.dbufs.Objects.{Brought, GoesTogether, Line, Loaded, NotesNothing, NotesOwn, Nothing, OwnEvent, Refused, Work, acts_of_bringing, no_work, own_event}
use Rattle.trace_run.specs.one_caller.Asking.{Asks, AsksLine}
use Rattle.trace_run.specs.one_caller.OneCaller.{kept_after}
use Rattle.trace_run.specs.Reads.{now_of}
use Rattle.trace_run.specs.Tally.{AnswersNow}

-- what a reply says was done, where this was brought for its line: a block that was brought was read, whatever the line did with it then
abbrev pub effect_with : Brought → Reply → Effect
effect_with Nothing reply = effect_of reply
effect_with (Loaded ptr from) reply = Answered from
effect_with (Refused ptr) reply = effect_of reply

-- the reads of the pool that all lines made, in their order
abbrev pub calls_of_lines : List Line → List Call
calls_of_lines [] = []
calls_of_lines (l ∷ ls) = calls_of (effect_with l.work.brought l.reply) ++ calls_of_lines ls

-- ---- acts

-- those for what was brought at this tick, under the caller's number, and then those of the cell
abbrev pub acts_on : Config → (n t : ℕ) → Oid → Work → List Act
acts_on g n t at work = acts_of_bringing n t (cell_number g (cell_of g.cells at)) work.brought ++ work.acts

-- by the line, where its caller keeps these reads
abbrev pub acts_with_op : Config → List Ptr → List KeptRead → Op → Reply → Work → List Act
acts_with_op g blocks kept (ops.Read n t x window) reply work = acts_of blocks kept (ops.Read n t x window) reply
acts_with_op g blocks kept (ops.Hold n t x) reply work = acts_of blocks kept (ops.Hold n t x) reply
acts_with_op g blocks kept (ops.Drop n x) reply work = acts_of blocks kept (ops.Drop n x) reply
acts_with_op g blocks kept (ops.Get n t at w) reply work = acts_on g n t at work
acts_with_op g blocks kept (ops.Patch n t at from bytes) reply work = acts_on g n t at work
acts_with_op g blocks kept (ops.Pin n t at) reply work = acts_on g n t at work
acts_with_op g blocks kept (ops.Put n t at size fill) reply work = work.acts
acts_with_op g blocks kept (ops.Unpin n at) reply work = work.acts
acts_with_op g blocks kept ops.Feed reply work = []
acts_with_op g blocks kept (ops.Txg t) reply work = work.acts
acts_with_op g blocks kept (ops.Cap c) reply work = []

abbrev pub acts_with : Config → List Ptr → List KeptRead → Line → List Act
acts_with g blocks kept l = acts_with_op g blocks kept l.op l.reply l.work

-- all lines' acts, and all that they did to cells, one after another
abbrev pub acts_of_work : Config → List Ptr → List KeptRead → List Line → List Act
acts_of_work g blocks kept [] = []
acts_of_work g blocks kept (l ∷ ls) = acts_with g blocks kept l ++ acts_of_work g blocks (kept_after blocks l.op l.reply kept) ls

abbrev pub noted_of_work : List Line → List Noted
noted_of_work [] = []
noted_of_work (l ∷ ls) = l.work.noted ++ noted_of_work ls

-- ---- which work a line may have

-- by its reply: an answered line on an object did its own thing to the block's cell, and a refused one nothing
abbrev pub NotesLine : Config → (n : ℕ) → OwnEvent → Work → Reply → Type 0
NotesLine g n own work (replies.Got size shown) = NotesOwn g n own work
NotesLine g n own work replies.Done = NotesOwn g n own work
NotesLine g n own work (replies.Refused refusal) = NotesNothing work
NotesLine g n own work (replies.Read served digest shown) = ⊥
NotesLine g n own work (replies.Kept served) = ⊥
NotesLine g n own work replies.Dropped = ⊥
NotesLine g n own work (replies.Fed report) = ⊥
NotesLine g n own work replies.FedNone = ⊥
NotesLine g n own work (replies.Synced group blocks bytes) = ⊥
NotesLine g n own work (replies.Capped c) = ⊥

-- a line on no object did nothing beside its reply
abbrev pub NotesFor : Config → (n : ℕ) → Option OwnEvent → Work → Reply → Type 0
NotesFor g n None work reply = work ≡ no_work
NotesFor g n (Some own) work reply = NotesLine g n own work reply

-- the work fits the line, which is n's, and what it was answered
pub record IsWorkOf (g : Config) (n : ℕ) (l : Line) : Type 0 where
  pub together : GoesTogether l.op l.reply l.work.brought
  pub notes : NotesFor g n (own_event l.op) l.work l.reply

-- ---- a line on an object, with its work

-- how many bytes are asked for at once, for what was brought
abbrev pub size_brought : Brought → ℕ
size_brought Nothing = 0
size_brought (Loaded ptr from) = ptr.key.size
size_brought (Refused ptr) = ptr.key.size

-- What the device was asked for to bring this, where the line was answered so and the shards were these. Where nothing was brought it was not asked.
abbrev pub AsksBrought : {D : Type 0} → DeviceGhosts D → Config → (ℕ → PlainShard) → Brought → Reply → (old new : D) → Type 0
AsksBrought devices g s Nothing reply old new = new ≡ old
AsksBrought devices g s (Loaded ptr from) reply old new = Asks devices (s (shard_of g.shards ptr.key)) ptr (Answered from) old new
AsksBrought devices g s (Refused ptr) reply old new = Asks devices (s (shard_of g.shards ptr.key)) ptr (effect_of reply) old new

-- What a line came to for a party that has every number. It found its block's cell with just what it had seen of it, and by that go what was brought, what the line did and what it was answered. The party has
-- seen in each shard just the events for what was brought, and then these more, which are the line's acts; and of each cell what the line did there. The device was asked by the shard.
pub record DidAlone {P D : Type 0} (pools : PoolGhosts P) (devices : DeviceGhosts D) (g : Config) (before now : Outside P D) (p q : PartyPlace) (on : OnObject) (l : Line) : Type 0 where
  pub cell : OnHeap
  pub sound : IsSound cell.value
  pub opening : opening_numbers cell.value.limit cell.value.opening ≡ slice_index_or p.own.about.openings (cell_of g.cells on.at) []
  pub seen : cell_lines cell ≡ front_of (cell_of g.cells on.at) p.own.seen
  pub brought : BringsAt (pools.size before.pool) on.at (outline_after cell.value.limit cell.value.opening cell.value.history) l.work.brought
  pub found : CameFrom g p l.work.brought
  pub acts : ActsFor g p.number (AreHolders cell.value.history)
      (own_event l.op) (outline_after cell.value.limit cell.value.opening cell.value.history) l.work l.reply
  pub answer : AnswersObject (pools.size before.pool) (pools.told before.pool) cell.value.limit cell.value.opening cell.value.history l.work.brought l.op l.reply
  pub made : List Event
  pub kinds : AllByRecursion HasAct made
  pub are : l.work.acts ≡ acts_of_events made
  pub events : (shard : ℕ) → seen_of g shard q ≡ seen_of g shard p
      ++ (brought_there g.shards shard l.work.brought (events_of_bringing (now_of g shard p) p.number on.tick (cell_number g (cell_of g.cells on.at)) l.work.brought) ++ events_there g shard made)
  pub cells : (i : ℕ) → IsCell g i → front_of i q.own.seen ≡ front_of i p.own.seen ++ lines_of_cell i l.work.noted
  pub all : HasAll q
  pub asks : AsksBrought devices g (λ shard. now_of g shard p) l.work.brought l.reply before.device now.device

-- The line came to this, by what the contract of its call says; it has its answer, by how its cell was found; its work fits it; its acts and its entries of cells are told; and the pool and the cache device were
-- read for what was brought, and for nothing else. Where the pool gave a block, the bytes that it tells there are of the block's pointer.
pub record DidWorkLine {P D : Type 0} (pools : PoolGhosts P) (devices : DeviceGhosts D) (g : Config) (blocks : List Ptr) (kept : List KeptRead) (before now : Outside P D) (p q : PartyPlace) (l : Line) : Type 0 where
  pub came : DidObjectLine pools devices g before now p q l.op l.reply
  pub answers : IsConfig g → (did : List Act) (had : List Noted) → HasToldAll g did had p
      → IfSome (on_object l.op) (λ on. LooksFrom g (pools.size before.pool) (pools.told before.pool) p.own.about.openings p.own.seen q.own.seen p.number had on.at l)
  pub alone : HasAll p → IfSome (on_object l.op) (λ on. DidAlone pools devices g before now p q on l)
  pub fits : IsWorkOf g p.number l
  pub number : q.number ≡ p.number
  pub told : (did : List Act) (had : List Noted) → HasToldAll g did had p → HasToldAll g (did ++ acts_with g blocks kept l) (had ++ l.work.noted) q
  pub joined : q.joined ≡ p.joined
  pub keeps : KeepsCells g p q
  pub calls : MakesCalls pools (calls_of (effect_with l.work.brought l.reply)) before.pool now.pool
  pub range : TellsBrought (pools.told before.pool) l.work.brought
  pub asked : AsksFor devices (size_brought l.work.brought) (effect_with l.work.brought l.reply) before.device now.device
  pub pool : KeepsPool pools before.pool now.pool
  pub device : KeepsDevice devices before.device now.device

-- ---- a caller's lines, one after another

-- a caller between its lines: its party, the reads that it keeps, and the pool and the device that it asks
pub record AtWork (P D : Type 0) : Type 0 where
  pub party : PartyPlace
  pub kept : List KeptRead
  pub outside : Outside P D

module _ {P D : Type 0} (pools : PoolGhosts P) (devices : DeviceGhosts D) (g : Config) (blocks : List Ptr) where
  -- A line on no object is as before, and what a party that has every number asked the device for follows from the shard. One on an object keeps no read.
  abbrev pub DidLineBy : Option OnObject → Line → (old new : AtWork P D) → Type 0
  DidLineBy None l old new = (l.work ≡ no_work)
      × DidLine g pools blocks l.op l.reply (at old.party old.kept old.outside.pool) (at new.party new.kept new.outside.pool)
      × LineAsks devices blocks l.op l.reply old.outside.device new.outside.device
      × (HasAll old.party → (calls : List Call) × AsksLine devices blocks (now_of g (shard_of_line g.shards blocks l.op) old.party) l.op l.reply calls old.outside.device new.outside.device)
  DidLineBy (Some on) l old new = (new.kept ≡ old.kept) × DidWorkLine pools devices g blocks old.kept old.outside new.outside old.party new.party l

  -- the operation was answered so, with some work beside its reply
  abbrev pub DidWith : Op → Reply → (old new : AtWork P D) → Type 0
  DidWith op reply old new = (work : Work) × DidLineBy (on_object op) (record { op = op; reply = reply; work = work }) old new

  -- the lines were answered, each with this work
  abbrev pub DidAll : List Line → (old new : AtWork P D) → Type 0
  DidAll [] old new = new ≡ old
  DidAll (l ∷ ls) old new = (next : AtWork P D) × DidLineBy (on_object l.op) l old next × DidAll ls next new

-- a caller between its lines
abbrev pub at_work : {P D : Type 0} → PartyPlace → List KeptRead → Outside P D → AtWork P D
at_work party kept outside = record { party = party; kept = kept; outside = outside }

-- what a pool tells now is what it told at first, up to the place from which syncs write
abbrev pub HasFront : (place : ℕ) → (first now : Option (List ℕ)) → Type 0
HasFront place first now = option_map (take place) now ≡ option_map (take place) first

-- A line of the caller n has its answer, where the caller had done this to cells and keeps these reads: one on an object by how its cell was found, from which what is seen now goes
-- on, and over what the pool told then. Behind a sync that differs from what it told at first from the place of the first sync on.
abbrev pub AnswersLine : Config → (pool_len : ℕ) → Option (List ℕ) → (place : ℕ) → List Ptr → (openings : List (List ℕ)) → (seen : List (List Seen)) → (n : ℕ) → List Noted → List KeptRead → Option OnObject → Line → Type 0
AnswersLine g pool_len image place blocks openings seen n had kept None l = AnswersNow pool_len image blocks kept l.op l.reply
AnswersLine g pool_len image place blocks openings seen n had kept (Some on) l = (now : Option (List ℕ)) × HasFront place image now × AnswersFrom g pool_len now openings seen n had on.at l

-- each has, one after another
abbrev pub AnswersLines : Config → (pool_len : ℕ) → Option (List ℕ) → (place : ℕ) → List Ptr → (openings : List (List ℕ)) → (seen : List (List Seen)) → (n : ℕ) → List Noted → List KeptRead → List Line → Type 0
AnswersLines g pool_len image place blocks openings seen n had kept [] = Unit {0}
AnswersLines g pool_len image place blocks openings seen n had kept (l ∷ ls) =
    AnswersLine g pool_len image place blocks openings seen n had kept (on_object l.op) l
    × AnswersLines g pool_len image place blocks openings seen n (had ++ l.work.noted) (kept_after blocks l.op l.reply kept) ls

-- Each line on an object of these looked at its cell, which goes on from what was seen right before it, over what the pool told then. What is seen behind one line is what the next one goes on from.
abbrev pub LooksLines : Config → (pool_len : ℕ) → Option (List ℕ) → (openings : List (List ℕ)) → (begun seen : List (List Seen)) → (n : ℕ) → List Noted → List Line → Type 0
LooksLines g pool_len image openings begun seen n had [] = CellsGrow g begun seen
LooksLines g pool_len image openings begun seen n had (l ∷ ls) =
    (next : List (List Seen)) × CellsGrow g begun next × IfSome (on_object l.op) (λ on. LooksFrom g pool_len image openings begun next n had on.at l)
    × LooksLines g pool_len image openings next seen n (had ++ l.work.noted) ls

-- the lines of these operations with these replies, each with some work
abbrev pub AreLinesOf : List Op → List Reply → List Line → Type 0
AreLinesOf [] [] [] = Unit {0}
AreLinesOf [] [] (l ∷ ls) = ⊥
AreLinesOf [] (r ∷ rs) ls = ⊥
AreLinesOf (op ∷ ops_left) [] ls = ⊥
AreLinesOf (op ∷ ops_left) (r ∷ rs) [] = ⊥
AreLinesOf (op ∷ ops_left) (r ∷ rs) (l ∷ ls) = (l.op ≡ op) × (l.reply ≡ r) × AreLinesOf ops_left rs ls

-- the operations were answered so, one after another, each with some work beside its reply
pub record DidOps {P D : Type 0} (pools : PoolGhosts P) (devices : DeviceGhosts D) (g : Config) (blocks : List Ptr) (ops_done : List Op) (replied : List Reply) (old new : AtWork P D) : Type 0 where
  pub lines : List Line
  pub are : AreLinesOf ops_done replied lines
  pub did : DidAll pools devices g blocks lines old new

-- ---- what lines ask of the cache device

-- none of these lines had bytes that came from there
abbrev pub NoneFromDevice : List Line → Type 0
NoneFromDevice = AllByRecursion (λ l. effect_with l.work.brought l.reply ≢ Answered served.L2)

-- how many bytes a line asks for at once: those of its block, or of the block that was brought for it
abbrev pub size_asked_by : List Ptr → Option OnObject → Line → ℕ
size_asked_by blocks None l = size_asked blocks l.op
size_asked_by blocks (Some on) l = size_brought l.work.brought

module _ {D : Type 0} (devices : DeviceGhosts D) where
  -- what these lines asked, one after another
  abbrev pub AllAsked : List Ptr → List Line → (old new : D) → Type 0
  AllAsked blocks [] old new = new ≡ old
  AllAsked blocks (l ∷ ls) old new = (next : D) × AsksFor devices (size_asked_by blocks (on_object l.op) l) (effect_with l.work.brought l.reply) old next × AllAsked blocks ls next new

  -- A caller's lines asked the device that it was given for just their reads; one that was given none had no bytes from there.
  abbrev pub AsksGiven : List Ptr → List Line → (old new : Option D) → Type 0
  AsksGiven blocks ls None None = NoneFromDevice ls
  AsksGiven blocks ls None (Some new) = ⊥
  AsksGiven blocks ls (Some old) None = ⊥
  AsksGiven blocks ls (Some old) (Some new) = AllAsked blocks ls old new
