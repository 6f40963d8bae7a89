-- What a run did beside its replies: what each line did, and what the feeder did to cells and with their numbers.
use Rattle.std.specs.Prelude.{◌≡◌, ℕ, Bool, false, true, zero, suc, ◌<◌, ◌==◌, nat_le, if◌then◌else◌, List, [], ◌∷◌, ◌++◌, Option, Some, None, filter, length, slice_get}
use Rattle.std.specs.List.{AllByRecursion}
use Rattle.std.specs.Option.{option_map_or}
use Rattle.blk_ptr.specs.declared.ptr.Ptr.{Ptr}
use Rattle.blk_ptr.specs.Hash.{shard_of}
use Rattle.arc_core.specs.declared.config.Config.{Config}
use Rattle.arc_core.specs.declared.event.Event.{Event}
use Rattle.arc_core.specs.Operations.{Act, Writes, acts_in, actor_of, number_of}
use Rattle.arc_table.specs.Geometry.{IsCell, cell_number, parties_of}
use Rattle.dbuf_state.specs.declared.event.CellEvent.TheVariants.{Synced}
use Rattle.dbuf_state.specs.declared.oid.Oid.{Oid}
use Rattle.trace_text.specs.declared.op.Op.{Op}
use Rattle.trace_text.specs.declared.op.Op.TheVariants as ops
use Rattle.trace_text.specs.declared.reply.Reply.{Reply}
use Rattle.trace_run.specs.Acts.{acts_of_drops}
use Rattle.trace_run.specs.dbufs.CellEnds.{IsCellDrop, noted_ends}
use Rattle.trace_run.specs.Deeds.{Noted, acts_of_events, with_number}
use Rattle.trace_run.specs.KeptReads.{KeptRead}
use Rattle.trace_run.specs.Lines.{caller_of, is_of_caller}
use Rattle.trace_run.specs.MadeLines.{owned_from}
use Rattle.trace_run.specs.FeedEvents.{AreFeedsTold}
use Rattle.trace_run.specs.Feeds.{FeedDone}
use Rattle.trace_run.specs.dbufs.Objects.{Line, Nothing, Work, no_work}
use Rattle.trace_run.specs.callers.WorkLines.{AreLinesOf, IsWorkOf, acts_of_work, noted_of_work}
use Rattle.trace_run.specs.one_caller.OneCaller.{kept_after}

-- The lines that were answered, in their order, each with its work; the feeder's work is what its syncs noted and inserted. What it did so in a sync that stopped, where one did; the feeds that it
-- made; and what it dropped with the numbers of cells as it ended them.
pub record RunWork : Type 0 where
  pub lines : List Line
  pub stopped : Work
  pub feeds : List FeedDone
  pub ended : List Event

-- lines that did nothing beside their replies
abbrev pub plain_lines : List Op → List Reply → List Line
plain_lines [] replies = []
plain_lines (op ∷ ops) [] = []
plain_lines (op ∷ ops) (reply ∷ replies) = record { op = op; reply = reply; work = no_work } ∷ plain_lines ops replies

abbrev pub plain_work : List Op → List Reply → RunWork
plain_work ops replies = record { lines = plain_lines ops replies; stopped = no_work; feeds = []; ended = [] }

-- ---- which work fits

-- the feeder noted a block that it wrote in a cell
pub record IsSyncedNote (g : Config) (note : Noted) : Type 0 where
  pub at : Oid
  pub ptr : Ptr
  pub held : Bool
  pub is : note.event ≡ Synced g.callers at ptr held
  pub cell : IsCell g note.cell

-- a block of a cell was inserted
pub record IsInserted (g : Config) (act : Act) : Type 0 where
  pub cell : ℕ
  pub tick : ℕ
  pub ptr : Ptr
  pub is : act ≡ Writes (cell_number g cell) tick ptr
  pub in_range : IsCell g cell

-- a sync noted the blocks that it wrote in their cells, and inserted them
pub record IsSyncWork (g : Config) (work : Work) : Type 0 where
  pub brought : work.brought ≡ Nothing
  pub synced : AllByRecursion (IsSyncedNote g) work.noted
  pub inserted : AllByRecursion (IsInserted g) work.acts

-- the work of a line that is no caller's: a sync's; the other ones do nothing beside their replies
abbrev pub FitsFeeder : Config → Op → Work → Type 0
FitsFeeder g (ops.Txg t) work = IsSyncWork g work
FitsFeeder g (ops.Cap c) work = work ≡ no_work
FitsFeeder g ops.Feed work = work ≡ no_work
FitsFeeder g (ops.Read n t x window) work = ⊥
FitsFeeder g (ops.Hold n t x) work = ⊥
FitsFeeder g (ops.Drop n x) work = ⊥
FitsFeeder g (ops.Get n t at window) work = ⊥
FitsFeeder g (ops.Put n t at size fill) work = ⊥
FitsFeeder g (ops.Patch n t at from bytes) work = ⊥
FitsFeeder g (ops.Pin n t at) work = ⊥
FitsFeeder g (ops.Unpin n at) work = ⊥

-- a line's work fits the line, its caller and its reply
abbrev pub FitsBy : Config → Option ℕ → Line → Type 0
FitsBy g None l = FitsFeeder g l.op l.work
FitsBy g (Some n) l = IsWorkOf g n l

abbrev pub AllFit : Config → List Line → Type 0
AllFit g = AllByRecursion (λ l. FitsBy g (caller_of l.op) l)

pub record IsRunWork (g : Config) (ops : List Op) (replies : List Reply) (work : RunWork) : Type 0 where
  pub lines : AreLinesOf ops replies work.lines
  pub fits : AllFit g work.lines
  pub stopped : IsSyncWork g work.stopped
  pub fed : AreFeedsTold g ops replies work.feeds
  pub ended : AllByRecursion (IsCellDrop g) work.ended

-- ---- what each party did

abbrev pub lines_of_caller : ℕ → List Line → List Line
lines_of_caller n = filter (λ l. is_of_caller n l.op)

abbrev pub lines_of_feeder : List Line → List Line
lines_of_feeder = filter (λ l. option_map_or (λ (n : ℕ). false) (caller_of l.op) true)

-- of the party of a number
abbrev pub lines_of_party : Config → (n : ℕ) → List Line → List Line
lines_of_party g n ls = if n == g.callers then lines_of_feeder ls else lines_of_caller n ls

-- what is kept behind these lines, where it was this before them
abbrev pub kept_after_lines : List Ptr → List KeptRead → List Line → List KeptRead
kept_after_lines blocks kept [] = kept
kept_after_lines blocks kept (l ∷ ls) = kept_after_lines blocks (kept_after blocks l.op l.reply kept) ls

-- a caller's lines, and its drops at the end of the run
abbrev pub acts_of_caller_lines : Config → List Ptr → (n : ℕ) → List Line → List Act
acts_of_caller_lines g blocks n ls = acts_of_work g blocks [] ls ++ acts_of_drops n (kept_after_lines blocks [] ls)

-- the feeder's with the numbers of cells, and what it did to cells, before it ended them
abbrev pub acts_of_syncs : Config → List Ptr → RunWork → List Act
acts_of_syncs g blocks work = acts_of_work g blocks [] (lines_of_feeder work.lines) ++ work.stopped.acts

abbrev pub noted_of_syncs : RunWork → List Noted
noted_of_syncs work = noted_of_work (lines_of_feeder work.lines) ++ work.stopped.noted

-- in shards, with its own number and with those of cells
abbrev pub acts_by : Config → List Ptr → RunWork → (n : ℕ) → List Act
acts_by g blocks work n = if n == g.callers then (acts_of_syncs g blocks work ++ acts_of_events work.ended) else acts_of_caller_lines g blocks n (lines_of_caller n work.lines)

-- to cells: the feeder ended them, behind all that it synced
abbrev pub noted_by : Config → RunWork → (n : ℕ) → List Noted
noted_by g work n = if n == g.callers then (noted_of_syncs work ++ noted_ends n 0 g.cells) else noted_of_work (lines_of_caller n work.lines)

-- the same where no line did anything to a cell
abbrev pub only_ended : Config → (n : ℕ) → List Noted
only_ended g n = if n == g.callers then noted_ends n 0 g.cells else []

-- ---- acts with the callers' own numbers, and with those of cells

-- what the first so many parties did with their own numbers
abbrev pub own_acts : Config → List Ptr → RunWork → (callers : ℕ) → List Act
own_acts g blocks work zero = []
own_acts g blocks work (suc n) = own_acts g blocks work n ++ filter (λ act. actor_of act == n) (acts_by g blocks work n)

-- what events with the numbers of cells stand for, history by history
abbrev pub acts_of_cells : Config → List (List Event) → List Act
acts_of_cells g [] = []
acts_of_cells g (history ∷ histories) = acts_of_events (filter (λ e. nat_le (parties_of g) (number_of e)) history) ++ acts_of_cells g histories

-- Each event of a shard's history is one party's, the owner of its place. Those that a party made with the number of a cell stand for its acts with that number, each once and
-- in their order.
pub record AreMadeBy (g : Config) (shard : ℕ) (owner : (place : ℕ) → ℕ) (did : (n : ℕ) → List Act) (history : List Event) : Type 0 where
  pub party : (x : ℕ) → x < length history → owner x < parties_of g
  pub own : (x : ℕ) (e : Event) → slice_get history x ≡ Some e → number_of e < parties_of g → owner x ≡ number_of e
  pub acts : (n i : ℕ) → n < parties_of g → IsCell g i
      → acts_of_events (with_number (cell_number g i) (owned_from owner n 0 history)) ≡ acts_in (shard_of g.shards) shard (cell_number g i) (did n)
