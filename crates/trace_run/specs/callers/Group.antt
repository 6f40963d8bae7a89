-- The work of several callers at once, each by its own lines, with its own party and its own fork of the pool.
use Rattle.std.specs.Prelude.{◌≡◌, ◌<◌, ◌≤◌, ◌⊎◌, ℕ, List, filter, length, map, min, take, ◌++◌}
use Rattle.std.specs.Option.{option_map}
use mathlib.Core.Option.{some}
use lib.ListN.{get_elem?}
use Rattle.std.specs.List.{AllByRecursion}
use Rattle.blk_ptr.specs.declared.ptr.Ptr.{Ptr}
use Rattle.arc_core.specs.Operations.{Act}
use Rattle.arc_table.specs.Cache.{Cache}
use Rattle.arc_table.specs.Items.{Meanings}
use Rattle.dbuf_cells.specs.Turns.{OnHeap, PartyPlace}
use Rattle.vdev_io.specs.Calls.{MakesCalls}
use Rattle.arc_table.specs.declared.view.Known.{Known}
use Rattle.turn_table.specs.Places.{Place}
use Rattle.trace_text.specs.declared.op.Op.{Op}
use Rattle.trace_text.specs.declared.reply.Reply.{Reply}
use Rattle.vdev_io.specs.declared.device.CacheDev.{Ghosts as Devices}
use Rattle.vdev_io.specs.declared.pool.Pool.{Ghosts}
use Rattle.vdev_io.specs.Faults.{last_count, sum_of_counts}
use Rattle.trace_run.specs.declared.device.Device.{Device}
use Rattle.trace_run.specs.Deeds.{HasToldAll, KeepsCells, Noted}
use Rattle.trace_run.specs.KeptBlocks.{read_of}
use Rattle.trace_run.specs.Lines.{is_of_caller}
use Rattle.trace_run.specs.Meeting.{Waits}
use Rattle.trace_run.specs.dbufs.Objects.{Line}
use Rattle.trace_run.specs.RunWork.{kept_after_lines}
use Rattle.trace_run.specs.declared.kept_blocks.KeptBlock.{KeptBlock}
use Rattle.trace_run.specs.callers.Beside.{WorksBeside}
use Rattle.trace_run.specs.callers.WorkLines.{AnswersLines, AreLinesOf, IsWorkOf, LooksLines, acts_of_work, calls_of_lines, noted_of_work}
use Rattle.trace_run.specs.callers.Together.{IsFirstPlace, over_callers}

-- A caller has done its work, where it kept these reads at first: its lines were answered, one after another, each with its work, its fork of the pool was read as they
-- say and in no other way, what it did is told, and it stands by itself with what they say that it keeps.
pub record HasWorked {C P : Type 0} (cache : Cache) (pools : Ghosts P) (blocks : List Ptr) (n : ℕ) (fork done : P) (lines : List Line) (had : List KeptBlock) (p : Place (Known C)) (kept : List KeptBlock) (q : Place (Known C)) : Type 0 where
  pub fits : AllByRecursion (IsWorkOf cache.config n) lines
  pub waits : (acts : List Act) (noted : List Noted) → Waits cache n acts noted had p
      → Waits cache n (acts ++ acts_of_work cache.config blocks (map read_of had) lines) (noted ++ noted_of_work lines) kept q
  pub keeps : map read_of kept ≡ kept_after_lines blocks (map read_of had) lines
  pub cells : KeepsCells cache.config p q
  pub answers : (acts : List Act) (noted : List Noted) → HasToldAll cache.config acts noted p
      → (place : ℕ) → AnswersLines cache.config (pools.size fork) (pools.told fork) place blocks p.own.about.openings q.own.seen n noted (map read_of had) lines
  pub looks : (acts : List Act) (noted : List Noted) → HasToldAll cache.config acts noted p
      → LooksLines cache.config (pools.size fork) (pools.told fork) p.own.about.openings p.own.seen q.own.seen n noted lines
  pub calls : MakesCalls pools (calls_of_lines lines) fork done

-- what stands of the caller of a number in these lists
pub record IsAt {C : Type 0} (n : ℕ) (kept : List (List KeptBlock)) (ps : List (Place (Known C))) (reads : List KeptBlock) (p : Place (Known C)) : Type 0 where
  pub kept_at : get_elem? kept n ≡ some reads
  pub party_at : get_elem? ps n ≡ some p

-- a fork of a pool: it has the pool's length, tells the same bytes, and counted nothing yet
pub record IsFork {P : Type 0} (pools : Ghosts P) (pool fork : P) : Type 0 where
  pub size : pools.size fork ≡ pools.size pool
  pub told : pools.told fork ≡ pools.told pool
  pub reads : pools.reads fork ≡ 0
  pub faults : pools.faults fork ≡ 0
  pub others : pools.other_calls fork ≡ 0

-- The pool has its length and the bytes that it tells, and its count of faults has not fallen, as far as a count goes: a fork is taken back by
-- a sum of counts, which ends there.
pub record LeavesPool {P : Type 0} (pools : Ghosts P) (old new : P) : Type 0 where
  pub size : pools.size new ≡ pools.size old
  pub told : pools.told new ≡ pools.told old
  pub faults : min (pools.faults old) last_count ≤ pools.faults new

-- It has its length, and its count of faults has not fallen so.
pub record StaysPool {P : Type 0} (pools : Ghosts P) (old new : P) : Type 0 where
  pub size : pools.size new ≡ pools.size old
  pub faults : min (pools.faults old) last_count ≤ pools.faults new

-- Its length and its faults are so, and what it tells is the same up to this place.
pub record LeavesFront {P : Type 0} (pools : Ghosts P) (place : ℕ) (old new : P) : Type 0 where
  pub size : pools.size new ≡ pools.size old
  pub told : option_map (take place) (pools.told new) ≡ option_map (take place) (pools.told old)
  pub faults : min (pools.faults old) last_count ≤ pools.faults new

-- They are so, and what it tells is the same, or at least up to the end of these declared blocks, behind which syncs write.
pub record LeavesDeclared {P : Type 0} (pools : Ghosts P) (blocks : List Ptr) (old new : P) : Type 0 where
  pub size : pools.size new ≡ pools.size old
  pub told : (pools.told new ≡ pools.told old) ⊎ ((place : ℕ) × IsFirstPlace (pools.size old) blocks place × (option_map (take place) (pools.told new) ≡ option_map (take place) (pools.told old)))
  pub faults : min (pools.faults old) last_count ≤ pools.faults new

-- the work of the caller of a number, by its places in these lists
pub record WorkedAt {C P : Type 0} (cache : Cache) (pools : Ghosts P) (blocks : List Ptr) (n : ℕ) (fork done : P) (lines : List Line) (had : List (List KeptBlock)) (ps : List (Place (Known C))) (kept : List (List KeptBlock)) (qs : List (Place (Known C))) : Type 0 where
  pub old : List KeptBlock
  pub from : Place (Known C)
  pub before : IsAt n had ps old from
  pub new : List KeptBlock
  pub to : Place (Known C)
  pub after : IsAt n kept qs new to
  pub worked : HasWorked cache pools blocks n fork done lines old from new to

-- the replies to a caller's own lines among these, by its number
pub record RepliedAt (ops : List Op) (n : ℕ) (lines : List Line) (replies : List (List Reply)) : Type 0 where
  pub own : List Reply
  pub own_at : get_elem? replies n ≡ some own
  pub are : AreLinesOf (filter (is_of_caller n) ops) own lines

-- So many callers have done their work, each its own lines on a pool that tells what this one told.
pub record AllWorked {C P : Type 0} (cache : Cache) (pools : Ghosts P) (blocks : List Ptr) (callers : ℕ) (before : P) (own : ℕ → List Line) (had : List (List KeptBlock)) (ps : List (Place (Known C))) (kept : List (List KeptBlock)) (qs : List (Place (Known C))) : Type 0 where
  pub kepts : length kept ≡ callers
  pub parties : length qs ≡ callers
  pub forks : ℕ → P
  pub done : ℕ → P
  pub size : (n : ℕ) → n < callers → pools.size (forks n) ≡ pools.size before
  pub told : (n : ℕ) → n < callers → pools.told (forks n) ≡ pools.told before
  pub each : (n : ℕ) → n < callers → WorkedAt cache pools blocks n (forks n) (done n) (own n) had ps kept qs

-- So many callers have done their work, each its own lines on its own fork, and the pool has counted what the forks did; a sum past the last value of a count is that
-- value.
pub record HaveWorked {C P : Type 0} (cache : Cache) (pools : Ghosts P) (blocks : List Ptr) (callers : ℕ) (before after : P) (own : ℕ → List Line) (had : List (List KeptBlock)) (ps : List (Place (Known C))) (kept : List (List KeptBlock)) (qs : List (Place (Known C))) : Type 0 where
  pub kepts : length kept ≡ callers
  pub parties : length qs ≡ callers
  pub forks : ℕ → P
  pub done : ℕ → P
  pub fresh : (n : ℕ) → n < callers → IsFork pools before (forks n)
  pub each : (n : ℕ) → n < callers → WorkedAt cache pools blocks n (forks n) (done n) (own n) had ps kept qs
  pub reads : 0 < callers → pools.reads after ≡ sum_of_counts (pools.reads before) (over_callers callers (λ n. pools.reads (done n)))
  pub faults : 0 < callers → pools.faults after ≡ sum_of_counts (pools.faults before) (over_callers callers (λ n. pools.faults (done n)))
  pub others : pools.other_calls after ≡ pools.other_calls before
  pub keeps : LeavesPool pools before after

-- Callers did the lines of a group, each its own, which have these replies; beside them the feeder did the lines `feed`, which were answered so.
pub record DidGroup {P D : Type 0} (m : Meanings OnHeap) (cache : Cache) (pools : Ghosts P) (devices : Devices D) (blocks : List Ptr) (ops : List Op) (callers : ℕ) (before after : P) (was now : Device D)
    (had : List (List KeptBlock)) (ps : List PartyPlace) (p : PartyPlace) (kept : List (List KeptBlock)) (qs : List PartyPlace) (q : PartyPlace) (replies : List (List Reply)) (fed : List Reply) : Type 0 where
  pub own : ℕ → List Line
  pub replied : length replies ≡ callers
  pub are : (n : ℕ) → n < callers → RepliedAt ops n (own n) replies
  pub worked : HaveWorked cache pools blocks callers before after own had ps kept qs
  pub beside : WorksBeside m devices cache blocks ops callers own fed was now p q
