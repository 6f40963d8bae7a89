-- The one caller's lines in sequence, while its party has every number of the cache: from where it stood to where they led it.
use Rattle.std.specs.Prelude.{◌≡◌, ◌≢◌, ◌<◌, ℕ, List, [], Option}
use Rattle.blk_ptr.specs.declared.ptr.Ptr.{Ptr}
use Rattle.vdev_io.specs.declared.device.CacheDev.{Ghosts as Devices}
use Rattle.vdev_io.specs.declared.pool.Pool.{Ghosts}
use Rattle.arc_core.specs.declared.config.Config.{Config}
use Rattle.arc_core.specs.Operations.{moments, own_moments}
use Rattle.arc_table.specs.Fronts.{front_of}
use Rattle.arc_table.specs.Geometry.{IsCell, parties_of}
use Rattle.arc_table.specs.Seen.{HasAll, seen_of}
use Rattle.arc_table.specs.Telling.{opening_of}
use Rattle.dbuf_cells.specs.Turns.{OnHeap, PartyPlace}
use Rattle.trace_text.specs.declared.op.Op.{Op}
use Rattle.trace_text.specs.declared.reply.Reply.{Reply}
use Rattle.trace_text.specs.declared.trace.Trace.{Trace}
use Rattle.trace_run.specs.KeptReads.{KeptRead}
use Rattle.trace_run.specs.dbufs.Objects.{Line}
use Rattle.trace_run.specs.Openings.{openings_of}
use Rattle.trace_run.specs.Syncing.{lines_of}
use Rattle.trace_run.specs.callers.CallerLines.{At}
use Rattle.trace_run.specs.callers.Callers.{CameTo}
use Rattle.trace_run.specs.one_caller.Sequence.{AreInSequence, BetweenLines}

-- A party is there between its lines: it has seen of each shard and of each cell just what was done there by then.
pub record IsThere {P D : Type 0} (g : Config) (at : BetweenLines P D) (p : PartyPlace) (reads : List KeptRead) (now : P) (dev : Option D) : Type 0 where
  pub shards : (shard : ℕ) → seen_of g shard p ≡ at.shards shard
  pub cells : (i : ℕ) → IsCell g i → front_of i p.own.seen ≡ lines_of (at.cells i)
  pub kept : at.kept ≡ reads
  pub pool : at.outside.pool ≡ now
  pub device : at.device ≡ dev

-- These lines lead in sequence from there to where the party is then, which has every number still.
pub record Gone {P D : Type 0} (pools : Ghosts P) (devices : Devices D) (trace : Trace) (g : Config) (ls : List Line) (at : BetweenLines P D) (p : PartyPlace) (reads : List KeptRead) (now : P) (dev : Option D) : Type 0 where
  pub next : BetweenLines P D
  pub there : IsThere g next p reads now dev
  pub group : next.outside.group ≡ at.outside.group
  pub next_group : next.outside.next ≡ at.outside.next
  pub all : HasAll p
  pub lines : AreInSequence pools devices trace ls [] at next

-- What operations came to, which are all of the one caller. Where its party has every number, they led in sequence on from where it stood, and no event that was made has another party's number.
pub record CameAlone {P D : Type 0} (pools : Ghosts P) (devices : Devices D) (g : Config) (blocks : List Ptr) (ops_done : List Op) (replied : List Reply) (old new : At OnHeap P) (was now : Option D) : Type 0 where
  pub came : CameTo pools devices g blocks ops_done replied old new was now
  pub gone : HasAll old.party → old.party.number ≡ 0 → (trace : Trace) → g ≡ trace.config → blocks ≡ trace.blocks → old.party.own.about.openings ≡ openings_of trace
      → (at : BetweenLines P D) → IsThere g at old.party old.kept old.pool was → Gone pools devices trace g came.lines at new.party new.kept new.pool now
  pub others : HasAll old.party → (n : ℕ) → n ≢ old.party.number → n < parties_of g
      → (shard : ℕ) → own_moments n (moments (opening_of g) (seen_of g shard new.party)) ≡ own_moments n (moments (opening_of g) (seen_of g shard old.party))
