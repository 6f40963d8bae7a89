-- Where the parties stand level between two lines, and the feeder makes events while the others have joined it, they stand level behind these.
use Rattle.std.proofs.Common.{◌≡◌, ℕ, List, [], ◌∷◌, ◌++◌, sym, ap, ◌∙◌, subst}
use Rattle.std.specs.Prelude.{map}
use Rattle.std.specs.List.{AllByRecursion}
use Rattle.arc_core.specs.declared.config.Config.{Config}
use Rattle.arc_core.specs.declared.event.Event.{Event}
use Rattle.turn_table.specs.Places.{Place}
use Rattle.arc_table.specs.declared.view.Known.{Known}
use Rattle.arc_table.specs.declared.view.Line.{Line}
use Rattle.arc_table.specs.Cache.{Cache}
use Rattle.arc_table.specs.Geometry.{IsCell}
use Rattle.arc_table.specs.Seen.{events_in}
use Rattle.dbuf_cells.specs.Turns.{OnHeap}
use Rattle.trace_run.specs.declared.groups.Crew.{Crew}
use Rattle.trace_run.specs.declared.kept_blocks.KeptBlock.{KeptBlock}
use Rattle.trace_run.specs.KeptBlocks.{read_of}
use Rattle.trace_run.specs.KeptReads.{KeptRead}
use Rattle.trace_run.specs.Meeting.{MadeJoined, SeesEntries}
use Rattle.trace_run.specs.Syncing.{lines_of}
use Rattle.trace_run.specs.one_caller.InTurn.{StandAt}
use Rattle.trace_run.specs.one_caller.Sequence.{BetweenLines}
use Rattle.trace_run.proofs.callers.MeetLemmas.{parted-level}

-- the same of each cell, where it is told in other words
see-so : {C : Type 0} (g : Config) (was now : ℕ → List Line) → ((i : ℕ) → IsCell g i → now i ≡ was i) → (xs : List (Place (Known C))) → AllByRecursion (SeesEntries g was) xs → AllByRecursion (SeesEntries g now) xs
see-so g was now same [] all = tt
see-so g was now same (x ∷ xs) all = ((λ i in_range. all.0 i in_range ∙ sym (same i in_range)), see-so g was now same xs all.1)

module _ {P D : Type 0} (cache : Cache) (more : (shard : ℕ) → List Event) (old new : Crew OnHeap) (made : MadeJoined cache more old.feeder old.parties.items new.feeder new.parties.items) (at : BetweenLines P D) (stands : StandAt cache.config at old) where
  -- what all had done before is what was done there by then
  pub front-there : (shard : ℕ) → made.front shard ≡ at.shards shard
  front-there shard = made.same stands.lines stands.level.0 stands.level.1 shard ∙ stands.events shard

  -- with these events more, and with the same cells and kept reads
  pub stand-behind : (next : BetweenLines P D) → ((shard : ℕ) → next.shards shard ≡ at.shards shard ++ more shard) → ((i : ℕ) → IsCell cache.config i → next.cells i ≡ at.cells i) → next.kept ≡ at.kept → new.kept.items ≡ old.kept.items → StandAt cache.config next new
  stand-behind next shards cells reads kept = record {
    lines = made.lines;
    events = λ shard. sym (ap events_in (made.level shard)) ∙ (made.seen shard ∙ (ap (λ (es : List Event). es ++ more shard) (front-there shard) ∙ sym (shards shard)));
    level = (made.level, parted-level cache made.lines old.parties.items new.parties.items made.parted);
    entries = see-so cache.config (λ i. lines_of (at.cells i)) (λ i. lines_of (next.cells i)) (λ i in_range. ap lines_of (cells i in_range)) (new.feeder ∷ new.parties.items)
        (made.same_cells (λ i. lines_of (at.cells i)) stands.entries.0 stands.entries.1);
    kept = subst (λ (x : List (List KeptBlock) × List KeptRead). AllByRecursion (λ reads. map read_of reads ≡ x.1) x.0) (λ i. (sym kept i, sym reads i)) stands.kept;
  }
