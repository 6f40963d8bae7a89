use Rattle.std.proofs.Common.{◌≡◌, List, map, take}
use Rattle.arc_table.specs.Reading.{KeepsDevice}
use Rattle.arc_table.specs.Seen.{HasAll}
use Rattle.vdev_io.specs.Calls.{Call, KeepsPool}
use Rattle.trace_run.specs.one_caller.Asking.{AsksLines}
use Rattle.trace_run.specs.Reads.{now_of}
use Rattle.trace_run.specs.callers.CallerLines.{DidLines, at}
use Rattle.trace_run.specs.KeptBlocks.{Stands, read_of}
use Rattle.trace_run.specs.Meeting.{HasFeeder}
use Rattle.trace_run.specs.Openings.{openings_of}
use Rattle.trace_run.specs.one_caller.OverShards.{AreNamed}
use Rattle.trace_run.proofs.alone.lines_alone.Given as goal

abbrev pub invariant-loop-number : goal.invariant-loop-number
invariant-loop-number g l =
    let pool = g.P.Pool in
    record {
      stands : Stands l.arcs l.party l.kept;
      named : AreNamed l.trace.blocks (map read_of l.kept);
      number : l.party.number ≡ 0;
      joined : HasFeeder l.arcs (openings_of l.trace) l.party;
      did : DidLines l.arcs.config pool l.trace.blocks (take l.number l.trace.ops) l.replies.items (at l.fn.party (map read_of l.fn.kept) l.fn.pool) (at l.party (map read_of l.kept) l.pool);
      asks : HasAll l.fn.party → (calls : List Call) × AsksLines g.D.CacheDev l.arcs.config.shards l.trace.blocks (λ shard. now_of l.arcs.config shard l.fn.party) (map read_of l.fn.kept) (take l.number l.trace.ops) l.replies.items calls l.fn.device l.device;
      keeps : KeepsPool pool l.fn.pool l.pool;
      left : KeepsDevice g.D.CacheDev l.fn.device l.device;
    }
