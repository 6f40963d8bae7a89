use Rattle.std.proofs.Common.{◌≡◌, map, take}
use Rattle.std.specs.Prelude.{filter}
use Rattle.arc_table.specs.Reading.{KeepsDevice, outside}
use Rattle.vdev_io.specs.Calls.{KeepsPool}
use Rattle.trace_run.specs.callers.WorkLines.{DidOps, at_work}
use Rattle.trace_run.specs.KeptBlocks.{Stands, read_of}
use Rattle.trace_run.specs.Lines.{is_of_caller}
use Rattle.trace_run.specs.one_caller.OverShards.{AreNamed}
use Rattle.trace_run.proofs.lines.all_lines.Given as goal

abbrev pub invariant-loop-number : goal.invariant-loop-number
invariant-loop-number g l = record {
  stands : Stands l.arcs l.party l.kept;
  named : AreNamed l.blocks (map read_of l.kept);
  number : l.party.number ≡ l.fn.party.number;
  did : DidOps g.P.Pool g.D.CacheDev l.arcs.config l.blocks (filter (is_of_caller l.fn.party.number) (take l.number l.ops)) l.replies.items
      (at_work l.fn.party (map read_of l.fn.kept) (outside l.fn.pool l.fn.device)) (at_work l.party (map read_of l.kept) (outside l.pool l.device));
  keeps : KeepsPool g.P.Pool l.fn.pool l.pool;
  device : KeepsDevice g.D.CacheDev l.fn.device l.device;
}
