use Rattle.std.proofs.Common.{length}
use Rattle.turn_table.specs.Places.{Place}
use Rattle.arc_table.specs.declared.view.Known.{Known}
use Rattle.trace_run.specs.KeptBlocks.{GivesAll, Stands}
use Rattle.trace_run.proofs.kept_blocks.give_back_all.Given as goal

abbrev pub invariant-loop-read : goal.invariant-loop-read
invariant-loop-read g l = record {
  stands : Stands l.arcs l.party l.kept;
  gives : (q : Place (Known g.row.C.Denot)) → GivesAll g.C.Keeps l.arcs.config l.kept l.party q
      → GivesAll g.C.Keeps l.arcs.config l.fn.kept l.fn.party q;
}

abbrev pub decreases-loop-read : goal.decreases-loop-read
decreases-loop-read g l = length l.kept
