use Rattle.std.proofs.Common.{vec_len}
use Rattle.std.specs.List.{AllByRecursion}
use Rattle.turn_table.specs.Places.{Place}
use Rattle.arc_table.specs.declared.view.Known.{Known}
use Rattle.trace_run.specs.Meeting.{JoinAll, MayJoin, MayPart}
use Rattle.trace_run.proofs.ending.join_all.Given as goal

abbrev pub invariant-loop-other : goal.invariant-loop-other
invariant-loop-other g l = record {
  party : MayPart l.arcs l.party;
  others : AllByRecursion (MayJoin l.arcs) l.others.items;
  joins : (q : Place (Known g.row.C.Denot)) → JoinAll g.C.Keeps l.others.items l.party q
      → JoinAll g.C.Keeps l.fn.others.items l.fn.party q;
}

abbrev pub decreases-loop-other : goal.decreases-loop-other
decreases-loop-other g l = vec_len l.others
