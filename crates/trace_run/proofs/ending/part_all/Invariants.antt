use Rattle.std.proofs.Common.{◌++◌, List}
use Rattle.turn_table.specs.Places.{Place}
use Rattle.arc_table.specs.declared.view.Known.{Known}
use Rattle.trace_run.specs.Meeting.{AreLast, MayPart, PartAll}
use Rattle.trace_run.proofs.ending.part_all.Given as goal

abbrev pub invariant-loop-number : goal.invariant-loop-number
invariant-loop-number g l = record {
  party : MayPart l.arcs l.party;
  last : AreLast l.number-iterator.rest.items l.party.joined;
  parts : (xs : List (Place (Known g.row.C.Denot))) (q : Place (Known g.row.C.Denot)) → PartAll l.number-iterator.rest.items l.party xs q → PartAll l.fn.numbers.items l.fn.party (l.parties.items ++ xs) q;
}
