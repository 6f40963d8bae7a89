use Rattle.std.proofs.Common.{rules}
use Rattle.arc_core.proofs.table.Table.new.Goals as goal

pub invariant_of-result : goal.invariant_of-result
invariant_of-result c = record {
  tidy = search rules;
  few = search rules;
  marked_room = search rules;
  passed_room = search rules;
  picked_room = search rules;
  bytes = search rules;
}
