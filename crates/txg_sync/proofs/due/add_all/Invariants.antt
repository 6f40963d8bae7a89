use Rattle.std.proofs.Common.{◌≡◌, ◌++◌, drop, map}
use Rattle.txg_sync.specs.Items.{due_in}
use Rattle.txg_sync.proofs.due.add_all.Given as goal

abbrev pub invariant-loop-at : goal.invariant-loop-at
invariant-loop-at l = l.dues.items ++ map (due_in l.cell) (drop l.at-index l.oids) ≡ l.fn.dues.items ++ map (due_in l.cell) l.oids
