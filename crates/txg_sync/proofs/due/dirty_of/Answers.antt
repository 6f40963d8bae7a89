use Rattle.std.proofs.lemmas.List.Sorted.{IsPermutation-trans}
use Rattle.txg_sync.specs.Items.{dues_from}
use Rattle.txg_sync.proofs.due.dirty_of.Goals as goal

pub returns-clause-all : goal.returns-clause-all
returns-clause-all c = IsPermutation-trans (dues_from 0 c.args.cells.now) c.in_ok-dues.dues.items c.sort.new.self.items c.in_ok-dues.ensures.all c.sort.ensures.permutation
