use Rattle.std.proofs.Common.{refl}
use Rattle.key_table.proofs.Searched.{rows-set}
use Rattle.key_table.proofs.chain.set_next.Goals as goal

pub returns-clause-rows : goal.returns-clause-rows
returns-clause-rows g c = rows-set c.args.slots.now.slots c.args.at c.index_mut.result.now _ c.index_mut.ensures.value refl
