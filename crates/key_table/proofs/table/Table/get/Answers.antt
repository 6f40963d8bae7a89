use Rattle.key_table.proofs.Tables.{none-there, row_read}
use Rattle.key_table.proofs.table.Table.get.Goals as goal

pub find_by_hash-requires-clause-indexed : goal.find_by_hash-requires-clause-indexed
find_by_hash-requires-clause-indexed g c = rw c.deref.ensures.value c.self.invariant.indexed

pub returns-in_err-at-clause-none : goal.returns-in_err-at-clause-none
returns-in_err-at-clause-none g c =
    rw (c.from_residual.ensures, ← c.self.view_is) (none-there g.K.Hashed.hash c.self.inside c.args.key.now c.in_err-at.ensures.none)

pub returns-clause-some : goal.returns-clause-some
returns-clause-some g c = rw (← c.self.view_is) (row_read g.K.Hashed.hash c.self.inside c.args.key.now c.in_ok-at.at c.index.result.now c.in_ok-at.ensures.found c.index.ensures)
