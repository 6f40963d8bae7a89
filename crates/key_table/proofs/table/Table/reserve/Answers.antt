use Rattle.key_table.proofs.Tables.{larger-indexed, larger-table}
use Rattle.key_table.proofs.table.Table.reserve.Goals as goal

pub invariant_of-self : goal.invariant_of-self
invariant_of-self g c = rw c.reserve.ensures.rest_kept (larger-table g.K.Hashed.hash c.self.inside c.reserve.new.self.capacity c.self.invariant c.reserve.ensures.capacity)

pub widen-requires : goal.widen-requires
widen-requires g c = rw c.reserve.ensures.rest_kept (larger-indexed g.K.Hashed.hash c.self.inside c.reserve.new.self.capacity c.self.invariant)
