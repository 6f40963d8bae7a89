use Rattle.std.proofs.Common.{◌≡◌, arith, ap, count_by, is_some, length}
use Rattle.slab.specs.Slab.{slab_len}
use Rattle.key_table.proofs.Tables.{empty-indexed, empty-single}
use Rattle.key_table.proofs.table.Table.new.Goals as goal

pub invariant_of-result : goal.invariant_of-result
invariant_of-result g c =
    let none : slab_len c.new.result ≡ 0 = ap (λ xs. count_by is_some xs) c.new.ensures.empty in
    record {
      indexed = empty-indexed g.K.Hashed.hash c.new.result c.new-2.result.items c.new.ensures.empty c.new-2.ensures.items;
      single = empty-single g.K.Hashed.hash c.new.result c.new.ensures.empty;
      room = rw none (omega arith);
      fits = rw none (omega arith);
      some = rw (none, c.new-2.ensures.items) (omega arith);
      within = omega (arith, ap length c.new.ensures.empty);
    }
