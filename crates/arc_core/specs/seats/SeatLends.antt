-- What the rows end as, where that of a key is lent.
use Rattle.std.specs.Borrow.{Fml, Lends, MutBor}
use Rattle.blk_ptr.specs.declared.key.Key.{Key}
use Rattle.arc_core.specs.declared.rows.Linked.{Linked}
use Rattle.arc_core.specs.contracts.rows.Rows.{the_row}
use Rattle.arc_core.specs.contracts.rows.Linked.{the_row as linked_row}
use Rattle.arc_lists.specs.ByKey.{with_change}
use Rattle.arc_core.specs.seats.Seats.{Seats, seat, seat_key}

-- the rows with this in the place of a key's
abbrev pub with_linked : Seats → Key → Linked → Seats
with_linked m k l = record m { seats = with_change seat_key k (λ _. seat k l) m.seats }

-- the key's row has what was written last through r
abbrev pub lends_linked : MutBor Seats → Key → MutBor Linked → Fml
lends_linked m k r = Lends the_row linked_row m r (with_linked m.now k)
