-- The seats as the rows of a table. No public clause cites this module.
use Rattle.std.specs.Prelude.{map}
use Rattle.key_table.specs.PlainTable.{AreApart, Row}
use Rattle.arc_lists.specs.declared.name.Name.{Name}
use Rattle.arc_lists.specs.ByKey.{in_order}
use Rattle.arc_core.specs.declared.rows.Linked.{Linked}
use Rattle.arc_core.specs.declared.rows.Rows.TheInside.{Inside}
use Rattle.arc_core.specs.seats.Seats.{Seat, Seats, seat, seat_key}

-- the seat that a row stands for
abbrev pub seat_of : Row Name Linked → Seat
seat_of r = seat r.key.0 r.value

abbrev pub seats : Inside → Seats
seats t = record { seats = in_order seat_key (map seat_of t.table.rows); spare = t.table.spare }

-- no two rows have one key
abbrev pub AreRowsApart : Inside → Type 0
AreRowsApart t = AreApart t.table.rows
