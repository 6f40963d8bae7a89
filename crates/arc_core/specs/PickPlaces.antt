-- The picks as the nodes of a linked list, each found by its key's hash. No public clause cites this module.
use Rattle.std.specs.Prelude.{◌≡◌, ℕ, ◌≤◌, List, Some, reverse}
use Rattle.blk_ptr.specs.declared.key.Key.{Key}
use Rattle.arc_links.specs.PlainLinks.{AreApart, Placed, element_at, elements}
use Rattle.key_table.specs.PlainTable.{AreApart as AreRowsApart, IsAmong, Row, row}
use Rattle.arc_lists.specs.declared.name.Name.{Name}
use Rattle.arc_core.specs.declared.entry.Picked.{Picked}
use Rattle.arc_core.specs.declared.picks.Picks.TheInside.{Inside}
use Rattle.arc_core.specs.seats.KeyRows.{name}
use Rattle.arc_core.specs.Picks.{PlainPicks}

-- the last pick is at the head
abbrev pub picks : Inside → PlainPicks
picks t = record { items = reverse (elements t.list); spare = t.spare }

-- the node at a place is a pick of this key
abbrev pub IsPickAt : Key → ℕ → List (Placed Picked) → Type 0
IsPickAt k at nodes = (pick : Picked) × (element_at at nodes ≡ Some pick) × (pick.key ≡ k)

-- no two nodes stand at one place, each key has one row, with the place of its node, and each node has a row
pub record AreIndexed (nodes : List (Placed Picked)) (rows : List (Row Name ℕ)) : Type 0 where
  pub apart : AreApart nodes
  pub rows_apart : AreRowsApart rows
  pub placed : (k : Key) (at : ℕ) → IsAmong (row (name k) at) rows → IsPickAt k at nodes
  pub listed : (at : ℕ) (pick : Picked) → element_at at nodes ≡ Some pick → IsAmong (row (name pick.key) at) rows

pub record PicksKeep (t : Inside) : Type 0 where
  pub indexed : AreIndexed t.list.nodes t.places.rows
  -- there is room for the picks that may come
  pub room : t.spare ≤ t.list.spare
  pub places_room : t.spare ≤ t.places.spare
