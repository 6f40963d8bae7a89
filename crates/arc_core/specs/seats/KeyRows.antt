-- Keys as the rows of a table, and as a list in the order in which they came. No public clause cites this module.
use Rattle.std.specs.Prelude.{◌≡◌, ◌+◌, ◌≤◌, IsTrue, List, ◌∷◌, length, map, vec_len, vec_capacity}
use Rattle.blk_ptr.specs.declared.key.Key.{Key}
use Rattle.key_table.specs.PlainTable.{AreApart, HasKey, Row}
use Rattle.arc_lists.specs.declared.name.Name.{Name}
use Rattle.arc_lists.specs.ByKey.{in_order}
use Rattle.arc_lists.specs.Sequences.{stands_on}
use Rattle.arc_core.specs.declared.keys.many.ManyKeys.TheInside.{Inside}
use Rattle.arc_core.specs.Keys.{PlainKeys}

-- the key of a row, and a key as a row has it
abbrev pub key_in : Row Name (Unit {0}) → Key
key_in r = r.key.0

abbrev pub name : Key → Name
name k = record { 0 = k }

abbrev pub keys : Inside → PlainKeys
keys t = record { items = in_order (λ k. k) (map key_in t.rows.rows); spare = t.rows.spare }

-- no two rows have one key, and each row's key stands on the list
pub record AreListed (rows : List (Row Name (Unit {0}))) (order : List Key) : Type 0 where
  pub apart : AreApart rows
  pub each : (k : Key) → HasKey (name k) rows → IsTrue (stands_on k order)

-- the same, but for one key
abbrev pub AreListedBut : Key → List (Row Name (Unit {0})) → List Key → Type 0
AreListedBut key rows order = AreListed rows (key ∷ order)

pub record KeysKeep (t : Inside) : Type 0 where
  pub listed : AreListed t.rows.rows t.order.items
  -- the list is as long as there are rows, and has room for those that may come
  pub many : vec_len t.order ≡ length t.rows.rows
  pub room : length t.rows.rows + t.rows.spare ≤ vec_capacity t.order
