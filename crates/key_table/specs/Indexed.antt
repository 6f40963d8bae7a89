-- What a table keeps of its slots and chains. No public clause cites this module.
use Rattle.std.specs.Prelude.{ℕ, ◌+◌, ◌^◌, ◌<◌, ◌≤◌, length}
use Rattle.slab.specs.Slab.{slab_len}
use Rattle.key_table.specs.declared.table.Table.TheInside.{Inside}
use Rattle.key_table.specs.Chains.{no_place, rows_in}
use Rattle.key_table.specs.Indexes.{AreSingle, IsIndexed}
use Rattle.key_table.specs.PlainTable.{PlainTable}

module _ {K V : Type 0} where
  abbrev pub plain : Inside K V → PlainTable K V
  plain t = record { rows = rows_in t.slots.slots; spare = t.spare }

  pub record IsTable (hash : K → ℕ) (t : Inside K V) : Type 0 where
    pub indexed : IsIndexed hash t.slots t.heads.items (length t.heads.items) no_place
    pub single : AreSingle t.slots
    -- there is room for the rows that may come, and a chain for them
    pub room : slab_len t.slots + t.spare ≤ t.slots.capacity
    pub fits : slab_len t.slots + t.spare < 2 ^ 64
    pub some : slab_len t.slots + t.spare ≤ length t.heads.items
    -- and every slot stands at a place
    pub within : length t.slots.slots ≤ no_place
