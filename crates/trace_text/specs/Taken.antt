-- The blocks of objects that are mapped, as the rows of a table.
use Rattle.std.specs.Prelude.{List, ◌↔◌}
use Rattle.key_table.specs.PlainTable.{HasKey, Row}
use Rattle.dbuf_state.specs.declared.oid.Oid.{Oid}
use Rattle.trace_text.specs.declared.mapping.Mapping.{Mapping}
use Rattle.trace_text.specs.declared.mappings.Name.{Name}
use Rattle.trace_text.specs.Grammar.{IsMapped}

-- a block as the key of a row
abbrev pub name : Oid → Name
name at = record { 0 = at }

-- a block has a row just where it is mapped
abbrev pub AreTaken : List (Row Name (Unit {0})) → List Mapping → Type 0
AreTaken rows mappings = (at : Oid) → HasKey (name at) rows ↔ IsMapped at mappings
