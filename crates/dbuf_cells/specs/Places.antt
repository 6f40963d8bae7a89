-- In which cell a block's dbuf stands.
use Rattle.std.specs.Prelude.{ℕ, ◌+◌, ◌%◌}
use Rattle.dbuf_state.specs.declared.oid.Oid.{Oid}

-- the cell of a block, of so many
abbrev pub cell_of : ℕ → Oid → ℕ
cell_of cells at = (at.object % cells + at.block % cells) % cells
