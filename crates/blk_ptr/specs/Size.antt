-- The sizes that a block may have.
use Rattle.std.specs.Prelude.{◌≡◌, ℕ, ◌%◌, ◌≤◌, Bool, ◌&&◌, ◌==◌, nat_le}

-- the bytes of a sector: every place and every size is a multiple of it (SPA_MINBLOCKSIZE)
abbrev pub sector : ℕ
sector = 512

-- the most bytes that a block has
abbrev pub largest_block : ℕ
largest_block = 16777216

-- a size that a block may have
abbrev pub IsBlockSize : ℕ → Type 0
IsBlockSize size = (size % sector ≡ 0) × (sector ≤ size) × (size ≤ largest_block)

-- the same, as a test
abbrev pub is_block_size_of : ℕ → Bool
is_block_size_of size = size % sector == 0 && (nat_le sector size && nat_le size largest_block)
