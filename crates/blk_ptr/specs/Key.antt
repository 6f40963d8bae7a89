-- What a key must be to name a block of a pool: the checks that OpenZFS makes of a block pointer before it reads it
-- (zio.c, zfs_blkptr_verify), for blocks that are stored uncompressed at one place.
use Rattle.std.specs.Prelude.{◌≡◌, ℕ, ◌+◌, ◌%◌, ◌<◌, ◌≤◌, Bool, ◌&&◌, ◌==◌, nat_lt, List, ◌++◌, codes, decimal}
use Rattle.blk_ptr.specs.Size.{sector, IsBlockSize, is_block_size_of}
use Rattle.blk_ptr.specs.declared.key.Key.{Key}
use Rattle.blk_ptr.specs.declared.key.KeyFault.{KeyFault}
use Rattle.blk_ptr.specs.declared.key.KeyFault.TheVariants.{Unaligned, Size, OutOfPool, BirthZero}

-- a key whose numbers are in their ranges, whatever the pool's length
pub record IsWellFormed (key : Key) : Type 0 where
  pub aligned : key.offset % sector ≡ 0
  pub sized : IsBlockSize key.size
  pub born : 0 < key.birth

-- the same, as a test
abbrev pub is_well_formed : Key → Bool
is_well_formed key = key.offset % sector == 0 && (is_block_size_of key.size && nat_lt 0 key.birth)

-- the first byte past the key's range
abbrev pub key_end : Key → ℕ
key_end key = key.offset + key.size

-- a key that names a block of a pool of this length
pub record IsValid (pool_len : ℕ) (key : Key) : Type 0 where
  pub formed : IsWellFormed key
  pub inside : key_end key ≤ pool_len

-- this fault is the first of the four tests that the key fails: alignment, size, range, birth
abbrev pub IsFirstKeyFault : ℕ → Key → KeyFault → Type 0
IsFirstKeyFault pool_len key Unaligned = ¬ (key.offset % sector ≡ 0)
IsFirstKeyFault pool_len key Size = (key.offset % sector ≡ 0) × ¬ IsBlockSize key.size
IsFirstKeyFault pool_len key (OutOfPool end len) =
    (key.offset % sector ≡ 0) × IsBlockSize key.size × (end ≡ key_end key) × (len ≡ pool_len) × (pool_len < key_end key)
IsFirstKeyFault pool_len key BirthZero =
    (key.offset % sector ≡ 0) × IsBlockSize key.size × (key_end key ≤ pool_len) × (key.birth ≡ 0)

-- how a fault is printed
abbrev pub fault_text : KeyFault → List ℕ
fault_text Unaligned = codes "unaligned"
fault_text Size = codes "size"
fault_text (OutOfPool end len) = codes "range " ++ decimal end ++ codes " " ++ decimal len
fault_text BirthZero = codes "birth"
