-- The numbers of the device's format, and the rules that its values keep. Magics, sizes and the chain are OpenZFS's
-- (l2arc_dev_hdr_phys, l2arc_log_blk_phys, l2arc_log_blkptr in arc_impl.h); the order of the fields is this project's.
use Rattle.std.specs.Prelude.{◌≡◌, ◌==◌, ℕ, ◌%◌, ◌≤◌, Bool, true, false, Option, None, Some}
use Rattle.blk_ptr.specs.Size.{sector, largest_block, IsBlockSize}
use Rattle.blk_ptr.specs.declared.digest.Digest.{Digest}

-- the first eight bytes of a device header, as a number (L2ARC_DEV_HDR_MAGIC)
abbrev pub header_magic : ℕ
header_magic = 0x5a46534341434845

-- the first eight bytes of a log block, as a number (L2ARC_LOG_BLK_MAGIC)
abbrev pub log_magic : ℕ
log_magic = 0x4c4f47424c4b4844

-- a version of the format: 2, which is written, or 1, which is read
pub record IsVersion (version : ℕ) : Type 0 where
  pub least : 1 ≤ version
  pub most : version ≤ 2

-- in version 2 an entry has the digest of its block
abbrev pub has_digests : ℕ → Bool
has_digests version = version == 2

-- the bytes of a device header
abbrev pub header_len : ℕ
header_len = 512

-- the bytes of a log block
abbrev pub log_len : ℕ
log_len = 65536

-- the place of the first byte behind the header that the ring uses
abbrev pub ring_start : ℕ
ring_start = 4096

-- the least place at which a ring may end: four log blocks fit
abbrev pub least_ring_end : ℕ
least_ring_end = 266240

-- the most entries of a log block that a pointer may tell of (L2ARC_LOG_BLK_MAX_ENTRIES)
abbrev pub most_old_entries : ℕ
most_old_entries = 1022

-- the most entries of a log block, with digests and without
abbrev pub most_with : Bool → ℕ
most_with true = 681
most_with false = 1022

-- the bytes of an entry, with its digest and without
abbrev pub entry_len : Bool → ℕ
entry_len true = 96
entry_len false = 64

-- how many of them are fields; the rest is zero
abbrev pub fields_len : Bool → ℕ
fields_len true = 64
fields_len false = 32

-- the most bytes of a block that an entry names, with its digest and without
abbrev pub largest_with : Bool → ℕ
largest_with true = largest_block
largest_with false = 1048576

-- the number at place 24 of a log block
abbrev pub stored_version : Bool → ℕ
stored_version true = 2
stored_version false = 0

-- a size that a block may have of which an entry tells
pub record IsEntrySize (digests : Bool) (size : ℕ) : Type 0 where
  pub block : IsBlockSize size
  pub most : size ≤ largest_with digests

-- whether a digest is there
abbrev pub is_there : Option Digest → Bool
is_there (Some digest) = true
is_there None = false

-- the place of the first entry in a log block
abbrev pub first_entry : ℕ
first_entry = 128

-- a count of entries that a pointer may tell of
pub record IsCount (count : ℕ) : Type 0 where
  pub least : 1 ≤ count
  pub most : count ≤ most_old_entries

-- a count of entries that a log block may have, with digests or without
pub record IsCountWith (digests : Bool) (count : ℕ) : Type 0 where
  pub least : 1 ≤ count
  pub most : count ≤ most_with digests

-- a place at which a ring may end
pub record IsRingEnd (end : ℕ) : Type 0 where
  pub aligned : end % sector ≡ 0
  pub long : least_ring_end ≤ end

-- a place in a ring with this end, its end among them
pub record IsRingPlace (end place : ℕ) : Type 0 where
  pub aligned : place % sector ≡ 0
  pub from : ring_start ≤ place
  pub to : place ≤ end
