-- What bytes are of a block pointer, and what a read of them is without any cache.
use Rattle.std.specs.Prelude.{◌≡◌, ◌≢◌, ℕ, List, length, take, drop, Result, Ok, Err, ◌⊎◌}
use Rattle.sha2.specs.Sha256.{sha256}
use Rattle.blk_ptr.specs.declared.digest.Digest.{Digest}
use Rattle.blk_ptr.specs.declared.key.Key.{Key}
use Rattle.blk_ptr.specs.declared.ptr.Ptr.{Ptr}

-- the SHA-256 of a list of bytes (FIPS 180-4)
abbrev pub sha256_of : List ℕ → Digest
sha256_of bytes = record { 0 = sha256 bytes }

-- these bytes are of this pointer: they have its key's size and its digest (blkptr_t: the size and the checksum of a block)
pub record IsOf (bytes : List ℕ) (ptr : Ptr) : Type 0 where
  pub size : length bytes ≡ ptr.key.size
  pub digest : sha256_of bytes ≡ ptr.digest

-- the bytes of an image in the range of a key
abbrev pub range_of : List ℕ → Key → List ℕ
range_of image key = take key.size (drop key.offset image)

-- what a read of a pool that tells these bytes gives where there is no cache: the bytes in the key's range, where they are
-- of the pointer, and otherwise the digest that was found there
abbrev pub IsPlainRead : List ℕ → Ptr → Result (List ℕ) Digest → Type 0
IsPlainRead image ptr (Ok bytes) = (bytes ≡ range_of image ptr.key) × IsOf bytes ptr
IsPlainRead image ptr (Err found) = (found ≡ sha256_of (range_of image ptr.key)) × ¬ IsOf (range_of image ptr.key) ptr

-- the same bytes, or two contents of one digest
abbrev pub IsSameOrCollides : List ℕ → List ℕ → Type 0
IsSameOrCollides a b = (a ≡ b) ⊎ ((a ≢ b) × (sha256_of a ≡ sha256_of b))
