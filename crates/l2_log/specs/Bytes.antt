-- Numbers, zeros and digests at places of a list of bytes.
use Rattle.std.specs.Prelude.{◌≡◌, ℕ, ◌<◌, ◌≤◌, List, length, take, drop, slice_index}
use Rattle.byteorder.specs.Endian.{little_from}
use Rattle.blk_ptr.specs.declared.digest.Digest.{Digest}

-- the number in the eight bytes from this place, the lowest byte first
unfoldable pub word : List ℕ → ℕ → ℕ
word bytes at = little_from at 8 bytes

-- the digest in the 32 bytes from this place
abbrev pub digest_at : List ℕ → ℕ → Digest
digest_at bytes at = record { 0 = take 32 (drop at bytes) }

-- the byte at place k is zero, where k lies in this range
abbrev pub IsZeroIn : ℕ → ℕ → List ℕ → ℕ → Type 0
IsZeroIn from to bytes k = from ≤ k → k < to → slice_index bytes k ≡ 0

-- each byte of the range is zero
abbrev pub AreZero : ℕ → ℕ → List ℕ → Type 0
AreZero from to bytes = (k : ℕ) → IsZeroIn from to bytes k

-- each number of the list is a byte
abbrev pub AreBytes : List ℕ → Type 0
AreBytes bytes = (k : ℕ) → slice_index bytes k < 256

-- both lists have the same bytes in the range
abbrev pub AreSame : ℕ → ℕ → List ℕ → List ℕ → Type 0
AreSame from to a b = (k : ℕ) → from ≤ k → k < to → slice_index a k ≡ slice_index b k

-- a change kept the length, and left each byte outside the range as it was
pub record IsKeptOutside (from to : ℕ) (old new : List ℕ) : Type 0 where
  pub len : length old ≡ length new
  pub before : AreSame 0 from old new
  pub behind : (k : ℕ) → to ≤ k → slice_index old k ≡ slice_index new k
