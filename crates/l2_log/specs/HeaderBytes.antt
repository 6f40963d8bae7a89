-- The 512 bytes of a device header, place by place.
use Rattle.std.specs.Prelude.{◌≡◌, ◌≢◌, ℕ, ◌≤◌, List, take, length}
use Rattle.blk_ptr.specs.Ptr.{sha256_of}
use Rattle.l2_log.specs.Bytes.{word, digest_at, IsZeroIn, AreBytes, AreZero}
use Rattle.l2_log.specs.Rules.{header_magic, header_len, ring_start, most_with, has_digests, IsVersion, IsRingEnd, IsRingPlace}
use Rattle.l2_log.specs.Places.{IsFirstBroken}
use Rattle.l2_log.specs.PointerBytes.{IsPointerOrNone, PointerRule}
use Rattle.l2_log.specs.declared.header.DevHeader.{DevHeader}
use Rattle.l2_log.specs.declared.fault.LogFault.{LogFault}
use Rattle.l2_log.specs.declared.fault.LogFault.TheVariants as fault

-- the last 32 bytes are the SHA-256 of all bytes before them
abbrev pub IsSealed : List ℕ → Type 0
IsSealed bytes = digest_at bytes 480 ≡ sha256_of (take 480 bytes)

-- these bytes are this header (l2arc_dev_hdr_phys)
pub record IsHeader (bytes : List ℕ) (header : DevHeader) : Type 0 where
  pub whole : length bytes ≡ header_len
  pub magic : word bytes 0 ≡ header_magic
  pub version : word bytes 8 ≡ header.version
  pub start : word bytes 16 ≡ ring_start
  pub end : word bytes 24 ≡ header.end
  pub hand : word bytes 32 ≡ header.hand
  pub evict : word bytes 40 ≡ header.evict
  pub top : word bytes 48 ≡ header.top
  pub lap : word bytes 56 ≡ header.lap
  pub most : word bytes 64 ≡ most_with (has_digests header.version)
  pub zeros : AreZero 72 128 bytes
  pub newest : IsPointerOrNone bytes 128 header.newest
  pub second : IsPointerOrNone bytes 192 header.second
  pub zeros_behind : AreZero 256 480 bytes
  pub sealed : IsSealed bytes

-- these are bytes, and this header: the one spelling of it
pub record SpellsHeader (bytes : List ℕ) (header : DevHeader) : Type 0 where
  pub are_bytes : AreBytes bytes
  pub is : IsHeader bytes header

-- what the number at place k must be
pub record NumberRule (bytes : List ℕ) (k : ℕ) : Type 0 where
  pub start : k ≡ 16 → word bytes 16 ≡ ring_start
  pub end : k ≡ 24 → IsRingEnd (word bytes 24)
  pub hand : k ≡ 32 → IsRingPlace (word bytes 24) (word bytes 32)
  pub evict : k ≡ 40 → IsRingPlace (word bytes 24) (word bytes 40) × (word bytes 32 ≤ word bytes 40)
  pub top : k ≡ 48 → IsRingPlace (word bytes 24) (word bytes 48)
  pub lap : k ≡ 56 → 1 ≤ word bytes 56
  pub most : k ≡ 64 → word bytes 64 ≡ most_with (has_digests (word bytes 8))

-- what the field at place k of a header must be, behind the magic and the version and before the digest
pub record HeaderRule (bytes : List ℕ) (k : ℕ) : Type 0 where
  pub numbers : NumberRule bytes k
  pub zeros : IsZeroIn 72 128 bytes k
  pub newest : PointerRule bytes 128 k
  pub second : PointerRule bytes 192 k
  pub zeros_behind : IsZeroIn 256 480 bytes k

-- the bytes are a header's in length, magic and version
pub record IsHeaderFront (bytes : List ℕ) : Type 0 where
  pub whole : length bytes ≡ header_len
  pub magic : word bytes 0 ≡ header_magic
  pub version : IsVersion (word bytes 8)

-- this refusal is the first of the order: length, magic, version, digest, and then the first field at fault
abbrev pub IsFirstRefusal : List ℕ → LogFault → Type 0
IsFirstRefusal bytes (fault.Length len) = (len ≡ length bytes) × (length bytes ≢ header_len)
IsFirstRefusal bytes fault.Magic = (length bytes ≡ header_len) × (word bytes 0 ≢ header_magic)
IsFirstRefusal bytes fault.Version =
    (length bytes ≡ header_len) × (word bytes 0 ≡ header_magic) × ¬ IsVersion (word bytes 8)
IsFirstRefusal bytes (fault.Digest kept found) =
    IsHeaderFront bytes × (kept ≡ digest_at bytes 480) × (found ≡ sha256_of (take 480 bytes)) × ¬ IsSealed bytes
IsFirstRefusal bytes (fault.Field at) = IsHeaderFront bytes × IsSealed bytes × IsFirstBroken (HeaderRule bytes) at
