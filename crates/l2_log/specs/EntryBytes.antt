-- The bytes of an entry of a log block, and the list of entries: 96 bytes each with digests (version 2), and 64 without
-- (version 1).
use Rattle.std.specs.Prelude.{◌≡◌, ℕ, ◌+◌, ◌%◌, ◌<◌, List, [], ◌∷◌, Bool, Option, None, Some}
use Rattle.blk_ptr.specs.Size.{sector}
use Rattle.blk_ptr.specs.declared.digest.Digest.{Digest}
use Rattle.l2_log.specs.Bytes.{word, digest_at, IsZeroIn, AreZero}
use Rattle.l2_log.specs.Rules.{entry_len, fields_len, IsEntrySize}
use Rattle.l2_log.specs.declared.entry.LogEntry.{LogEntry}

-- the 32 bytes from this place are this digest, where there is one
abbrev pub IsDigestIfAny : List ℕ → ℕ → Option Digest → Type 0
IsDigestIfAny bytes at None = Unit {0}
IsDigestIfAny bytes at (Some digest) = digest_at bytes at ≡ digest

-- the bytes from this place are those of this entry
pub record IsEntry (digests : Bool) (bytes : List ℕ) (at : ℕ) (entry : LogEntry) : Type 0 where
  pub offset : word bytes at ≡ entry.key.offset
  pub size : word bytes (at + 8) ≡ entry.key.size
  pub birth : word bytes (at + 16) ≡ entry.key.birth
  pub place : word bytes (at + 24) ≡ entry.place
  pub digest : IsDigestIfAny bytes (at + 32) entry.digest
  pub zeros : AreZero (at + fields_len digests) (at + entry_len digests) bytes

-- the bytes from this place are those of these entries one behind the other
abbrev pub AreEntries : Bool → List ℕ → ℕ → List LogEntry → Type 0
AreEntries digests bytes at [] = Unit {0}
AreEntries digests bytes at (entry ∷ entries) =
    IsEntry digests bytes at entry × AreEntries digests bytes (at + entry_len digests) entries

-- what the field of an entry at place k must be
pub record EntryRule (digests : Bool) (bytes : List ℕ) (at k : ℕ) : Type 0 where
  pub offset : k ≡ at → word bytes at % sector ≡ 0
  pub size : k ≡ at + 8 → IsEntrySize digests (word bytes (at + 8))
  pub birth : k ≡ at + 16 → 0 < word bytes (at + 16)
  pub place : k ≡ at + 24 → word bytes (at + 24) % sector ≡ 0
  pub zeros : IsZeroIn (at + fields_len digests) (at + entry_len digests) bytes k
