-- The 65,536 bytes of a log block, place by place.
use Rattle.std.specs.Prelude.{◌≡◌, ◌≢◌, ◌==◌, ℕ, ◌+◌, ◌*◌, ◌<◌, ◌≤◌, ◌⊎◌, List, length, Bool}
use Rattle.l2_log.specs.Bytes.{word, IsZeroIn, AreZero}
use Rattle.l2_log.specs.Rules.{log_magic, log_len, entry_len, first_entry, stored_version, has_digests, IsCountWith}
use Rattle.l2_log.specs.Places.{IsFirstBroken, IsFieldFault}
use Rattle.l2_log.specs.PointerBytes.{IsPointerOrNone, PointerRule}
use Rattle.l2_log.specs.EntryBytes.{AreEntries, EntryRule}
use Rattle.l2_log.specs.declared.log_block.LogBlock.{LogBlock}
use Rattle.l2_log.specs.declared.fault.LogFault.{LogFault}
use Rattle.l2_log.specs.declared.fault.LogFault.TheVariants as fault
use Rattle.l2_log.specs.declared.fault.LogReadFault.{LogReadFault}
use Rattle.l2_log.specs.declared.fault.LogReadFault.TheVariants as refusal

-- these bytes are this log block (l2arc_log_blk_phys)
pub record IsLogBlock (bytes : List ℕ) (block : LogBlock) : Type 0 where
  pub whole : length bytes ≡ log_len
  pub magic : word bytes 0 ≡ log_magic
  pub lap : word bytes 8 ≡ block.lap
  pub count : word bytes 16 ≡ length block.entries
  pub version : word bytes 24 ≡ stored_version (has_digests block.version)
  pub zeros : AreZero 32 64 bytes
  pub prev : IsPointerOrNone bytes 64 block.prev
  pub entries : AreEntries (has_digests block.version) bytes first_entry block.entries
  pub zeros_behind : AreZero (first_entry + entry_len (has_digests block.version) * length block.entries) log_len bytes

-- a log block of these bytes tells digests: place 24 has the version, and 0 in version 1
abbrev pub tells_digests : List ℕ → Bool
tells_digests bytes = word bytes 24 == 2

-- what the field at place k of a log block must be, behind the magic; place 24 decides what an entry is
pub record LogRule (bytes : List ℕ) (k : ℕ) : Type 0 where
  pub lap : k ≡ 8 → 1 ≤ word bytes 8
  pub count : k ≡ 16 → IsCountWith (tells_digests bytes) (word bytes 16)
  pub version : k ≡ 24 → (word bytes 24 ≡ 0) ⊎ (word bytes 24 ≡ 2)
  pub zeros : IsZeroIn 32 64 bytes k
  pub prev : PointerRule bytes 64 k
  pub entries : (i : ℕ) → i < word bytes 16
      → EntryRule (tells_digests bytes) bytes (first_entry + entry_len (tells_digests bytes) * i) k
  pub zeros_behind : IsZeroIn (first_entry + entry_len (tells_digests bytes) * word bytes 16) log_len bytes k

-- this refusal is the first of the order: length, magic, and then the first field at fault
abbrev pub IsFirstLogFault : List ℕ → LogFault → Type 0
IsFirstLogFault bytes (fault.Length len) = (len ≡ length bytes) × (length bytes ≢ log_len)
IsFirstLogFault bytes fault.Magic = (length bytes ≡ log_len) × (word bytes 0 ≢ log_magic)
IsFirstLogFault bytes (fault.Field at) =
    (length bytes ≡ log_len) × (word bytes 0 ≡ log_magic) × IsFirstBroken (LogRule bytes) at
IsFirstLogFault bytes _ = ⊥

-- the bytes are a log block's in length, magic, lap, count and version
pub record IsLogFront (bytes : List ℕ) : Type 0 where
  pub whole : length bytes ≡ log_len
  pub magic : word bytes 0 ≡ log_magic
  pub lap : 1 ≤ word bytes 8
  pub count : IsCountWith (tells_digests bytes) (word bytes 16)
  pub version : (word bytes 24 ≡ 0) ⊎ (word bytes 24 ≡ 2)

-- the fault names the first place of these many entries at which a rule is broken
abbrev pub IsEntriesFault : Bool → List ℕ → ℕ → LogFault → Type 0
IsEntriesFault digests bytes count fault =
    IsFieldFault first_entry (first_entry + entry_len digests * count)
    (λ k. (i : ℕ) → i < count → EntryRule digests bytes (first_entry + entry_len digests * i) k) fault

-- the same of a refusal, or memory was refused
abbrev pub IsEntryRefusal : Bool → List ℕ → ℕ → LogReadFault → Type 0
IsEntryRefusal digests bytes count (refusal.Fault fault) = IsEntriesFault digests bytes count fault
IsEntryRefusal digests bytes count refusal.NoMemory = Unit {0}

-- this refusal is the first of the order, or memory was refused
abbrev pub IsLogRefusal : List ℕ → LogReadFault → Type 0
IsLogRefusal bytes (refusal.Fault fault) = IsFirstLogFault bytes fault
IsLogRefusal bytes refusal.NoMemory = Unit {0}
