-- The 64 bytes of a pointer to a log block.
use Rattle.std.specs.Prelude.{◌≡◌, ℕ, ◌+◌, List, Option, None, Some}
use Rattle.l2_log.specs.Bytes.{word, digest_at, IsZeroIn, AreZero}
use Rattle.l2_log.specs.Rules.{log_len, IsCount}
use Rattle.l2_log.specs.declared.pointer.LogPtr.{LogPtr}

-- the bytes from this place are those of this pointer
pub record IsPointer (bytes : List ℕ) (at : ℕ) (ptr : LogPtr) : Type 0 where
  pub place : word bytes at ≡ ptr.place
  pub length : word bytes (at + 8) ≡ log_len
  pub count : word bytes (at + 16) ≡ ptr.count
  pub zeros : AreZero (at + 24) (at + 32) bytes
  pub digest : digest_at bytes (at + 32) ≡ ptr.digest

-- the bytes from this place are those of this pointer, or 64 zeros where there is none
abbrev pub IsPointerOrNone : List ℕ → ℕ → Option LogPtr → Type 0
IsPointerOrNone bytes at None = AreZero at (at + 64) bytes
IsPointerOrNone bytes at (Some ptr) = IsPointer bytes at ptr

-- what the field of a pointer at place k must be, where the 64 bytes aren't all zero
pub record PointerRule (bytes : List ℕ) (at k : ℕ) : Type 0 where
  pub length : ¬ AreZero at (at + 64) bytes → k ≡ at + 8 → word bytes (at + 8) ≡ log_len
  pub count : ¬ AreZero at (at + 64) bytes → k ≡ at + 16 → IsCount (word bytes (at + 16))
  pub zeros : ¬ AreZero at (at + 64) bytes → IsZeroIn (at + 24) (at + 32) bytes k
