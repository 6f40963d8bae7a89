-- What the reader's own functions answer, in the words of the grammar.
use Rattle.std.specs.Prelude.{◌≡◌, ◌≢◌, ℕ, ◌^◌, ◌/◌, ◌%◌, ◌<◌, ◌≤◌, Bool, true, false, List, [], ◌∷◌, Option, Some, None, Result, Ok, Err, decimal, length, slice_index, take}
use Rattle.std.specs.Str.Parse.{AllDigits, digits_value}
use Rattle.memchr.specs.Find.{Nowhere, Passes, is_byte}
use Rattle.hex.specs.Hex.{IsBytes, encode_lower, lower_digits}
use Rattle.blk_ptr.specs.declared.digest.Digest.{Digest}
use Rattle.blk_ptr.specs.Size.{IsBlockSize}
use Rattle.dbuf_state.specs.declared.oid.Oid.{Oid}
use Rattle.arc_core.specs.declared.config.Config.{Config}
use Rattle.trace_text.specs.declared.fault.Kind.{Kind}
use Rattle.trace_text.specs.declared.fault.Kind.TheVariants as kinds
use Rattle.trace_text.specs.declared.fault.TraceFault.{TraceFault}
use Rattle.trace_text.specs.declared.fault.TraceFault.TheVariants as faults
use Rattle.trace_text.specs.declared.fault.TraceFault.TheVariants.{Bad}
use Rattle.trace_text.specs.declared.parts.LeadingNumber.{LeadingNumber}
use Rattle.trace_text.specs.declared.words.Line.{Line}
use Rattle.trace_text.specs.declared.words.LineFault.{LineFault}
use Rattle.trace_text.specs.declared.words.LineFault.TheVariants.{Wrong, NoMemory}
use Rattle.trace_text.specs.declared.words.Seen.{Seen}
use Rattle.trace_text.specs.declared.words.Word.{Word}
use Rattle.trace_text.specs.Grammar.{Content, HasFault, HasRoom, IsDigest, IsFaulty, IsInOrder, IsMisplaced, IsMisspelled, IsNew, IsOid, IsPatchBytes, MayBegin, Say, Spell, fields_of, is_passed_over, seen_of, word_text, with_line}

-- a text that begins with no plus sign, and with no zero before another byte
abbrev pub BeginsAsNumber : List ℕ → Type 0
BeginsAsNumber field = (0 < length field) × (slice_index field 0 ≢ 43) × (slice_index field 0 ≡ 48 → length field ≡ 1)

-- the field is a number from low to high, or it is none
abbrev pub IsNumberRead : ℕ → ℕ → List ℕ → Option ℕ → Type 0
IsNumberRead low high field (Some n) = (field ≡ decimal n) × (low ≤ n) × (n ≤ high)
IsNumberRead low high field None = (n : ℕ) → low ≤ n → n ≤ high → field ≡ decimal n → ⊥

-- the first part of a text ends here, at the first place of the byte that parts it, or with the text
pub record EndsPart (at : ℕ) (text : List ℕ) (end : ℕ) : Type 0 where
  pub within : end ≤ length text
  pub before : Nowhere (Passes (is_byte at) text) 0 end
  pub here : end < length text → Passes (is_byte at) text end

-- the field is of decimal digits, which write a number below 2^64
abbrev pub IsOfDigits : List ℕ → Type 0
IsOfDigits field = AllDigits 10 field × (digits_value 10 field < 2 ^ 64)

-- the first part of a text is of digits, which write this number, or it is not
abbrev pub LeadsWithNumber : ℕ → List ℕ → Option LeadingNumber → Type 0
LeadsWithNumber at text (Some number) =
    EndsPart at text number.digits × IsOfDigits (take number.digits text) × (number.value ≡ digits_value 10 (take number.digits text))
LeadsWithNumber at text None = (end : ℕ) → EndsPart at text end → IsOfDigits (take end text) → ⊥

-- the first field is a number and the others are left, or it is none
abbrev pub IsNumberTaken : List (List ℕ) → List (List ℕ) → Option ℕ → Type 0
IsNumberTaken old new (Some n) = (old ≡ decimal n ∷ new) × (n < 2 ^ 64)
IsNumberTaken old new None = (n : ℕ) (rest : List (List ℕ)) → n < 2 ^ 64 → old ≡ decimal n ∷ rest → ⊥

-- the field is a digest, or it is none
abbrev pub IsDigestRead : List ℕ → Option Digest → Type 0
IsDigestRead field (Some digest) = (field ≡ encode_lower digest.0) × IsDigest digest
IsDigestRead field None = (digest : Digest) → IsDigest digest → field ≡ encode_lower digest.0 → ⊥

-- the digit is that of this value in lower-case hex, or it is none
abbrev pub IsHexRead : ℕ → Option ℕ → Type 0
IsHexRead digit (Some value) = (value < 16) × (digit ≡ slice_index lower_digits value)
IsHexRead digit None = (value : ℕ) → value < 16 → digit ≡ slice_index lower_digits value → ⊥

-- the two digits spell this byte in lower-case hex, or none
abbrev pub IsByteRead : ℕ → ℕ → Option ℕ → Type 0
IsByteRead high low (Some byte) = (byte < 256) × (high ≡ slice_index lower_digits (byte / 16)) × (low ≡ slice_index lower_digits (byte % 16))
IsByteRead high low None = (byte : ℕ) → byte < 256 → high ≡ slice_index lower_digits (byte / 16) → low ≡ slice_index lower_digits (byte % 16) → ⊥

-- the field spells bytes that fill so much room, or none
abbrev pub IsRoomFilled : List ℕ → (room : ℕ) → List ℕ → Bool → Type 0
IsRoomFilled field room bytes true = (field ≡ encode_lower bytes) × (length bytes ≡ room) × IsBytes bytes
IsRoomFilled field room bytes false = (others : List ℕ) → length others ≡ room → IsBytes others → field ≡ encode_lower others → ⊥

-- the field is a run of bytes, or it is none
abbrev pub IsRunRead : List ℕ → Option (List ℕ) → Type 0
IsRunRead field (Some bytes) = (field ≡ encode_lower bytes) × IsPatchBytes bytes
IsRunRead field None = (bytes : List ℕ) → IsPatchBytes bytes → field ≡ encode_lower bytes → ⊥

-- the field is a byte, or it is none
abbrev pub IsFillRead : List ℕ → Option ℕ → Type 0
IsFillRead field (Some byte) = (field ≡ encode_lower (byte ∷ [])) × (byte < 256)
IsFillRead field None = (byte : ℕ) → byte < 256 → field ≡ encode_lower (byte ∷ []) → ⊥

-- the field is a word, or it is none
abbrev pub IsWordRead : List ℕ → Option Word → Type 0
IsWordRead field (Some word) = field ≡ word_text word
IsWordRead field None = (word : Word) → field ≡ word_text word → ⊥

-- the first field is a number from low to high and the others are left, or it is none
abbrev pub TakesNumber : ℕ → ℕ → List (List ℕ) → List (List ℕ) → Result ℕ Kind → Type 0
TakesNumber low high old new (Ok n) = (old ≡ decimal n ∷ new) × (low ≤ n) × (n ≤ high)
TakesNumber low high old new (Err kind) =
    (kind ≡ kinds.Number) × ((n : ℕ) (rest : List (List ℕ)) → low ≤ n → n ≤ high → old ≡ decimal n ∷ rest → ⊥)

-- the first field is a number below this limit and the others are left, or it is none
abbrev pub TakesBelow : ℕ → List (List ℕ) → List (List ℕ) → Result ℕ Kind → Type 0
TakesBelow limit old new (Ok n) = (old ≡ decimal n ∷ new) × (n < limit)
TakesBelow limit old new (Err kind) =
    (kind ≡ kinds.Number) × ((n : ℕ) (rest : List (List ℕ)) → n < limit → old ≡ decimal n ∷ rest → ⊥)

-- the first field is a digest and the others are left, or it is none
abbrev pub TakesDigest : List (List ℕ) → List (List ℕ) → Result Digest Kind → Type 0
TakesDigest old new (Ok digest) = (old ≡ encode_lower digest.0 ∷ new) × IsDigest digest
TakesDigest old new (Err kind) =
    (kind ≡ kinds.Number) × ((digest : Digest) (rest : List (List ℕ)) → IsDigest digest → old ≡ encode_lower digest.0 ∷ rest → ⊥)

-- the first field is a run of bytes and the others are left, or it is none
abbrev pub TakesRun : List (List ℕ) → List (List ℕ) → Result (List ℕ) Kind → Type 0
TakesRun old new (Ok bytes) = (old ≡ encode_lower bytes ∷ new) × IsPatchBytes bytes
TakesRun old new (Err kind) =
    (kind ≡ kinds.Number) × ((bytes : List ℕ) (rest : List (List ℕ)) → IsPatchBytes bytes → old ≡ encode_lower bytes ∷ rest → ⊥)

-- the first field is a byte and the others are left, or it is none
abbrev pub TakesByte : List (List ℕ) → List (List ℕ) → Result ℕ Kind → Type 0
TakesByte old new (Ok byte) = (old ≡ encode_lower (byte ∷ []) ∷ new) × (byte < 256)
TakesByte old new (Err kind) =
    (kind ≡ kinds.Number) × ((byte : ℕ) (rest : List (List ℕ)) → byte < 256 → old ≡ encode_lower (byte ∷ []) ∷ rest → ⊥)

-- the first two fields are an object and a block of it and the others are left, or they are none
abbrev pub TakesOid : List (List ℕ) → List (List ℕ) → Result Oid Kind → Type 0
TakesOid old new (Ok at) = (old ≡ decimal at.object ∷ decimal at.block ∷ new) × IsOid at
TakesOid old new (Err kind) =
    (kind ≡ kinds.Number) × ((at : Oid) (rest : List (List ℕ)) → IsOid at → old ≡ decimal at.object ∷ decimal at.block ∷ rest → ⊥)

-- the first field is a size that a block may have and the others are left, or it is none
abbrev pub TakesSize : List (List ℕ) → List (List ℕ) → Result ℕ Kind → Type 0
TakesSize old new (Ok size) = (old ≡ decimal size ∷ new) × IsBlockSize size
TakesSize old new (Err kind) =
    (kind ≡ kinds.Number) × ((size : ℕ) (rest : List (List ℕ)) → IsBlockSize size → old ≡ decimal size ∷ rest → ⊥)

-- the fields after this word are a line that may stand here, or why they are none
abbrev pub IsFormRead : Seen → Word → List (List ℕ) → Result Line Kind → Type 0
IsFormRead seen word fields (Ok line) = Spell seen.callers seen.shards (word_text word ∷ fields) line × IsInOrder seen line
IsFormRead seen word fields (Err kinds.Number) = (line : Line) → Spell seen.callers seen.shards (word_text word ∷ fields) line → ⊥
IsFormRead seen word fields (Err kinds.Order) =
    (line : Line) × Spell seen.callers seen.shards (word_text word ∷ fields) line × (IsInOrder seen line → ⊥)
IsFormRead seen word fields (Err kinds.First) = ⊥
IsFormRead seen word fields (Err kinds.Word) = ⊥
IsFormRead seen word fields (Err kinds.Shape) = ⊥
IsFormRead seen word fields (Err kinds.Count) = ⊥
IsFormRead seen word fields (Err kinds.Length) = ⊥

-- the same, where memory may be refused
abbrev pub IsLineFormRead : Seen → Word → List (List ℕ) → Result Line LineFault → Type 0
IsLineFormRead seen word fields (Ok line) = IsFormRead seen word fields (Ok line)
IsLineFormRead seen word fields (Err (Wrong kind)) = IsFormRead seen word fields (Err kind)
IsLineFormRead seen word fields (Err NoMemory) = Unit {0}

-- the first field is a word that may stand here, or why it is none
abbrev pub IsBegun : Option Config → List ℕ → Result Word Kind → Type 0
IsBegun config first (Ok word) = (first ≡ word_text word) × MayBegin config word
IsBegun config first (Err kind) = (fields : List (List ℕ)) → IsMisspelled config (first ∷ fields) kind

-- the fields are a line that may stand here, or why they are none
abbrev pub IsLineRead : Content → List (List ℕ) → Result Line LineFault → Type 0
IsLineRead before fields (Ok line) = Say before.config fields line × IsInOrder (seen_of before) line
IsLineRead before fields (Err (Wrong kind)) = HasFault before fields kind
IsLineRead before fields (Err NoMemory) = Unit {0}

-- why a line that counts is not added
abbrev pub IsLineCause : Content → List ℕ → LineFault → Type 0
IsLineCause before line (Wrong kind) = (is_passed_over line ≡ false) × HasFault before (fields_of line) kind
IsLineCause before line NoMemory = Unit {0}

-- the line is added, or what is wrong with it where it is in order, or there is no memory
abbrev pub IsPlaced : Content → Line → Content → Result (Unit {0}) LineFault → Type 0
IsPlaced before line after (Ok done) = IsNew before.objects line × HasRoom (seen_of before) line × (after ≡ with_line before line)
IsPlaced before line after (Err (Wrong kind)) = IsInOrder (seen_of before) line → IsMisplaced before line kind
IsPlaced before line after (Err NoMemory) = Unit {0}

-- the same fault, with the number of its line
abbrev pub IsFaultAt : ℕ → LineFault → TraceFault → Type 0
IsFaultAt number (Wrong kind) fault = fault ≡ Bad number kind
IsFaultAt number NoMemory fault = fault ≡ faults.NoMemory

-- why lines are not read
abbrev pub IsLinesCause : List (List ℕ) → TraceFault → Type 0
IsLinesCause lines (Bad number kind) = IsFaulty lines number kind
IsLinesCause lines faults.NoMemory = Unit {0}
