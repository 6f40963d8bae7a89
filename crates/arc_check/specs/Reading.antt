-- What the reader's own functions answer, in the words of the grammar.
use Rattle.std.specs.Prelude.{◌≡◌, ℕ, ◌<◌, ◌≤◌, Bool, false, List, ◌∷◌, ◌++◌, Option, Some, None, IfSome, Result, Ok, Err, codes, decimal, slice_get}
use Rattle.hex.specs.Hex.{encode_lower}
use Rattle.blk_ptr.specs.declared.digest.Digest.{Digest}
use Rattle.blk_ptr.specs.declared.key.Key.{Key}
use Rattle.arc_core.specs.declared.config.Bounds.{Bounds}
use Rattle.arc_core.specs.declared.config.Config.{Config}
use Rattle.arc_core.specs.declared.event.Event.{Event}
use Rattle.arc_core.specs.declared.event.FailedAt.{FailedAt}
use Rattle.arc_core.specs.declared.event.Origin.{Origin}
use Rattle.arc_core.specs.declared.event.Why.{Why}
use Rattle.arc_core.specs.Config.{AreBounds}
use Rattle.arc_core.specs.Operations.{event_key, number_of}
use Rattle.trace_text.specs.declared.fault.Kind.{Kind}
use Rattle.trace_text.specs.declared.fault.Kind.TheVariants as kinds
use Rattle.trace_text.specs.EventText.{failed_word, origin_word, sole_word, told_words, why_word}
use Rattle.trace_text.specs.Grammar.{IsDigest, fields_of, is_passed_over, IsPlain, AreSizes}
use Rattle.arc_check.specs.declared.log.LogTextFault.{LogTextFault}
use Rattle.arc_check.specs.declared.log.LogTextFault.TheVariants as faults
use Rattle.arc_check.specs.declared.log.LogTextFault.TheVariants.{Bad}
use Rattle.arc_check.specs.declared.words.Name.{Name}
use Rattle.arc_check.specs.declared.words.Name.TheVariants as names
use Rattle.arc_check.specs.declared.words.Line.{Line}
use Rattle.arc_check.specs.declared.words.Line.TheVariants as line_of
use Rattle.arc_check.specs.declared.words.LineFault.{LineFault}
use Rattle.arc_check.specs.declared.words.LineFault.TheVariants.{NoMemory, Wrong}
use Rattle.arc_check.specs.declared.words.Made.{Made}
use Rattle.arc_check.specs.LogText.{LogContent, LogHasFault, LogHasRoom, IsEventOf, IsFaultyInLog, IsInLogOrder, IsLogKey, IsMade, IsMisplacedInLog, IsMisspelledInLog, IsTold, LogSays, event_fields, name_of, name_text, log_spelling, told_fields, with_log_line}

-- ---- fields

-- the first field is a number from low to high and the others are left, or it is none
abbrev pub TakesNumber : ℕ → ℕ → List (List ℕ) → List (List ℕ) → Option ℕ → Type 0
TakesNumber low high old new (Some n) = (old ≡ decimal n ∷ new) × (low ≤ n) × (n ≤ high)
TakesNumber low high old new None = (n : ℕ) (rest : List (List ℕ)) → low ≤ n → n ≤ high → old ≡ decimal n ∷ rest → ⊥

-- the first field is a number below this limit and the others are left, or it is none
abbrev pub TakesBelow : ℕ → List (List ℕ) → List (List ℕ) → Option ℕ → Type 0
TakesBelow limit old new (Some n) = (old ≡ decimal n ∷ new) × (n < limit)
TakesBelow limit old new None = (n : ℕ) (rest : List (List ℕ)) → n < limit → old ≡ decimal n ∷ rest → ⊥

-- the first three fields are a key and the others are left, or they are none
abbrev pub TakesKey : List (List ℕ) → List (List ℕ) → Option Key → Type 0
TakesKey old new (Some key) = (old ≡ decimal key.offset ∷ decimal key.size ∷ decimal key.birth ∷ new) × IsLogKey key
TakesKey old new None = (key : Key) (rest : List (List ℕ)) → IsLogKey key → old ≡ decimal key.offset ∷ decimal key.size ∷ decimal key.birth ∷ rest → ⊥

-- the first field is a digest and the others are left, or it is none
abbrev pub TakesDigest : List (List ℕ) → List (List ℕ) → Option Digest → Type 0
TakesDigest old new (Some digest) = (old ≡ encode_lower digest.0 ∷ new) × IsDigest digest
TakesDigest old new None = (digest : Digest) (rest : List (List ℕ)) → IsDigest digest → old ≡ encode_lower digest.0 ∷ rest → ⊥

-- the first field is a word of this list of words and the others are left, or it is none
abbrev pub TakesWord : {A : Type 0} → (A → List ℕ) → List (List ℕ) → List (List ℕ) → Option A → Type 0
TakesWord text old new (Some word) = old ≡ text word ∷ new
TakesWord {A} text old new None = (word : A) (rest : List (List ℕ)) → old ≡ text word ∷ rest → ⊥

-- the first field is a word of this list of words, or it is none
abbrev pub IsWordRead : {A : Type 0} → (A → List ℕ) → List ℕ → Option A → Type 0
IsWordRead text field (Some word) = field ≡ text word
IsWordRead {A} text field None = (word : A) → field ≡ text word → ⊥

-- the field is a digest or the mark that none is told, or neither
abbrev pub IsToldRead : List ℕ → Option (Option Digest) → Type 0
IsToldRead field (Some told) = (field ≡ told_words told) × IfSome told IsDigest
IsToldRead field None = (told : Option Digest) → IfSome told IsDigest → field ≡ told_words told → ⊥

-- the first field is such a field and the others are left, or it is none
abbrev pub TakesTold : List (List ℕ) → List (List ℕ) → Option (Option Digest) → Type 0
TakesTold old new (Some told) = (old ≡ told_words told ∷ new) × IfSome told IsDigest
TakesTold old new None = (told : Option Digest) (rest : List (List ℕ)) → IfSome told IsDigest → old ≡ told_words told ∷ rest → ⊥

-- ---- events

-- what the fields after a key say, by the name of the event
abbrev pub TailOf : (parties : ℕ) → Name → List (List ℕ) → List (List ℕ) → Type 0
TailOf parties names.Pass fields rest = (owner : ℕ) × (owner < parties) × (fields ≡ decimal owner ∷ rest)
TailOf parties names.Hit fields rest = (t : ℕ) × IsPlain t × (fields ≡ decimal t ∷ rest)
TailOf parties names.Miss fields rest = (t : ℕ) × IsPlain t × (fields ≡ decimal t ∷ rest)
TailOf parties names.Arrive fields rest = (d : Digest) × (from : Origin) × IsDigest d × (fields ≡ encode_lower d.0 ∷ origin_word from ∷ rest)
TailOf parties names.Fail fields rest = (at : FailedAt) × (fields ≡ failed_word at ∷ rest)
TailOf parties names.Drop fields rest = fields ≡ rest
TailOf parties names.Past fields rest = (kept : Digest) × IsDigest kept × (fields ≡ encode_lower kept.0 ∷ rest)
TailOf parties names.Hand fields rest = (to : ℕ) × (to < parties) × (fields ≡ decimal to ∷ rest)
TailOf parties names.Insert fields rest = (d : Digest) × (t : ℕ) × IsDigest d × IsPlain t × (fields ≡ encode_lower d.0 ∷ decimal t ∷ rest)
TailOf parties names.Release fields rest = (sole : Bool) × (fields ≡ sole_word sole ∷ rest)
TailOf parties names.Pick fields rest = fields ≡ rest
TailOf parties names.FeedEnd fields rest = fields ≡ rest
TailOf parties names.Set fields rest = (place : ℕ) × IsPlain place × (fields ≡ decimal place ∷ rest)
TailOf parties names.Leave fields rest = (why : Why) × (fields ≡ why_word why ∷ rest)
TailOf parties names.Clear fields rest = fields ≡ rest
TailOf parties names.Restore fields rest = (place : ℕ) × (told : Option Digest) × IsPlain place × IfSome told IsDigest × (fields ≡ decimal place ∷ told_words told ∷ rest)
TailOf parties names.Resize fields rest = (c : ℕ) × IsPlain c × (fields ≡ decimal c ∷ rest)

-- the fields after a key are those of an event of this name, maker and key, and the others are left; or they are of no such event
abbrev pub IsTailRead : (parties : ℕ) → Name → (n : ℕ) → Key → List (List ℕ) → List (List ℕ) → Option Event → Type 0
IsTailRead parties name n key old new (Some e) =
    (name_of e ≡ name) × (number_of e ≡ n) × (event_key e ≡ Some key) × IsTold parties e × (old ≡ told_fields e ++ new)
IsTailRead parties name n key old new None = (rest : List (List ℕ)) → TailOf parties name old rest → ⊥

-- the fields after a name are those of an event of this name and the others are left, or they are of no such event
abbrev pub IsEventRead : (parties : ℕ) → Name → List (List ℕ) → List (List ℕ) → Option Event → Type 0
IsEventRead parties name old new (Some e) = (name_of e ≡ name) × IsEventOf parties e × (old ≡ event_fields e ++ new)
IsEventRead parties name old new None =
    (e : Event) (rest : List (List ℕ)) → name_of e ≡ name → IsEventOf parties e → old ≡ event_fields e ++ rest → ⊥

-- ---- lines

-- the fourth field is the name of an event; or there is none, or no fourth field
abbrev pub IsNameRead : List (List ℕ) → Result Name Kind → Type 0
IsNameRead fields (Ok name) = slice_get fields 3 ≡ Some (name_text name)
IsNameRead fields (Err kinds.Word) = (field : List ℕ) × (slice_get fields 3 ≡ Some field) × ((name : Name) → field ≡ name_text name → ⊥)
IsNameRead fields (Err kinds.Shape) = slice_get fields 3 ≡ None
IsNameRead fields (Err kinds.First) = ⊥
IsNameRead fields (Err kinds.Number) = ⊥
IsNameRead fields (Err kinds.Order) = ⊥
IsNameRead fields (Err kinds.Count) = ⊥
IsNameRead fields (Err kinds.Length) = ⊥

-- the fields after the first are those of an `arc` line, or they are not
abbrev pub IsSizesRead : List (List ℕ) → Option Config → Type 0
IsSizesRead fields (Some z) = (codes "arc" ∷ fields ≡ log_spelling (line_of.Sizes z)) × AreSizes z
IsSizesRead fields None = (z : Config) → AreSizes z → codes "arc" ∷ fields ≡ log_spelling (line_of.Sizes z) → ⊥

-- the fields after the first are those of an `l2` line, or they are not
abbrev pub IsBoundsRead : List (List ℕ) → Option Bounds → Type 0
IsBoundsRead fields (Some b) = (codes "l2" ∷ fields ≡ log_spelling (line_of.Feed b)) × AreBounds b
IsBoundsRead fields None = (b : Bounds) → AreBounds b → codes "l2" ∷ fields ≡ log_spelling (line_of.Feed b) → ⊥

-- the fields after the first are those of an event's line with this name, or they are not
abbrev pub IsMadeRead : Config → Name → List (List ℕ) → Option Made → Type 0
IsMadeRead z name fields (Some made) = (codes "e" ∷ fields ≡ log_spelling (line_of.Made made)) × IsMade z made
IsMadeRead z name fields None = (made : Made) → name_of made.event ≡ name → IsMade z made → codes "e" ∷ fields ≡ log_spelling (line_of.Made made) → ⊥

-- the fields are a line, or why they are none
abbrev pub IsLineRead : Option Config → List (List ℕ) → Result Line Kind → Type 0
IsLineRead config fields (Ok line) = LogSays config fields line
IsLineRead config fields (Err kind) = IsMisspelledInLog config fields kind

-- the line is added, or it may not stand here, there is no room for it or no memory
abbrev pub IsPlaced : LogContent → Line → LogContent → Result (Unit {0}) LineFault → Type 0
IsPlaced before line after (Ok done) = IsInLogOrder before line × LogHasRoom before line × (after ≡ with_log_line before line)
IsPlaced before line after (Err (Wrong kind)) = IsMisplacedInLog before line kind
IsPlaced before line after (Err NoMemory) = Unit {0}

-- why a line that counts is not added
abbrev pub IsLineCause : LogContent → List ℕ → LineFault → Type 0
IsLineCause before line (Wrong kind) = (is_passed_over line ≡ false) × LogHasFault before (fields_of line) kind
IsLineCause before line NoMemory = Unit {0}

-- the same fault, with the number of its line
abbrev pub IsFaultAt : ℕ → LineFault → LogTextFault → Type 0
IsFaultAt number (Wrong kind) fault = fault ≡ Bad number kind
IsFaultAt number NoMemory fault = fault ≡ faults.NoMemory

-- why lines are not read
abbrev pub IsLinesCause : List (List ℕ) → LogTextFault → Type 0
IsLinesCause lines (Bad number kind) = IsFaultyInLog lines number kind
IsLinesCause lines faults.NoMemory = Unit {0}
