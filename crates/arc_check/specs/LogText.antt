-- What text is a log of events, line by line, and for a text that is none the first line at fault.
use Rattle.std.specs.Prelude.{◌≡◌, ℕ, ◌+◌, ◌-◌, ◌^◌, ◌<◌, ◌≤◌, ◌==◌, ◌⊎◌, if◌then◌else◌, Bool, true, false, List, [], ◌∷◌, ◌++◌, length, replicate, slice_get, codes, decimal, Option, Some, None, option_map, IfSome, IsSome, IsNone, MatchBool}
use Rattle.std.specs.List.{AllByRecursion}
use Rattle.hex.specs.Hex.{encode_lower}
use Rattle.blk_ptr.specs.declared.key.Key.{Key}
use Rattle.blk_ptr.specs.Hash.{shard_of}
use Rattle.blk_ptr.specs.Key.{IsValid}
use Rattle.arc_core.specs.declared.config.Config.{Config}
use Rattle.arc_core.specs.declared.event.Event.{Event}
use Rattle.arc_core.specs.declared.event.Event.TheVariants.{Pass, Hit, Miss, Arrive, Fail, Drop, Past, Hand, Insert, Release, Pick, FeedEnd, Set, Leave, Clear, Restore, Resize}
use Rattle.arc_core.specs.Config.{AreBounds, IsConfig}
use Rattle.arc_core.specs.Operations.{event_key, number_of}
use Rattle.trace_text.specs.declared.fault.Kind.{Kind}
use Rattle.trace_text.specs.declared.fault.Kind.TheVariants as kinds
use Rattle.trace_text.specs.EventText.{failed_word, origin_word, sole_word, told_words, why_word}
use Rattle.trace_text.specs.Grammar.{IsDigest, IsTooLong, fields_of, is_passed_over, lines_of, longest_text, IsPlain, AreSizes, shards_of}
use Rattle.arc_check.specs.declared.log.Log.{Log}
use Rattle.arc_check.specs.declared.log.LogTextFault.{LogTextFault}
use Rattle.arc_check.specs.declared.log.LogTextFault.TheVariants.{Bad, NoMemory}
use Rattle.arc_check.specs.declared.words.Name.{Name}
use Rattle.arc_check.specs.declared.words.Name.TheVariants as names
use Rattle.arc_check.specs.declared.words.Made.{Made}
use Rattle.arc_check.specs.declared.words.Line.{Line}
use Rattle.arc_check.specs.declared.words.Line.TheVariants as lines

-- ---- how an event is spelled

-- the spelling of an event's name
abbrev pub name_text : Name → List ℕ
name_text names.Pass = codes "pass"
name_text names.Hit = codes "hit"
name_text names.Miss = codes "miss"
name_text names.Arrive = codes "arrive"
name_text names.Fail = codes "fail"
name_text names.Drop = codes "drop"
name_text names.Past = codes "past"
name_text names.Hand = codes "hand"
name_text names.Insert = codes "insert"
name_text names.Release = codes "release"
name_text names.Pick = codes "pick"
name_text names.FeedEnd = codes "feedend"
name_text names.Set = codes "set"
name_text names.Leave = codes "leave"
name_text names.Clear = codes "clear"
name_text names.Restore = codes "restore"
name_text names.Resize = codes "resize"

-- how many fields come after an event's name
abbrev pub log_field_count : Name → ℕ
log_field_count names.Pass = 5
log_field_count names.Hit = 5
log_field_count names.Miss = 5
log_field_count names.Arrive = 6
log_field_count names.Fail = 5
log_field_count names.Drop = 4
log_field_count names.Past = 5
log_field_count names.Hand = 5
log_field_count names.Insert = 6
log_field_count names.Release = 5
log_field_count names.Pick = 4
log_field_count names.FeedEnd = 1
log_field_count names.Set = 5
log_field_count names.Leave = 5
log_field_count names.Clear = 4
log_field_count names.Restore = 6
log_field_count names.Resize = 2

-- the name of an event
abbrev pub name_of : Event → Name
name_of (Pass n k owner) = names.Pass
name_of (Hit n k t) = names.Hit
name_of (Miss n k t) = names.Miss
name_of (Arrive n k d from) = names.Arrive
name_of (Fail n k at) = names.Fail
name_of (Drop n k) = names.Drop
name_of (Past n k kept) = names.Past
name_of (Hand n k to) = names.Hand
name_of (Insert n k d t) = names.Insert
name_of (Release n k sole) = names.Release
name_of (Pick n k) = names.Pick
name_of (FeedEnd n) = names.FeedEnd
name_of (Set n k place) = names.Set
name_of (Leave n k why) = names.Leave
name_of (Clear n k) = names.Clear
name_of (Restore n k place told) = names.Restore
name_of (Resize n c) = names.Resize

-- what an event tells beside its name, who made it and its key
abbrev pub told_fields : Event → List (List ℕ)
told_fields (Pass n k owner) = decimal owner ∷ []
told_fields (Hit n k t) = decimal t ∷ []
told_fields (Miss n k t) = decimal t ∷ []
told_fields (Arrive n k d from) = encode_lower d.0 ∷ origin_word from ∷ []
told_fields (Fail n k at) = failed_word at ∷ []
told_fields (Drop n k) = []
told_fields (Past n k kept) = encode_lower kept.0 ∷ []
told_fields (Hand n k to) = decimal to ∷ []
told_fields (Insert n k d t) = encode_lower d.0 ∷ decimal t ∷ []
told_fields (Release n k sole) = sole_word sole ∷ []
told_fields (Pick n k) = []
told_fields (FeedEnd n) = []
told_fields (Set n k place) = decimal place ∷ []
told_fields (Leave n k why) = why_word why ∷ []
told_fields (Clear n k) = []
told_fields (Restore n k place told) = decimal place ∷ told_words told ∷ []
told_fields (Resize n c) = decimal c ∷ []

-- a key, where there is one, and what comes after it
abbrev pub key_and : Option Key → List (List ℕ) → List (List ℕ)
key_and None rest = rest
key_and (Some key) rest = decimal key.offset ∷ decimal key.size ∷ decimal key.birth ∷ rest

-- the fields of an event after its name: who made it, its key, and what else it tells
abbrev pub event_fields : Event → List (List ℕ)
event_fields e = decimal (number_of e) ∷ key_and (event_key e) (told_fields e)

-- ---- how each line is spelled

-- the fields of a line
abbrev pub log_spelling : Line → List (List ℕ)
log_spelling (lines.Sizes z) =
    codes "arc" ∷ decimal z.callers ∷ decimal z.shards ∷ decimal z.buckets ∷ decimal z.cells ∷ decimal z.c ∷ decimal z.mintime ∷ decimal z.dbuf_bytes ∷ []
log_spelling (lines.Feed b) = codes "l2" ∷ decimal b.write_max ∷ decimal b.headroom ∷ []
log_spelling (lines.Made made) = codes "e" ∷ decimal made.shard ∷ decimal made.index ∷ name_text (name_of made.event) ∷ event_fields made.event

-- ---- the ranges

-- a key that names a block of the largest pool
pub record IsLogKey (key : Key) : Type 0 where
  pub valid : IsValid (2 ^ 63) key
  pub birth : key.birth < 2 ^ 64

-- what an event tells beside who made it and its key is in its range, where there are so many parties
abbrev pub IsTold : (parties : ℕ) → Event → Type 0
IsTold parties (Pass n k owner) = owner < parties
IsTold parties (Hit n k t) = IsPlain t
IsTold parties (Miss n k t) = IsPlain t
IsTold parties (Arrive n k d from) = IsDigest d
IsTold parties (Fail n k at) = Unit {0}
IsTold parties (Drop n k) = Unit {0}
IsTold parties (Past n k kept) = IsDigest kept
IsTold parties (Hand n k to) = to < parties
IsTold parties (Insert n k d t) = IsDigest d × IsPlain t
IsTold parties (Release n k sole) = Unit {0}
IsTold parties (Pick n k) = Unit {0}
IsTold parties (FeedEnd n) = Unit {0}
IsTold parties (Set n k place) = IsPlain place
IsTold parties (Leave n k why) = Unit {0}
IsTold parties (Clear n k) = Unit {0}
IsTold parties (Restore n k place told) = IsPlain place × IfSome told IsDigest
IsTold parties (Resize n c) = IsPlain c

-- an event's numbers, its key and its digest are in their ranges
pub record IsEventOf (parties : ℕ) (e : Event) : Type 0 where
  pub maker : number_of e < parties
  pub key : IfSome (event_key e) IsLogKey
  pub told : IsTold parties e

-- callers, the feeder and the cells
abbrev pub log_parties_of : Config → ℕ
log_parties_of z = z.callers + 1 + z.cells

-- the numbers of an event's line are in their ranges
pub record IsMade (config : Config) (made : Made) : Type 0 where
  pub shard : made.shard < config.shards
  pub index : IsPlain made.index
  pub event : IsEventOf (log_parties_of config) made.event

-- the `arc` line is the first that counts and no other is one, and the numbers are in their ranges
abbrev pub IsInLogRange : Option Config → Line → Type 0
IsInLogRange None (lines.Sizes z) = AreSizes z
IsInLogRange None (lines.Feed b) = ⊥
IsInLogRange None (lines.Made made) = ⊥
IsInLogRange (Some config) (lines.Sizes z) = ⊥
IsInLogRange (Some config) (lines.Feed b) = AreBounds b
IsInLogRange (Some config) (lines.Made made) = IsMade config made

-- the fields are this line
pub record LogSays (config : Option Config) (fields : List (List ℕ)) (line : Line) : Type 0 where
  pub spelled : fields ≡ log_spelling line
  pub ranged : IsInLogRange config line

-- ---- what the lines say together

-- what the lines so far say
pub record LogContent : Type 0 where
  -- the sizes, once the `arc` line is read, with the bounds of the `l2` line, once that is read
  pub config : Option Config
  -- whether the `l2` line is read
  pub bounded : Bool
  -- the histories of the shards before the one in hand, which has their number, and of this shard so far
  pub closed : List (List Event)
  pub events : List Event
  -- how many events there are
  pub count : ℕ

-- what no line says
abbrev pub empty_log : LogContent
empty_log = record { config = None; bounded = false; closed = []; events = []; count = 0 }

-- the histories of so many shards: those that are closed, that of the shard in hand, and empty ones
abbrev pub histories_to : ℕ → LogContent → List (List Event)
histories_to shards said = said.closed ++ said.events ∷ replicate (shards - (length said.closed + 1)) []

-- the shard of this number is in hand; those up to it that weren't have no event
abbrev pub at_shard : ℕ → LogContent → LogContent
at_shard shard said = if shard == length said.closed then said else record said { closed = histories_to shard said; events = [] }

-- the shard's history has one event more
abbrev pub with_event : Event → LogContent → LogContent
with_event e said = record said { events = said.events ++ e ∷ []; count = said.count + 1 }

-- what is said once this line is read too
abbrev pub with_log_line : LogContent → Line → LogContent
with_log_line before (lines.Sizes z) = record before { config = Some z }
with_log_line before (lines.Feed b) = record before { config = option_map (λ (z : Config). record z { bounds = b }) before.config; bounded = true }
with_log_line before (lines.Made made) = with_event made.event (at_shard made.shard before)

-- the event is the next one of the shard in hand, or the first of a greater shard; and its key is of this shard
pub record IsNext (before : LogContent) (made : Made) : Type 0 where
  pub shard : length before.closed ≤ made.shard
  pub index : made.index ≡ length (at_shard made.shard before).events
  pub key : IfSome (event_key made.event) (λ key. shard_of (shards_of before.config) key ≡ made.shard)

-- the line may stand behind these: the `l2` line once and before all events, and events by shard and index
abbrev pub IsInLogOrder : LogContent → Line → Type 0
IsInLogOrder before (lines.Sizes z) = Unit {0}
IsInLogOrder before (lines.Feed b) = (before.bounded ≡ false) × (before.count ≡ 0)
IsInLogOrder before (lines.Made made) = IsNext before made

-- a log may have one more line of this sort
abbrev pub LogHasRoom : LogContent → Line → Type 0
LogHasRoom before (lines.Sizes z) = Unit {0}
LogHasRoom before (lines.Feed b) = Unit {0}
LogHasRoom before (lines.Made made) = before.count < 1000000

-- these fields are a line that may stand here
pub record AddToLog (before : LogContent) (fields : List (List ℕ)) (after : LogContent) : Type 0 where
  pub line : Line
  pub said : LogSays before.config fields line
  pub ordered : IsInLogOrder before line
  pub room : LogHasRoom before line
  pub added : after ≡ with_log_line before line

-- what is said before and after a line
abbrev pub AddsToLog : LogContent → List ℕ → LogContent → Type 0
AddsToLog before line after = MatchBool (is_passed_over line) (after ≡ before) (AddToLog before (fields_of line) after)

-- what is said before and after these lines
abbrev pub AddAllToLog : LogContent → List (List ℕ) → LogContent → Type 0
AddAllToLog before [] after = after ≡ before
AddAllToLog before (line ∷ lines) after = (mid : LogContent) × AddsToLog before line mid × AddAllToLog mid lines after

-- ---- what is wrong with a line

-- the first field is this word
abbrev pub LogBeginsWith : List ℕ → List (List ℕ) → Type 0
LogBeginsWith word fields = slice_get fields 0 ≡ Some word

-- the line is an event's, as far as the name of the event: that is the fourth field
abbrev pub IsNamed : Name → List (List ℕ) → Type 0
IsNamed name fields = LogBeginsWith (codes "e") fields × (slice_get fields 3 ≡ Some (name_text name))

-- an event's line that ends before the name
abbrev pub IsNameless : List (List ℕ) → Type 0
IsNameless fields = LogBeginsWith (codes "e") fields × (slice_get fields 3 ≡ None)

-- the words of the line are known, where the `arc` line is read or is not: its first, and an event's name
abbrev pub HasWords : Option Config → List (List ℕ) → Type 0
HasWords None fields = LogBeginsWith (codes "arc") fields
HasWords (Some config) fields = LogBeginsWith (codes "l2") fields ⊎ (IsNameless fields ⊎ ((name : Name) × IsNamed name fields))

-- there are so many fields, and none is empty
abbrev pub HasFields : ℕ → List (List ℕ) → Type 0
HasFields count fields = (length fields ≡ count) × AllByRecursion (λ field. 0 < length field) fields

-- there are as many fields as the words want, and none is empty
abbrev pub HasLogShape : Option Config → List (List ℕ) → Type 0
HasLogShape None fields = LogBeginsWith (codes "arc") fields × HasFields 8 fields
HasLogShape (Some config) fields =
    (LogBeginsWith (codes "l2") fields × HasFields 3 fields) ⊎ ((name : Name) × IsNamed name fields × HasFields (4 + log_field_count name) fields)

-- the fields are no line; the kinds are tried in the order in which they stand here
abbrev pub IsMisspelledInLog : Option Config → List (List ℕ) → Kind → Type 0
IsMisspelledInLog config fields kinds.First = IsNone config × (HasWords config fields → ⊥)
IsMisspelledInLog config fields kinds.Word = IsSome config × (HasWords config fields → ⊥)
IsMisspelledInLog config fields kinds.Shape = HasWords config fields × (HasLogShape config fields → ⊥)
IsMisspelledInLog config fields kinds.Number = HasLogShape config fields × ((line : Line) → LogSays config fields line → ⊥)
IsMisspelledInLog config fields kinds.Order = ⊥
IsMisspelledInLog config fields kinds.Count = ⊥
IsMisspelledInLog config fields kinds.Length = ⊥

-- the line may not stand here
abbrev pub IsMisplacedInLog : LogContent → Line → Kind → Type 0
IsMisplacedInLog before line kinds.Order = IsInLogOrder before line → ⊥
IsMisplacedInLog before line kinds.Count = IsInLogOrder before line × (LogHasRoom before line → ⊥)
IsMisplacedInLog before line kinds.First = ⊥
IsMisplacedInLog before line kinds.Word = ⊥
IsMisplacedInLog before line kinds.Shape = ⊥
IsMisplacedInLog before line kinds.Number = ⊥
IsMisplacedInLog before line kinds.Length = ⊥

-- what is wrong with fields that come after what is said before
abbrev pub LogHasFault : LogContent → List (List ℕ) → Kind → Type 0
LogHasFault before fields kind = IsMisspelledInLog before.config fields kind ⊎ ((line : Line) × LogSays before.config fields line × IsMisplacedInLog before line kind)

-- the first line at fault, counted from 1, and what is wrong with it
pub record IsFaultyInLog (lines : List (List ℕ)) (number : ℕ) (kind : Kind) : Type 0 where
  pub front : List (List ℕ)
  pub line : List ℕ
  pub back : List (List ℕ)
  pub before : LogContent
  pub parts : lines ≡ front ++ line ∷ back
  pub counted : number ≡ length front + 1
  pub leads : AddAllToLog empty_log front before
  pub counts : is_passed_over line ≡ false
  pub fault : LogHasFault before (fields_of line) kind

-- each line is passed over, which is told of the first
pub record SaysNothingInLog (lines : List (List ℕ)) (number : ℕ) (kind : Kind) : Type 0 where
  pub said : LogContent
  pub leads : AddAllToLog empty_log lines said
  pub unsized : IsNone said.config
  pub first : number ≡ 1
  pub missing : kind ≡ kinds.First

-- ---- a log

-- what the lines say is this log: its configuration, and a history for each of its shards
pub record IsLogSaid (said : LogContent) (log : Log) : Type 0 where
  pub config : said.config ≡ Some log.config
  pub histories : log.histories ≡ histories_to log.config.shards said

-- the text is this log: its lines say, one after the other, what the log says and no more
pub record IsLogText (text : List ℕ) (log : Log) : Type 0 where
  pub short : length text ≤ longest_text
  pub content : LogContent
  pub lines : AddAllToLog empty_log (lines_of text) content
  pub said : IsLogSaid content log

-- what every log that is read has
pub record IsLog (log : Log) : Type 0 where
  pub config : IsConfig log.config
  pub shards : length log.histories ≡ log.config.shards

-- the first fault of a text
abbrev pub IsFirstLogFault : List ℕ → ℕ → Kind → Type 0
IsFirstLogFault text number kind =
    IsTooLong text number kind
    ⊎ ((length text ≤ longest_text) × (IsFaultyInLog (lines_of text) number kind ⊎ SaysNothingInLog (lines_of text) number kind))

-- why a text is not read; want of memory has no cause
abbrev pub IsLogCause : List ℕ → LogTextFault → Type 0
IsLogCause text (Bad line kind) = IsFirstLogFault text line kind
IsLogCause text NoMemory = Unit {0}
