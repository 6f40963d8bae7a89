-- What text is a trace, line by line, and for a text that is none the first line at fault.
use Rattle.std.specs.Prelude.{All, filter, map, not, ◌≡◌, ℕ, ◌+◌, ◌*◌, ◌^◌, ◌<◌, ◌≤◌, ◌==◌, ◌↔◌, ◌⊎◌, Bool, true, false, List, [], ◌∷◌, ◌++◌, length, take, codes, decimal, count_by, Option, Some, None, IfSome, IsSome, IsNone, MatchBool}
use Rattle.std.specs.List.{slice_split, AllByRecursion}
use Rattle.hex.specs.Hex.{IsBytes, encode_lower}
use Rattle.blk_ptr.specs.declared.digest.Digest.{Digest}
use Rattle.blk_ptr.specs.declared.ptr.Ptr.{Ptr}
use Rattle.blk_ptr.specs.Size.{IsBlockSize}
use Rattle.dbuf_state.specs.declared.oid.Oid.{Oid}
use Rattle.arc_lists.specs.Adapting.{IsCapacity}
use Rattle.arc_core.specs.Config.{AreBounds, IsConfig}
use Rattle.arc_core.specs.declared.config.Bounds.{Bounds}
use Rattle.arc_core.specs.declared.config.Config.{Config}
use Rattle.trace_text.specs.declared.mapping.Mapping.{Mapping}
use Rattle.trace_text.specs.declared.op.Op.{Op}
use Rattle.trace_text.specs.declared.op.Op.TheVariants as ops
use Rattle.trace_text.specs.declared.words.Seen.{Seen}
use Rattle.trace_text.specs.declared.words.Word.{Word}
use Rattle.trace_text.specs.declared.words.Word.TheVariants as words
use Rattle.trace_text.specs.declared.words.Line.{Line}
use Rattle.trace_text.specs.declared.words.Line.TheVariants.{Sizes, Limited, Declared, Mapped, Operation}
use Rattle.trace_text.specs.declared.fault.Kind.{Kind}
use Rattle.trace_text.specs.declared.fault.Kind.TheVariants as kinds
use Rattle.trace_text.specs.declared.fault.TraceFault.{TraceFault}
use Rattle.trace_text.specs.declared.fault.TraceFault.TheVariants.{Bad, NoMemory}
use Rattle.trace_text.specs.declared.trace.Trace.{Trace}

-- ---- lines and fields

-- the lines of a text: what stands between its newlines
abbrev pub lines_of : List ℕ → List (List ℕ)
lines_of text = slice_split (λ b. b == 10) text

-- the fields of a line: what stands between its spaces
abbrev pub fields_of : List ℕ → List (List ℕ)
fields_of line = slice_split (λ b. b == 32) line

-- an empty line, and one that begins with `#`, are passed over
abbrev pub is_passed_over : List ℕ → Bool
is_passed_over [] = true
is_passed_over (b ∷ line) = b == 35

-- ---- how each line is spelled

-- the spelling of a word
abbrev pub word_text : Word → List ℕ
word_text words.Arc = codes "arc"
word_text words.L2 = codes "l2"
word_text words.Block = codes "block"
word_text words.Object = codes "object"
word_text words.Read = codes "read"
word_text words.Hold = codes "hold"
word_text words.Drop = codes "drop"
word_text words.Get = codes "get"
word_text words.Put = codes "put"
word_text words.Patch = codes "patch"
word_text words.Pin = codes "pin"
word_text words.Unpin = codes "unpin"
word_text words.Feed = codes "feed"
word_text words.Txg = codes "txg"
word_text words.Cap = codes "cap"

-- how many fields come after a word
abbrev pub field_count : Word → ℕ
field_count words.Arc = 7
field_count words.L2 = 2
field_count words.Block = 4
field_count words.Object = 3
field_count words.Read = 5
field_count words.Hold = 3
field_count words.Drop = 2
field_count words.Get = 6
field_count words.Put = 6
field_count words.Patch = 6
field_count words.Pin = 4
field_count words.Unpin = 3
field_count words.Feed = 0
field_count words.Txg = 1
field_count words.Cap = 1

-- the word of a line
abbrev pub word_of : Line → Word
word_of (Sizes z) = words.Arc
word_of (Limited b) = words.L2
word_of (Declared p) = words.Block
word_of (Mapped m) = words.Object
word_of (Operation (ops.Read n t x w)) = words.Read
word_of (Operation (ops.Hold n t x)) = words.Hold
word_of (Operation (ops.Drop n x)) = words.Drop
word_of (Operation (ops.Get n t at w)) = words.Get
word_of (Operation (ops.Put n t at size fill)) = words.Put
word_of (Operation (ops.Patch n t at from bytes)) = words.Patch
word_of (Operation (ops.Pin n t at)) = words.Pin
word_of (Operation (ops.Unpin n at)) = words.Unpin
word_of (Operation ops.Feed) = words.Feed
word_of (Operation (ops.Txg t)) = words.Txg
word_of (Operation (ops.Cap c)) = words.Cap

-- the fields after a line's word: decimal numbers with no leading zero, and a digest and other bytes as lower-case hex
abbrev pub fields_after : Line → List (List ℕ)
fields_after (Sizes z) =
    decimal z.callers ∷ decimal z.shards ∷ decimal z.buckets ∷ decimal z.cells ∷ decimal z.c ∷ decimal z.mintime ∷ decimal z.dbuf_bytes ∷ []
fields_after (Limited b) = decimal b.write_max ∷ decimal b.headroom ∷ []
fields_after (Declared p) = decimal p.key.offset ∷ decimal p.key.size ∷ decimal p.key.birth ∷ encode_lower p.digest.0 ∷ []
fields_after (Mapped m) = decimal m.at.object ∷ decimal m.at.block ∷ decimal m.block ∷ []
fields_after (Operation (ops.Read n t x w)) = decimal n ∷ decimal t ∷ decimal x ∷ decimal w.at ∷ decimal w.len ∷ []
fields_after (Operation (ops.Hold n t x)) = decimal n ∷ decimal t ∷ decimal x ∷ []
fields_after (Operation (ops.Drop n x)) = decimal n ∷ decimal x ∷ []
fields_after (Operation (ops.Get n t at w)) =
    decimal n ∷ decimal t ∷ decimal at.object ∷ decimal at.block ∷ decimal w.at ∷ decimal w.len ∷ []
fields_after (Operation (ops.Put n t at size fill)) =
    decimal n ∷ decimal t ∷ decimal at.object ∷ decimal at.block ∷ decimal size ∷ encode_lower (fill ∷ []) ∷ []
fields_after (Operation (ops.Patch n t at from bytes)) =
    decimal n ∷ decimal t ∷ decimal at.object ∷ decimal at.block ∷ decimal from ∷ encode_lower bytes ∷ []
fields_after (Operation (ops.Pin n t at)) = decimal n ∷ decimal t ∷ decimal at.object ∷ decimal at.block ∷ []
fields_after (Operation (ops.Unpin n at)) = decimal n ∷ decimal at.object ∷ decimal at.block ∷ []
fields_after (Operation ops.Feed) = []
fields_after (Operation (ops.Txg t)) = decimal t ∷ []
fields_after (Operation (ops.Cap c)) = decimal c ∷ []

-- the fields of a line
abbrev pub spelling : Line → List (List ℕ)
spelling line = word_text (word_of line) ∷ fields_after line

-- ---- the ranges

-- a number of a trace that has no narrower range
abbrev pub IsPlain : ℕ → Type 0
IsPlain n = n ≤ 2 ^ 62

-- 32 bytes
pub record IsDigest (digest : Digest) : Type 0 where
  pub sized : length digest.0 ≡ 32
  pub bytes : IsBytes digest.0

-- the bounds of a feed where no line gives them
abbrev pub usual_bounds : Bounds
usual_bounds = record { write_max = 8388608; headroom = 2 }

-- the sizes of a cache that an `arc` line may give, with the usual bounds of a feed
pub record AreSizes (sizes : Config) : Type 0 where
  pub ranged : IsConfig sizes
  pub write_max : sizes.bounds.write_max ≡ 8388608
  pub headroom : sizes.bounds.headroom ≡ 2

-- the ranges of a block pointer's numbers; whether its key names a block is told when it is read
pub record IsDeclarable (ptr : Ptr) : Type 0 where
  pub offset : IsPlain ptr.key.offset
  pub size : ptr.key.size ≤ 2 ^ 32
  pub birth : IsPlain ptr.key.birth
  pub digest : IsDigest ptr.digest

-- the ranges of the numbers of an object's block
pub record IsOid (at : Oid) : Type 0 where
  pub object : IsPlain at.object
  pub block : IsPlain at.block

-- the ranges of a mapping's numbers; whether its block is declared goes by the lines before it
pub record IsMappable (mapping : Mapping) : Type 0 where
  pub at : IsOid mapping.at
  pub block : IsPlain mapping.block

-- from 1 to 64 bytes
pub record IsPatchBytes (run : List ℕ) : Type 0 where
  pub some : 1 ≤ length run
  pub few : length run ≤ 64
  pub bytes : IsBytes run

-- the ranges of an operation's numbers, where there are so many callers and shards
abbrev pub IsOperation : (callers shards : ℕ) → Op → Type 0
IsOperation callers shards (ops.Read n t x w) = (n < callers) × IsPlain t × IsPlain x × (w.at < 2 ^ 32)
IsOperation callers shards (ops.Hold n t x) = (n < callers) × IsPlain t × IsPlain x
IsOperation callers shards (ops.Drop n x) = (n < callers) × IsPlain x
IsOperation callers shards (ops.Get n t at w) = (n < callers) × IsPlain t × IsOid at × (w.at < 2 ^ 32)
IsOperation callers shards (ops.Put n t at size fill) = (n < callers) × IsPlain t × IsOid at × IsBlockSize size × (fill < 256)
IsOperation callers shards (ops.Patch n t at from bytes) = (n < callers) × IsPlain t × IsOid at × (from < 2 ^ 32) × IsPatchBytes bytes
IsOperation callers shards (ops.Pin n t at) = (n < callers) × IsPlain t × IsOid at
IsOperation callers shards (ops.Unpin n at) = (n < callers) × IsOid at
IsOperation callers shards ops.Feed = Unit {0}
IsOperation callers shards (ops.Txg t) = IsPlain t
IsOperation callers shards (ops.Cap c) = IsCapacity c × (shards * c ≤ 2 ^ 32)

-- the numbers of a line are in their ranges, where there are so many callers and shards
abbrev pub IsInRange : (callers shards : ℕ) → Line → Type 0
IsInRange callers shards (Sizes z) = AreSizes z
IsInRange callers shards (Limited b) = AreBounds b
IsInRange callers shards (Declared p) = IsDeclarable p
IsInRange callers shards (Mapped m) = IsMappable m
IsInRange callers shards (Operation op) = IsOperation callers shards op

-- ---- what the lines say together

-- what the lines so far say
pub record Content : Type 0 where
  pub config : Option Config
  -- whether a line gave the bounds of a feed
  pub limited : Bool
  pub blocks : List Ptr
  pub objects : List Mapping
  pub ops : List Op

-- what no line says
abbrev pub nothing : Content
nothing = record { config = None; limited = false; blocks = []; objects = []; ops = [] }

-- the sizes with these bounds of a feed
abbrev pub with_bounds : Option Config → Bounds → Option Config
with_bounds None b = None
with_bounds (Some z) b = Some (record z { bounds = b })

-- what is said once this line is read too
abbrev pub with_line : Content → Line → Content
with_line before (Sizes z) = record before { config = Some z }
with_line before (Limited b) = record before { config = with_bounds before.config b; limited = true }
with_line before (Declared p) = record before { blocks = before.blocks ++ p ∷ [] }
with_line before (Mapped m) = record before { objects = before.objects ++ m ∷ [] }
with_line before (Operation op) = record before { ops = before.ops ++ op ∷ [] }

-- how many callers and shards there are, once the `arc` line is read
abbrev pub callers_of : Option Config → ℕ
callers_of None = 0
callers_of (Some z) = z.callers

abbrev pub shards_of : Option Config → ℕ
shards_of None = 0
shards_of (Some z) = z.shards

-- how much the lines so far say
abbrev pub seen_of : Content → Seen
seen_of said = record {
  callers = callers_of said.config;
  shards = shards_of said.config;
  limited = said.limited;
  blocks = length said.blocks;
  objects = length said.objects;
  operations = length said.ops;
}

-- the number of the block that an operation names, where it names one
abbrev pub block_of : Op → Option ℕ
block_of (ops.Read n t x w) = Some x
block_of (ops.Hold n t x) = Some x
block_of (ops.Drop n x) = Some x
block_of (ops.Get n t at w) = None
block_of (ops.Put n t at size fill) = None
block_of (ops.Patch n t at from bytes) = None
block_of (ops.Pin n t at) = None
block_of (ops.Unpin n at) = None
block_of ops.Feed = None
block_of (ops.Txg t) = None
block_of (ops.Cap c) = None

-- the block that an operation names is one of so many
abbrev pub IsOnDeclared : (blocks : ℕ) → Op → Type 0
IsOnDeclared blocks op = IfSome (block_of op) (λ x. x < blocks)

-- the line may stand behind lines that say so much: bounds once, bounds, blocks and objects before all operations, and what names a block behind the line of the block
abbrev pub IsInOrder : Seen → Line → Type 0
IsInOrder seen (Sizes z) = Unit {0}
IsInOrder seen (Limited b) = (seen.operations ≡ 0) × (seen.limited ≡ false)
IsInOrder seen (Declared p) = seen.operations ≡ 0
IsInOrder seen (Mapped m) = (seen.operations ≡ 0) × (m.block < seen.blocks)
IsInOrder seen (Operation op) = IsOnDeclared seen.blocks op

-- this block of an object is mapped by one of these
abbrev pub IsMapped : Oid → List Mapping → Type 0
IsMapped at [] = ⊥
IsMapped at (m ∷ mappings) = (m.at ≡ at) ⊎ IsMapped at mappings

-- the line doesn't map a block that is mapped already
abbrev pub IsNew : List Mapping → Line → Type 0
IsNew mappings (Sizes z) = Unit {0}
IsNew mappings (Limited b) = Unit {0}
IsNew mappings (Declared p) = Unit {0}
IsNew mappings (Mapped m) = IsMapped m.at mappings → ⊥
IsNew mappings (Operation op) = Unit {0}

-- the line may stand behind what is said
abbrev pub MayStand : Content → Line → Type 0
MayStand before line = IsInOrder (seen_of before) line × IsNew before.objects line

-- behind lines that say so much a trace may have one more line of this sort
abbrev pub HasRoom : Seen → Line → Type 0
HasRoom seen (Sizes z) = Unit {0}
HasRoom seen (Limited b) = Unit {0}
HasRoom seen (Declared p) = seen.blocks < 100000
HasRoom seen (Mapped m) = seen.objects < 100000
HasRoom seen (Operation op) = seen.operations < 1000000

-- the first line that counts begins with `arc`, and no other does
abbrev pub MayBegin : Option Config → Word → Type 0
MayBegin config word = (word ≡ words.Arc) ↔ IsNone config

-- the fields begin with this word, which may stand here
abbrev pub BeginsWith : Option Config → List (List ℕ) → Word → Type 0
BeginsWith config [] word = ⊥
BeginsWith config (first ∷ fields) word = (first ≡ word_text word) × MayBegin config word

-- there are as many fields as the word wants, and none is empty
abbrev pub HasShape : Word → List (List ℕ) → Type 0
HasShape word [] = ⊥
HasShape word (first ∷ fields) = (length fields ≡ field_count word) × AllByRecursion (λ field. 0 < length field) fields

-- the fields spell this line, whose numbers are in their ranges
pub record Spell (callers shards : ℕ) (fields : List (List ℕ)) (line : Line) : Type 0 where
  pub spelled : fields ≡ spelling line
  pub ranged : IsInRange callers shards line

-- the fields are this line, and its word may stand here
pub record Say (config : Option Config) (fields : List (List ℕ)) (line : Line) : Type 0 where
  pub word : Word
  pub begins : BeginsWith config fields word
  pub spelled : Spell (callers_of config) (shards_of config) fields line

-- these fields are a line that may stand here
pub record Add (before : Content) (fields : List (List ℕ)) (after : Content) : Type 0 where
  pub line : Line
  pub said : Say before.config fields line
  pub ordered : MayStand before line
  pub room : HasRoom (seen_of before) line
  pub added : after ≡ with_line before line

-- what is said before and after a line
abbrev pub Adds : Content → List ℕ → Content → Type 0
Adds before line after = MatchBool (is_passed_over line) (after ≡ before) (Add before (fields_of line) after)

-- what is said before and after these lines
abbrev pub AddAll : Content → List (List ℕ) → Content → Type 0
AddAll before [] after = after ≡ before
AddAll before (line ∷ lines) after = (mid : Content) × Adds before line mid × AddAll mid lines after

-- ---- what is wrong with a line

-- the fields are no line; the kinds are tried in the order in which they stand here
abbrev pub IsMisspelled : Option Config → List (List ℕ) → Kind → Type 0
IsMisspelled config fields kinds.First = IsNone config × ((word : Word) → BeginsWith config fields word → ⊥)
IsMisspelled config fields kinds.Word = IsSome config × ((word : Word) → BeginsWith config fields word → ⊥)
IsMisspelled config fields kinds.Shape = (word : Word) × BeginsWith config fields word × (HasShape word fields → ⊥)
IsMisspelled config fields kinds.Number =
    (word : Word) × BeginsWith config fields word × HasShape word fields × ((line : Line) → Say config fields line → ⊥)
IsMisspelled config fields kinds.Order = ⊥
IsMisspelled config fields kinds.Count = ⊥
IsMisspelled config fields kinds.Length = ⊥

-- the line may not stand behind what is said
abbrev pub IsMisplaced : Content → Line → Kind → Type 0
IsMisplaced before line kinds.Order = MayStand before line → ⊥
IsMisplaced before line kinds.Count = MayStand before line × (HasRoom (seen_of before) line → ⊥)
IsMisplaced before line kinds.First = ⊥
IsMisplaced before line kinds.Word = ⊥
IsMisplaced before line kinds.Shape = ⊥
IsMisplaced before line kinds.Number = ⊥
IsMisplaced before line kinds.Length = ⊥

-- what is wrong with fields that come after what is said before
abbrev pub HasFault : Content → List (List ℕ) → Kind → Type 0
HasFault before fields kind =
    IsMisspelled before.config fields kind ⊎ ((line : Line) × Say before.config fields line × IsMisplaced before line kind)

-- the first line at fault, counted from 1, and what is wrong with it
pub record IsFaulty (lines : List (List ℕ)) (number : ℕ) (kind : Kind) : Type 0 where
  pub front : List (List ℕ)
  pub line : List ℕ
  pub back : List (List ℕ)
  pub before : Content
  pub parts : lines ≡ front ++ line ∷ back
  pub counted : number ≡ length front + 1
  pub leads : AddAll nothing front before
  pub counts : is_passed_over line ≡ false
  pub fault : HasFault before (fields_of line) kind

-- each line is passed over, which is told of the first
pub record SaysNothing (lines : List (List ℕ)) (number : ℕ) (kind : Kind) : Type 0 where
  pub said : Content
  pub leads : AddAll nothing lines said
  pub unsized : IsNone said.config
  pub first : number ≡ 1
  pub missing : kind ≡ kinds.First

-- ---- a trace

-- the most bytes that a text has
abbrev pub longest_text : ℕ
longest_text = 67108864

-- the text is too long, which is told of the line that holds the first byte too many
pub record IsTooLong (text : List ℕ) (number : ℕ) (kind : Kind) : Type 0 where
  pub long : longest_text < length text
  pub holds : number ≡ count_by (λ b. b == 10) (take longest_text text) + 1
  pub too_long : kind ≡ kinds.Length

-- what a trace says, where a line gives the bounds of a feed or none does
abbrev pub content_of : Trace → (limited : Bool) → Content
content_of trace limited = record { config = Some trace.config; limited = limited; blocks = trace.blocks; objects = trace.objects; ops = trace.ops }

-- the text is this trace: its lines say, one after the other, what the trace says and no more
pub record IsTraceText (text : List ℕ) (trace : Trace) : Type 0 where
  pub limited : Bool
  pub short : length text ≤ longest_text
  pub said : AddAll nothing (lines_of text) (content_of trace limited)

-- an operation of a trace: its numbers are in their ranges, and a block that it names is declared
abbrev pub IsPossible : Config → List Ptr → Op → Type 0
IsPossible sizes blocks op = IsOperation sizes.callers sizes.shards op × IsOnDeclared (length blocks) op

-- a mapping of a trace: its numbers are in their ranges, and its block is one of so many
abbrev pub IsMappingOn : (blocks : ℕ) → Mapping → Type 0
IsMappingOn blocks mapping = IsOid mapping.at × (mapping.block < blocks)

-- no block is mapped twice
abbrev pub AreApart : List Mapping → Type 0
AreApart [] = Unit {0}
AreApart (m ∷ mappings) = (IsMapped m.at mappings → ⊥) × AreApart mappings

-- what every trace that is read has
pub record IsFormed (trace : Trace) : Type 0 where
  pub config : IsConfig trace.config
  pub blocks : All IsDeclarable trace.blocks
  pub few_blocks : length trace.blocks ≤ 100000
  pub objects : All (IsMappingOn (length trace.blocks)) trace.objects
  pub few_objects : length trace.objects ≤ 100000
  pub apart : AreApart trace.objects
  pub ops : All (IsPossible trace.config trace.blocks) trace.ops
  pub few_ops : length trace.ops ≤ 1000000

-- the lines that aren't passed over, as fields
abbrev pub counted_fields : List (List ℕ) → List (List (List ℕ))
counted_fields lines = map fields_of (filter (λ line. not (is_passed_over line)) lines)

-- the lines are those of these bounds, where there are some, of these blocks and of these mappings, each in their order, and no others
abbrev pub AreDeclared : List Line → Option Bounds → List Ptr → List Mapping → Type 0
AreDeclared [] given blocks objects = (given ≡ None) × (blocks ≡ []) × (objects ≡ [])
AreDeclared (Limited b ∷ lines) given blocks objects = (given ≡ Some b) × AreDeclared lines None blocks objects
AreDeclared (Declared p ∷ lines) given blocks objects = (rest : List Ptr) × (blocks ≡ p ∷ rest) × AreDeclared lines given rest objects
AreDeclared (Mapped m ∷ lines) given blocks objects = (rest : List Mapping) × (objects ≡ m ∷ rest) × AreDeclared lines given blocks rest
AreDeclared (Sizes z ∷ lines) given blocks objects = ⊥
AreDeclared (Operation op ∷ lines) given blocks objects = ⊥

-- the bounds of a feed that a line gives, or the usual ones
abbrev pub bounds_given : Option Bounds → Bounds
bounds_given None = usual_bounds
bounds_given (Some b) = b

-- these fields are the lines of the trace: its sizes, its bounds of a feed where a line gives them, its blocks and objects, and its operations
pub record IsWritten (counted : List (List (List ℕ))) (trace : Trace) : Type 0 where
  pub declared : List Line
  pub given : Option Bounds
  pub bounds : trace.config.bounds ≡ bounds_given given
  pub are_declared : AreDeclared declared given trace.blocks trace.objects
  pub spelled : counted ≡ map spelling (Sizes trace.config ∷ (declared ++ map Operation trace.ops))

-- the first fault of a text
abbrev pub IsFirstFault : List ℕ → ℕ → Kind → Type 0
IsFirstFault text number kind =
    IsTooLong text number kind
    ⊎ ((length text ≤ longest_text) × (IsFaulty (lines_of text) number kind ⊎ SaysNothing (lines_of text) number kind))

-- why a text is not read; want of memory has no cause
abbrev pub IsCause : List ℕ → TraceFault → Type 0
IsCause text (Bad line kind) = IsFirstFault text line kind
IsCause text NoMemory = Unit {0}
