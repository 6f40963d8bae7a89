-- A text is at most one log, has at most one first fault, and not both.
use Rattle.std.proofs.Common.{◌≡◌, ℕ, zero, suc, ◌≤◌, ◌⊎◌, inl, inr, Bool, true, false, if◌then◌else◌, eqb, List, [], ◌∷◌, ◌++◌, length, Option, Some, None, refl, ap, ◌∙◌, sym, subst, arith}
use Rattle.std.proofs.lemmas.Bool.{cases_lt, false≢true}
use Rattle.std.specs.Prelude.{IfSome, IsNone, IsSome, MatchBool, option_map}
use Rattle.arc_core.specs.Config.{IsConfig}
use Rattle.arc_core.specs.declared.config.Bounds.{Bounds}
use Rattle.arc_core.specs.declared.config.Config.{Config}
use Rattle.arc_core.specs.declared.event.Event.{Event}
use Rattle.trace_text.specs.declared.fault.Kind.{Kind}
use Rattle.trace_text.specs.declared.fault.Kind.TheVariants as kinds
use Rattle.trace_text.specs.Grammar.{fields_of, is_passed_over, lines_of}
use Rattle.arc_check.specs.declared.log.Log.{Log}
use Rattle.arc_check.specs.declared.words.Line.{Line}
use Rattle.arc_check.specs.declared.words.Line.TheVariants as line_of
use Rattle.arc_check.specs.LogText.{AddToLog, AddAllToLog, AddsToLog, LogContent, LogHasFault, LogHasRoom, HasLogShape, HasWords, IsFaultyInLog, IsFirstLogFault, IsInLogOrder, IsInLogRange, IsLogText, IsMisplacedInLog, IsMisspelledInLog, LogSays, SaysNothingInLog, at_shard, histories_to, empty_log, with_log_line}
use Rattle.arc_check.proofs.SameLemmas.{say-shape, shape-words, spelling-injective}

-- ---- what is said is determined

-- the configuration is in its ranges
abbrev pub Few : LogContent → Type 0
Few said = IfSome said.config IsConfig

few-nothing : Few empty_log
few-nothing = tt

-- the fields are one line
pub Say-one : (config : Option Config) → IfSome config IsConfig → (fields : List (List ℕ)) (l m : Line) → LogSays config fields l → LogSays config fields m → l ≡ m
Say-one config few fields l m a b = spelling-injective config few l m a.ranged b.ranged (sym a.spelled ∙ b.spelled)

Add-one : (before : LogContent) → Few before → (fields : List (List ℕ)) (x y : LogContent) → AddToLog before fields x → AddToLog before fields y → x ≡ y
Add-one before few fields x y a b =
    a.added ∙ ap (with_log_line before) (Say-one before.config few fields a.line b.line a.said b.said) ∙ sym b.added

-- a line leads to one content
pub Adds-one : (before : LogContent) → Few before → (line : List ℕ) (x y : LogContent) → AddsToLog before line x → AddsToLog before line y → x ≡ y
Adds-one before few line x y a b = by (is_passed_over line) a b
  where
    by : (passed : Bool) → MatchBool passed (x ≡ before) (AddToLog before (fields_of line) x) → MatchBool passed (y ≡ before) (AddToLog before (fields_of line) y) → x ≡ y
    by true a b = a ∙ sym b
    by false a b = Add-one before few (fields_of line) x y a b

-- what a line does to the configuration
sizes-few : (config : Option Config) (z : Config) → IsInLogRange config (line_of.Sizes z) → IsConfig z
sizes-few None z r = r.ranged
sizes-few (Some other) z r = absurd r

feed-few : (config : Option Config) (b : Bounds) → IfSome config IsConfig → IsInLogRange config (line_of.Feed b) → IfSome (option_map (λ (z : Config). record z { bounds = b }) config) IsConfig
feed-few None b few r = absurd r
feed-few (Some z) b few r = record {
  counts = record { callers = few.counts.callers; shards = few.counts.shards; buckets = few.counts.buckets; cells = few.counts.cells };
  amounts = record { c = few.amounts.c; all_shards = few.amounts.all_shards; mintime = few.amounts.mintime; dbuf_bytes = few.amounts.dbuf_bytes };
  bounds = r;
}

at-config : (shard : ℕ) (said : LogContent) → (at_shard shard said).config ≡ said.config
at-config shard said = go (eqb shard (length said.closed))
  where
    go : (b : Bool) → (if b then said else record said { closed = histories_to shard said; events = [] }).config ≡ said.config
    go true = refl
    go false = refl

with_line-few : (before : LogContent) (l : Line) → Few before → IsInLogRange before.config l → Few (with_log_line before l)
with_line-few before (line_of.Sizes z) few ranged = sizes-few before.config z ranged
with_line-few before (line_of.Feed b) few ranged = feed-few before.config b few ranged
with_line-few before (line_of.Made made) few ranged = subst (λ (o : Option Config). IfSome o IsConfig) (sym (at-config made.shard before)) few

-- the configuration stays in its ranges
pub Adds-few : (before : LogContent) → Few before → (line : List ℕ) (x : LogContent) → AddsToLog before line x → Few x
Adds-few before few line x a = by (is_passed_over line) a
  where
    by : (passed : Bool) → MatchBool passed (x ≡ before) (AddToLog before (fields_of line) x) → Few x
    by true a = rw a few
    by false a = rw (a.added) (with_line-few before a.line few a.said.ranged)

AddAll-few : (lines : List (List ℕ)) (before after : LogContent) → Few before → AddAllToLog before lines after → Few after
AddAll-few [] before after few a = rw a few
AddAll-few (line ∷ lines) before after few a = AddAll-few lines a.0 after (Adds-few before few line a.0 a.1) a.2

-- lines lead to one content
pub AddAll-one : (before : LogContent) → Few before → (lines : List (List ℕ)) (x y : LogContent) → AddAllToLog before lines x → AddAllToLog before lines y → x ≡ y
AddAll-one before few [] x y a b = a ∙ sym b
AddAll-one before few (line ∷ lines) x y a b =
    let same = Adds-one before few line a.0 b.0 a.1 b.1 in
    let P : LogContent → Type 0 = λ mid. AddAllToLog mid lines x in
    AddAll-one b.0 (Adds-few before few line b.0 b.1) lines x y (subst P same a.2) b.2

-- ---- a line that is added has no fault

misspelled-not : (config : Option Config) → IfSome config IsConfig → (fields : List (List ℕ)) (l : Line) (kind : Kind) → LogSays config fields l → IsMisspelledInLog config fields kind → ⊥
misspelled-not config few fields l kinds.First said m = m.1 (shape-words config fields (say-shape config few fields l said))
misspelled-not config few fields l kinds.Word said m = m.1 (shape-words config fields (say-shape config few fields l said))
misspelled-not config few fields l kinds.Shape said m = m.1 (say-shape config few fields l said)
misspelled-not config few fields l kinds.Number said m = m.1 l said
misspelled-not config few fields l kinds.Order said m = m
misspelled-not config few fields l kinds.Count said m = m
misspelled-not config few fields l kinds.Length said m = m

misplaced-not : (before : LogContent) (l : Line) (kind : Kind) → IsInLogOrder before l → LogHasRoom before l → IsMisplacedInLog before l kind → ⊥
misplaced-not before l kinds.Order ordered room m = m ordered
misplaced-not before l kinds.Count ordered room m = m.1 room
misplaced-not before l kinds.First ordered room m = m
misplaced-not before l kinds.Word ordered room m = m
misplaced-not before l kinds.Shape ordered room m = m
misplaced-not before l kinds.Number ordered room m = m
misplaced-not before l kinds.Length ordered room m = m

-- fields that are added have no fault
Add-faultless : (before : LogContent) → Few before → (fields : List (List ℕ)) (after : LogContent) (kind : Kind) → AddToLog before fields after → LogHasFault before fields kind → ⊥
Add-faultless before few fields after kind a (inl m) = misspelled-not before.config few fields a.line kind a.said m
Add-faultless before few fields after kind a (inr m) =
    let same = Say-one before.config few fields a.line m.0 a.said m.1 in
    misplaced-not before m.0 kind (rw same at a.ordered) (rw same at a.room) m.2

-- a line that is added has no fault
pub Adds-faultless : (before : LogContent) → Few before → (line : List ℕ) (after : LogContent) (kind : Kind) → AddsToLog before line after → is_passed_over line ≡ false
    → LogHasFault before (fields_of line) kind → ⊥
Adds-faultless before few line after kind a counts fault =
    let P : Bool → Type 0 = λ passed. MatchBool passed (after ≡ before) (AddToLog before (fields_of line) after) in
    Add-faultless before few (fields_of line) after kind (subst P counts a) fault

-- lines that lead on are lines that lead to a point, and then others
AddAll-split : (front back : List (List ℕ)) (before after : LogContent) → AddAllToLog before (front ++ back) after → (mid : LogContent) × AddAllToLog before front mid × AddAllToLog mid back after
AddAll-split [] back before after a = (before, refl, a)
AddAll-split (line ∷ front) back before after a =
    let rest = AddAll-split front back a.0 after a.2 in
    (rest.0, (a.0, a.1, rest.1), rest.2)

-- lines that lead on have no fault
pub AddAll-faultless : (lines : List (List ℕ)) (after : LogContent) (number : ℕ) (kind : Kind) → AddAllToLog empty_log lines after → IsFaultyInLog lines number kind → ⊥
AddAll-faultless lines after number kind a f =
    let split = AddAll-split f.front (f.line ∷ f.back) empty_log after (rw f.parts at a) in
    let same = AddAll-one empty_log few-nothing f.front split.0 f.before split.1 f.leads in
    let few = AddAll-few f.front empty_log f.before few-nothing f.leads in
    let P : LogContent → Type 0 = λ mid. AddAllToLog mid (f.line ∷ f.back) after in
    let rest = subst P same split.2 in
    Adds-faultless f.before few f.line rest.0 kind rest.1 f.counts f.fault

-- a log's text has no fault
pub log-faultless : (text : List ℕ) (log : Log) (number : ℕ) (kind : Kind) → IsLogText text log → IsFirstLogFault text number kind → ⊥
log-faultless text log number kind t (inl long) = omega (arith, t.short, long.long)
log-faultless text log number kind t (inr f) = by f.1
  where
    by : (IsFaultyInLog (lines_of text) number kind ⊎ SaysNothingInLog (lines_of text) number kind) → ⊥
    by (inl faulty) = AddAll-faultless (lines_of text) t.content number kind t.lines faulty
    by (inr none) =
        let same = AddAll-one empty_log few-nothing (lines_of text) t.content none.said t.lines none.leads in
        let P : Option Config → Type 0 = λ config. IsNone config in
        let joined : Some log.config ≡ none.said.config = sym t.said.config ∙ ap (λ (said : LogContent). said.config) same in
        let known : IsNone (Some log.config) = subst P (sym joined) none.unsized in
        cc

-- a text is one log
pub log-one : (text : List ℕ) (one other : Log) → IsLogText text one → IsLogText text other → one ≡ other
log-one text one other p q =
    let same = AddAll-one empty_log few-nothing (lines_of text) p.content q.content p.lines q.lines in
    let known : Some one.config ≡ Some other.config = sym p.said.config ∙ ap (λ (said : LogContent). said.config) same ∙ q.said.config in
    let config : one.config ≡ other.config = cc in
    let to : (Config × LogContent) → List (List Event) = λ s. histories_to s.0.shards s.1 in
    let histories : one.histories ≡ other.histories = p.said.histories ∙ ap to (λ i. (config i, same i)) ∙ sym q.said.histories in
    λ i. record { config = config i; histories = histories i }

-- ---- there is one first fault

-- how far fields get: words that may stand here, their shape, a line, its order, room for it
abbrev Passes : LogContent → List (List ℕ) → ℕ → Type 0
Passes before fields zero = Unit {0}
Passes before fields (suc zero) = HasWords before.config fields
Passes before fields (suc (suc zero)) = HasLogShape before.config fields
Passes before fields (suc (suc (suc zero))) = (line : Line) × LogSays before.config fields line
Passes before fields (suc (suc (suc (suc zero)))) = (line : Line) × LogSays before.config fields line × IsInLogOrder before line
Passes before fields (suc (suc (suc (suc (suc n))))) = ⊥

-- how far fields with such a fault get
abbrev stage : Kind → ℕ
stage kinds.First = 0
stage kinds.Word = 0
stage kinds.Shape = 1
stage kinds.Number = 2
stage kinds.Order = 3
stage kinds.Count = 4
stage kinds.Length = 5

-- the fault of fields that get so far
abbrev kind_at : Option Config → ℕ → Kind
kind_at None zero = kinds.First
kind_at (Some z) zero = kinds.Word
kind_at config (suc zero) = kinds.Shape
kind_at config (suc (suc zero)) = kinds.Number
kind_at config (suc (suc (suc zero))) = kinds.Order
kind_at config (suc (suc (suc (suc n)))) = kinds.Count

Passes-less : (before : LogContent) → Few before → (fields : List (List ℕ)) (n : ℕ) → Passes before fields (suc n) → Passes before fields n
Passes-less before few fields zero p = tt
Passes-less before few fields (suc zero) p = shape-words before.config fields p
Passes-less before few fields (suc (suc zero)) p = say-shape before.config few fields p.0 p.1
Passes-less before few fields (suc (suc (suc zero))) p = (p.0, p.1)
Passes-less before few fields (suc (suc (suc (suc n)))) p = absurd p

Passes-le : (before : LogContent) → Few before → (fields : List (List ℕ)) (m n : ℕ) → m ≤ n → Passes before fields n → Passes before fields m
Passes-le before few fields m zero le p = let e : m ≡ 0 = omega arith in rw e p
Passes-le before few fields m (suc n) le p = elim (cases_lt m (suc n)) [
  | inl lt ↦ Passes-le before few fields m n (omega arith) (Passes-less before few fields n p)
  | inr ge ↦ let e : m ≡ suc n = omega arith in rw e p
]

none-kind : (config : Option Config) → IsNone config → kind_at config 0 ≡ kinds.First
none-kind None h = refl
none-kind (Some z) h = absurd (false≢true (sym h))

some-kind : (config : Option Config) → IsSome config → kind_at config 0 ≡ kinds.Word
some-kind None h = absurd (false≢true h)
some-kind (Some z) h = refl

shape-kind : (config : Option Config) → kinds.Shape ≡ kind_at config 1
shape-kind None = refl
shape-kind (Some z) = refl

number-kind : (config : Option Config) → kinds.Number ≡ kind_at config 2
number-kind None = refl
number-kind (Some z) = refl

order-kind : (config : Option Config) → kinds.Order ≡ kind_at config 3
order-kind None = refl
order-kind (Some z) = refl

count-kind : (config : Option Config) → kinds.Count ≡ kind_at config 4
count-kind None = refl
count-kind (Some z) = refl

-- fields with a fault get so far and no further
record Stops (before : LogContent) (fields : List (List ℕ)) (kind : Kind) : Type 0 where
  passed : Passes before fields (stage kind)
  stopped : Passes before fields (suc (stage kind)) → ⊥
  known : kind ≡ kind_at before.config (stage kind)

HasFault-stops : (before : LogContent) → Few before → (fields : List (List ℕ)) (kind : Kind) → LogHasFault before fields kind → Stops before fields kind
HasFault-stops before few fields kinds.First (inl m) = record { passed = tt; stopped = m.1; known = sym (none-kind before.config m.0) }
HasFault-stops before few fields kinds.Word (inl m) = record { passed = tt; stopped = m.1; known = sym (some-kind before.config m.0) }
HasFault-stops before few fields kinds.Shape (inl m) = record { passed = m.0; stopped = m.1; known = shape-kind before.config }
HasFault-stops before few fields kinds.Number (inl m) = record { passed = m.0; stopped = λ p. m.1 p.0 p.1; known = number-kind before.config }
HasFault-stops before few fields kinds.Order (inl m) = absurd m
HasFault-stops before few fields kinds.Count (inl m) = absurd m
HasFault-stops before few fields kinds.Length (inl m) = absurd m
HasFault-stops before few fields kinds.Order (inr m) = record {
  passed = (m.0, m.1);
  stopped = λ p. m.2 (rw (Say-one before.config few fields m.0 p.0 m.1 p.1) p.2);
  known = order-kind before.config;
}
HasFault-stops before few fields kinds.Count (inr m) = record { passed = (m.0, m.1, m.2.0); stopped = λ p. p; known = count-kind before.config }
HasFault-stops before few fields kinds.First (inr m) = absurd m.2
HasFault-stops before few fields kinds.Word (inr m) = absurd m.2
HasFault-stops before few fields kinds.Shape (inr m) = absurd m.2
HasFault-stops before few fields kinds.Number (inr m) = absurd m.2
HasFault-stops before few fields kinds.Length (inr m) = absurd m.2

-- fields have one first fault
HasFault-one : (before : LogContent) → Few before → (fields : List (List ℕ)) (j k : Kind) → LogHasFault before fields j → LogHasFault before fields k → j ≡ k
HasFault-one before few fields j k f g =
    let a = HasFault-stops before few fields j f in
    let b = HasFault-stops before few fields k g in
    let same : stage j ≡ stage k = elim (cases_lt (stage j) (stage k)) [
      | inl lt ↦ absurd (a.stopped (Passes-le before few fields (suc (stage j)) (stage k) (omega arith) b.passed))
      | inr ge ↦ elim (cases_lt (stage k) (stage j)) [
        | inl lt ↦ absurd (b.stopped (Passes-le before few fields (suc (stage k)) (stage j) (omega arith) a.passed))
        | inr le ↦ omega arith
      ]
    ] in
    a.known ∙ ap (kind_at before.config) same ∙ sym b.known

-- the first faults of lines
Faults-one : (front other : List (List ℕ)) (line alien : List ℕ) (back rest : List (List ℕ)) (start before prior : LogContent) (j k : Kind) → Few start
    → front ++ line ∷ back ≡ other ++ alien ∷ rest → AddAllToLog start front before → AddAllToLog start other prior
    → is_passed_over line ≡ false → is_passed_over alien ≡ false → LogHasFault before (fields_of line) j → LogHasFault prior (fields_of alien) k
    → (length front ≡ length other) × (j ≡ k)
Faults-one [] [] line alien back rest start before prior j k few e a b p q f g =
    let same : line ≡ alien = cc in
    let f' : LogHasFault start (fields_of line) j = rw (← a) f in
    let g' : LogHasFault start (fields_of line) k = rw (same, ← b) g in
    (refl, HasFault-one start few (fields_of line) j k f' g')
Faults-one [] (first ∷ other) line alien back rest start before prior j k few e a b p q f g =
    let same : first ≡ line = cc in
    absurd (Adds-faultless start few line b.0 j (rw same at b.1) p (rw (← a) f))
Faults-one (first ∷ front) [] line alien back rest start before prior j k few e a b p q f g =
    let same : first ≡ alien = cc in
    absurd (Adds-faultless start few alien a.0 k (rw same at a.1) q (rw (← b) g))
Faults-one (first ∷ front) (second ∷ other) line alien back rest start before prior j k few e a b p q f g =
    let same : first ≡ second = cc in
    let tail : front ++ line ∷ back ≡ other ++ alien ∷ rest = cc in
    let mid = Adds-one start few second a.0 b.0 (rw same at a.1) b.1 in
    let P : LogContent → Type 0 = λ said. AddAllToLog said front before in
    let next = Faults-one front other line alien back rest b.0 before prior j k (Adds-few start few second b.0 b.1) tail (subst P mid a.2) b.2 p q f g in
    (omega (arith, next.0), next.1)

-- a text has one first fault
pub fault-one : (text : List ℕ) (m n : ℕ) (j k : Kind) → IsFirstLogFault text m j → IsFirstLogFault text n k → (m ≡ n) × (j ≡ k)
fault-one text m n j k (inl a) (inl b) = (a.holds ∙ sym b.holds, a.too_long ∙ sym b.too_long)
fault-one text m n j k (inl a) (inr b) = absurd (omega (arith, a.long, b.0))
fault-one text m n j k (inr a) (inl b) = absurd (omega (arith, a.0, b.long))
fault-one text m n j k (inr a) (inr b) = by a.1 b.1
  where
    by : (IsFaultyInLog (lines_of text) m j ⊎ SaysNothingInLog (lines_of text) m j) → (IsFaultyInLog (lines_of text) n k ⊎ SaysNothingInLog (lines_of text) n k) → (m ≡ n) × (j ≡ k)
    by (inl f) (inl g) =
        let both = Faults-one f.front g.front f.line g.line f.back g.back empty_log f.before g.before j k few-nothing (sym f.parts ∙ g.parts) f.leads g.leads f.counts g.counts f.fault g.fault in
        (omega (arith, f.counted, g.counted, both.0), both.1)
    by (inl f) (inr g) = absurd (AddAll-faultless (lines_of text) g.said m j g.leads f)
    by (inr f) (inl g) = absurd (AddAll-faultless (lines_of text) f.said n k f.leads g)
    by (inr f) (inr g) = (f.first ∙ sym g.first, f.missing ∙ sym g.missing)
