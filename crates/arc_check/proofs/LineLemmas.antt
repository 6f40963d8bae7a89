-- Lines, from what their fields are read as.
use Rattle.std.proofs.Common.{◌≡◌, ℕ, ◌+◌, ◌<◌, Bor, List, [], ◌∷◌, ◌++◌, length, Option, Some, None, Err, inl, inr, refl, ap, ◌∙◌, sym, subst, arith, append-nil, unwrap_or, eqb, slice_get}
use Rattle.std.specs.Prelude.{MatchOption, codes, decimal}
use Rattle.std.proofs.lemmas.List.Splits.{length-slice_split}
use Rattle.arc_core.specs.declared.config.Config.{Config}
use Rattle.arc_core.specs.declared.event.Event.{Event}
use Rattle.trace_text.specs.declared.fault.Kind.{Kind}
use Rattle.trace_text.specs.declared.fault.Kind.TheVariants as kinds
use Rattle.trace_text.specs.Grammar.{fields_of, IsPlain}
use Rattle.arc_check.specs.declared.words.Name.{Name}
use Rattle.arc_check.specs.declared.words.Line.{Line}
use Rattle.arc_check.specs.declared.words.Line.TheVariants as line_of
use Rattle.arc_check.specs.declared.words.Made.{Made}
use Rattle.arc_check.specs.LogText.{HasFields, HasWords, IsMade, IsMisspelledInLog, LogSays, event_fields, log_field_count, name_of, name_text, log_parties_of, log_spelling}
use Rattle.arc_check.specs.Reading.{IsBoundsRead, IsEventRead, IsMadeRead, IsNameRead, IsSizesRead}
use Rattle.arc_check.proofs.EventLemmas.{name_text-injective, rest-counted}
use Rattle.arc_check.proofs.FieldLemmas.{first-field, next-fields}

-- a line has a first field
pub line-first : (line : List ℕ) (o : Option (Bor (List ℕ))) (first d : Bor (List ℕ)) (rest : List (List ℕ))
    → MatchOption o (fields_of line ≡ []) (λ part. fields_of line ≡ part.now ∷ rest) → first ≡ unwrap_or o d → fields_of line ≡ first.now ∷ rest
line-first line (Some part) first d rest h is = h ∙ ap (λ (p : Bor (List ℕ)). p.now ∷ rest) (sym is)
line-first line None first d rest h is = absurd (omega (arith, length-slice_split (λ b. eqb b 32) line, ap length h))

-- the first field, where it is asked for as this word
begun : (fields rest : List (List ℕ)) (first word : List ℕ) → fields ≡ first ∷ rest → slice_get fields 0 ≡ Some word → first ≡ word
begun fields rest first word is at = let same : Some first ≡ Some word = ap (λ (fs : List (List ℕ)). slice_get fs 0) (sym is) ∙ at in cc

-- what the two words are not
l2-not-e : codes "l2" ≡ codes "e" → ⊥
l2-not-e same = let sizes = ap (λ (xs : List ℕ). length xs) same in omega (arith, sizes)

-- a first field that is neither word
pub unknown-first : (z : Config) (fields rest : List (List ℕ)) (first : List ℕ) → fields ≡ first ∷ rest → (first ≡ codes "l2" → ⊥) → (first ≡ codes "e" → ⊥)
    → HasWords (Some z) fields → ⊥
unknown-first z fields rest first is no_l2 no_e words = elim words [
  | inl l2 ↦ no_l2 (begun fields rest first (codes "l2") is l2)
  | inr (inl nameless) ↦ no_e (begun fields rest first (codes "e") is nameless.0)
  | inr (inr named) ↦ no_e (begun fields rest first (codes "e") is named.1.0)
]

-- ---- the line of an event

some-same : {a b : List ℕ} → Some a ≡ Some b → a ≡ b
some-same e = cc

some-none : {a : List ℕ} → Some a ≡ None → ⊥
some-none e = cc

-- an event's line whose name is none, or is missing
pub nameless-line : (z : Config) (fields rest : List (List ℕ)) (kind : Kind) → fields ≡ codes "e" ∷ rest → IsNameRead fields (Err kind) → IsMisspelledInLog (Some z) fields kind
nameless-line z fields rest kinds.Word is read = (
  refl,
  λ words. elim words [
    | inl l2 ↦ l2-not-e (sym (begun fields rest (codes "e") (codes "l2") is l2))
    | inr (inl nameless) ↦ some-none (sym read.1 ∙ nameless.1)
    | inr (inr named) ↦ let there = read.1 in let same : read.0 ≡ name_text named.0 = some-same (sym there ∙ named.1.1) in read.2 named.0 same
  ],
)
nameless-line z fields rest kinds.Shape is read = (
  inr (inl (ap (λ (fs : List (List ℕ)). slice_get fs 0) is, read)),
  λ shape. elim shape [
    | inl l2 ↦ l2-not-e (sym (begun fields rest (codes "e") (codes "l2") is l2.0))
    | inr named ↦ some-none (sym named.1.1 ∙ read)
  ],
)
nameless-line z fields rest kinds.First is read = absurd read
nameless-line z fields rest kinds.Number is read = absurd read
nameless-line z fields rest kinds.Order is read = absurd read
nameless-line z fields rest kinds.Count is read = absurd read
nameless-line z fields rest kinds.Length is read = absurd read

-- the name in a line is one
name-one : (fields : List (List ℕ)) (v w : Name) → slice_get fields 3 ≡ Some (name_text v) → slice_get fields 3 ≡ Some (name_text w) → v ≡ w
name-one fields v w one other =
    let both : Some (name_text v) ≡ Some (name_text w) = sym one ∙ other in
    let same : name_text v ≡ name_text w = cc in
    name_text-injective v w same

-- an event's line that has not the shape of its name
pub shapeless-event : (z : Config) (name : Name) (fields rest : List (List ℕ)) → fields ≡ codes "e" ∷ rest → slice_get fields 3 ≡ Some (name_text name)
    → (HasFields (4 + log_field_count name) fields → ⊥) → IsMisspelledInLog (Some z) fields kinds.Shape
shapeless-event z name fields rest is named none = (
  inr (inr (name, (ap (λ (fs : List (List ℕ)). slice_get fs 0) is, named))),
  λ shape. elim shape [
    | inl l2 ↦ l2-not-e (sym (begun fields rest (codes "e") (codes "l2") is l2.0))
    | inr other ↦ none (subst (λ (n : Name). HasFields (4 + log_field_count n) fields) (name-one fields other.0 name other.1.1 named) other.2)
  ],
)

-- an event's line that says nothing
pub wrong-event : (z : Config) (name : Name) (fields rest : List (List ℕ)) → fields ≡ codes "e" ∷ rest → slice_get fields 3 ≡ Some (name_text name)
    → IsMadeRead z name rest None → HasFields (4 + log_field_count name) fields → IsMisspelledInLog (Some z) fields kinds.Number
wrong-event z name fields rest is named none shape = (inr (name, (ap (λ (fs : List (List ℕ)). slice_get fs 0) is, named), shape), no-line)
  where
    no-line : (line : Line) → LogSays (Some z) fields line → ⊥
    no-line (line_of.Sizes sizes) said = said.ranged
    no-line (line_of.Feed b) said = l2-not-e (sym (first-field is said.spelled))
    no-line (line_of.Made made) said =
        let at : slice_get fields 3 ≡ Some (name_text (name_of made.event)) = ap (λ (fs : List (List ℕ)). slice_get fs 3) said.spelled in
        none made (name-one fields (name_of made.event) name at named) said.ranged (sym is ∙ said.spelled)

-- a feed's line
pub shapeless-feed : (z : Config) (fields rest : List (List ℕ)) → fields ≡ codes "l2" ∷ rest → (HasFields 3 fields → ⊥) → IsMisspelledInLog (Some z) fields kinds.Shape
shapeless-feed z fields rest is none = (
  inl (ap (λ (fs : List (List ℕ)). slice_get fs 0) is),
  λ shape. elim shape [
    | inl l2 ↦ none l2.1
    | inr named ↦ l2-not-e (begun fields rest (codes "l2") (codes "e") is named.1.0)
  ],
)

pub wrong-feed : (z : Config) (fields rest : List (List ℕ)) → fields ≡ codes "l2" ∷ rest → IsBoundsRead rest None → HasFields 3 fields → IsMisspelledInLog (Some z) fields kinds.Number
wrong-feed z fields rest is none shape = (inl (ap (λ (fs : List (List ℕ)). slice_get fs 0) is, shape), no-line)
  where
    no-line : (line : Line) → LogSays (Some z) fields line → ⊥
    no-line (line_of.Sizes sizes) said = said.ranged
    no-line (line_of.Feed b) said = none b said.ranged (sym is ∙ said.spelled)
    no-line (line_of.Made made) said = l2-not-e (first-field is said.spelled)

-- the first line
pub unknown-head : (fields rest : List (List ℕ)) (first : List ℕ) → fields ≡ first ∷ rest → (first ≡ codes "arc" → ⊥) → HasWords None fields → ⊥
unknown-head fields rest first is other words = other (begun fields rest first (codes "arc") is words)

pub shapeless-head : (fields rest : List (List ℕ)) → fields ≡ codes "arc" ∷ rest → (HasFields 8 fields → ⊥) → IsMisspelledInLog None fields kinds.Shape
shapeless-head fields rest is none = (ap (λ (fs : List (List ℕ)). slice_get fs 0) is, λ shape. none shape.1)

pub wrong-head : (fields rest : List (List ℕ)) → fields ≡ codes "arc" ∷ rest → IsSizesRead rest None → HasFields 8 fields → IsMisspelledInLog None fields kinds.Number
wrong-head fields rest is none shape = ((ap (λ (fs : List (List ℕ)). slice_get fs 0) is, shape), no-line)
  where
    no-line : (line : Line) → LogSays None fields line → ⊥
    no-line (line_of.Sizes z) said = none z said.ranged (sym is ∙ said.spelled)
    no-line (line_of.Feed b) said = said.ranged
    no-line (line_of.Made made) said = said.ranged

-- ---- an event with its place

-- the name at its place
pub named-third : (f0 f1 f2 f3 : List (List ℕ)) (a b named text : List ℕ) → slice_get f0 2 ≡ Some text → f0 ≡ a ∷ f1 → f1 ≡ b ∷ f2 → f2 ≡ named ∷ f3 → named ≡ text
named-third f0 f1 f2 f3 a b named text at e0 e1 e2 =
    let whole : f0 ≡ a ∷ b ∷ named ∷ f3 = e0 ∙ ap (λ (f : List (List ℕ)). a ∷ f) (e1 ∙ ap (λ (f : List (List ℕ)). b ∷ f) e2) in
    let same : Some named ≡ Some text = ap (λ (fs : List (List ℕ)). slice_get fs 2) (sym whole) ∙ at in
    cc

pub made-read : (z : Config) (name : Name) (f0 f1 f2 f3 f4 : List (List ℕ)) (named : List ℕ) (made : Made) (shard index : ℕ) (e : Event) → made ≡ record { shard = shard; index = index; event = e }
    → slice_get f0 2 ≡ Some (name_text name) → f0 ≡ decimal shard ∷ f1 → shard < z.shards → f1 ≡ decimal index ∷ f2 → IsPlain index → f2 ≡ named ∷ f3
    → IsEventRead (log_parties_of z) name f3 f4 (Some e) → f4 ≡ [] → (codes "e" ∷ f0 ≡ log_spelling (line_of.Made made)) × IsMade z made
made-read z name f0 f1 f2 f3 f4 named made shard index e is at e0 low e1 plain e2 read left =
    let text : named ≡ name_text (name_of e) = named-third f0 f1 f2 f3 _ _ named (name_text name) at e0 e1 e2 ∙ ap name_text (sym read.0) in
    let last : f3 ≡ event_fields e = read.2 ∙ ap (λ (f : List (List ℕ)). event_fields e ++ f) left ∙ append-nil (event_fields e) in
    let one : Made = record { shard = shard; index = index; event = e } in
    let whole : codes "e" ∷ f0 ≡ log_spelling (line_of.Made one) =
    ap (λ (f : List (List ℕ)). codes "e" ∷ f) (e0 ∙ ap (λ (f : List (List ℕ)). decimal shard ∷ f) (e1 ∙ ap (λ (f : List (List ℕ)). decimal index ∷ f) (e2 ∙ ap (λ (p : List ℕ × List (List ℕ)). p.0 ∷ p.1) (λ i. (text i, last i))))) in
    subst (λ (m : Made). (codes "e" ∷ f0 ≡ log_spelling (line_of.Made m)) × IsMade z m) (sym is) (whole, record { shard = low; index = plain; event = read.1 })

-- the fields of a candidate, one after another
pub made-shard : (f0 : List (List ℕ)) (made : Made) → codes "e" ∷ f0 ≡ log_spelling (line_of.Made made)
    → f0 ≡ decimal made.shard ∷ decimal made.index ∷ name_text (name_of made.event) ∷ event_fields made.event
made-shard f0 made is = next-fields refl is

-- fields that are left behind an event
pub made-left : (parties : ℕ) (name : Name) (f3 f4 : List (List ℕ)) (e f : Event) (part : List ℕ) (rest : List (List ℕ)) → IsEventRead parties name f3 f4 (Some e) → f4 ≡ part ∷ rest
    → name_of f ≡ name → f3 ≡ event_fields f → ⊥
made-left parties name f3 f4 e f part rest read left named is =
    let none : f3 ≡ event_fields f ++ [] = is ∙ sym (append-nil (event_fields f)) in
    omega (arith, rest-counted e f f3 f4 [] (read.0 ∙ sym named) read.2 none, ap (λ (xs : List (List ℕ)). length xs) left)
