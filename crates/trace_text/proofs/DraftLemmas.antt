-- What a line adds, from what its fields are read as.
use Rattle.std.proofs.Common.{◌≡◌, ℕ, List, [], ◌∷◌, length, Option, Some, None, Result, Err, Bor, inl, inr, refl, ap, sym, subst, ◌∙◌, arith, unwrap_or, eqb}
use Rattle.std.specs.Prelude.{MatchOption}
use Rattle.std.proofs.lemmas.List.Splits.{length-slice_split}
use Rattle.arc_core.specs.declared.config.Config.{Config}
use Rattle.trace_text.specs.declared.fault.Kind.{Kind}
use Rattle.trace_text.specs.declared.fault.Kind.TheVariants as kinds
use Rattle.trace_text.specs.declared.words.Line.{Line}
use Rattle.trace_text.specs.declared.words.LineFault.{LineFault}
use Rattle.trace_text.specs.declared.words.LineFault.TheVariants.{NoMemory, Wrong}
use Rattle.trace_text.specs.declared.words.Seen.{Seen}
use Rattle.trace_text.specs.declared.words.Word.{Word}
use Rattle.trace_text.specs.Grammar.{Content, HasShape, IsMisspelled, MayBegin, field_count, fields_of, seen_of, word_text}
use Rattle.trace_text.specs.Reading.{IsLineFormRead, IsLineRead}

-- a line has a first field
pub first-field : (line : List ℕ) (o : Option (Bor (List ℕ))) (first d : Bor (List ℕ)) (rest : List (List ℕ))
    → MatchOption o (fields_of line ≡ []) (λ part. fields_of line ≡ part.now ∷ rest) → first ≡ unwrap_or o d → fields_of line ≡ first.now ∷ rest
first-field line (Some part) first d rest h is = h ∙ ap (λ (p : Bor (List ℕ)). p.now ∷ rest) (sym is)
first-field line None first d rest h is = absurd (omega (arith, length-slice_split (λ b. eqb b 32) line, ap length h))

-- a line that begins with no word that may stand here
pub begun-fault : (before : Content) (line first : List ℕ) (rest : List (List ℕ)) (config : Option Config) (r : Result Line LineFault) (e : LineFault) (kind : Kind) → r ≡ Err e → e ≡ Wrong kind
    → fields_of line ≡ first ∷ rest → before.config ≡ config → ((fields : List (List ℕ)) → IsMisspelled config (first ∷ fields) kind) → IsLineRead before (fields_of line) r
begun-fault before line first rest config r e kind is same parts known fault = rw (is, same, parts) (inl (rw known (fault rest)))

-- what is told of fields that have the shape of their word
line-fault : (before : Content) (word : Word) (rest : List (List ℕ)) (e : LineFault) → MayBegin before.config word → HasShape word (word_text word ∷ rest)
    → IsLineFormRead (seen_of before) word rest (Err e) → IsLineRead before (word_text word ∷ rest) (Err e)
line-fault before word rest (Wrong kinds.Number) may shape form = inl (word, (refl, may), shape, λ line said. form line said.spelled)
line-fault before word rest (Wrong kinds.Order) may shape form = inr (form.0, record { word = word; begins = (refl, may); spelled = form.1 }, λ stands. form.2 stands.0)
line-fault before word rest (Wrong other) may shape form = absurd form
line-fault before word rest NoMemory may shape form = tt

pub kept-fault : (before : Content) (line first : List ℕ) (rest : List (List ℕ)) (config : Option Config) (seen : Seen) (word : Word) (e : LineFault) → fields_of line ≡ first ∷ rest
    → before.config ≡ config → seen ≡ seen_of before → first ≡ word_text word → MayBegin config word → HasShape word (fields_of line)
    → (length rest ≡ field_count word → IsLineFormRead seen word rest (Err e)) → IsLineRead before (fields_of line) (Err e)
kept-fault before line first rest config seen word e parts known same spelled may shape form =
    let all : fields_of line ≡ word_text word ∷ rest = parts ∙ ap (λ f. f ∷ rest) spelled in
    let here : HasShape word (word_text word ∷ rest) = subst (HasShape word) all shape in
    let begins : MayBegin before.config word = subst (λ (c : Option Config). MayBegin c word) (sym known) may in
    subst (λ (fs : List (List ℕ)). IsLineRead before fs (Err e)) (sym all) (line-fault before word rest e begins here (subst (λ (s : Seen). IsLineFormRead s word rest (Err e)) same (form here.0)))
