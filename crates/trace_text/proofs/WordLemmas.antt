-- A line is told by its word, and a word by its whole spelling.
use Rattle.std.proofs.Common.{◌≡◌, ℕ, eqb, Bool, true, false, List, [], ◌∷◌, Option, Some, None, refl, ap, ◌∙◌, sym, subst, cond}
use Rattle.blk_ptr.specs.declared.ptr.Ptr.{Ptr}
use Rattle.arc_core.specs.declared.config.Bounds.{Bounds}
use Rattle.arc_core.specs.declared.config.Config.{Config}
use Rattle.trace_text.specs.declared.mapping.Mapping.{Mapping}
use Rattle.trace_text.specs.declared.op.Op.TheVariants as ops
use Rattle.dbuf_state.specs.declared.oid.Oid.{Oid}
use Rattle.dbuf_state.specs.declared.window.Window.{Window}
use Rattle.trace_text.specs.declared.words.Line.{Line}
use Rattle.trace_text.specs.declared.words.Line.TheVariants.{Sizes, Limited, Declared, Mapped, Operation}
use Rattle.trace_text.specs.declared.words.Word.{Word}
use Rattle.trace_text.specs.declared.words.Word.TheVariants as words
use Rattle.trace_text.specs.Grammar.{BeginsWith, IsInRange, Spell, fields_after, spelling, word_text, word_of}

-- whether two texts are one
abbrev same_text : List ℕ → List ℕ → Bool
same_text [] [] = true
same_text [] (b ∷ other) = false
same_text (a ∷ text) [] = false
same_text (a ∷ text) (b ∷ other) = cond (eqb a b) (same_text text other) false

-- the first of these words that is spelled so
abbrev spelled_in : List Word → List ℕ → Option Word
spelled_in [] text = None
spelled_in (word ∷ others) text = cond (same_text (word_text word) text) (Some word) (spelled_in others text)

abbrev all_words : List Word
all_words = words.Arc ∷ words.L2 ∷ words.Block ∷ words.Object ∷ words.Read ∷ words.Hold ∷ words.Drop
    ∷ words.Get ∷ words.Put ∷ words.Patch ∷ words.Pin ∷ words.Unpin ∷ words.Feed ∷ words.Txg ∷ words.Cap ∷ []

-- each word is the first that is spelled as it is
spelled_in-text : (word : Word) → spelled_in all_words (word_text word) ≡ Some word
spelled_in-text words.Arc = refl
spelled_in-text words.L2 = refl
spelled_in-text words.Block = refl
spelled_in-text words.Object = refl
spelled_in-text words.Read = refl
spelled_in-text words.Hold = refl
spelled_in-text words.Drop = refl
spelled_in-text words.Get = refl
spelled_in-text words.Put = refl
spelled_in-text words.Patch = refl
spelled_in-text words.Pin = refl
spelled_in-text words.Unpin = refl
spelled_in-text words.Feed = refl
spelled_in-text words.Txg = refl
spelled_in-text words.Cap = refl

-- two words with one spelling are one
pub text_of-injective : (v w : Word) → word_text v ≡ word_text w → v ≡ w
text_of-injective v w e =
    let both : Some v ≡ Some w = sym (spelled_in-text v) ∙ ap (spelled_in all_words) e ∙ spelled_in-text w in
    cc

-- what a line with this word says
abbrev pub FormOf : Word → Line → Type 0
FormOf words.Arc line = (z : Config) × (line ≡ Sizes z)
FormOf words.L2 line = (b : Bounds) × (line ≡ Limited b)
FormOf words.Block line = (p : Ptr) × (line ≡ Declared p)
FormOf words.Object line = (m : Mapping) × (line ≡ Mapped m)
FormOf words.Read line = (n t x : ℕ) × (w : Window) × (line ≡ Operation (ops.Read n t x w))
FormOf words.Hold line = (n t x : ℕ) × (line ≡ Operation (ops.Hold n t x))
FormOf words.Drop line = (n x : ℕ) × (line ≡ Operation (ops.Drop n x))
FormOf words.Get line = (n t : ℕ) × (at : Oid) × (w : Window) × (line ≡ Operation (ops.Get n t at w))
FormOf words.Put line = (n t : ℕ) × (at : Oid) × (size fill : ℕ) × (line ≡ Operation (ops.Put n t at size fill))
FormOf words.Patch line = (n t : ℕ) × (at : Oid) × (from : ℕ) × (bytes : List ℕ) × (line ≡ Operation (ops.Patch n t at from bytes))
FormOf words.Pin line = (n t : ℕ) × (at : Oid) × (line ≡ Operation (ops.Pin n t at))
FormOf words.Unpin line = (n : ℕ) × (at : Oid) × (line ≡ Operation (ops.Unpin n at))
FormOf words.Feed line = (line ≡ Operation ops.Feed)
FormOf words.Txg line = (t : ℕ) × (line ≡ Operation (ops.Txg t))
FormOf words.Cap line = (c : ℕ) × (line ≡ Operation (ops.Cap c))

form : (line : Line) → FormOf (word_of line) line
form (Sizes z) = (z, refl)
form (Limited b) = (b, refl)
form (Declared p) = (p, refl)
form (Mapped m) = (m, refl)
form (Operation (ops.Read n t x w)) = (n, t, x, w, refl)
form (Operation (ops.Hold n t x)) = (n, t, x, refl)
form (Operation (ops.Drop n x)) = (n, x, refl)
form (Operation (ops.Get n t at w)) = (n, t, at, w, refl)
form (Operation (ops.Put n t at size fill)) = (n, t, at, size, fill, refl)
form (Operation (ops.Patch n t at from bytes)) = (n, t, at, from, bytes, refl)
form (Operation (ops.Pin n t at)) = (n, t, at, refl)
form (Operation (ops.Unpin n at)) = (n, at, refl)
form (Operation ops.Feed) = refl
form (Operation (ops.Txg t)) = (t, refl)
form (Operation (ops.Cap c)) = (c, refl)

-- a line that begins with this word is of its form
pub form-as : (word : Word) (line : Line) → word_of line ≡ word → FormOf word line
form-as word line e = subst (λ w. FormOf w line) e (form line)

-- what fields that begin with this word say, where they are a line
pub record IsLineOf (callers shards : ℕ) (word : Word) (fields : List (List ℕ)) (line : Line) : Type 0 where
  pub form : FormOf word line
  pub after : fields ≡ fields_after line
  pub ranged : IsInRange callers shards line

pub line-of : (callers shards : ℕ) (word : Word) (fields : List (List ℕ)) (line : Line) → Spell callers shards (word_text word ∷ fields) line → IsLineOf callers shards word fields line
line-of callers shards word fields line s =
    let e = s.spelled in
    let same : word_text (word_of line) ≡ word_text word = cc in
    record { form = form-as word line (text_of-injective (word_of line) word same); after = cc; ranged = s.ranged }

-- two lines with one spelling have one word
pub same-word : (l m : Line) → spelling l ≡ spelling m → word_of l ≡ word_of m
same-word l m e =
    let same : word_text (word_of l) ≡ word_text (word_of m) = cc in text_of-injective (word_of l) (word_of m) same

-- the word that a line's fields begin with
pub begins-word : (config : Option Config) (fields : List (List ℕ)) (word : Word) (line : Line) → BeginsWith config fields word → fields ≡ spelling line → word_of line ≡ word
begins-word config [] word line begins is = absurd begins
begins-word config (first ∷ fields) word line begins is =
    let same : first ≡ word_text (word_of line) = cc in
    text_of-injective (word_of line) word (sym same ∙ begins.0)

-- fields begin with one word
pub word-one : (config : Option Config) (fields : List (List ℕ)) (v w : Word) → BeginsWith config fields v → BeginsWith config fields w → v ≡ w
word-one config [] v w p q = absurd p
word-one config (first ∷ fields) v w p q = text_of-injective v w (sym p.0 ∙ q.0)
