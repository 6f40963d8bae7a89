-- The lines of each word, from their fields.
use Rattle.std.proofs.Common.{◌≡◌, ℕ, ◌≤◌, ◌^◌, List, [], ◌∷◌, Result, Err, ap, ◌∙◌, sym, arith}
use Rattle.std.specs.Prelude.{decimal}
use Rattle.std.proofs.lemmas.Fmt.{decimal_injective}
use Rattle.hex.specs.Hex.{encode_lower}
use Rattle.blk_ptr.specs.declared.ptr.Ptr.{Ptr}
use Rattle.arc_core.specs.Config.{AreBounds}
use Rattle.arc_core.specs.declared.config.Bounds.{Bounds}
use Rattle.arc_core.specs.declared.config.Config.{Config}
use Rattle.trace_text.specs.declared.fault.Kind.{Kind}
use Rattle.trace_text.specs.declared.fault.Kind.TheVariants as kinds
use Rattle.trace_text.specs.declared.mapping.Mapping.{Mapping}
use Rattle.trace_text.specs.declared.op.Op.TheVariants as ops
use Rattle.dbuf_state.specs.declared.oid.Oid.{Oid}
use Rattle.dbuf_state.specs.declared.window.Window.{Window}
use Rattle.trace_text.specs.declared.words.Line.{Line}
use Rattle.trace_text.specs.declared.words.Line.TheVariants.{Sizes, Limited, Declared, Mapped, Operation}
use Rattle.trace_text.specs.declared.words.LineFault.{LineFault}
use Rattle.trace_text.specs.declared.words.LineFault.TheVariants.{Wrong}
use Rattle.trace_text.specs.declared.words.Seen.{Seen}
use Rattle.trace_text.specs.declared.words.Word.{Word}
use Rattle.trace_text.specs.declared.words.Word.TheVariants as words
use Rattle.trace_text.specs.Grammar.{AreSizes, IsDeclarable, IsInOrder, IsMappable, IsOperation, Spell, fields_after, word_text}
use Rattle.trace_text.specs.Reading.{IsFormRead, IsLineFormRead}
use Rattle.trace_text.proofs.WordLemmas.{line-of}

-- a line that begins with this word is of this form
pub spell-arc : (callers shards : ℕ) (fields : List (List ℕ)) (line : Line) → Spell callers shards (word_text words.Arc ∷ fields) line
    → (z : Config) × (line ≡ Sizes z) × (fields ≡ fields_after (Sizes z)) × AreSizes z
spell-arc callers shards fields line s =
    let l = line-of callers shards words.Arc fields line s in (l.form.0, l.form.1, rw l.form.1 at l.after, rw l.form.1 at l.ranged)

pub spell-l2 : (callers shards : ℕ) (fields : List (List ℕ)) (line : Line) → Spell callers shards (word_text words.L2 ∷ fields) line
    → (b : Bounds) × (line ≡ Limited b) × (fields ≡ fields_after (Limited b)) × AreBounds b
spell-l2 callers shards fields line s =
    let l = line-of callers shards words.L2 fields line s in (l.form.0, l.form.1, rw l.form.1 at l.after, rw l.form.1 at l.ranged)

pub spell-block : (callers shards : ℕ) (fields : List (List ℕ)) (line : Line) → Spell callers shards (word_text words.Block ∷ fields) line
    → (p : Ptr) × (line ≡ Declared p) × (fields ≡ fields_after (Declared p)) × IsDeclarable p
spell-block callers shards fields line s =
    let l = line-of callers shards words.Block fields line s in (l.form.0, l.form.1, rw l.form.1 at l.after, rw l.form.1 at l.ranged)

pub spell-object : (callers shards : ℕ) (fields : List (List ℕ)) (line : Line) → Spell callers shards (word_text words.Object ∷ fields) line
    → (m : Mapping) × (line ≡ Mapped m) × (fields ≡ fields_after (Mapped m)) × IsMappable m
spell-object callers shards fields line s =
    let l = line-of callers shards words.Object fields line s in (l.form.0, l.form.1, rw l.form.1 at l.after, rw l.form.1 at l.ranged)

pub spell-read : (callers shards : ℕ) (fields : List (List ℕ)) (line : Line) → Spell callers shards (word_text words.Read ∷ fields) line
    → (n t x : ℕ) × (w : Window) × (line ≡ Operation (ops.Read n t x w))
    × (fields ≡ decimal n ∷ decimal t ∷ decimal x ∷ decimal w.at ∷ decimal w.len ∷ []) × IsOperation callers shards (ops.Read n t x w)
spell-read callers shards fields line s =
    let l = line-of callers shards words.Read fields line s in
    (l.form.0, l.form.1, l.form.2, l.form.3, l.form.4, rw l.form.4 at l.after, rw l.form.4 at l.ranged)

pub spell-hold : (callers shards : ℕ) (fields : List (List ℕ)) (line : Line) → Spell callers shards (word_text words.Hold ∷ fields) line
    → (n t x : ℕ) × (line ≡ Operation (ops.Hold n t x)) × (fields ≡ decimal n ∷ decimal t ∷ decimal x ∷ []) × IsOperation callers shards (ops.Hold n t x)
spell-hold callers shards fields line s =
    let l = line-of callers shards words.Hold fields line s in
    (l.form.0, l.form.1, l.form.2, l.form.3, rw l.form.3 at l.after, rw l.form.3 at l.ranged)

pub spell-drop : (callers shards : ℕ) (fields : List (List ℕ)) (line : Line) → Spell callers shards (word_text words.Drop ∷ fields) line
    → (n x : ℕ) × (line ≡ Operation (ops.Drop n x)) × (fields ≡ decimal n ∷ decimal x ∷ []) × IsOperation callers shards (ops.Drop n x)
spell-drop callers shards fields line s =
    let l = line-of callers shards words.Drop fields line s in
    (l.form.0, l.form.1, l.form.2, rw l.form.2 at l.after, rw l.form.2 at l.ranged)

pub spell-get : (callers shards : ℕ) (fields : List (List ℕ)) (line : Line) → Spell callers shards (word_text words.Get ∷ fields) line
    → (n t : ℕ) × (at : Oid) × (w : Window) × (line ≡ Operation (ops.Get n t at w))
    × (fields ≡ decimal n ∷ decimal t ∷ decimal at.object ∷ decimal at.block ∷ decimal w.at ∷ decimal w.len ∷ []) × IsOperation callers shards (ops.Get n t at w)
spell-get callers shards fields line s =
    let l = line-of callers shards words.Get fields line s in
    (l.form.0, l.form.1, l.form.2, l.form.3, l.form.4, rw l.form.4 at l.after, rw l.form.4 at l.ranged)

pub spell-put : (callers shards : ℕ) (fields : List (List ℕ)) (line : Line) → Spell callers shards (word_text words.Put ∷ fields) line
    → (n t : ℕ) × (at : Oid) × (size fill : ℕ) × (line ≡ Operation (ops.Put n t at size fill))
    × (fields ≡ decimal n ∷ decimal t ∷ decimal at.object ∷ decimal at.block ∷ decimal size ∷ encode_lower (fill ∷ []) ∷ []) × IsOperation callers shards (ops.Put n t at size fill)
spell-put callers shards fields line s =
    let l = line-of callers shards words.Put fields line s in
    (l.form.0, l.form.1, l.form.2, l.form.3, l.form.4, l.form.5, rw l.form.5 at l.after, rw l.form.5 at l.ranged)

pub spell-patch : (callers shards : ℕ) (fields : List (List ℕ)) (line : Line) → Spell callers shards (word_text words.Patch ∷ fields) line
    → (n t : ℕ) × (at : Oid) × (from : ℕ) × (bytes : List ℕ) × (line ≡ Operation (ops.Patch n t at from bytes))
    × (fields ≡ decimal n ∷ decimal t ∷ decimal at.object ∷ decimal at.block ∷ decimal from ∷ encode_lower bytes ∷ []) × IsOperation callers shards (ops.Patch n t at from bytes)
spell-patch callers shards fields line s =
    let l = line-of callers shards words.Patch fields line s in
    (l.form.0, l.form.1, l.form.2, l.form.3, l.form.4, l.form.5, rw l.form.5 at l.after, rw l.form.5 at l.ranged)

pub spell-pin : (callers shards : ℕ) (fields : List (List ℕ)) (line : Line) → Spell callers shards (word_text words.Pin ∷ fields) line
    → (n t : ℕ) × (at : Oid) × (line ≡ Operation (ops.Pin n t at))
    × (fields ≡ decimal n ∷ decimal t ∷ decimal at.object ∷ decimal at.block ∷ []) × IsOperation callers shards (ops.Pin n t at)
spell-pin callers shards fields line s =
    let l = line-of callers shards words.Pin fields line s in
    (l.form.0, l.form.1, l.form.2, l.form.3, rw l.form.3 at l.after, rw l.form.3 at l.ranged)

pub spell-unpin : (callers shards : ℕ) (fields : List (List ℕ)) (line : Line) → Spell callers shards (word_text words.Unpin ∷ fields) line
    → (n : ℕ) × (at : Oid) × (line ≡ Operation (ops.Unpin n at))
    × (fields ≡ decimal n ∷ decimal at.object ∷ decimal at.block ∷ []) × IsOperation callers shards (ops.Unpin n at)
spell-unpin callers shards fields line s =
    let l = line-of callers shards words.Unpin fields line s in
    (l.form.0, l.form.1, l.form.2, rw l.form.2 at l.after, rw l.form.2 at l.ranged)

pub spell-txg : (callers shards : ℕ) (fields : List (List ℕ)) (line : Line) → Spell callers shards (word_text words.Txg ∷ fields) line
    → (t : ℕ) × (line ≡ Operation (ops.Txg t))
    × (fields ≡ decimal t ∷ []) × IsOperation callers shards (ops.Txg t)
spell-txg callers shards fields line s =
    let l = line-of callers shards words.Txg fields line s in
    (l.form.0, l.form.1, rw l.form.1 at l.after, rw l.form.1 at l.ranged)

pub spell-cap : (callers shards : ℕ) (fields : List (List ℕ)) (line : Line) → Spell callers shards (word_text words.Cap ∷ fields) line
    → (c : ℕ) × (line ≡ Operation (ops.Cap c)) × (fields ≡ decimal c ∷ []) × IsOperation callers shards (ops.Cap c)
spell-cap callers shards fields line s =
    let l = line-of callers shards words.Cap fields line s in
    (l.form.0, l.form.1, rw l.form.1 at l.after, rw l.form.1 at l.ranged)

-- what comes after the first field
pub next-fields : {fields rest others : List (List ℕ)} {a b : List ℕ} → fields ≡ a ∷ rest → fields ≡ b ∷ others → rest ≡ others
next-fields e f = let joined = sym e ∙ f in cc

-- and after the first two
pub later-fields : {fields rest others : List (List ℕ)} {a b c d : List ℕ} → fields ≡ a ∷ b ∷ rest → fields ≡ c ∷ d ∷ others → rest ≡ others
later-fields e f = let joined = sym e ∙ f in cc

-- the number in the first field
pub same-number : {fields rest others : List (List ℕ)} (a b : ℕ) → a ≤ 2 ^ 32 → b ≤ 2 ^ 32 → fields ≡ decimal a ∷ rest → fields ≡ decimal b ∷ others → a ≡ b
same-number a b low_a low_b e f = decimal_injective a b (omega arith) (omega arith) (first-field (sym e ∙ f))
  where
    first-field : {x y : List ℕ} {xs ys : List (List ℕ)} → x ∷ xs ≡ y ∷ ys → x ≡ y
    first-field joined = cc

-- fields with a number or a digest that is none are no line
pub number-fault : (seen : Seen) (word : Word) (fields : List (List ℕ)) (r : Result Line Kind) (e kind : Kind) → r ≡ Err e → e ≡ kind → kind ≡ kinds.Number
    → ((line : Line) → Spell seen.callers seen.shards (word_text word ∷ fields) line → ⊥) → IsFormRead seen word fields r
number-fault seen word fields r e kind is same number none = rw (is, same, number) none

-- the same, where memory may be refused
pub line-number-fault : (seen : Seen) (word : Word) (fields : List (List ℕ)) (r : Result Line LineFault) (e : LineFault) (kind : Kind) → r ≡ Err e → e ≡ Wrong kind → kind ≡ kinds.Number
    → ((line : Line) → Spell seen.callers seen.shards (word_text word ∷ fields) line → ⊥) → IsLineFormRead seen word fields r
line-number-fault seen word fields r e kind is same number none = rw (is, same, number) none

-- a line that may not stand here
pub order-fault : (seen : Seen) (word : Word) (fields : List (List ℕ)) (r : Result Line Kind) (e kind : Kind) → r ≡ Err e → e ≡ kind → kind ≡ kinds.Order
    → (line : Line) → Spell seen.callers seen.shards (word_text word ∷ fields) line → (IsInOrder seen line → ⊥) → IsFormRead seen word fields r
order-fault seen word fields r e kind is same order line spelled misplaced = rw (is, same, order) (line, spelled, misplaced)

-- the line of fields that were taken one after the other
pub read-spelled : (callers shards : ℕ) (f0 f1 f2 f3 f4 f5 : List (List ℕ)) (n t x a l : ℕ) (w : Window) → w.at ≡ a → w.len ≡ l → f5 ≡ []
    → f0 ≡ decimal n ∷ f1 → f1 ≡ decimal t ∷ f2 → f2 ≡ decimal x ∷ f3 → f3 ≡ decimal a ∷ f4 → f4 ≡ decimal l ∷ f5
    → IsOperation callers shards (ops.Read n t x w) → Spell callers shards (word_text words.Read ∷ f0) (Operation (ops.Read n t x w))
read-spelled callers shards f0 f1 f2 f3 f4 f5 n t x a l w wa wl left e0 e1 e2 e3 e4 ranged =
    let all : f0 ≡ decimal n ∷ decimal t ∷ decimal x ∷ decimal w.at ∷ decimal w.len ∷ [] =
    e0 ∙ ap (λ f. decimal n ∷ f) (e1 ∙ ap (λ f. decimal t ∷ f) (e2 ∙ ap (λ f. decimal x ∷ f) (e3 ∙ rw (wa, wl) (ap (λ f. decimal a ∷ f) (e4 ∙ ap (λ f. decimal l ∷ f) left))))) in
    record { spelled = ap (λ f. word_text words.Read ∷ f) all; ranged = ranged }

pub hold-spelled : (callers shards : ℕ) (f0 f1 f2 f3 : List (List ℕ)) (n t x : ℕ) → f3 ≡ []
    → f0 ≡ decimal n ∷ f1 → f1 ≡ decimal t ∷ f2 → f2 ≡ decimal x ∷ f3
    → IsOperation callers shards (ops.Hold n t x) → Spell callers shards (word_text words.Hold ∷ f0) (Operation (ops.Hold n t x))
hold-spelled callers shards f0 f1 f2 f3 n t x left e0 e1 e2 ranged =
    let all : f0 ≡ decimal n ∷ decimal t ∷ decimal x ∷ [] =
    e0 ∙ ap (λ f. decimal n ∷ f) (e1 ∙ ap (λ f. decimal t ∷ f) (e2 ∙ ap (λ f. decimal x ∷ f) left)) in
    record { spelled = ap (λ f. word_text words.Hold ∷ f) all; ranged = ranged }

pub drop-spelled : (callers shards : ℕ) (f0 f1 f2 : List (List ℕ)) (n x : ℕ) → f2 ≡ []
    → f0 ≡ decimal n ∷ f1 → f1 ≡ decimal x ∷ f2
    → IsOperation callers shards (ops.Drop n x) → Spell callers shards (word_text words.Drop ∷ f0) (Operation (ops.Drop n x))
drop-spelled callers shards f0 f1 f2 n x left e0 e1 ranged =
    let all : f0 ≡ decimal n ∷ decimal x ∷ [] = e0 ∙ ap (λ f. decimal n ∷ f) (e1 ∙ ap (λ f. decimal x ∷ f) left) in
    record { spelled = ap (λ f. word_text words.Drop ∷ f) all; ranged = ranged }

pub l2-spelled : (callers shards : ℕ) (f0 f1 f2 : List (List ℕ)) (b : Bounds) → f2 ≡ []
    → f0 ≡ decimal b.write_max ∷ f1 → f1 ≡ decimal b.headroom ∷ f2
    → AreBounds b → Spell callers shards (word_text words.L2 ∷ f0) (Limited b)
l2-spelled callers shards f0 f1 f2 b left e0 e1 ranged =
    let all : f0 ≡ fields_after (Limited b) = e0 ∙ ap (λ f. decimal b.write_max ∷ f) (e1 ∙ ap (λ f. decimal b.headroom ∷ f) left) in
    record { spelled = ap (λ f. word_text words.L2 ∷ f) all; ranged = ranged }

pub object-spelled : (callers shards : ℕ) (f0 f1 f2 : List (List ℕ)) (m : Mapping) → f2 ≡ []
    → f0 ≡ decimal m.at.object ∷ decimal m.at.block ∷ f1 → f1 ≡ decimal m.block ∷ f2
    → IsMappable m → Spell callers shards (word_text words.Object ∷ f0) (Mapped m)
object-spelled callers shards f0 f1 f2 m left e0 e1 ranged =
    let all : f0 ≡ fields_after (Mapped m) = e0 ∙ ap (λ f. decimal m.at.object ∷ decimal m.at.block ∷ f) (e1 ∙ ap (λ f. decimal m.block ∷ f) left) in
    record { spelled = ap (λ f. word_text words.Object ∷ f) all; ranged = ranged }

pub block-spelled : (callers shards : ℕ) (f0 f1 f2 f3 f4 : List (List ℕ)) (p : Ptr) → f4 ≡ []
    → f0 ≡ decimal p.key.offset ∷ f1 → f1 ≡ decimal p.key.size ∷ f2 → f2 ≡ decimal p.key.birth ∷ f3 → f3 ≡ encode_lower p.digest.0 ∷ f4
    → IsDeclarable p → Spell callers shards (word_text words.Block ∷ f0) (Declared p)
block-spelled callers shards f0 f1 f2 f3 f4 p left e0 e1 e2 e3 ranged =
    let all : f0 ≡ fields_after (Declared p) =
    e0 ∙ ap (λ f. decimal p.key.offset ∷ f) (e1 ∙ ap (λ f. decimal p.key.size ∷ f) (e2 ∙ ap (λ f. decimal p.key.birth ∷ f) (e3 ∙ ap (λ f. encode_lower p.digest.0 ∷ f) left))) in
    record { spelled = ap (λ f. word_text words.Block ∷ f) all; ranged = ranged }
