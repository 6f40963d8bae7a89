-- A printed trace reads back as itself.
use Rattle.std.proofs.Common.{◌≡◌, ℕ, zero, suc, ◌+◌, ◌/◌, ◌%◌, ◌<◌, ◌≤◌, ◌^◌, inl, inr, Bool, true, false, List, [], ◌∷◌, ◌++◌, length, map, eqb, get_or, slice_index, Some, refl, ap, ◌∙◌, sym, subst, arith, length-append, append_assoc}
use Rattle.std.specs.Prelude.{All, codes, decimal, IsNone, MatchBool}
use Rattle.std.specs.List.{join_with_byte, onto_first, slice_split}
use Rattle.std.proofs.lemmas.Bool.Decides.{nat_tests}
use Rattle.std.proofs.lemmas.Fmt.{decimal_is_IsNumeral}
use Rattle.std.proofs.lemmas.List.{append-nil}
use Rattle.std.proofs.lemmas.List.Splits.{slice_split-cons_no, slice_split-cons_yes}
use Rattle.std.proofs.lemmas.Str.Parse.{digit_at}
use Rattle.hex.specs.Hex.{IsBytes, encode_lower, encode_with, lower_digits}
use Rattle.blk_ptr.specs.declared.ptr.Ptr.{Ptr}
use Rattle.arc_core.specs.Config.{IsConfig}
use Rattle.arc_core.specs.declared.config.Config.{Config}
use Rattle.dbuf_state.specs.declared.oid.Oid.{Oid}
use Rattle.trace_text.specs.declared.mapping.Mapping.{Mapping}
use Rattle.trace_text.specs.declared.op.Op.{Op}
use Rattle.trace_text.specs.declared.op.Op.TheVariants as ops
use Rattle.trace_text.specs.declared.trace.Trace.{Trace}
use Rattle.trace_text.specs.declared.words.Line.{Line}
use Rattle.trace_text.specs.declared.words.Line.TheVariants.{Sizes, Limited, Declared, Mapped, Operation}
use Rattle.trace_text.specs.declared.words.Word.{Word}
use Rattle.trace_text.specs.declared.words.Word.TheVariants as words
use Rattle.trace_text.specs.Grammar.{Add, AddAll, Adds, AreApart, AreSizes, BeginsWith, Content, HasRoom, IsDeclarable, IsFormed, IsInRange, IsMapped, IsMappingOn, IsPossible, IsTraceText, MayBegin, MayStand, callers_of, content_of, fields_after, fields_of, is_passed_over, lines_of, longest_text, nothing, seen_of, shards_of, spelling, word_text, usual_bounds, with_line, word_of}
use Rattle.trace_text.specs.TraceText.{line_text, line_words, lines_text, text_of_trace}
use Rattle.trace_text.proofs.LawLemmas.{FewCallers}

-- ---- the bytes of fields

-- each byte is so large at least
abbrev AtLeast : ℕ → List ℕ → Type 0
AtLeast n [] = Unit {0}
AtLeast n (x ∷ xs) = (n ≤ x) × AtLeast n xs

abbrev AllAtLeast : ℕ → List (List ℕ) → Type 0
AllAtLeast n [] = Unit {0}
AllAtLeast n (f ∷ fs) = AtLeast n f × AllAtLeast n fs

at-least-from : (n : ℕ) (xs : List ℕ) → ((k : ℕ) → k < length xs → n ≤ get_or xs k 0) → AtLeast n xs
at-least-from n [] h = tt
at-least-from n (x ∷ xs) h = (h 0 (omega arith), at-least-from n xs (λ k lt. h (suc k) (omega arith)))

at-least-index : (n : ℕ) (xs : List ℕ) → AtLeast n xs → (k : ℕ) → k < length xs → n ≤ slice_index xs k
at-least-index n [] h k lt = absurd (omega arith)
at-least-index n (x ∷ xs) h zero lt = h.0
at-least-index n (x ∷ xs) h (suc k) lt = at-least-index n xs h.1 k (omega arith)

at-least-fewer : (n m : ℕ) (xs : List ℕ) → n ≤ m → AtLeast m xs → AtLeast n xs
at-least-fewer n m [] le h = tt
at-least-fewer n m (x ∷ xs) le h = (omega (arith, h.0), at-least-fewer n m xs le h.1)

at-least-append : (n : ℕ) (xs ys : List ℕ) → AtLeast n xs → AtLeast n ys → AtLeast n (xs ++ ys)
at-least-append n [] ys h k = k
at-least-append n (x ∷ xs) ys h k = (h.0, at-least-append n xs ys h.1 k)

decimal-above : (n : ℕ) → n < 2 ^ 64 → AtLeast 33 (decimal n)
decimal-above n fits = at-least-from 33 (decimal n) (λ k lt. let range = digit_at (decimal n) k (decimal_is_IsNumeral n fits).0.1 lt in omega (arith, range.0))

digits-above : AtLeast 33 lower_digits
digits-above = (omega arith, (omega arith, (omega arith, (omega arith, (omega arith, (omega arith, (omega arith, (omega arith, (omega arith, (omega arith, (omega arith, (omega arith, (omega arith, (omega arith, (omega arith, (omega arith, tt))))))))))))))))

digit-above : (d : ℕ) → d < 16 → 33 ≤ slice_index lower_digits d
digit-above d lt = at-least-index 33 lower_digits digits-above d lt

hex-above : (bs : List ℕ) → IsBytes bs → AtLeast 33 (encode_lower bs)
unfolding encode_with
hex-above [] h = tt
hex-above (b ∷ bs) h =
    let fits : b < 256 = h 0 in
    let high : b / 16 < 16 = omega arith in
    let low : b % 16 < 16 = omega arith in
    (digit-above (b / 16) high, (digit-above (b % 16) low, hex-above bs (λ k. h (suc k))))

byte-alone : (b : ℕ) → b < 256 → IsBytes (b ∷ [])
byte-alone b lt zero = lt
byte-alone b lt (suc k) = omega arith

word-above : (word : Word) → AtLeast 33 (word_text word)
word-above words.Arc = (omega arith, (omega arith, (omega arith, tt)))
word-above words.L2 = (omega arith, (omega arith, tt))
word-above words.Block = (omega arith, (omega arith, (omega arith, (omega arith, (omega arith, tt)))))
word-above words.Object = (omega arith, (omega arith, (omega arith, (omega arith, (omega arith, (omega arith, tt))))))
word-above words.Read = (omega arith, (omega arith, (omega arith, (omega arith, tt))))
word-above words.Hold = (omega arith, (omega arith, (omega arith, (omega arith, tt))))
word-above words.Drop = (omega arith, (omega arith, (omega arith, (omega arith, tt))))
word-above words.Get = (omega arith, (omega arith, (omega arith, tt)))
word-above words.Put = (omega arith, (omega arith, (omega arith, tt)))
word-above words.Patch = (omega arith, (omega arith, (omega arith, (omega arith, (omega arith, tt)))))
word-above words.Pin = (omega arith, (omega arith, (omega arith, tt)))
word-above words.Unpin = (omega arith, (omega arith, (omega arith, (omega arith, (omega arith, tt)))))
word-above words.Feed = (omega arith, (omega arith, (omega arith, (omega arith, tt))))
word-above words.Txg = (omega arith, (omega arith, (omega arith, tt)))
word-above words.Cap = (omega arith, (omega arith, (omega arith, tt)))

-- each byte of each field of a line comes behind a space
abbrev IsTidy : Line → Type 0
IsTidy l = AllAtLeast 33 (fields_after l)

-- the fields of a line are so
tidy : (callers shards : ℕ) → callers ≤ 16 → (l : Line) → IsInRange callers shards l → IsTidy l
tidy callers shards few (Sizes z) r = (decimal-above z.callers (omega (arith, r.ranged.counts.callers.1)), (decimal-above z.shards (omega (arith, r.ranged.counts.shards.1)), (decimal-above z.buckets (omega (arith, r.ranged.counts.buckets.1)), (decimal-above z.cells (omega (arith, r.ranged.counts.cells.1)), (decimal-above z.c (omega (arith, r.ranged.amounts.c.most)), (decimal-above z.mintime (omega (arith, r.ranged.amounts.mintime)), (decimal-above z.dbuf_bytes (omega (arith, r.ranged.amounts.dbuf_bytes)), tt)))))))
tidy callers shards few (Limited b) r = (decimal-above b.write_max (omega (arith, r.write_max.1)), (decimal-above b.headroom (omega (arith, r.headroom.1)), tt))
tidy callers shards few (Declared p) r = (decimal-above p.key.offset (omega (arith, r.offset)), (decimal-above p.key.size (omega (arith, r.size)), (decimal-above p.key.birth (omega (arith, r.birth)), (hex-above p.digest.0 r.digest.bytes, tt))))
tidy callers shards few (Mapped m) r = (decimal-above m.at.object (omega (arith, r.at.object)), (decimal-above m.at.block (omega (arith, r.at.block)), (decimal-above m.block (omega (arith, r.block)), tt)))
tidy callers shards few (Operation (ops.Read n t x w)) r = (decimal-above n (omega (arith, r.0)), (decimal-above t (omega (arith, r.1)), (decimal-above x (omega (arith, r.2)), (decimal-above w.at (omega (arith, r.3)), (decimal-above w.len (omega (arith, w.short)), tt)))))
tidy callers shards few (Operation (ops.Hold n t x)) r = (decimal-above n (omega (arith, r.0)), (decimal-above t (omega (arith, r.1)), (decimal-above x (omega (arith, r.2)), tt)))
tidy callers shards few (Operation (ops.Drop n x)) r = (decimal-above n (omega (arith, r.0)), (decimal-above x (omega (arith, r.1)), tt))
tidy callers shards few (Operation (ops.Get n t at w)) r = (decimal-above n (omega (arith, r.0)), (decimal-above t (omega (arith, r.1)), (decimal-above at.object (omega (arith, r.2.object)), (decimal-above at.block (omega (arith, r.2.block)), (decimal-above w.at (omega (arith, r.3)), (decimal-above w.len (omega (arith, w.short)), tt))))))
tidy callers shards few (Operation (ops.Put n t at size fill)) r = (decimal-above n (omega (arith, r.0)), (decimal-above t (omega (arith, r.1)), (decimal-above at.object (omega (arith, r.2.object)), (decimal-above at.block (omega (arith, r.2.block)), (decimal-above size (omega (arith, r.3.2)), (hex-above (fill ∷ []) (byte-alone fill r.4), tt))))))
tidy callers shards few (Operation (ops.Patch n t at from bytes)) r = (decimal-above n (omega (arith, r.0)), (decimal-above t (omega (arith, r.1)), (decimal-above at.object (omega (arith, r.2.object)), (decimal-above at.block (omega (arith, r.2.block)), (decimal-above from (omega (arith, r.3)), (hex-above bytes r.4.bytes, tt))))))
tidy callers shards few (Operation (ops.Pin n t at)) r = (decimal-above n (omega (arith, r.0)), (decimal-above t (omega (arith, r.1)), (decimal-above at.object (omega (arith, r.2.object)), (decimal-above at.block (omega (arith, r.2.block)), tt))))
tidy callers shards few (Operation (ops.Unpin n at)) r = (decimal-above n (omega (arith, r.0)), (decimal-above at.object (omega (arith, r.1.object)), (decimal-above at.block (omega (arith, r.1.block)), tt)))
tidy callers shards few (Operation ops.Feed) r = tt
tidy callers shards few (Operation (ops.Txg t)) r = (decimal-above t (omega (arith, r)), tt)
tidy callers shards few (Operation (ops.Cap c)) r = (decimal-above c (omega (arith, r.0.most)), tt)

-- ---- splitting what was joined

eqb-same : (n : ℕ) → eqb n n ≡ true
eqb-same n = grind (arith, nat_tests)

eqb-above : (b x : ℕ) → b < x → eqb x b ≡ false
eqb-above b x lt = grind (arith, nat_tests)

-- the first part ends in front of the first byte that parts
split-front : (b : ℕ) (xs ys : List ℕ) → AtLeast (suc b) xs → slice_split (λ x. eqb x b) (xs ++ b ∷ ys) ≡ xs ∷ slice_split (λ x. eqb x b) ys
split-front b [] ys h = slice_split-cons_yes (λ x. eqb x b) b ys (eqb-same b)
split-front b (x ∷ xs) ys h =
    slice_split-cons_no (λ y. eqb y b) x (xs ++ b ∷ ys) (eqb-above b x (omega (arith, h.0))) ∙ ap (onto_first x) (split-front b xs ys h.1)

-- without such a byte there is one part
split-whole : (b : ℕ) (xs : List ℕ) → AtLeast (suc b) xs → slice_split (λ x. eqb x b) xs ≡ xs ∷ []
split-whole b [] h = refl
split-whole b (x ∷ xs) h = slice_split-cons_no (λ y. eqb y b) x xs (eqb-above b x (omega (arith, h.0))) ∙ ap (onto_first x) (split-whole b xs h.1)

-- joined fields part into themselves
fields-join : (f : List ℕ) (fs : List (List ℕ)) → AtLeast 33 f → AllAtLeast 33 fs → fields_of (join_with_byte 32 (f ∷ fs)) ≡ f ∷ fs
fields-join f [] h hs = split-whole 32 f h
fields-join f (g ∷ gs) h hs = split-front 32 f (join_with_byte 32 (g ∷ gs)) h ∙ ap (λ (rest : List (List ℕ)). f ∷ rest) (fields-join g gs hs.0 hs.1)

-- and have no newline
join-above : (fs : List (List ℕ)) → AllAtLeast 33 fs → AtLeast 11 (join_with_byte 32 fs)
join-above [] hs = tt
join-above (f ∷ []) hs = at-least-fewer 11 33 f (omega arith) hs.0
join-above (f ∷ g ∷ gs) hs =
    at-least-append 11 f (32 ∷ join_with_byte 32 (g ∷ gs)) (at-least-fewer 11 33 f (omega arith) hs.0) (omega arith, join-above (g ∷ gs) hs.1)

-- the fields of a printed line are its spelling
fields-line : (l : Line) → IsTidy l → fields_of (line_words l) ≡ spelling l
fields-line l h = fields-join (word_text (word_of l)) (fields_after l) (word-above (word_of l)) h

-- a printed line is parted from what follows
lines-line : (l : Line) (rest : List ℕ) → IsTidy l → lines_of (line_text l ++ rest) ≡ line_words l ∷ lines_of rest
lines-line l rest h =
    let clean : AtLeast 11 (line_words l) = join-above (spelling l) (word-above (word_of l), h) in
    ap lines_of (append_assoc (line_words l) (codes "\n") rest) ∙ split-front 10 (line_words l) rest clean

-- so are several
lines-lines : {X : Type 0} (line_of : X → Line) (xs : List X) (rest : List ℕ) → ((k : ℕ) (d : X) → k < length xs → IsTidy (line_of (get_or xs k d)))
    → lines_of (lines_text line_of xs ++ rest) ≡ map (λ x. line_words (line_of x)) xs ++ lines_of rest
lines-lines line_of [] rest h = refl
lines-lines line_of (x ∷ xs) rest h =
    ap lines_of (append_assoc (line_text (line_of x)) (lines_text line_of xs) rest)
    ∙ lines-line (line_of x) (lines_text line_of xs ++ rest) (h 0 x (omega arith))
    ∙ ap (λ (ls : List (List ℕ)). line_words (line_of x) ∷ ls) (lines-lines line_of xs rest (λ k d lt. h (suc k) d (omega arith)))

-- a printed line is not passed over
counts : (l : Line) → is_passed_over (line_words l) ≡ false
counts (Sizes z) = refl
counts (Limited b) = refl
counts (Declared p) = refl
counts (Mapped m) = refl
counts (Operation (ops.Read n t x w)) = refl
counts (Operation (ops.Hold n t x)) = refl
counts (Operation (ops.Drop n x)) = refl
counts (Operation (ops.Get n t at w)) = refl
counts (Operation (ops.Put n t at size fill)) = refl
counts (Operation (ops.Patch n t at from bytes)) = refl
counts (Operation (ops.Pin n t at)) = refl
counts (Operation (ops.Unpin n at)) = refl
counts (Operation ops.Feed) = refl
counts (Operation (ops.Txg t)) = refl
counts (Operation (ops.Cap c)) = refl

-- ---- adding what was printed

-- the line may be added behind what is said
record Fits (before : Content) (l : Line) : Type 0 where
  ranged : IsInRange (callers_of before.config) (shards_of before.config) l
  begins : MayBegin before.config (word_of l)
  ordered : MayStand before l
  room : HasRoom (seen_of before) l

add-line : (before : Content) → FewCallers before → (l : Line) → Fits before l → Adds before (line_words l) (with_line before l)
add-line before few l fits =
    let clean = tidy (callers_of before.config) (shards_of before.config) few l fits.ranged in
    let fields = fields-line l clean in
    let begins : BeginsWith before.config (fields_of (line_words l)) (word_of l) =
    subst (λ (fs : List (List ℕ)). BeginsWith before.config fs (word_of l)) (sym fields) (refl, fits.begins) in
    let added : Add before (fields_of (line_words l)) (with_line before l) = record {
      line = l;
      said = record { word = word_of l; begins = begins; spelled = record { spelled = fields; ranged = fits.ranged } };
      ordered = fits.ordered;
      room = fits.room;
      added = refl;
    } in
    subst (λ (passed : Bool). MatchBool passed (with_line before l ≡ before) (Add before (fields_of (line_words l)) (with_line before l))) (sym (counts l)) added

-- what is said, once there are sizes
abbrev at : Config → List Ptr → List Mapping → List Op → Content
at z bs ms os = record { config = Some z; limited = true; blocks = bs; objects = ms; ops = os }

-- behind the sizes another word may begin a line
sized-not : (z : Config) → IsNone (Some z) → ⊥
sized-not z none = cc

behind : (z : Config) (word : Word) → (word ≡ words.Arc → ⊥) → MayBegin (Some z) word
behind z word other = (λ same. absurd (other same), λ none. absurd (sized-not z none))

blocks-add : (z : Config) → z.callers ≤ 16 → (front ps : List Ptr) → All IsDeclarable ps → length front + length ps ≤ 100000
    → (rest : List (List ℕ)) (after : Content) → AddAll (at z (front ++ ps) [] []) rest after
    → AddAll (at z front [] []) (map (λ p. line_words (Declared p)) ps ++ rest) after
blocks-add z few front [] all room rest after a = subst (λ (bs : List Ptr). AddAll (at z bs [] []) rest after) (append-nil front) a
blocks-add z few front (p ∷ ps) all room rest after a = (
  at z (front ++ p ∷ []) [] [],
  add-line (at z front [] []) few (Declared p) (record { ranged = all 0 p (omega arith); begins = behind z words.Block (λ e. cc); ordered = (refl, tt); room = omega arith }),
  blocks-add z few (front ++ p ∷ []) ps (λ k d lt. all (suc k) d (omega arith)) (omega (arith, length-append front (p ∷ []))) rest after
      (subst (λ (bs : List Ptr). AddAll (at z bs [] []) rest after) (sym (append_assoc front (p ∷ []) ps)) a),
)

-- a block that is mapped further on
mapped-there : (front : List Mapping) (m : Mapping) (back : List Mapping) (oid : Oid) → m.at ≡ oid → IsMapped oid (front ++ m ∷ back)
mapped-there [] m back oid same = inl same
mapped-there (f ∷ front) m back oid same = inr (mapped-there front m back oid same)

-- of mappings that are apart none maps a block that one before it maps
apart-front : (front : List Mapping) (m : Mapping) (back : List Mapping) → AreApart (front ++ m ∷ back) → IsMapped m.at front → ⊥
apart-front [] m back apart there = there
apart-front (f ∷ front) m back apart there = elim there [
  | inl same ↦ apart.0 (mapped-there front m back f.at (sym same))
  | inr before ↦ apart-front front m back apart.1 before
]

objects-add : (z : Config) → z.callers ≤ 16 → (bs : List Ptr) → length bs ≤ 100000 → (front ms : List Mapping) → All (IsMappingOn (length bs)) ms
    → AreApart (front ++ ms) → length front + length ms ≤ 100000
    → (rest : List (List ℕ)) (after : Content) → AddAll (at z bs (front ++ ms) []) rest after
    → AddAll (at z bs front []) (map (λ m. line_words (Mapped m)) ms ++ rest) after
objects-add z few bs declared front [] all apart room rest after a = subst (λ (ms : List Mapping). AddAll (at z bs ms []) rest after) (append-nil front) a
objects-add z few bs declared front (m ∷ ms) all apart room rest after a =
    let one : IsMappingOn (length bs) m = all 0 m (omega arith) in (
      at z bs (front ++ m ∷ []) [],
      add-line (at z bs front []) few (Mapped m) (record {
        ranged = record { at = one.0; block = omega (arith, one.1) };
        begins = behind z words.Object (λ e. cc);
        ordered = ((refl, one.1), apart-front front m ms apart);
        room = omega arith;
      }),
      objects-add z few bs declared (front ++ m ∷ []) ms (λ k d lt. all (suc k) d (omega arith))
          (subst AreApart (sym (append_assoc front (m ∷ []) ms)) apart) (omega (arith, length-append front (m ∷ []))) rest after
          (subst (λ (all_of : List Mapping). AddAll (at z bs all_of []) rest after) (sym (append_assoc front (m ∷ []) ms)) a),
    )

-- no operation's word is that of the sizes
later : (op : Op) → word_of (Operation op) ≡ words.Arc → ⊥
later (ops.Read n t x w) e = cc
later (ops.Hold n t x) e = cc
later (ops.Drop n x) e = cc
later (ops.Get n t at w) e = cc
later (ops.Put n t at size fill) e = cc
later (ops.Patch n t at from bytes) e = cc
later (ops.Pin n t at) e = cc
later (ops.Unpin n at) e = cc
later ops.Feed e = cc
later (ops.Txg t) e = cc
later (ops.Cap c) e = cc

ops-add : (z : Config) → z.callers ≤ 16 → (bs : List Ptr) (ms : List Mapping) (front os : List Op) → All (IsPossible z bs) os → length front + length os ≤ 1000000
    → (rest : List (List ℕ)) (after : Content) → AddAll (at z bs ms (front ++ os)) rest after
    → AddAll (at z bs ms front) (map (λ op. line_words (Operation op)) os ++ rest) after
ops-add z few bs ms front [] all room rest after a = subst (λ (os : List Op). AddAll (at z bs ms os) rest after) (append-nil front) a
ops-add z few bs ms front (op ∷ os) all room rest after a =
    let one : IsPossible z bs op = all 0 op (omega arith) in (
      at z bs ms (front ++ op ∷ []),
      add-line (at z bs ms front) few (Operation op) (record {
        ranged = one.0;
        begins = behind z (word_of (Operation op)) (later op);
        ordered = (one.1, tt);
        room = omega arith;
      }),
      ops-add z few bs ms (front ++ op ∷ []) os (λ k d lt. all (suc k) d (omega arith)) (omega (arith, length-append front (op ∷ []))) rest after
          (subst (λ (all_of : List Op). AddAll (at z bs ms all_of) rest after) (sym (append_assoc front (op ∷ []) os)) a),
    )

-- ---- the whole trace

-- the sizes with the bounds that are meant where no line gives any
abbrev bare : Config → Config
bare z = record z { bounds = usual_bounds }

bare-sizes : (z : Config) → IsConfig z → AreSizes (bare z)
bare-sizes z c = record {
  ranged = record {
    counts = record { callers = c.counts.callers; shards = c.counts.shards; buckets = c.counts.buckets; cells = c.counts.cells };
    amounts = record { c = c.amounts.c; all_shards = c.amounts.all_shards; mintime = c.amounts.mintime; dbuf_bytes = c.amounts.dbuf_bytes };
    bounds = record { write_max = (omega arith, omega arith); headroom = (omega arith, omega arith) };
  };
  write_max = refl;
  headroom = refl;
}

-- the lines of the blocks, the mappings and the operations
abbrev lists_of : Trace → List (List ℕ)
lists_of trace =
    map (λ p. line_words (Declared p)) trace.blocks
    ++ (map (λ m. line_words (Mapped m)) trace.objects ++ (map (λ op. line_words (Operation op)) trace.ops ++ [] ∷ []))

-- the lines of the text
lines-printed : (trace : Trace) → IsFormed trace → lines_of (text_of_trace trace) ≡ line_words (Sizes trace.config) ∷ line_words (Limited trace.config.bounds) ∷ lists_of trace
lines-printed trace formed =
    let z = trace.config in
    let few : z.callers ≤ 16 = formed.config.counts.callers.1 in
    let ops_text = lines_text Operation trace.ops in
    let objects_text = lines_text Mapped trace.objects ++ ops_text in
    let blocks_text = lines_text Declared trace.blocks ++ objects_text in
    let o : lines_of ops_text ≡ map (λ op. line_words (Operation op)) trace.ops ++ [] ∷ [] =
    ap lines_of (sym (append-nil ops_text))
    ∙ lines-lines Operation trace.ops [] (λ k d lt. tidy z.callers z.shards few (Operation (get_or trace.ops k d)) (formed.ops k d lt).0) in
    let m : lines_of objects_text ≡ map (λ m. line_words (Mapped m)) trace.objects ++ (map (λ op. line_words (Operation op)) trace.ops ++ [] ∷ []) =
    lines-lines Mapped trace.objects ops_text (λ k d lt. tidy z.callers z.shards few (Mapped (get_or trace.objects k d)) (mappable k d lt))
    ∙ ap (λ (ls : List (List ℕ)). map (λ m. line_words (Mapped m)) trace.objects ++ ls) o in
    let b : lines_of blocks_text ≡ lists_of trace =
    lines-lines Declared trace.blocks objects_text (λ k d lt. tidy z.callers z.shards few (Declared (get_or trace.blocks k d)) (formed.blocks k d lt))
    ∙ ap (λ (ls : List (List ℕ)). map (λ p. line_words (Declared p)) trace.blocks ++ ls) m in
    let first = line_text (Sizes z) in
    let second = line_text (Limited z.bounds) in
    let declared = lines_text Declared trace.blocks in
    let mapped = lines_text Mapped trace.objects in
    let nested : text_of_trace trace ≡ first ++ (second ++ blocks_text) =
    append_assoc (first ++ second ++ declared) mapped ops_text ∙ append_assoc (first ++ second) declared objects_text ∙ append_assoc first second blocks_text in
    ap lines_of nested
    ∙ lines-line (Sizes z) (second ++ blocks_text) (tidy z.callers z.shards few (Sizes (bare z)) (bare-sizes z formed.config))
    ∙ ap (λ (ls : List (List ℕ)). line_words (Sizes z) ∷ ls)
    (lines-line (Limited z.bounds) blocks_text (tidy z.callers z.shards few (Limited z.bounds) formed.config.bounds)
    ∙ ap (λ (ls : List (List ℕ)). line_words (Limited z.bounds) ∷ ls) b)
  where
    mappable : (k : ℕ) (d : Mapping) → k < length trace.objects → IsInRange trace.config.callers trace.config.shards (Mapped (get_or trace.objects k d))
    mappable k d lt =
        let one = formed.objects k d lt in
        record { at = one.0; block = omega (arith, one.1, formed.few_blocks) }

-- what the lines say
said-printed : (trace : Trace) → IsFormed trace
    → AddAll nothing (line_words (Sizes trace.config) ∷ line_words (Limited trace.config.bounds) ∷ lists_of trace) (content_of trace true)
said-printed trace formed =
    let z = trace.config in
    let few : z.callers ≤ 16 = formed.config.counts.callers.1 in
    let sized : Content = with_line nothing (Sizes (bare z)) in
    let last : AddAll (at z trace.blocks trace.objects trace.ops) ([] ∷ []) (content_of trace true) = (at z trace.blocks trace.objects trace.ops, refl, refl) in
    let o = ops-add z few trace.blocks trace.objects [] trace.ops formed.ops (omega (arith, formed.few_ops)) ([] ∷ []) (content_of trace true) last in
    let m = objects-add z few trace.blocks formed.few_blocks [] trace.objects formed.objects formed.apart (omega (arith, formed.few_objects))
    (map (λ op. line_words (Operation op)) trace.ops ++ [] ∷ []) (content_of trace true) o in
    let b = blocks-add z few [] trace.blocks formed.blocks (omega (arith, formed.few_blocks))
    (map (λ m. line_words (Mapped m)) trace.objects ++ (map (λ op. line_words (Operation op)) trace.ops ++ [] ∷ [])) (content_of trace true) m in (
      sized,
      add-line nothing (omega arith) (Sizes (bare z)) (record { ranged = bare-sizes z formed.config; begins = (λ same. refl, λ none. refl); ordered = (tt, tt); room = tt }),
      (
        at z [] [] [],
        add-line sized few (Limited z.bounds) (record { ranged = formed.config.bounds; begins = behind (bare z) words.L2 (λ e. cc); ordered = ((refl, refl), tt); room = tt }),
        b,
      ),
    )

-- a printed trace reads back as itself
pub printed-reads : (trace : Trace) → IsFormed trace → length (text_of_trace trace) ≤ longest_text → IsTraceText (text_of_trace trace) trace
printed-reads trace formed short = record {
  limited = true;
  short = short;
  said = subst (λ (ls : List (List ℕ)). AddAll nothing ls (content_of trace true)) (sym (lines-printed trace formed)) (said-printed trace formed);
}
