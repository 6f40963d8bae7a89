-- What every trace that is read has.
use Rattle.std.proofs.Common.{◌≡◌, ℕ, ◌≤◌, ◌↔◌, Bool, true, false, not, List, [], ◌∷◌, ◌++◌, inl, inr, length, map, filter, Option, Some, None, refl, ap, ◌∙◌, sym, arith, length-append, append_assoc, cond}
use Rattle.std.proofs.lemmas.List.{append-nil, map-append}
use Rattle.std.specs.Prelude.{All, IfSome, IsNone, MatchBool}
use Rattle.std.proofs.lemmas.Bool.{false≢true}
use Rattle.std.proofs.lemmas.List.Elements.{All-nil, All-push}
use Rattle.blk_ptr.specs.declared.ptr.Ptr.{Ptr}
use Rattle.arc_core.specs.Config.{AreBounds, IsConfig}
use Rattle.arc_core.specs.declared.config.Bounds.{Bounds}
use Rattle.arc_core.specs.declared.config.Config.{Config}
use Rattle.trace_text.specs.declared.mapping.Mapping.{Mapping}
use Rattle.trace_text.specs.declared.op.Op.{Op}
use Rattle.trace_text.specs.declared.op.Op.TheVariants as ops
use Rattle.trace_text.specs.declared.trace.Trace.{Trace}
use Rattle.trace_text.specs.declared.words.Line.{Line}
use Rattle.trace_text.specs.declared.words.Line.TheVariants.{Sizes, Limited, Declared, Mapped, Operation}
use Rattle.trace_text.specs.declared.words.Word.{Word}
use Rattle.trace_text.specs.declared.words.Word.TheVariants as words
use Rattle.trace_text.proofs.TakenLemmas.{mapped-push}
use Rattle.trace_text.proofs.WordLemmas.{begins-word}
use Rattle.trace_text.specs.Grammar.{Add, AddAll, Adds, AreApart, AreDeclared, AreSizes, BeginsWith, Content, HasRoom, IsDeclarable, IsFormed, IsMapped, IsMappingOn, IsOnDeclared, IsOperation, IsTraceText, IsWritten, MayStand, Say, bounds_given, callers_of, content_of, counted_fields, fields_of, is_passed_over, lines_of, nothing, seen_of, shards_of, spelling, usual_bounds, with_bounds, with_line, word_of}

-- an operation that is possible where there are so many callers, shards and blocks
abbrev Possible : (callers shards blocks : ℕ) → Op → Type 0
Possible callers shards blocks op = IsOperation callers shards op × IsOnDeclared blocks op

-- what is said is formed
pub record Sound (said : Content) : Type 0 where
  pub no_blocks : IsNone said.config → length said.blocks ≡ 0
  pub no_bounds : IsNone said.config → said.limited ≡ false
  pub no_objects : IsNone said.config → length said.objects ≡ 0
  pub no_ops : IsNone said.config → length said.ops ≡ 0
  pub config : IfSome said.config IsConfig
  pub blocks : All IsDeclarable said.blocks
  pub few_blocks : length said.blocks ≤ 100000
  pub objects : All (IsMappingOn (length said.blocks)) said.objects
  pub few_objects : length said.objects ≤ 100000
  pub apart : AreApart said.objects
  pub ops : All (Possible (callers_of said.config) (shards_of said.config) (length said.blocks)) said.ops
  pub few_ops : length said.ops ≤ 1000000

pub Sound-nothing : Sound nothing
Sound-nothing = record {
  no_blocks = λ h. refl;
  no_bounds = λ h. refl;
  no_objects = λ h. refl;
  no_ops = λ h. refl;
  config = tt;
  blocks = All-nil IsDeclarable;
  few_blocks = omega arith;
  objects = All-nil (IsMappingOn 0);
  few_objects = omega arith;
  apart = tt;
  ops = All-nil (Possible 0 0 0);
  few_ops = omega arith;
}

no-ops : (P : Op → Type 0) (operations : List Op) → length operations ≡ 0 → All P operations
no-ops P operations h = λ k d lt. absurd (omega arith)

may-begin : (config : Option Config) (fields : List (List ℕ)) (word : Word) → BeginsWith config fields word → (word ≡ words.Arc) ↔ IsNone config
may-begin config [] word h = absurd h
may-begin config (first ∷ fields) word h = h.1

-- a line with another word stands after an `arc` line
not-none : (config : Option Config) (fields : List (List ℕ)) (l : Line) (said : Say config fields l) → (word_of l ≡ words.Arc → ⊥) → IsNone config → ⊥
not-none config fields l said other none =
    other (begins-word config fields said.word l said.begins said.spelled.spelled ∙ (may-begin config fields said.word said.begins).1 none)

-- the `arc` line stands where there are no sizes yet
is-none : (config : Option Config) (fields : List (List ℕ)) (z : Config) (said : Say config fields (Sizes z)) → IsNone config
is-none config fields z said =
    (may-begin config fields said.word said.begins).0 (sym (begins-word config fields said.word (Sizes z) said.begins said.spelled.spelled))

-- a mapping on so many blocks is one on more
more-blocks : (mappings : List Mapping) (few more : ℕ) → few ≤ more → All (IsMappingOn few) mappings → All (IsMappingOn more) mappings
more-blocks mappings few more le all = λ k d lt. let one = all k d lt in (one.0, omega (arith, one.1))

-- one more mapping, of a block that none of the others maps
apart-push : (mappings : List Mapping) (m : Mapping) → AreApart mappings → (IsMapped m.at mappings → ⊥) → AreApart (mappings ++ m ∷ [])
apart-push [] m apart new = (λ none. none, tt)
apart-push (first ∷ mappings) m apart new = (
  λ there. elim (mapped-push mappings m first.at there) [
    | inl before ↦ apart.0 before
    | inr same ↦ new (inl (sym same))
  ],
  apart-push mappings m apart.1 (λ there. new (inr there)),
)

-- sizes with other bounds
bounded : (config : Option Config) (b : Bounds) → AreBounds b → IfSome config IsConfig → IfSome (with_bounds config b) IsConfig
bounded None b ranged c = tt
bounded (Some z) b ranged c = record {
  counts = record { callers = c.counts.callers; shards = c.counts.shards; buckets = c.counts.buckets; cells = c.counts.cells };
  amounts = record { c = c.amounts.c; all_shards = c.amounts.all_shards; mintime = c.amounts.mintime; dbuf_bytes = c.amounts.dbuf_bytes };
  bounds = ranged;
}

unbounded : (config : Option Config) (b : Bounds) → IsNone (with_bounds config b) → IsNone config
unbounded None b none = refl
unbounded (Some z) b none = none

-- one more line
Sound-line : (before : Content) (fields : List (List ℕ)) (l : Line) → Sound before → Say before.config fields l
    → MayStand before l → HasRoom (seen_of before) l → Sound (with_line before l)
Sound-line before fields (Sizes z) s said ordered room =
    let none = is-none before.config fields z said in
    record {
      no_blocks = λ h. s.no_blocks none;
      no_bounds = λ h. s.no_bounds none;
      no_objects = λ h. s.no_objects none;
      no_ops = λ h. s.no_ops none;
      config = said.spelled.ranged.ranged;
      blocks = s.blocks;
      few_blocks = s.few_blocks;
      objects = s.objects;
      few_objects = s.few_objects;
      apart = s.apart;
      ops = no-ops (Possible z.callers z.shards (length before.blocks)) before.ops (s.no_ops none);
      few_ops = s.few_ops;
    }
Sound-line before fields (Limited b) s said ordered room = record {
  no_blocks = λ none. s.no_blocks (unbounded before.config b none);
  no_bounds = λ none. absurd (not-none before.config fields (Limited b) said (λ e. cc) (unbounded before.config b none));
  no_objects = λ none. s.no_objects (unbounded before.config b none);
  no_ops = λ none. s.no_ops (unbounded before.config b none);
  config = bounded before.config b said.spelled.ranged s.config;
  blocks = s.blocks;
  few_blocks = s.few_blocks;
  objects = s.objects;
  few_objects = s.few_objects;
  apart = s.apart;
  ops = no-ops (Possible (callers_of (with_bounds before.config b)) (shards_of (with_bounds before.config b)) (length before.blocks)) before.ops ordered.0.0;
  few_ops = s.few_ops;
}
Sound-line before fields (Declared p) s said ordered room =
    let more = length-append before.blocks (p ∷ []) in
    record {
      no_blocks = λ none. absurd (not-none before.config fields (Declared p) said (λ e. cc) none);
      no_bounds = s.no_bounds;
      no_objects = s.no_objects;
      no_ops = s.no_ops;
      config = s.config;
      blocks = All-push IsDeclarable before.blocks p s.blocks said.spelled.ranged;
      few_blocks = omega arith;
      objects = more-blocks before.objects (length before.blocks) (length (before.blocks ++ p ∷ [])) (omega arith) s.objects;
      few_objects = s.few_objects;
      apart = s.apart;
      ops = no-ops (Possible (callers_of before.config) (shards_of before.config) (length (before.blocks ++ p ∷ []))) before.ops ordered.0;
      few_ops = s.few_ops;
    }
Sound-line before fields (Mapped m) s said ordered room =
    let more = length-append before.objects (m ∷ []) in
    record {
      no_blocks = s.no_blocks;
      no_bounds = s.no_bounds;
      no_objects = λ none. absurd (not-none before.config fields (Mapped m) said (λ e. cc) none);
      no_ops = s.no_ops;
      config = s.config;
      blocks = s.blocks;
      few_blocks = s.few_blocks;
      objects = All-push (IsMappingOn (length before.blocks)) before.objects m s.objects (said.spelled.ranged.at, ordered.0.1);
      few_objects = omega arith;
      apart = apart-push before.objects m s.apart ordered.1;
      ops = s.ops;
      few_ops = s.few_ops;
    }
Sound-line before fields (Operation op) s said ordered room =
    let more = length-append before.ops (op ∷ []) in
    record {
      no_blocks = s.no_blocks;
      no_bounds = s.no_bounds;
      no_objects = s.no_objects;
      no_ops = λ none. absurd (not-none before.config fields (Operation op) said (later op) none);
      config = s.config;
      blocks = s.blocks;
      few_blocks = s.few_blocks;
      objects = s.objects;
      few_objects = s.few_objects;
      apart = s.apart;
      ops = All-push (Possible (callers_of before.config) (shards_of before.config) (length before.blocks)) before.ops op s.ops (said.spelled.ranged, ordered.0);
      few_ops = omega arith;
    }
  where
    later : (op : Op) → word_of (Operation op) ≡ words.Arc → ⊥
    later (ops.Read n t x w) e = cc
    later (ops.Hold n t x) e = cc
    later (ops.Drop n x) e = cc
    later (ops.Get n t at w) e = cc
    later (ops.Put n t at size fill) e = cc
    later (ops.Patch n t at from bytes) e = cc
    later (ops.Pin n t at) e = cc
    later (ops.Unpin n at) e = cc
    later ops.Feed e = cc
    later (ops.Txg t) e = cc
    later (ops.Cap c) e = cc

Sound-adds : (before after : Content) (line : List ℕ) → Sound before → Adds before line after → Sound after
Sound-adds before after line s a = by (is_passed_over line) a
  where
    by : (passed : Bool) → MatchBool passed (after ≡ before) (Add before (fields_of line) after) → Sound after
    by true a = rw a s
    by false a = rw (a.added) (Sound-line before (fields_of line) a.line s a.said a.ordered a.room)

Sound-all : (lines : List (List ℕ)) (before after : Content) → Sound before → AddAll before lines after → Sound after
Sound-all [] before after s a = rw a s
Sound-all (line ∷ lines) before after s a = Sound-all lines a.0 after (Sound-adds before a.0 line s a.1) a.2

-- a trace that is read is formed
pub IsFormed-trace : (text : List ℕ) (trace : Trace) → IsTraceText text trace → IsFormed trace
IsFormed-trace text trace t =
    let s = Sound-all (lines_of text) nothing (content_of trace t.limited) Sound-nothing t.said in
    record { config = s.config; blocks = s.blocks; few_blocks = s.few_blocks; objects = s.objects; few_objects = s.few_objects; apart = s.apart; ops = s.ops; few_ops = s.few_ops }

-- ---- a trace's lines that count spell its sizes, its blocks and objects, and its operations

abbrev sizes_in : Option Config → List Line
sizes_in None = []
sizes_in (Some z) = Sizes z ∷ []

-- the lines that count so far are those of what is said
record Written (counted : List (List (List ℕ))) (said : Content) : Type 0 where
  declared : List Line
  given : Option Bounds
  none_given : said.limited ≡ false → given ≡ None
  bounds : IfSome said.config (λ z. z.bounds ≡ bounds_given given)
  are_declared : AreDeclared declared given said.blocks said.objects
  spelled : counted ≡ map spelling (sizes_in said.config ++ (declared ++ map Operation said.ops))

none-of : {X : Type 0} (xs : List X) → length xs ≡ 0 → xs ≡ []
none-of [] h = refl
none-of (x ∷ xs) h = absurd (omega arith)

sizes-none : (config : Option Config) → IsNone config → sizes_in config ≡ []
sizes-none None h = refl
sizes-none (Some z) h = absurd (false≢true (sym h))

declared-none : (lines : List Line) (given : Option Bounds) → given ≡ None → AreDeclared lines given [] [] → lines ≡ []
declared-none [] given none a = refl
declared-none (Limited b ∷ lines) given none a = let e = sym none ∙ a.0 in cc
declared-none (Declared p ∷ lines) given none a = absurd (let e = ap length a.1 in omega (arith, e))
declared-none (Mapped m ∷ lines) given none a = absurd (let e = ap length a.1 in omega (arith, e))
declared-none (Sizes z ∷ lines) given none a = absurd a
declared-none (Operation op ∷ lines) given none a = absurd a

bounds-declared : (lines : List Line) (blocks : List Ptr) (objects : List Mapping) (given : Option Bounds) (b : Bounds) → given ≡ None → AreDeclared lines given blocks objects
    → AreDeclared (lines ++ Limited b ∷ []) (Some b) blocks objects
bounds-declared [] blocks objects given b none a = (refl, (refl, a.1, a.2))
bounds-declared (Limited c ∷ lines) blocks objects given b none a = let e = sym none ∙ a.0 in cc
bounds-declared (Declared q ∷ lines) blocks objects given b none a = (a.0, a.1, bounds-declared lines a.0 objects given b none a.2)
bounds-declared (Mapped m ∷ lines) blocks objects given b none a = (a.0, a.1, bounds-declared lines blocks a.0 given b none a.2)
bounds-declared (Sizes z ∷ lines) blocks objects given b none a = absurd a
bounds-declared (Operation op ∷ lines) blocks objects given b none a = absurd a

block-declared : (lines : List Line) (given : Option Bounds) (blocks : List Ptr) (objects : List Mapping) (p : Ptr) → AreDeclared lines given blocks objects
    → AreDeclared (lines ++ Declared p ∷ []) given (blocks ++ p ∷ []) objects
block-declared [] given blocks objects p a = ([], ap (λ bs. bs ++ p ∷ []) a.1, (a.0, refl, a.2))
block-declared (Limited c ∷ lines) given blocks objects p a = (a.0, block-declared lines None blocks objects p a.1)
block-declared (Declared q ∷ lines) given blocks objects p a = (a.0 ++ p ∷ [], ap (λ bs. bs ++ p ∷ []) a.1, block-declared lines given a.0 objects p a.2)
block-declared (Mapped m ∷ lines) given blocks objects p a = (a.0, a.1, block-declared lines given blocks a.0 p a.2)
block-declared (Sizes z ∷ lines) given blocks objects p a = absurd a
block-declared (Operation op ∷ lines) given blocks objects p a = absurd a

object-declared : (lines : List Line) (given : Option Bounds) (blocks : List Ptr) (objects : List Mapping) (m : Mapping) → AreDeclared lines given blocks objects
    → AreDeclared (lines ++ Mapped m ∷ []) given blocks (objects ++ m ∷ [])
object-declared [] given blocks objects m a = ([], ap (λ ms. ms ++ m ∷ []) a.2, (a.0, a.1, refl))
object-declared (Limited c ∷ lines) given blocks objects m a = (a.0, object-declared lines None blocks objects m a.1)
object-declared (Declared q ∷ lines) given blocks objects m a = (a.0, a.1, object-declared lines given a.0 objects m a.2)
object-declared (Mapped n ∷ lines) given blocks objects m a = (a.0 ++ m ∷ [], ap (λ ms. ms ++ m ∷ []) a.1, object-declared lines given blocks a.0 m a.2)
object-declared (Sizes z ∷ lines) given blocks objects m a = absurd a
object-declared (Operation op ∷ lines) given blocks objects m a = absurd a

-- the spelling of one line more
spelled-push : (lines : List Line) (l : Line) (counted : List (List (List ℕ))) (fields : List (List ℕ)) → counted ≡ map spelling lines → fields ≡ spelling l
    → counted ++ fields ∷ [] ≡ map spelling (lines ++ l ∷ [])
spelled-push lines l counted fields is same = rw (is, same, map-append spelling lines (l ∷ [])) refl

-- sizes with bounds that a line gives
bounds-of : (config : Option Config) (b : Bounds) → IfSome (with_bounds config b) (λ z. z.bounds ≡ b)
bounds-of None b = tt
bounds-of (Some z) b = refl

-- an `arc` line gives the usual bounds
usual : (z : Config) → AreSizes z → z.bounds ≡ usual_bounds
usual z r = λ i. record { write_max = r.write_max i; headroom = r.headroom i }

-- bounds leave how the sizes are spelled
same-spelling : (config : Option Config) (b : Bounds) → map spelling (sizes_in (with_bounds config b)) ≡ map spelling (sizes_in config)
same-spelling None b = refl
same-spelling (Some z) b = refl

-- one more line that counts
Written-line : (counted : List (List (List ℕ))) (before : Content) (fields : List (List ℕ)) (l : Line) → Sound before → Say before.config fields l
    → MayStand before l → Written counted before → Written (counted ++ fields ∷ []) (with_line before l)
Written-line counted before fields (Sizes z) s said ordered w =
    let none = is-none before.config fields z said in
    let none_yet = w.none_given (s.no_bounds none) in
    let few : AreDeclared w.declared w.given [] [] = rw (← none-of before.blocks (s.no_blocks none), ← none-of before.objects (s.no_objects none)) (w.are_declared) in
    let empty = declared-none w.declared w.given none_yet few in
    let nothing_yet : counted ≡ [] = w.spelled ∙ rw (sizes-none before.config none, empty, none-of before.ops (s.no_ops none)) refl in
    record {
      declared = w.declared;
      given = w.given;
      none_given = w.none_given;
      bounds = usual z said.spelled.ranged ∙ ap bounds_given (sym none_yet);
      are_declared = w.are_declared;
      spelled = rw (nothing_yet, empty, none-of before.ops (s.no_ops none)) (ap (λ f. f ∷ []) said.spelled.spelled);
    }
Written-line counted before fields (Limited b) s said ordered w =
    let none = none-of before.ops ordered.0.0 in
    let front : map spelling (sizes_in before.config ++ (w.declared ++ Limited b ∷ [])) ≡ map spelling (sizes_in (with_bounds before.config b) ++ (w.declared ++ Limited b ∷ [])) =
    map-append spelling (sizes_in before.config) (w.declared ++ Limited b ∷ [])
    ∙ (ap (λ f. f ++ map spelling (w.declared ++ Limited b ∷ [])) (sym (same-spelling before.config b)) ∙ sym (map-append spelling (sizes_in (with_bounds before.config b)) (w.declared ++ Limited b ∷ []))) in
    let rest : (w.declared ++ Limited b ∷ []) ++ map Operation before.ops ≡ w.declared ++ Limited b ∷ [] = rw none (append-nil (w.declared ++ Limited b ∷ [])) in
    let all = spelled-push (sizes_in before.config ++ (w.declared ++ map Operation before.ops)) (Limited b) counted fields w.spelled said.spelled.spelled
    ∙ (ap (map spelling) (rw none (simp (append_assoc, append-nil))) ∙ front) in
    record {
      declared = w.declared ++ Limited b ∷ [];
      given = Some b;
      none_given = λ e. absurd (false≢true (sym e));
      bounds = bounds-of before.config b;
      are_declared = bounds-declared w.declared before.blocks before.objects w.given b (w.none_given ordered.0.1) w.are_declared;
      spelled = all ∙ ap (λ ls. map spelling (sizes_in (with_bounds before.config b) ++ ls)) (sym rest);
    }
Written-line counted before fields (Declared p) s said ordered w =
    let none = none-of before.ops ordered.0 in
    record {
      declared = w.declared ++ Declared p ∷ [];
      given = w.given;
      none_given = w.none_given;
      bounds = w.bounds;
      are_declared = block-declared w.declared w.given before.blocks before.objects p w.are_declared;
      spelled = spelled-push (sizes_in before.config ++ (w.declared ++ map Operation before.ops)) (Declared p) counted fields w.spelled said.spelled.spelled
          ∙ ap (map spelling) (rw none (simp (append_assoc, append-nil)));
    }
Written-line counted before fields (Mapped m) s said ordered w =
    let none = none-of before.ops ordered.0.0 in
    record {
      declared = w.declared ++ Mapped m ∷ [];
      given = w.given;
      none_given = w.none_given;
      bounds = w.bounds;
      are_declared = object-declared w.declared w.given before.blocks before.objects m w.are_declared;
      spelled = spelled-push (sizes_in before.config ++ (w.declared ++ map Operation before.ops)) (Mapped m) counted fields w.spelled said.spelled.spelled
          ∙ ap (map spelling) (rw none (simp (append_assoc, append-nil)));
    }
Written-line counted before fields (Operation op) s said ordered w = record {
  declared = w.declared;
  given = w.given;
  none_given = w.none_given;
  bounds = w.bounds;
  are_declared = w.are_declared;
  spelled = spelled-push (sizes_in before.config ++ (w.declared ++ map Operation before.ops)) (Operation op) counted fields w.spelled said.spelled.spelled
      ∙ ap (map spelling) (rw (map-append Operation before.ops (op ∷ [])) (simp append_assoc));
}

-- each line that counts is one more line of what is said
Written-all : (lines : List (List ℕ)) (counted : List (List (List ℕ))) (before after : Content) → Sound before → Written counted before → AddAll before lines after
    → Written (counted ++ counted_fields lines) after
Written-all [] counted before after s w a = rw (append-nil counted, a) w
Written-all (line ∷ lines) counted before after s w a =
    let sound = Sound-adds before a.0 line s a.1 in
    by (λ front written. Written-all lines front a.0 after sound written a.2) (is_passed_over line) a.1
  where
    by : ((front : List (List (List ℕ))) → Written front a.0 → Written (front ++ counted_fields lines) after) → (passed : Bool)
        → MatchBool passed (a.0 ≡ before) (Add before (fields_of line) a.0)
        → Written (counted ++ map fields_of (cond (not passed) (line ∷ filter (λ x. not (is_passed_over x)) lines) (filter (λ x. not (is_passed_over x)) lines))) after
    by rest true same = rest counted (rw same w)
    by rest false added =
        let one : Written (counted ++ fields_of line ∷ []) a.0 = rw (added.added) (Written-line counted before (fields_of line) added.line s added.said added.ordered w) in
        rw (← append_assoc counted (fields_of line ∷ []) (counted_fields lines)) (rest (counted ++ fields_of line ∷ []) one)

-- a trace's lines that count are the spellings of its sizes, its blocks and objects, and its operations
pub IsWritten-trace : (text : List ℕ) (trace : Trace) → IsTraceText text trace → IsWritten (counted_fields (lines_of text)) trace
IsWritten-trace text trace t =
    let start : Written [] nothing = record { declared = []; given = None; none_given = λ e. refl; bounds = tt; are_declared = (refl, refl, refl); spelled = refl } in
    let w = Written-all (lines_of text) [] nothing (content_of trace t.limited) Sound-nothing start t.said in
    record { declared = w.declared; given = w.given; bounds = w.bounds; are_declared = w.are_declared; spelled = w.spelled }
