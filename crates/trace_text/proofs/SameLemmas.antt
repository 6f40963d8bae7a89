-- One spelling is that of one line.
use Rattle.std.proofs.Common.{◌≡◌, ℕ, ◌<◌, ◌≤◌, ◌^◌, [], refl, ap, ◌∙◌, sym, subst, arith, get_or}
use Rattle.std.proofs.Math.Bridge.{le_prop}
use Rattle.std.proofs.lemmas.Fmt.{decimal_injective}
use Rattle.blk_ptr.specs.declared.ptr.Ptr.{Ptr}
use Rattle.arc_core.specs.Config.{AreBounds}
use Rattle.arc_core.specs.declared.config.Bounds.{Bounds}
use Rattle.arc_core.specs.declared.config.Config.{Config}
use Rattle.trace_text.specs.declared.mapping.Mapping.{Mapping}
use Rattle.trace_text.specs.declared.op.Op.{Op}
use Rattle.trace_text.specs.declared.op.Op.TheVariants as ops
use Rattle.dbuf_state.specs.declared.oid.Oid.{Oid}
use Rattle.dbuf_state.specs.declared.window.Window.{Window}
use Rattle.trace_text.specs.declared.words.Line.{Line}
use Rattle.trace_text.specs.declared.words.Line.TheVariants.{Sizes, Limited, Declared, Mapped, Operation}
use Rattle.trace_text.specs.declared.words.Word.TheVariants as words
use Rattle.trace_text.proofs.DigestLemmas.{byte-injective, digest-injective, run-injective}
use Rattle.trace_text.proofs.WordLemmas.{FormOf, form-as, same-word}
use Rattle.trace_text.specs.Grammar.{AreSizes, IsDeclarable, IsInRange, IsMappable, IsOperation, spelling, word_of}

abbrev window : (at len : ℕ) → len ≤ 64 → Window
window at len short = record { at = at; len = len; short = short }

pub window-same : (a b : Window) → a.at ≡ b.at → a.len ≡ b.len → a ≡ b
window-same a b e f =
    let P : ℕ → Type 0 = λ at. a ≡ window at a.len a.short in
    let Q : ℕ → Type 0 = λ len. (short : len ≤ 64) → a ≡ window b.at len short in
    subst Q f (λ short. subst P e refl ∙ ap (window b.at a.len) (le_prop a.short short)) b.short

oid-same : (a b : Oid) → a.object ≡ b.object → a.block ≡ b.block → a ≡ b
oid-same a b e1 e2 = λ i. record { object = e1 i; block = e2 i }

pub config-same : (a b : Config) → a.callers ≡ b.callers → a.shards ≡ b.shards → a.buckets ≡ b.buckets → a.cells ≡ b.cells → a.c ≡ b.c
    → a.mintime ≡ b.mintime → a.dbuf_bytes ≡ b.dbuf_bytes → a.bounds.write_max ≡ b.bounds.write_max → a.bounds.headroom ≡ b.bounds.headroom → a ≡ b
config-same a b e1 e2 e3 e4 e5 e6 e7 e8 e9 =
    λ i. record { callers = e1 i; shards = e2 i; buckets = e3 i; cells = e4 i; c = e5 i; mintime = e6 i; dbuf_bytes = e7 i; bounds = record { write_max = e8 i; headroom = e9 i } }

pub ptr-same : (a b : Ptr) → a.key.offset ≡ b.key.offset → a.key.size ≡ b.key.size → a.key.birth ≡ b.key.birth → a.digest ≡ b.digest → a ≡ b
ptr-same a b e1 e2 e3 e4 = λ i. record { key = record { offset = e1 i; size = e2 i; birth = e3 i }; digest = e4 i }

-- two lines in range of one word, with one spelling, are one line
same-sizes : (a b : Config) → AreSizes a → AreSizes b → spelling (Sizes a) ≡ spelling (Sizes b) → Sizes a ≡ Sizes b
same-sizes a b p q e = ap Sizes (config-same a b
    (decimal_injective a.callers b.callers (omega (arith, p.ranged.counts.callers.1)) (omega (arith, q.ranged.counts.callers.1)) (ap (λ f. get_or f 1 []) e))
    (decimal_injective a.shards b.shards (omega (arith, p.ranged.counts.shards.1)) (omega (arith, q.ranged.counts.shards.1)) (ap (λ f. get_or f 2 []) e))
    (decimal_injective a.buckets b.buckets (omega (arith, p.ranged.counts.buckets.1)) (omega (arith, q.ranged.counts.buckets.1)) (ap (λ f. get_or f 3 []) e))
    (decimal_injective a.cells b.cells (omega (arith, p.ranged.counts.cells.1)) (omega (arith, q.ranged.counts.cells.1)) (ap (λ f. get_or f 4 []) e))
    (decimal_injective a.c b.c (omega (arith, p.ranged.amounts.c.most)) (omega (arith, q.ranged.amounts.c.most)) (ap (λ f. get_or f 5 []) e))
    (decimal_injective a.mintime b.mintime (omega (arith, p.ranged.amounts.mintime)) (omega (arith, q.ranged.amounts.mintime)) (ap (λ f. get_or f 6 []) e))
    (decimal_injective a.dbuf_bytes b.dbuf_bytes (omega (arith, p.ranged.amounts.dbuf_bytes)) (omega (arith, q.ranged.amounts.dbuf_bytes)) (ap (λ f. get_or f 7 []) e))
    (p.write_max ∙ sym q.write_max) (p.headroom ∙ sym q.headroom))

same-bounds : (a b : Bounds) → AreBounds a → AreBounds b → spelling (Limited a) ≡ spelling (Limited b) → Limited a ≡ Limited b
same-bounds a b p q e =
    let e1 = decimal_injective a.write_max b.write_max (omega (arith, p.write_max.1)) (omega (arith, q.write_max.1)) (ap (λ f. get_or f 1 []) e) in
    let e2 = decimal_injective a.headroom b.headroom (omega (arith, p.headroom.1)) (omega (arith, q.headroom.1)) (ap (λ f. get_or f 2 []) e) in
    λ i. Limited (record { write_max = e1 i; headroom = e2 i })

same-block : (a b : Ptr) → IsDeclarable a → IsDeclarable b → spelling (Declared a) ≡ spelling (Declared b) → Declared a ≡ Declared b
same-block a b p q e = ap Declared (ptr-same a b
    (decimal_injective a.key.offset b.key.offset (omega (arith, p.offset)) (omega (arith, q.offset)) (ap (λ f. get_or f 1 []) e))
    (decimal_injective a.key.size b.key.size (omega (arith, p.size)) (omega (arith, q.size)) (ap (λ f. get_or f 2 []) e))
    (decimal_injective a.key.birth b.key.birth (omega (arith, p.birth)) (omega (arith, q.birth)) (ap (λ f. get_or f 3 []) e))
    (digest-injective a.digest b.digest p.digest q.digest (ap (λ f. get_or f 4 []) e)))

same-object : (a b : Mapping) → IsMappable a → IsMappable b → spelling (Mapped a) ≡ spelling (Mapped b) → Mapped a ≡ Mapped b
same-object a b p q e =
    let at = oid-same a.at b.at
    (decimal_injective a.at.object b.at.object (omega (arith, p.at.object)) (omega (arith, q.at.object)) (ap (λ f. get_or f 1 []) e))
    (decimal_injective a.at.block b.at.block (omega (arith, p.at.block)) (omega (arith, q.at.block)) (ap (λ f. get_or f 2 []) e)) in
    let block = decimal_injective a.block b.block (omega (arith, p.block)) (omega (arith, q.block)) (ap (λ f. get_or f 3 []) e) in
    λ i. Mapped (record { at = at i; block = block i })

same-operation : (callers shards : ℕ) → callers < 2 ^ 64 → (op : Op) (m : Line) → IsOperation callers shards op → IsInRange callers shards m → FormOf (word_of (Operation op)) m
    → spelling (Operation op) ≡ spelling m → Operation op ≡ m
same-operation callers shards few (ops.Read n t x w) m p r (n', t', x', w', is) e =
    let q : IsOperation callers shards (ops.Read n' t' x' w') = rw is at r in
    let s : spelling (Operation (ops.Read n t x w)) ≡ spelling (Operation (ops.Read n' t' x' w')) = rw is at e in
    let e1 = decimal_injective n n' (omega (arith, p.0)) (omega (arith, q.0)) (ap (λ f. get_or f 1 []) s) in
    let e2 = decimal_injective t t' (omega (arith, p.1)) (omega (arith, q.1)) (ap (λ f. get_or f 2 []) s) in
    let e3 = decimal_injective x x' (omega (arith, p.2)) (omega (arith, q.2)) (ap (λ f. get_or f 3 []) s) in
    let e4 = window-same w w' (decimal_injective w.at w'.at (omega (arith, p.3)) (omega (arith, q.3)) (ap (λ f. get_or f 4 []) s)) (decimal_injective w.len w'.len (omega (arith, w.short)) (omega (arith, w'.short)) (ap (λ f. get_or f 5 []) s)) in
    let same : Operation (ops.Read n t x w) ≡ Operation (ops.Read n' t' x' w') = λ i. Operation (ops.Read (e1 i) (e2 i) (e3 i) (e4 i)) in
    same ∙ sym is
same-operation callers shards few (ops.Hold n t x) m p r (n', t', x', is) e =
    let q : IsOperation callers shards (ops.Hold n' t' x') = rw is at r in
    let s : spelling (Operation (ops.Hold n t x)) ≡ spelling (Operation (ops.Hold n' t' x')) = rw is at e in
    let e1 = decimal_injective n n' (omega (arith, p.0)) (omega (arith, q.0)) (ap (λ f. get_or f 1 []) s) in
    let e2 = decimal_injective t t' (omega (arith, p.1)) (omega (arith, q.1)) (ap (λ f. get_or f 2 []) s) in
    let e3 = decimal_injective x x' (omega (arith, p.2)) (omega (arith, q.2)) (ap (λ f. get_or f 3 []) s) in
    let same : Operation (ops.Hold n t x) ≡ Operation (ops.Hold n' t' x') = λ i. Operation (ops.Hold (e1 i) (e2 i) (e3 i)) in
    same ∙ sym is
same-operation callers shards few (ops.Drop n x) m p r (n', x', is) e =
    let q : IsOperation callers shards (ops.Drop n' x') = rw is at r in
    let s : spelling (Operation (ops.Drop n x)) ≡ spelling (Operation (ops.Drop n' x')) = rw is at e in
    let e1 = decimal_injective n n' (omega (arith, p.0)) (omega (arith, q.0)) (ap (λ f. get_or f 1 []) s) in
    let e2 = decimal_injective x x' (omega (arith, p.1)) (omega (arith, q.1)) (ap (λ f. get_or f 2 []) s) in
    let same : Operation (ops.Drop n x) ≡ Operation (ops.Drop n' x') = λ i. Operation (ops.Drop (e1 i) (e2 i)) in
    same ∙ sym is
same-operation callers shards few (ops.Get n t at w) m p r (n', t', at', w', is) e =
    let q : IsOperation callers shards (ops.Get n' t' at' w') = rw is at r in
    let s : spelling (Operation (ops.Get n t at w)) ≡ spelling (Operation (ops.Get n' t' at' w')) = rw is at e in
    let e1 = decimal_injective n n' (omega (arith, p.0)) (omega (arith, q.0)) (ap (λ f. get_or f 1 []) s) in
    let e2 = decimal_injective t t' (omega (arith, p.1)) (omega (arith, q.1)) (ap (λ f. get_or f 2 []) s) in
    let e3 = oid-same at at' (decimal_injective at.object at'.object (omega (arith, p.2.object)) (omega (arith, q.2.object)) (ap (λ f. get_or f 3 []) s)) (decimal_injective at.block at'.block (omega (arith, p.2.block)) (omega (arith, q.2.block)) (ap (λ f. get_or f 4 []) s)) in
    let e4 = window-same w w' (decimal_injective w.at w'.at (omega (arith, p.3)) (omega (arith, q.3)) (ap (λ f. get_or f 5 []) s)) (decimal_injective w.len w'.len (omega (arith, w.short)) (omega (arith, w'.short)) (ap (λ f. get_or f 6 []) s)) in
    let same : Operation (ops.Get n t at w) ≡ Operation (ops.Get n' t' at' w') = λ i. Operation (ops.Get (e1 i) (e2 i) (e3 i) (e4 i)) in
    same ∙ sym is
same-operation callers shards few (ops.Put n t at size fill) m p r (n', t', at', size', fill', is) e =
    let q : IsOperation callers shards (ops.Put n' t' at' size' fill') = rw is at r in
    let s : spelling (Operation (ops.Put n t at size fill)) ≡ spelling (Operation (ops.Put n' t' at' size' fill')) = rw is at e in
    let e1 = decimal_injective n n' (omega (arith, p.0)) (omega (arith, q.0)) (ap (λ f. get_or f 1 []) s) in
    let e2 = decimal_injective t t' (omega (arith, p.1)) (omega (arith, q.1)) (ap (λ f. get_or f 2 []) s) in
    let e3 = oid-same at at' (decimal_injective at.object at'.object (omega (arith, p.2.object)) (omega (arith, q.2.object)) (ap (λ f. get_or f 3 []) s)) (decimal_injective at.block at'.block (omega (arith, p.2.block)) (omega (arith, q.2.block)) (ap (λ f. get_or f 4 []) s)) in
    let e4 = decimal_injective size size' (omega (arith, p.3.2)) (omega (arith, q.3.2)) (ap (λ f. get_or f 5 []) s) in
    let e5 = byte-injective fill fill' p.4 q.4 (ap (λ f. get_or f 6 []) s) in
    let same : Operation (ops.Put n t at size fill) ≡ Operation (ops.Put n' t' at' size' fill') = λ i. Operation (ops.Put (e1 i) (e2 i) (e3 i) (e4 i) (e5 i)) in
    same ∙ sym is
same-operation callers shards few (ops.Patch n t at from bytes) m p r (n', t', at', from', bytes', is) e =
    let q : IsOperation callers shards (ops.Patch n' t' at' from' bytes') = rw is at r in
    let s : spelling (Operation (ops.Patch n t at from bytes)) ≡ spelling (Operation (ops.Patch n' t' at' from' bytes')) = rw is at e in
    let e1 = decimal_injective n n' (omega (arith, p.0)) (omega (arith, q.0)) (ap (λ f. get_or f 1 []) s) in
    let e2 = decimal_injective t t' (omega (arith, p.1)) (omega (arith, q.1)) (ap (λ f. get_or f 2 []) s) in
    let e3 = oid-same at at' (decimal_injective at.object at'.object (omega (arith, p.2.object)) (omega (arith, q.2.object)) (ap (λ f. get_or f 3 []) s)) (decimal_injective at.block at'.block (omega (arith, p.2.block)) (omega (arith, q.2.block)) (ap (λ f. get_or f 4 []) s)) in
    let e4 = decimal_injective from from' (omega (arith, p.3)) (omega (arith, q.3)) (ap (λ f. get_or f 5 []) s) in
    let e5 = run-injective bytes bytes' p.4 q.4 (ap (λ f. get_or f 6 []) s) in
    let same : Operation (ops.Patch n t at from bytes) ≡ Operation (ops.Patch n' t' at' from' bytes') = λ i. Operation (ops.Patch (e1 i) (e2 i) (e3 i) (e4 i) (e5 i)) in
    same ∙ sym is
same-operation callers shards few (ops.Pin n t at) m p r (n', t', at', is) e =
    let q : IsOperation callers shards (ops.Pin n' t' at') = rw is at r in
    let s : spelling (Operation (ops.Pin n t at)) ≡ spelling (Operation (ops.Pin n' t' at')) = rw is at e in
    let e1 = decimal_injective n n' (omega (arith, p.0)) (omega (arith, q.0)) (ap (λ f. get_or f 1 []) s) in
    let e2 = decimal_injective t t' (omega (arith, p.1)) (omega (arith, q.1)) (ap (λ f. get_or f 2 []) s) in
    let e3 = oid-same at at' (decimal_injective at.object at'.object (omega (arith, p.2.object)) (omega (arith, q.2.object)) (ap (λ f. get_or f 3 []) s)) (decimal_injective at.block at'.block (omega (arith, p.2.block)) (omega (arith, q.2.block)) (ap (λ f. get_or f 4 []) s)) in
    let same : Operation (ops.Pin n t at) ≡ Operation (ops.Pin n' t' at') = λ i. Operation (ops.Pin (e1 i) (e2 i) (e3 i)) in
    same ∙ sym is
same-operation callers shards few (ops.Unpin n at) m p r (n', at', is) e =
    let q : IsOperation callers shards (ops.Unpin n' at') = rw is at r in
    let s : spelling (Operation (ops.Unpin n at)) ≡ spelling (Operation (ops.Unpin n' at')) = rw is at e in
    let e1 = decimal_injective n n' (omega (arith, p.0)) (omega (arith, q.0)) (ap (λ f. get_or f 1 []) s) in
    let e3 = oid-same at at' (decimal_injective at.object at'.object (omega (arith, p.1.object)) (omega (arith, q.1.object)) (ap (λ f. get_or f 2 []) s)) (decimal_injective at.block at'.block (omega (arith, p.1.block)) (omega (arith, q.1.block)) (ap (λ f. get_or f 3 []) s)) in
    let same : Operation (ops.Unpin n at) ≡ Operation (ops.Unpin n' at') = λ i. Operation (ops.Unpin (e1 i) (e3 i)) in
    same ∙ sym is
same-operation callers shards few ops.Feed m p r is e = sym is
same-operation callers shards few (ops.Txg t) m p r (t', is) e =
    let q : IsOperation callers shards (ops.Txg t') = rw is at r in
    let s : spelling (Operation (ops.Txg t)) ≡ spelling (Operation (ops.Txg t')) = rw is at e in
    let e1 = decimal_injective t t' (omega (arith, p)) (omega (arith, q)) (ap (λ f. get_or f 1 []) s) in
    let same : Operation (ops.Txg t) ≡ Operation (ops.Txg t') = λ i. Operation (ops.Txg (e1 i)) in
    same ∙ sym is
same-operation callers shards few (ops.Cap c) m p r (c', is) e =
    let q : IsOperation callers shards (ops.Cap c') = rw is at r in
    let s : spelling (Operation (ops.Cap c)) ≡ spelling (Operation (ops.Cap c')) = rw is at e in
    let e1 = decimal_injective c c' (omega (arith, p.0.most)) (omega (arith, q.0.most)) (ap (λ f. get_or f 1 []) s) in
    let same : Operation (ops.Cap c) ≡ Operation (ops.Cap c') = λ i. Operation (ops.Cap (e1 i)) in
    same ∙ sym is

-- two lines in range with one spelling are one line
pub spelling-injective : (callers shards : ℕ) → callers < 2 ^ 64 → (l m : Line) → IsInRange callers shards l → IsInRange callers shards m → spelling l ≡ spelling m → l ≡ m
spelling-injective callers shards few (Sizes a) m p q e =
    let f = form-as words.Arc m (same-word m (Sizes a) (sym e)) in
    same-sizes a f.0 p (rw f.1 at q) (rw f.1 at e) ∙ sym f.1
spelling-injective callers shards few (Limited a) m p q e =
    let f = form-as words.L2 m (same-word m (Limited a) (sym e)) in
    same-bounds a f.0 p (rw f.1 at q) (rw f.1 at e) ∙ sym f.1
spelling-injective callers shards few (Declared a) m p q e =
    let f = form-as words.Block m (same-word m (Declared a) (sym e)) in
    same-block a f.0 p (rw f.1 at q) (rw f.1 at e) ∙ sym f.1
spelling-injective callers shards few (Mapped a) m p q e =
    let f = form-as words.Object m (same-word m (Mapped a) (sym e)) in
    same-object a f.0 p (rw f.1 at q) (rw f.1 at e) ∙ sym f.1
spelling-injective callers shards few (Operation op) m p q e =
    same-operation callers shards few op m p q (form-as (word_of (Operation op)) m (same-word m (Operation op) (sym e))) e
