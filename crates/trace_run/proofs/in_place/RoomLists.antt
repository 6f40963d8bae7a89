-- What a trace says of the blocks that a sync writes: how they begin, the most bytes that its lines give them, and which lines write them. And a cell's events by their numbers.
use Rattle.std.proofs.Common.{◌≡◌, ℕ, suc, zero, ◌<◌, ◌≤◌, ◌==◌, true, false, List, [], ◌∷◌, ◌++◌, map, max, Option, Some, None, IfSome, refl, sym, ap, subst, ◌∙◌, inl, inr, arith, eq-eqb, eqb-true}
use Rattle.std.specs.Prelude.{slice_get}
use Rattle.std.specs.List.{AllByRecursion, list_any}
use Rattle.std.specs.Option.{option_map_or}
use Rattle.arc_lists.proofs.Tables.{cases_true}
use Rattle.blk_ptr.specs.declared.ptr.Ptr.{Ptr}
use Rattle.dbuf_state.specs.Numbers.{number_of}
use Rattle.dbuf_state.specs.Oids.{oid_eq}
use Rattle.dbuf_state.specs.declared.event.CellEvent.{CellEvent}
use Rattle.dbuf_state.specs.declared.oid.Oid.{Oid}
use Rattle.dbuf_state.specs.declared.state.Mapping.{Mapping}
use Rattle.dbuf_cells.specs.Places.{cell_of}
use Rattle.txg_sync.proofs.Gathering.{oid-same}
use Rattle.trace_text.specs.Grammar.{AreApart, IsMapped}
use Rattle.trace_text.specs.declared.mapping.Mapping.{Mapping as ObjectLine}
use Rattle.trace_text.specs.declared.op.Op.{Op}
use Rattle.trace_text.specs.declared.op.Op.TheVariants as ops
use Rattle.trace_text.specs.declared.trace.Trace.{Trace}
use Rattle.trace_run.specs.InPlace.{begins_with, block_written, blocks_written, greatest_put, greatest_size, is_put_to, opened_ptr, size_put, with_block}
use Rattle.trace_run.specs.Openings.{mappings_in, opening_map}
use Rattle.trace_run.specs.dbufs.CellEnds.{done_by}
use Rattle.trace_run.proofs.in_place.DirtySizes.{mapping_oid}
use Rattle.trace_run.proofs.in_place.Mapped.{oid-is}
use Rattle.trace_run.proofs.in_place.PutLines.{any-first, any-right}
use Rattle.trace_run.proofs.in_place.Sums.{AreDistinct, any-cons}

-- ---- events by their numbers

pub all-behind : {X : Type 0} (P : X → Type 0) (xs ys : List X) → AllByRecursion P (xs ++ ys) → AllByRecursion P ys
all-behind P [] ys all = all
all-behind P (x ∷ xs) ys all = all-behind P xs ys all.1

-- of what each number did, less its first
done-rest : (P : CellEvent → Type 0) (n : ℕ) (e : CellEvent) (h : List CellEvent) → AllByRecursion P (done_by n (e ∷ h)) → AllByRecursion P (done_by n h)
done-rest P n e h all = elim (cases_true (number_of e == n)) [
  | inl his ↦ (rw his at all).1
  | inr other ↦ rw other at all
]

done-first : (P : CellEvent → Type 0) (e : CellEvent) (h : List CellEvent) → AllByRecursion P (done_by (number_of e) (e ∷ h)) → P e
done-first P e h all = let same : (number_of e == number_of e) ≡ true = eq-eqb (number_of e) (number_of e) refl in (rw same at all).0

-- what is so of all that each number did is so of all
pub all-done : (P : CellEvent → Type 0) (most : ℕ) (h : List CellEvent) → AllByRecursion (λ e. number_of e < most) h → ((n : ℕ) → n < most → AllByRecursion P (done_by n h)) → AllByRecursion P h
all-done P most [] few each = tt
all-done P most (e ∷ h) few each = (done-first P e h (each (number_of e) few.0), all-done P most h few.1 (λ n less. done-rest P n e h (each n less)))

-- ---- how blocks begin

module _ (cells i : ℕ) (blocks : List Ptr) where
  abbrev begun : List ObjectLine → List Oid
  begun lines = map mapping_oid (mappings_in cells i blocks lines)

  not-mapped : (at : Oid) (lines : List ObjectLine) → (IsMapped at lines → ⊥) → list_any (oid_eq at) (begun lines) ≡ false
  not-mapped at [] none = refl
  not-mapped at (line ∷ lines) none =
      let rest = not-mapped at lines (λ there. none (inr there)) in
      let far : oid_eq at line.at ≡ false = apart in
      elim (cases_true (cell_of cells line.at == i)) [
        | inl its ↦ rw its (by-block line.at (slice_get blocks line.block) lines at far rest)
        | inr other ↦ rw other rest
      ]
    where
      apart : oid_eq at line.at ≡ false
      apart = elim (cases_true (oid_eq at line.at)) [
        | inl here ↦ absurd (none (inl (sym (oid-is at line.at here))))
        | inr far ↦ far
      ]

      by-block : (b : Oid) (o : Option Ptr) (ls : List ObjectLine) (x : Oid) → oid_eq x b ≡ false → list_any (oid_eq x) (begun ls) ≡ false
          → list_any (oid_eq x) (map mapping_oid (option_map_or (λ (ptr : Ptr). let m : Mapping = record { at = b; ptr = ptr } in m ∷ []) o [] ++ mappings_in cells i blocks ls)) ≡ false
      by-block b None ls x far rest = rest
      by-block b (Some ptr) ls x far rest = any-cons x b (begun ls) far rest

  begun-once : (lines : List ObjectLine) → AreApart lines → AreDistinct (begun lines)
  begun-once [] apart = tt
  begun-once (line ∷ lines) apart =
      let rest = begun-once lines apart.1 in
      let none = not-mapped line.at lines apart.0 in
      elim (cases_true (cell_of cells line.at == i)) [
        | inl its ↦ rw its (by-block line.at (slice_get blocks line.block) lines none rest)
        | inr other ↦ rw other rest
      ]
    where
      by-block : (b : Oid) (o : Option Ptr) (ls : List ObjectLine) → list_any (oid_eq b) (begun ls) ≡ false → AreDistinct (begun ls)
          → AreDistinct (map mapping_oid (option_map_or (λ (ptr : Ptr). let m : Mapping = record { at = b; ptr = ptr } in m ∷ []) o [] ++ mappings_in cells i blocks ls))
      by-block b None ls none rest = rest
      by-block b (Some ptr) ls none rest = (none, rest)

  -- an Oid of another cell has no pointer here
  opened-else : (at : Oid) (lines : List ObjectLine) → (cell_of cells at == i) ≡ false → opened_ptr at (mappings_in cells i blocks lines) ≡ None
  opened-else at [] far = refl
  opened-else at (line ∷ lines) far =
      let rest = opened-else at lines far in
      elim (cases_true (cell_of cells line.at == i)) [
        | inl its ↦ rw its (by-block line.at (slice_get blocks line.block) lines (apart its) rest)
        | inr other ↦ rw other rest
      ]
    where
      apart : (cell_of cells line.at == i) ≡ true → oid_eq at line.at ≡ false
      apart its = elim (cases_true (oid_eq at line.at)) [
        | inl here ↦ absurd (let same : (cell_of cells at == i) ≡ true = ap (λ (x : Oid). cell_of cells x == i) (oid-is at line.at here) ∙ its in let clash : true ≡ false = sym same ∙ far in cc)
        | inr other ↦ other
      ]

      by-block : (b : Oid) (o : Option Ptr) (ls : List ObjectLine) → oid_eq at b ≡ false → opened_ptr at (mappings_in cells i blocks ls) ≡ None
          → opened_ptr at (option_map_or (λ (ptr : Ptr). let m : Mapping = record { at = b; ptr = ptr } in m ∷ []) o [] ++ mappings_in cells i blocks ls) ≡ None
      by-block b None ls apart rest = rest
      by-block b (Some ptr) ls apart rest = rw apart rest

-- no block begins twice
pub opening-once : (trace : Trace) → AreApart trace.objects → (i : ℕ) → AreDistinct (map mapping_oid (opening_map trace i))
opening-once trace apart i = begun-once trace.config.cells i trace.blocks trace.objects apart

max-left : (a b : ℕ) → a ≤ max a b
max-left a b = omega arith

max-right : (a b : ℕ) → b ≤ max a b
max-right a b = omega arith

first-within : (o : Option Ptr) (b : ℕ) → IfSome o (λ ptr. ptr.key.size ≤ max (option_map_or (λ (ptr : Ptr). ptr.key.size) o 0) b)
first-within None b = tt
first-within (Some ptr) b = max-left ptr.key.size b

-- the pointer with which a block begins has at most its greatest size
pub opening-within : (trace : Trace) (os : List Op) (i : ℕ) (at : Oid) → IfSome (opened_ptr at (opening_map trace i)) (λ ptr. ptr.key.size ≤ greatest_size trace os at)
opening-within trace os i at = elim (cases_true (cell_of trace.config.cells at == i)) [
  | inl its ↦ subst (λ (j : ℕ). IfSome (opened_ptr at (opening_map trace j)) (λ ptr. ptr.key.size ≤ greatest_size trace os at)) (eqb-true (cell_of trace.config.cells at) i its)
      (first-within (begins_with trace at) (greatest_put at os))
  | inr far ↦ subst (λ (o : Option Ptr). IfSome o (λ ptr. ptr.key.size ≤ greatest_size trace os at)) (sym (opened-else trace.config.cells i trace.blocks at trace.objects far)) tt
]

-- ---- what lines write

some-op : (a b : Op) → ◌≡◌ {A = Option Op} (Some a) (Some b) → a ≡ b
some-op a b is = cc

-- a line gives a block at most the greatest that these lines give it
pub greatest-has : (at : Oid) (os : List Op) (k : ℕ) (op : Op) → slice_get os k ≡ Some op → size_put at op ≤ greatest_put at os
greatest-has at [] k op there = absurd (let clash : ◌≡◌ {A = Option Op} None (Some op) = there in cc)
greatest-has at (o ∷ os) zero op there =
    subst (λ (x : Op). size_put at x ≤ greatest_put at (o ∷ os)) (some-op o op there) (max-left (size_put at o) (greatest_put at os))
greatest-has at (o ∷ os) (suc k) op there = let a = greatest-has at os k op there in let b = max-right (size_put at o) (greatest_put at os) in omega arith

max-both : (a b c : ℕ) → max a (max b c) ≡ max (max a b) c
max-both a b c = omega arith

max-before : (a b c : ℕ) → max a b ≤ max a (max b c)
max-before a b c = omega arith

max-since : (a b c : ℕ) → c ≤ max a (max b c)
max-since a b c = omega arith

max-none : (a b : ℕ) → max a (max b 0) ≤ max a b
max-none a b = omega arith

max-zero : (a b : ℕ) → a ≡ 0 → b ≡ 0 → max a b ≡ 0
max-zero a b x y = omega (arith, x, y)

max-first : (a : ℕ) → a ≡ max 0 a
max-first a = omega arith

greatest-both : (at : Oid) (xs ys : List Op) → greatest_put at (xs ++ ys) ≡ max (greatest_put at xs) (greatest_put at ys)
greatest-both at [] ys = max-first (greatest_put at ys)
greatest-both at (o ∷ xs) ys = ap (λ (n : ℕ). max (size_put at o) n) (greatest-both at xs ys) ∙ max-both (size_put at o) (greatest_put at xs) (greatest_put at ys)

abbrev first_size : Trace → Oid → ℕ
first_size trace at = option_map_or (λ (ptr : Ptr). ptr.key.size) (begins_with trace at) 0

-- more lines give it no less
pub greatest-before : (trace : Trace) (xs ys : List Op) (at : Oid) → greatest_size trace xs at ≤ greatest_size trace (xs ++ ys) at
greatest-before trace xs ys at =
    subst (λ (n : ℕ). greatest_size trace xs at ≤ max (first_size trace at) n) (sym (greatest-both at xs ys)) (max-before (first_size trace at) (greatest_put at xs) (greatest_put at ys))

pub greatest-since : (trace : Trace) (xs ys : List Op) (at : Oid) → greatest_put at ys ≤ greatest_size trace (xs ++ ys) at
greatest-since trace xs ys at =
    subst (λ (n : ℕ). greatest_put at ys ≤ max (first_size trace at) n) (sym (greatest-both at xs ys)) (max-since (first_size trace at) (greatest_put at xs) (greatest_put at ys))

unput-size : (at : Oid) (op : Op) → is_put_to at op ≡ false → size_put at op ≡ 0
unput-size at (ops.Put n t b size fill) un = rw un refl
unput-size at (ops.Patch n t b from bytes) un = refl
unput-size at (ops.Read n t x window) un = refl
unput-size at (ops.Hold n t x) un = refl
unput-size at (ops.Drop n x) un = refl
unput-size at (ops.Get n t b window) un = refl
unput-size at (ops.Pin n t b) un = refl
unput-size at (ops.Unpin n b) un = refl
unput-size at ops.Feed un = refl
unput-size at (ops.Txg t) un = refl
unput-size at (ops.Cap c) un = refl

unput-greatest : (at : Oid) (os : List Op) → list_any (is_put_to at) os ≡ false → greatest_put at os ≡ 0
unput-greatest at [] un = refl
unput-greatest at (o ∷ os) un = elim (cases_true (is_put_to at o)) [
  | inl here ↦ absurd (let clash : true ≡ false = rw here at un in cc)
  | inr other ↦ max-zero (size_put at o) (greatest_put at os) (unput-size at o other) (unput-greatest at os (rw other at un))
]

-- nor do lines that don't write it whole give it more
pub greatest-unput : (trace : Trace) (xs ys : List Op) (at : Oid) → list_any (is_put_to at) ys ≡ false → greatest_size trace (xs ++ ys) at ≤ greatest_size trace xs at
greatest-unput trace xs ys at un =
    let both : greatest_put at (xs ++ ys) ≡ max (greatest_put at xs) 0 = greatest-both at xs ys ∙ ap (λ (n : ℕ). max (greatest_put at xs) n) (unput-greatest at ys un) in
    subst (λ (n : ℕ). max (first_size trace at) n ≤ greatest_size trace xs at) (sym both) (max-none (first_size trace at) (greatest_put at xs))

with-first : (at : Oid) (ats : List Oid) → list_any (oid_eq at) (with_block (Some at) ats) ≡ true
with-first at ats = elim (cases_true (list_any (oid_eq at) ats)) [
  | inl has ↦ rw has has
  | inr none ↦ rw none (any-first (oid_eq at) at ats (oid-same at))
]

with-more : (at : Oid) (o : Option Oid) (ats : List Oid) → list_any (oid_eq at) ats ≡ true → list_any (oid_eq at) (with_block o ats) ≡ true
with-more at None ats has = has
with-more at (Some b) ats has = elim (cases_true (list_any (oid_eq b) ats)) [
  | inl there ↦ rw there has
  | inr none ↦ rw none (any-right (oid_eq at) (b ∷ []) ats has)
]

-- what a line writes is among what these lines write
pub written-among : (at : Oid) (os : List Op) (k : ℕ) (op : Op) → slice_get os k ≡ Some op → block_written op ≡ Some at → list_any (oid_eq at) (blocks_written os) ≡ true
written-among at [] k op there writes = absurd (let clash : ◌≡◌ {A = Option Op} None (Some op) = there in cc)
written-among at (o ∷ os) zero op there writes =
    let same : block_written o ≡ Some at = ap block_written (some-op o op there) ∙ writes in
    subst (λ (b : Option Oid). list_any (oid_eq at) (with_block b (blocks_written os)) ≡ true) (sym same) (with-first at (blocks_written os))
written-among at (o ∷ os) (suc k) op there writes = with-more at (block_written o) (blocks_written os) (written-among at os k op there writes)
