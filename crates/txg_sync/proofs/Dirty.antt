-- Each dirty block of the cells is dirty in its cell, and none stands twice among them.
use Rattle.std.proofs.Common.{◌≡◌, ◌≢◌, ◌==◌, ℕ, zero, suc, ◌+◌, ◌*◌, ◌<◌, ◌≤◌, Bool, true, false, cond, not, ◌&&◌, if◌then◌else◌, List, [], ◌∷◌, ◌++◌, length, drop, map, count_by, is_some, Option, Some, None, IsPermutation, slice_index_or, refl, sym, ap, ◌∙◌, subst, inl, inr, eq-eqb, ne_eqb, eqb-true, arith}
use Rattle.std.specs.List.{AllByRecursion}
use Rattle.std.specs.Option.{option_map_or}
use Rattle.std.proofs.lemmas.List.Sums.{sum_by-append}
use Rattle.std.proofs.lemmas.List.Elements.{All-from_recursion, recursion_from_All}
use Rattle.std.proofs.lemmas.List.Sorted.{All-permutation, sum_by-IsPermutation}
use Rattle.blk_ptr.specs.Size.{IsBlockSize}
use Rattle.dbuf_state.specs.Dbufs.{IsFit, Fits, dbuf_at, dbuf_is, dbuf_oid, dirty_oids, is_clean, is_dirty}
use Rattle.dbuf_state.specs.Oids.{has_item, is_distinct, oid_eq}
use Rattle.dbuf_state.specs.declared.dbuf.Content.{Content}
use Rattle.dbuf_state.specs.declared.dbuf.Content.TheVariants.{Clean, Dirty}
use Rattle.dbuf_state.specs.declared.dbuf.Dbuf.{Dbuf}
use Rattle.dbuf_state.specs.declared.oid.Oid.{Oid}
use Rattle.dbuf_state.specs.declared.state.DbState.{DbState}
use Rattle.dbuf_state.proofs.IndexLemmas.{and-parts, bool_cases}
use Rattle.dbuf_cells.specs.Kept.{bytes_of, key_of}
use Rattle.dbuf_cells.specs.Turns.{OnHeap}
use Rattle.dbuf_cells.specs.declared.kept.Kept.{Kept}
use Rattle.txg_sync.specs.InHand.{AreDueIn, IsDueIn, IsKnown}
use Rattle.txg_sync.specs.Items.{AreApart, dirty_bytes_at, due_eq, due_in, dues_from, dues_in, need_of, written_in}
use Rattle.txg_sync.specs.declared.due.Due.{Due}
use Rattle.txg_sync.proofs.Gathering.{count-cons, oid-same}
use Rattle.txg_sync.proofs.Loop.{bytes-there, oid_eq-is}

-- ---- in one cell

-- it is dirty there, and has a block's size
pub record IsDirtyIn (ds : List (Dbuf Kept)) (at : Oid) : Type 0 where
  pub dirty : dbuf_is is_dirty at ds ≡ true
  pub sized : IsBlockSize (length (dirty_bytes_at at ds))

there-of : (at : Oid) (ds : List (Dbuf Kept)) → dbuf_is is_dirty at ds ≡ true → has_item dbuf_oid at ds ≡ true
there-of at ds h = go (dbuf_at at ds) h
  where
    go : (o : Option (Dbuf Kept)) → option_map_or is_dirty o false ≡ true → is_some o ≡ true
    go None h = cc
    go (Some d) h = refl

-- a dbuf of another Oid before it
behind : (d : Dbuf Kept) (ds : List (Dbuf Kept)) (at : Oid) → not (has_item dbuf_oid d.at ds) ≡ true → IsDirtyIn ds at → IsDirtyIn (d ∷ ds) at
behind d ds at apart h = elim (bool_cases (oid_eq at d.at)) [
  | inl here ↦
      let there : has_item dbuf_oid d.at ds ≡ true = ap (λ (x : Oid). has_item dbuf_oid x ds) (sym (oid_eq-is at d.at here)) ∙ there-of at ds h.dirty in
      absurd (let clash : not true ≡ true = ap not (sym there) ∙ apart in cc)
  | inr far ↦ record {
    dirty = ap (λ (b : Bool). option_map_or is_dirty (if b then Some d else dbuf_at at ds) false) far ∙ h.dirty;
    sized = subst (λ (b : Bool). IsBlockSize (length (option_map_or (λ (x : Dbuf Kept). written_in x.content) (if b then Some d else dbuf_at at ds) []))) (sym far) h.sized;
  }
]

first-dirty : (d : Dbuf Kept) (ds : List (Dbuf Kept)) → IsFit key_of bytes_of d → is_dirty d ≡ true → IsDirtyIn (d ∷ ds) d.at
first-dirty d ds fit dirty = record {
  dirty = ap (λ (b : Bool). option_map_or is_dirty (if b then Some d else dbuf_at d.at ds) false) (oid-same d.at) ∙ dirty;
  sized = subst (λ (b : Bool). IsBlockSize (length (option_map_or (λ (x : Dbuf Kept). written_in x.content) (if b then Some d else dbuf_at d.at ds) []))) (sym (oid-same d.at)) (go d.content d.state d.kept fit dirty);
}
  where
    go : (c : Content) (s : DbState) (k : Option Kept) → Fits key_of bytes_of c s k → not (is_clean c) ≡ true → IsBlockSize (length (written_in c))
    go (Clean ptr) s k f h = cc
    go (Dirty bytes) s k f h = f.1

all-map : {X : Type 0} (P Q : X → Type 0) (xs : List X) → ((x : X) → P x → Q x) → AllByRecursion P xs → AllByRecursion Q xs
all-map P Q [] f all = tt
all-map P Q (x ∷ xs) f all = (f x all.0, all-map P Q xs f all.1)

all-both : {X : Type 0} (P : X → Type 0) (xs ys : List X) → AllByRecursion P xs → AllByRecursion P ys → AllByRecursion P (xs ++ ys)
all-both P [] ys a b = b
all-both P (x ∷ xs) ys a b = (a.0, all-both P xs ys a.1 b)

pub dirty-in : (ds : List (Dbuf Kept)) → AllByRecursion (IsFit key_of bytes_of) ds → is_distinct dbuf_oid ds ≡ true → AllByRecursion (IsDirtyIn ds) (dirty_oids ds)
dirty-in [] fit once = tt
dirty-in (d ∷ ds) fit once =
    let parts = and-parts (not (has_item dbuf_oid d.at ds)) (is_distinct dbuf_oid ds) once in
    let rest = all-map (IsDirtyIn ds) (IsDirtyIn (d ∷ ds)) (dirty_oids ds) (λ at h. behind d ds at parts.0 h) (dirty-in ds fit.1 parts.1) in
    elim (bool_cases (is_dirty d)) [
      | inl dirty ↦ subst (λ (b : Bool). AllByRecursion (IsDirtyIn (d ∷ ds)) (if b then d.at ∷ dirty_oids ds else dirty_oids ds)) (sym dirty) (first-dirty d ds fit.0 dirty, rest)
      | inr clean ↦ subst (λ (b : Bool). AllByRecursion (IsDirtyIn (d ∷ ds)) (if b then d.at ∷ dirty_oids ds else dirty_oids ds)) (sym clean) rest
    ]

-- ---- in all cells

record IsNext (cells : List OnHeap) (i : ℕ) (c : OnHeap) (cs : List OnHeap) : Type 0 where
  pub within : i < length cells
  pub here : (d : OnHeap) → slice_index_or cells i d ≡ c
  pub left : drop (suc i) cells ≡ cs

next-of : (cells : List OnHeap) (i : ℕ) (c : OnHeap) (cs : List OnHeap) → drop i cells ≡ c ∷ cs → IsNext cells i c cs
next-of [] zero c cs e = cc
next-of [] (suc i) c cs e = cc
next-of (x ∷ xs) zero c cs e = record { within = omega arith; here = λ d. ap (λ (l : List OnHeap). slice_index_or l 0 d) e; left = ap (drop 1) e }
next-of (x ∷ xs) (suc i) c cs e = let n = next-of xs i c cs e in record { within = let a = n.within in omega arith; here = n.here; left = n.left }

due-of : (cells : List OnHeap) (i : ℕ) (c : OnHeap) (cs : List OnHeap) → IsNext cells i c cs → (oids : List Oid) → AllByRecursion (IsDirtyIn c.value.dbufs) oids → AllByRecursion (IsDueIn cells) (map (due_in i) oids)
due-of cells i c cs n [] all = tt
due-of cells i c cs n (at ∷ oids) all = (
  record {
    inside = n.within;
    dirty = λ d. ap (λ (x : OnHeap). dbuf_is is_dirty at x.value.dbufs) (n.here d) ∙ all.0.dirty;
    sized = subst (λ (l : List ℕ). IsBlockSize (length l)) (sym (bytes-there cells (due_in i at) c n.within ∙ ap (λ (x : OnHeap). dirty_bytes_at at x.value.dbufs) (n.here c))) all.0.sized;
  },
  due-of cells i c cs n oids all.1,
)

due-from : (cells : List OnHeap) (i : ℕ) (cs : List OnHeap) → drop i cells ≡ cs → AllByRecursion IsKnown cs → AllByRecursion (IsDueIn cells) (dues_from i cs)
due-from cells i [] e known = tt
due-from cells i (c ∷ cs) e known = let n = next-of cells i c cs e in
    all-both (IsDueIn cells) (dues_in i c.value.dbufs) (dues_from (suc i) cs) (due-of cells i c cs n (dirty_oids c.value.dbufs) (dirty-in c.value.dbufs known.0.fit known.0.once)) (due-from cells (suc i) cs n.left known.1)

pub all-due : (cells : List OnHeap) (dues : List Due) → AllByRecursion IsKnown cells → IsPermutation (dues_from 0 cells) dues → AreDueIn cells dues
all-due cells dues known shuffled = recursion_from_All (IsDueIn cells) dues (All-permutation (IsDueIn cells) (dues_from 0 cells) dues shuffled (All-from_recursion (IsDueIn cells) (dues_from 0 cells) (due-from cells 0 cells refl known)))

-- ---- none stands twice

module _ (due : Due) where
  abbrev counted : List Due → ℕ
  counted = count_by (due_eq due)

  one : (o : Due) (os : List Due) → counted (o ∷ os) ≡ cond (due_eq due o) 1 0 + counted os
  one o os = count-cons (due_eq due) o os

  both : (xs ys : List Due) → counted (xs ++ ys) ≡ counted xs + counted ys
  both xs ys = sum_by-append (λ (o : Due). cond (due_eq due o) 1 0) xs ys

  -- those of another Oid, and of another cell
  none-of-oids : (i : ℕ) (ds : List (Dbuf Kept)) → has_item dbuf_oid due.at ds ≡ false → counted (dues_in i ds) ≡ 0
  none-of-oids i [] h = refl
  none-of-oids i (d ∷ ds) h = elim (bool_cases (oid_eq due.at d.at)) [
    | inl here ↦ absurd (let clash : true ≡ false = ap (λ (b : Bool). is_some (if b then Some d else dbuf_at due.at ds)) (sym here) ∙ h in cc)
    | inr far ↦
        let rest = none-of-oids i ds (ap (λ (b : Bool). is_some (if b then Some d else dbuf_at due.at ds)) (sym far) ∙ h) in
        let a = one (due_in i d.at) (dues_in i ds) in
        let z : cond {A = ℕ} (due_eq due (due_in i d.at)) 1 0 ≡ 0 = ap (λ (b : Bool). cond (b && (due.cell == i)) 1 0) far in
        elim (bool_cases (is_dirty d)) [
          | inl dirty ↦ ap (λ (b : Bool). counted (map (due_in i) (if b then d.at ∷ dirty_oids ds else dirty_oids ds))) dirty ∙ (a ∙ (let e : cond (due_eq due (due_in i d.at)) 1 0 + counted (dues_in i ds) ≡ 0 = omega arith in e))
          | inr clean ↦ ap (λ (b : Bool). counted (map (due_in i) (if b then d.at ∷ dirty_oids ds else dirty_oids ds))) clean ∙ rest
        ]
  ]

  none-of-cell : (i : ℕ) (oids : List Oid) → due.cell ≢ i → counted (map (due_in i) oids) ≡ 0
  none-of-cell i [] far = refl
  none-of-cell i (at ∷ oids) far =
      let a = one (due_in i at) (map (due_in i) oids) in
      let b = none-of-cell i oids far in
      let z : cond {A = ℕ} (due_eq due (due_in i at)) 1 0 ≡ 0 = ap (λ (b : Bool). cond b 1 0) (second-false (oid_eq due.at at) (due.cell == i) (ne_eqb due.cell i far)) in
      omega arith
    where
      second-false : (a b : Bool) → b ≡ false → (a && b) ≡ false
      second-false true b h = h
      second-false false b h = refl

  most-in : (i : ℕ) (ds : List (Dbuf Kept)) → is_distinct dbuf_oid ds ≡ true → counted (dues_in i ds) ≤ 1
  most-in i [] once = let z : counted [] ≡ 0 = refl in omega arith
  most-in i (d ∷ ds) once =
      let parts = and-parts (not (has_item dbuf_oid d.at ds)) (is_distinct dbuf_oid ds) once in
      let rest = most-in i ds parts.1 in
      let a = one (due_in i d.at) (dues_in i ds) in
      elim (bool_cases (is_dirty d)) [
        | inl dirty ↦ subst (λ (b : Bool). counted (map (due_in i) (if b then d.at ∷ dirty_oids ds else dirty_oids ds)) ≤ 1) (sym dirty) (elim (bool_cases (oid_eq due.at d.at)) [
          | inl here ↦
              let none : has_item dbuf_oid due.at ds ≡ false = ap (λ (x : Oid). has_item dbuf_oid x ds) (oid_eq-is due.at d.at here) ∙ not-true (has_item dbuf_oid d.at ds) parts.0 in
              let b = none-of-oids i ds none in
              let m = most-one (due_eq due (due_in i d.at)) in
              omega arith
          | inr far ↦
              let z : cond {A = ℕ} (due_eq due (due_in i d.at)) 1 0 ≡ 0 = ap (λ (b : Bool). cond (b && (due.cell == i)) 1 0) far in
              omega arith
        ])
        | inr clean ↦ subst (λ (b : Bool). counted (map (due_in i) (if b then d.at ∷ dirty_oids ds else dirty_oids ds)) ≤ 1) (sym clean) rest
      ]
    where
      not-true : (b : Bool) → not b ≡ true → b ≡ false
      not-true true h = absurd (let clash : not true ≡ true = h in cc)
      not-true false h = refl

      most-one : (b : Bool) → cond {A = ℕ} b 1 0 ≤ 1
      most-one true = omega arith
      most-one false = omega arith

  none-from : (i : ℕ) (cs : List OnHeap) → due.cell < i → counted (dues_from i cs) ≡ 0
  none-from i [] h = refl
  none-from i (c ∷ cs) h =
      let a = both (dues_in i c.value.dbufs) (dues_from (suc i) cs) in
      let b = none-of-cell i (dirty_oids c.value.dbufs) (λ e. absurd (omega arith)) in
      let d = none-from (suc i) cs (omega arith) in
      omega arith

  most-from : (i : ℕ) (cs : List OnHeap) → AllByRecursion IsKnown cs → counted (dues_from i cs) ≤ 1
  most-from i [] known = let z : counted [] ≡ 0 = refl in omega arith
  most-from i (c ∷ cs) known =
      let a = both (dues_in i c.value.dbufs) (dues_from (suc i) cs) in
      elim (bool_cases (due.cell == i)) [
        | inl is ↦
            let here : due.cell ≡ i = eqb-true due.cell i is in
            let b = most-in i c.value.dbufs known.0.once in
            let d = none-from (suc i) cs (omega arith) in
            omega arith
        | inr far ↦
            let b = none-of-cell i (dirty_oids c.value.dbufs) (λ e. let x = eq-eqb due.cell i e in cc) in
            let d = most-from (suc i) cs known.1 in
            omega arith
      ]

pub all-apart : (cells : List OnHeap) (dues : List Due) → AllByRecursion IsKnown cells → IsPermutation (dues_from 0 cells) dues → AreApart dues
all-apart cells dues known shuffled due =
    let a = most-from due 0 cells known in
    let b = sum_by-IsPermutation (λ (o : Due). cond (due_eq due o) 1 0) (dues_from 0 cells) dues shuffled in
    omega arith

-- each has a sector at least
pub count-most : (cells : List OnHeap) (dues : List Due) → AreDueIn cells dues → length dues * 512 ≤ need_of cells dues
count-most cells [] h = omega arith
count-most cells (due ∷ dues) h = let a = count-most cells dues h.1 in let b = h.0.sized.1 in omega arith
