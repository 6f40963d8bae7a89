-- The dirty blocks of all cells: how they are gathered, and what is so of each of them.
use Rattle.std.proofs.Common.{◌≡◌, ◌==◌, ℕ, zero, suc, ◌+◌, ◌<◌, Bool, true, false, cond, List, [], ◌∷◌, ◌++◌, length, drop, take, count_by, IsPermutation, slice_index_or, map, Result, Ok, Err, OnOk, refl, sym, ap, ◌∙◌, subst, inl, inr, eq-eqb, arith}
use Rattle.std.specs.List.{AllByRecursion}
use Rattle.std.proofs.lemmas.List.Sums.{sum_by-cons, sum_by-append}
use Rattle.std.proofs.lemmas.List.{append_assoc}
use Rattle.std.proofs.lemmas.List.Sorted.{IsPermutation-append_left, IsPermutation-append_right, IsPermutation-map, IsPermutation-trans}
use Rattle.dbuf_state.specs.Dbufs.{dirty_oids}
use Rattle.dbuf_state.specs.declared.dbuf.Dbuf.{Dbuf}
use Rattle.dbuf_cells.specs.declared.kept.Kept.{Kept}
use Rattle.dbuf_state.specs.Oids.{oid_eq}
use Rattle.dbuf_state.specs.declared.oid.Oid.{Oid}
use Rattle.dbuf_state.proofs.IndexLemmas.{and-both, bool_cases}
use Rattle.dbuf_cells.specs.Turns.{OnHeap}
use Rattle.txg_sync.specs.InHand.{IsKnown}
use Rattle.txg_sync.specs.Items.{AreApart, due_eq, due_in, dues_from, dues_in}
use Rattle.txg_sync.specs.declared.due.Due.{Due}

pub oid-same : (at : Oid) → oid_eq at at ≡ true
oid-same at = and-both (at.object == at.object) (at.block == at.block) (eq-eqb at.object at.object refl) (eq-eqb at.block at.block refl)

pub due-same : (due : Due) → due_eq due due ≡ true
due-same due = and-both (oid_eq due.at due.at) (due.cell == due.cell) (oid-same due.at) (eq-eqb due.cell due.cell refl)

-- the first of those that are left
pub drop-next : {X : Type 0} (xs : List X) (i : ℕ) (d : X) → i < length xs → drop i xs ≡ slice_index_or xs i d ∷ drop (suc i) xs
drop-next [] i d h = absurd (omega arith)
drop-next (x ∷ xs) zero d h = refl
drop-next (x ∷ xs) (suc i) d h = drop-next xs i d (omega arith)

pub gathers-more : (cells : List OnHeap) (i : ℕ) (old new : List Due) (d : OnHeap) → i < length cells → IsPermutation (dues_from 0 cells) (old ++ dues_from i (drop i cells))
    → IsPermutation (old ++ dues_in i (slice_index_or cells i d).value.dbufs) new → IsPermutation (dues_from 0 cells) (new ++ dues_from (suc i) (drop (suc i) cells))
gathers-more cells i old new d h so_far one =
    let c = slice_index_or cells i d in
    let rest = dues_from (suc i) (drop (suc i) cells) in
    let split : old ++ dues_from i (drop i cells) ≡ (old ++ dues_in i c.value.dbufs) ++ rest =
    ap (λ (l : List OnHeap). old ++ dues_from i l) (drop-next cells i d h) ∙ sym (append_assoc old (dues_in i c.value.dbufs) rest) in
    IsPermutation-trans (dues_from 0 cells) ((old ++ dues_in i c.value.dbufs) ++ rest) (new ++ rest) (subst (IsPermutation (dues_from 0 cells)) split so_far) (IsPermutation-append_left rest (old ++ dues_in i c.value.dbufs) new one)

pub known-more : (cells : List OnHeap) (i : ℕ) (d : OnHeap) → i < length cells → AllByRecursion IsKnown (take i cells) → IsKnown (slice_index_or cells i d) → AllByRecursion IsKnown (take (suc i) cells)
known-more [] i d h all one = absurd (omega arith)
known-more (c ∷ cs) zero d h all one = (one, tt)
known-more (c ∷ cs) (suc i) d h all one = (all.0, known-more cs i d (omega arith) all.1 one)

-- ---- no block stands twice

pub count-cons : {X : Type 0} (p : X → Bool) (x : X) (xs : List X) → count_by p (x ∷ xs) ≡ cond (p x) 1 0 + count_by p xs
count-cons {X} p x xs = sum_by-cons (λ (y : X). cond (p y) 1 0) x xs

-- of those that are left the first is apart from the others
pub apart-first : (due : Due) (dues : List Due) → AreApart (due ∷ dues) → AllByRecursion (λ other. due_eq due other ≡ false) dues
apart-first due dues apart = go dues (let a = apart due in let b = count-cons (due_eq due) due dues in let same : cond {A = ℕ} (due_eq due due) 1 0 ≡ 1 = ap (λ (c : Bool). cond c 1 0) (due-same due) in omega arith)
  where
    go : (os : List Due) → count_by (due_eq due) os ≡ 0 → AllByRecursion (λ other. due_eq due other ≡ false) os
    go [] none = tt
    go (o ∷ os) none = elim (bool_cases (due_eq due o)) [
      | inl is ↦ let a = count-cons (due_eq due) o os in let one : cond {A = ℕ} (due_eq due o) 1 0 ≡ 1 = ap (λ (c : Bool). cond c 1 0) is in absurd (omega arith)
      | inr far ↦ (far, go os (let a = count-cons (due_eq due) o os in omega arith))
    ]

-- and apart from those before it
pub apart-before : (due : Due) (front rest : List Due) → AreApart (front ++ due ∷ rest) → AllByRecursion (λ other. due_eq due other ≡ false) front
apart-before due front rest apart = go front
    (let a = apart due in
    let b : count_by (due_eq due) (front ++ due ∷ rest) ≡ count_by (due_eq due) front + count_by (due_eq due) (due ∷ rest) = sum_by-append (λ (y : Due). cond {A = ℕ} (due_eq due y) 1 0) front (due ∷ rest) in
    let c = count-cons (due_eq due) due rest in
    let same : cond {A = ℕ} (due_eq due due) 1 0 ≡ 1 = ap (λ (c : Bool). cond c 1 0) (due-same due) in
    omega (arith, a, b, c, same))
  where
    go : (os : List Due) → count_by (due_eq due) os ≡ 0 → AllByRecursion (λ other. due_eq due other ≡ false) os
    go [] none = tt
    go (o ∷ os) none = elim (bool_cases (due_eq due o)) [
      | inl is ↦ let a = count-cons (due_eq due) o os in let one : cond {A = ℕ} (due_eq due o) 1 0 ≡ 1 = ap (λ (c : Bool). cond c 1 0) is in absurd (omega arith)
      | inr far ↦ (far, go os (let a = count-cons (due_eq due) o os in omega arith))
    ]

pub apart-rest : (due : Due) (dues : List Due) → AreApart (due ∷ dues) → AreApart dues
apart-rest due dues apart other = let a = apart other in let b = count-cons (due_eq other) due dues in omega arith

-- ---- a cell's dirty blocks are added

pub adds-all : {T E : Type 0} (i : ℕ) (old new : List Due) (ds : List (Dbuf Kept)) (oids : List Oid) → IsPermutation (dirty_oids ds) oids → (result : Result T E) → OnOk result (new ≡ old ++ map (due_in i) oids)
    → OnOk result (IsPermutation (old ++ dues_in i ds) new)
adds-all i old new ds oids shuffled (Ok done) added = subst (IsPermutation (old ++ dues_in i ds)) (sym added) (IsPermutation-append_right old (dues_in i ds) (map (due_in i) oids) (IsPermutation-map (due_in i) (dirty_oids ds) oids shuffled))
adds-all i old new ds oids shuffled (Err why) added = tt
