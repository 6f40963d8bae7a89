-- What a sync needs is within what all blocks that were written since the sync before may need.
use Rattle.std.proofs.Common.{◌≡◌, ℕ, suc, ◌+◌, ◌<◌, ◌≤◌, true, false, List, [], ◌∷◌, ◌++◌, map, length, sum_by, Option, Some, refl, sym, ap, subst, ◌∙◌, inl, inr, arith}
use Rattle.std.specs.Prelude.{slice_get}
use Rattle.std.specs.List.{AllByRecursion, list_any}
use Rattle.std.specs.Option.{option_map_or}
use Rattle.std.proofs.lemmas.List.Sums.{sum_by-cons}
use Rattle.std.proofs.lemmas.List.Sorted.{sum_by-IsPermutation}
use Rattle.arc_lists.proofs.Tables.{cases_true}
use Rattle.dbuf_state.specs.CellLog.{CellLog}
use Rattle.dbuf_state.specs.Dbufs.{dbuf_is, dirty_oids, is_dirty}
use Rattle.dbuf_state.specs.Oids.{oid_eq}
use Rattle.dbuf_state.specs.Soundness.{IsSound}
use Rattle.dbuf_state.specs.declared.event.CellEvent.{CellEvent}
use Rattle.dbuf_state.specs.declared.oid.Oid.{Oid}
use Rattle.dbuf_cells.specs.Places.{cell_of}
use Rattle.dbuf_cells.specs.Turns.{OnHeap}
use Rattle.dbuf_cells.specs.declared.kept.Kept.{Kept}
use Rattle.txg_sync.specs.Items.{bytes_of_due, dirty_bytes_at, due_in, dues_from, dues_in, need_of}
use Rattle.txg_sync.specs.Syncing.{AreAllDirty}
use Rattle.txg_sync.specs.declared.due.Due.{Due}
use Rattle.trace_run.proofs.in_place.DirtyBlocks.{IsCleanBehind, dirty-written, is_write_of}
use Rattle.trace_run.proofs.in_place.DirtySizes.{AreDirtyIn, all-dirty, distinct-dirty, mapping_oid, sound-distinct}
use Rattle.trace_run.proofs.in_place.Mapped.{oid-is}
use Rattle.trace_run.proofs.in_place.Sums.{AreDistinct, any-cons, none-apart, sum-among}

-- A cell of the number i, of m, as a sync takes it: nothing was dirty behind a front of its history, and what was written since is its own and among these blocks. These are the most bytes that its dirty
-- blocks have.
pub record IsRoomy (m : ℕ) (size : Oid → ℕ) (ats : List Oid) (i : ℕ) (c : CellLog Kept) : Type 0 where
  pub sound : IsSound c
  pub once : AreDistinct (map mapping_oid c.opening)
  pub synced : List CellEvent
  pub since : List CellEvent
  pub split : c.history ≡ synced ++ since
  pub clean : IsCleanBehind c.opening synced
  pub own : (at : Oid) → list_any (is_write_of at) since ≡ true → (cell_of m at ≡ i) × (list_any (oid_eq at) ats ≡ true)
  pub sized : (at : Oid) → cell_of m at ≡ i → length (dirty_bytes_at at c.dbufs) ≤ size at

abbrev due_oid : Due → Oid
due_oid due = due.at

-- ---- lists

both-all : {X : Type 0} (P : X → Type 0) (xs ys : List X) → AllByRecursion P xs → AllByRecursion P ys → AllByRecursion P (xs ++ ys)
both-all P [] ys a b = b
both-all P (x ∷ xs) ys a b = (a.0, both-all P xs ys a.1 b)

map-all : {X : Type 0} (P Q : X → Type 0) (xs : List X) → ((x : X) → P x → Q x) → AllByRecursion P xs → AllByRecursion Q xs
map-all P Q [] f all = tt
map-all P Q (x ∷ xs) f all = (f x all.0, map-all P Q xs f all.1)

none-both : (x : Oid) (xs ys : List Oid) → list_any (oid_eq x) xs ≡ false → list_any (oid_eq x) ys ≡ false → list_any (oid_eq x) (xs ++ ys) ≡ false
none-both x [] ys a b = b
none-both x (y ∷ xs) ys a b = let parts = none-apart x y xs a in any-cons x y (xs ++ ys) parts.0 (none-both x xs ys parts.1 b)

distinct-both : (xs ys : List Oid) → AreDistinct xs → AreDistinct ys → AllByRecursion (λ x. list_any (oid_eq x) ys ≡ false) xs → AreDistinct (xs ++ ys)
distinct-both [] ys a b apart = b
distinct-both (x ∷ xs) ys a b apart = (none-both x xs ys a.0 apart.0, distinct-both xs ys a.1 b apart.1)

-- ---- the blocks of all cells

abbrev oids_of : List Due → List Oid
oids_of dues = map due_oid dues

oids-both : (xs ys : List Due) → oids_of (xs ++ ys) ≡ oids_of xs ++ oids_of ys
oids-both [] ys = refl
oids-both (x ∷ xs) ys = ap (λ (l : List Oid). x.at ∷ l) (oids-both xs ys)

oids-in : (i : ℕ) (ats : List Oid) → oids_of (map (due_in i) ats) ≡ ats
oids-in i [] = refl
oids-in i (at ∷ ats) = ap (λ (l : List Oid). at ∷ l) (oids-in i ats)

module _ (m : ℕ) (size : Oid → ℕ) (ats : List Oid) (cells : List OnHeap) (rooms : (i : ℕ) (c : OnHeap) → slice_get cells i ≡ Some c → IsRoomy m size ats i c.value) where
  record IsRoomyDue (due : Due) : Type 0 where
    pub own : cell_of m due.at ≡ due.cell
    pub among : list_any (oid_eq due.at) ats ≡ true
    pub sized : length (bytes_of_due cells due) ≤ size due.at

  -- one of the cell i
  module _ (i : ℕ) (c : OnHeap) (there : slice_get cells i ≡ Some c) where
    abbrev room : IsRoomy m size ats i c.value
    room = rooms i c there

    its-due : (at : Oid) → dbuf_is is_dirty at c.value.dbufs ≡ true → IsRoomyDue (due_in i at)
    its-due at dirty =
        let w = room.own at (dirty-written c.value room.sound room.synced room.since room.split room.clean at dirty) in
        record {
          own = w.0;
          among = w.1;
          sized = subst (λ (o : Option OnHeap). length (option_map_or (λ (x : OnHeap). dirty_bytes_at at x.value.dbufs) o []) ≤ size at) (sym there) (room.sized at w.0);
        }

    due-all : (oids : List Oid) → AreDirtyIn c.value.dbufs oids → AllByRecursion IsRoomyDue (map (due_in i) oids)
    due-all [] all = tt
    due-all (at ∷ oids) all = (its-due at all.0, due-all oids all.1)

    its-dues : AllByRecursion IsRoomyDue (dues_in i c.value.dbufs)
    its-dues = due-all (dirty_oids c.value.dbufs) (all-dirty c.value.dbufs (sound-distinct c.value room.sound room.once))

    its-oids : AreDistinct (dirty_oids c.value.dbufs)
    its-oids = distinct-dirty c.value.dbufs (sound-distinct c.value room.sound room.once)

  -- these cells stand from the number k on
  abbrev StandFrom : ℕ → List OnHeap → Type 0
  StandFrom k cs = (j : ℕ) → slice_get cs j ≡ slice_get cells (k + j)

  stand-first : (k : ℕ) (c : OnHeap) (cs : List OnHeap) → StandFrom k (c ∷ cs) → slice_get cells k ≡ Some c
  stand-first k c cs stand = let same : k + 0 ≡ k = omega arith in sym (stand 0 ∙ ap (λ (n : ℕ). slice_get cells n) same)

  stand-rest : (k : ℕ) (c : OnHeap) (cs : List OnHeap) → StandFrom k (c ∷ cs) → StandFrom (suc k) cs
  stand-rest k c cs stand j = let same : k + suc j ≡ suc k + j = omega arith in stand (suc j) ∙ ap (λ (n : ℕ). slice_get cells n) same

  stand-all : StandFrom 0 cells
  stand-all j = let same : j ≡ 0 + j = omega arith in ap (λ (n : ℕ). slice_get cells n) same

  all-dues : (k : ℕ) (cs : List OnHeap) → StandFrom k cs → AllByRecursion IsRoomyDue (dues_from k cs)
  all-dues k [] stand = tt
  all-dues k (c ∷ cs) stand =
      both-all IsRoomyDue (dues_in k c.value.dbufs) (dues_from (suc k) cs) (its-dues k c (stand-first k c cs stand)) (all-dues (suc k) cs (stand-rest k c cs stand))

  -- none of another cell's
  later-in : (k i : ℕ) (oids : List Oid) → k ≤ i → AllByRecursion (λ (due : Due). k ≤ due.cell) (map (due_in i) oids)
  later-in k i [] le = tt
  later-in k i (at ∷ oids) le = (le, later-in k i oids le)

  later-from : (k : ℕ) (cs : List OnHeap) → AllByRecursion (λ (due : Due). k ≤ due.cell) (dues_from k cs)
  later-from k [] = tt
  later-from k (c ∷ cs) =
      both-all (λ (due : Due). k ≤ due.cell) (dues_in k c.value.dbufs) (dues_from (suc k) cs) (later-in k k (dirty_oids c.value.dbufs) (omega arith))
      (map-all (λ (due : Due). suc k ≤ due.cell) (λ (due : Due). k ≤ due.cell) (dues_from (suc k) cs) (λ due le. omega (arith, le)) (later-from (suc k) cs))

  none-later : (x : Oid) (k : ℕ) → cell_of m x < k → (dues : List Due) → AllByRecursion IsRoomyDue dues → AllByRecursion (λ (due : Due). k ≤ due.cell) dues → list_any (oid_eq x) (oids_of dues) ≡ false
  none-later x k less [] all later = refl
  none-later x k less (due ∷ dues) all later = elim (cases_true (oid_eq x due.at)) [
    | inl here ↦
        let same : cell_of m x ≡ due.cell = ap (cell_of m) (oid-is x due.at here) ∙ all.0.own in
        absurd (omega (arith, less, same, later.0))
    | inr far ↦ any-cons x due.at (oids_of dues) far (none-later x k less dues all.1 later.1)
  ]

  none-behind : (k : ℕ) (rest : List Due) → AllByRecursion IsRoomyDue rest → AllByRecursion (λ (due : Due). suc k ≤ due.cell) rest → (oids : List Oid) → AllByRecursion IsRoomyDue (map (due_in k) oids)
      → AllByRecursion (λ x. list_any (oid_eq x) (oids_of rest) ≡ false) oids
  none-behind k rest all later [] its = tt
  none-behind k rest all later (at ∷ oids) its = (none-later at (suc k) (let same = its.0.own in omega arith) rest all later, none-behind k rest all later oids its.1)

  distinct-from : (k : ℕ) (cs : List OnHeap) → StandFrom k cs → AreDistinct (oids_of (dues_from k cs))
  distinct-from k [] stand = tt
  distinct-from k (c ∷ cs) stand =
      let there = stand-first k c cs stand in
      let behind = stand-rest k c cs stand in
      let rest = dues_from (suc k) cs in
      let oids = dirty_oids c.value.dbufs in
      let same : oids_of (dues_in k c.value.dbufs ++ rest) ≡ oids ++ oids_of rest = oids-both (dues_in k c.value.dbufs) rest ∙ ap (λ (l : List Oid). l ++ oids_of rest) (oids-in k oids) in
      subst AreDistinct (sym same) (distinct-both oids (oids_of rest) (its-oids k c there) (distinct-from (suc k) cs behind)
      (none-behind k rest (all-dues (suc k) cs behind) (later-from (suc k) cs) oids (its-dues k c there)))

  -- ---- the sums

  abbrev bytes_in_all : Due → ℕ
  bytes_in_all due = length (bytes_of_due cells due)

  need-sum : (dues : List Due) → need_of cells dues ≡ sum_by bytes_in_all dues
  need-sum [] = refl
  need-sum (due ∷ dues) = ap (λ (n : ℕ). bytes_in_all due + n) (need-sum dues) ∙ sym (sum_by-cons bytes_in_all due dues)

  sum-sizes : (dues : List Due) → AllByRecursion IsRoomyDue dues → sum_by bytes_in_all dues ≤ sum_by size (oids_of dues)
  sum-sizes [] all = let a : sum_by bytes_in_all [] ≡ 0 = refl in omega arith
  sum-sizes (due ∷ dues) all =
      let rest = sum-sizes dues all.1 in
      let a = sum_by-cons bytes_in_all due dues in
      let b = sum_by-cons size due.at (oids_of dues) in
      let here = all.0.sized in
      omega arith

  among-all : (dues : List Due) → AllByRecursion IsRoomyDue dues → AllByRecursion (λ x. list_any (oid_eq x) ats ≡ true) (oids_of dues)
  among-all [] all = tt
  among-all (due ∷ dues) all = (all.0.among, among-all dues all.1)

  pub need-within : (dues : List Due) → AreAllDirty cells dues → need_of cells dues ≤ sum_by size ats
  need-within dues dirty =
      let from = dues_from 0 cells in
      let all = all-dues 0 cells stand-all in
      let a = need-sum dues in
      let b = sum_by-IsPermutation bytes_in_all from dues dirty.all in
      let c = sum-sizes from all in
      let d = sum-among size (oids_of from) ats (distinct-from 0 cells stand-all) (among-all from all) in
      omega arith
