-- The dbufs of a cell by their Oids and at their places.
use Rattle.std.proofs.Common.{◌≡◌, ℕ, zero, suc, ◌+◌, ◌<◌, Bool, true, false, not, ◌&&◌, List, [], ◌∷◌, ◌++◌, length, map, set, get_or, Option, Some, None, refl, sym, ap, subst, ◌∙◌, inl, inr, arith}
use Rattle.std.proofs.lemmas.List.{get_or_default, length-map, map-set}
use Rattle.std.proofs.lemmas.Bool.Decides.{nat_tests}
use Rattle.std.proofs.Math.Seq.{map-set_same}
use Rattle.std.specs.List.{list_any}
use Rattle.std.specs.Prelude.{IfOk, OnOk, Result, Ok, Err}
use Rattle.blk_ptr.specs.declared.key.Key.{Key}
use Rattle.dbuf_state.specs.declared.change.Change.{Change}
use Rattle.dbuf_state.specs.declared.change.Change.TheVariants as the
use Rattle.dbuf_state.specs.declared.standing.Standing.{Standing}
use Rattle.std.specs.List.{AllByRecursion, position_or_len}
use Rattle.std.specs.Prelude.{position}
use Rattle.dbuf_state.specs.declared.dbuf.Dbuf.{Dbuf}
use Rattle.dbuf_state.specs.declared.oid.Oid.{Oid}
use Rattle.dbuf_state.specs.Dbufs.{DbufHas, IsFit, applied, dbuf_at, dbuf_oid, standing_of, with_dbuf}
use Rattle.dbuf_state.specs.Oids.{has_item, is_distinct, oid_eq}
use Rattle.dbuf_state.proofs.IndexLemmas.{and-both, and-parts, bool_cases}
use Rattle.dbuf_state.proofs.Places.{changed-at, found-at, past-all, place-none, place-some}

-- the place in a list of what f makes of the items
or_len-map : {X Y : Type 0} (t : Y → Bool) (f : X → Y) (xs : List X) → position_or_len t (map f xs) ≡ position_or_len (λ x. t (f x)) xs
or_len-map t f [] = refl
or_len-map t f (x ∷ xs) = elim (bool_cases (t (f x))) [
  | inl holds ↦ rw holds refl
  | inr fails ↦ rw fails (ap (λ n. 1 + n) (or_len-map t f xs))
]

pub position-map : {X Y : Type 0} (t : Y → Bool) (f : X → Y) (xs : List X) → position t (map f xs) ≡ position (λ x. t (f x)) xs
position-map t f xs = rw (or_len-map t f xs, length-map xs f) refl

module _ {X : Type 0} where
  pub all-at : (P : X → Type 0) (xs : List X) (i : ℕ) (d : X) → AllByRecursion P xs → i < length xs → P (get_or xs i d)
  all-at P [] i d h within = absurd (omega arith)
  all-at P (x ∷ xs) zero d h within = h.0
  all-at P (x ∷ xs) (suc i) d h within = all-at P xs i d h.1 (omega arith)

  pub all-set : (P : X → Type 0) (xs : List X) (i : ℕ) (e : X) → AllByRecursion P xs → P e → AllByRecursion P (set xs i e)
  all-set P [] i e h here = h
  all-set P (x ∷ xs) zero e h here = (here, h.1)
  all-set P (x ∷ xs) (suc i) e h here = (h.0, all-set P xs i e h.1 here)

  pub all-push : (P : X → Type 0) (xs : List X) (e : X) → AllByRecursion P xs → P e → AllByRecursion P (xs ++ e ∷ [])
  all-push P [] e h here = (here, tt)
  all-push P (x ∷ xs) e h here = (h.0, all-push P xs e h.1 here)

module _ {H : Type 0} where
  abbrev pub is_at : Oid → Dbuf H → Bool
  is_at at d = oid_eq at d.at

  pub item-none : (at : Oid) (ds : List (Dbuf H)) → position (is_at at) ds ≡ None → dbuf_at at ds ≡ None
  item-none at ds none = past-all (is_at at) (dbuf_at at) (λ x xs fails. rw fails refl) ds (place-none (is_at at) ds none)

  pub item-some : (at : Oid) (ds : List (Dbuf H)) (i : ℕ) (d : Dbuf H) → position (is_at at) ds ≡ Some i → dbuf_at at ds ≡ Some (get_or ds i d)
  item-some at ds i d found =
      let place = place-some (is_at at) ds i found in
      found-at (is_at at) (dbuf_at at) (λ x xs. refl) ds i (get_or ds i d) place (get_or_default ds i d (get_or ds i d) place.within)

  pub with-at : (at : Oid) (f : Dbuf H → Dbuf H) (ds : List (Dbuf H)) (i : ℕ) (d : Dbuf H) → position (is_at at) ds ≡ Some i → with_dbuf at f ds ≡ set ds i (f (get_or ds i d))
  with-at at f ds i d found =
      let place = place-some (is_at at) ds i found in
      changed-at (is_at at) (with_dbuf at f) f (λ x xs. refl) ds i (get_or ds i d) place (get_or_default ds i d (get_or ds i d) place.within)

  -- a list that has at least one item has a first one
  some-item : (ds : List (Dbuf H)) (i : ℕ) → i < length ds → Dbuf H
  some-item [] i within = absurd (omega arith)
  some-item (d ∷ ds) i within = d

  pub with-found : {Y : Type 0} (g : List (Dbuf H) → Y) (y : Y) (at : Oid) (f : Dbuf H → Dbuf H) (ds : List (Dbuf H)) (i : ℕ) → position (is_at at) ds ≡ Some i
      → ((d : Dbuf H) → y ≡ g (set ds i (f (get_or ds i d)))) → y ≡ g (with_dbuf at f ds)
  with-found g y at f ds i found is =
      let place = place-some (is_at at) ds i found in
      let d = some-item ds i place.within in
      is d ∙ ap g (sym (with-at at f ds i d found))

  pub has-at : (P : Dbuf H → Type 0) (at : Oid) (ds : List (Dbuf H)) (i : ℕ) (d : Dbuf H) → position (is_at at) ds ≡ Some i → DbufHas P (dbuf_at at ds) → P (get_or ds i d)
  has-at P at ds i d found has = subst (λ (o : Option (Dbuf H)). DbufHas P o) (item-some at ds i d found) has

  pub has-from : (P : Dbuf H → Type 0) (at : Oid) (ds : List (Dbuf H)) (i : ℕ) → position (is_at at) ds ≡ Some i → ((d : Dbuf H) → P (get_or ds i d)) → DbufHas P (dbuf_at at ds)
  has-from P at ds i found each =
      let place = place-some (is_at at) ds i found in
      let d = some-item ds i place.within in
      subst (λ (o : Option (Dbuf H)). DbufHas P o) (sym (item-some at ds i d found)) (each d)

  pub has-none : (P : Dbuf H → Type 0) (at : Oid) (ds : List (Dbuf H)) → position (is_at at) ds ≡ None → DbufHas P (dbuf_at at ds) → ⊥
  has-none P at ds none has = subst (λ (o : Option (Dbuf H)). DbufHas P o) (item-none at ds none) has

pub oid_eq-sym : (a b : Oid) → oid_eq a b ≡ oid_eq b a
oid_eq-sym a b = grind (arith, nat_tests)

-- ---- changes

module _ {H : Type 0} where
  applied-at : (change : Change H) (d : Dbuf H) → (applied change d).at ≡ d.at
  applied-at (the.Reading n) d = refl
  applied-at the.Unread d = refl
  applied-at (the.Keep kept) d = refl
  applied-at (the.Unkeep state) d = refl
  applied-at (the.Dirty bytes) d = refl
  applied-at (the.Written from bytes) d = refl
  applied-at (the.Synced ptr kept) d = refl
  applied-at (the.Pin n) d = refl
  applied-at (the.Unpin n) d = refl
  applied-at (the.Used tick) d = refl
  applied-at the.Clear d = refl

  pub kept-names : (ds : List (Dbuf H)) (place : ℕ) (d new : Dbuf H) (change : Change H) → d ≡ get_or ds place d → new ≡ applied change d → map dbuf_oid ds ≡ map dbuf_oid (set ds place new)
  kept-names ds place d new change read is =
      sym (map-set_same dbuf_oid ds place new d (ap dbuf_oid is ∙ (applied-at change d ∙ ap dbuf_oid read)))

  pub kept-fit : (key_of : H → Key) (bytes_of : H → List ℕ) (ds : List (Dbuf H)) (place : ℕ) (d new : Dbuf H) (change : Change H)
      → AllByRecursion (IsFit key_of bytes_of) ds → place < length ds → d ≡ get_or ds place d → new ≡ applied change d
      → ((e : Dbuf H) → IsFit key_of bytes_of (get_or ds place e) → IsFit key_of bytes_of (applied change (get_or ds place e)))
      → AllByRecursion (IsFit key_of bytes_of) (set ds place new)
  kept-fit key_of bytes_of ds place d new change all within read is fits =
      let here = fits d (all-at (IsFit key_of bytes_of) ds place d all within) in
      let there = subst (λ (e : Dbuf H). IsFit key_of bytes_of (applied change e)) (sym read) here in
      all-set (IsFit key_of bytes_of) ds place new all (subst (IsFit key_of bytes_of) (sym is) there)

  pub kept-index : (ss new : List Standing) (ds : List (Dbuf H)) (place : ℕ) (d : Dbuf H) (s : Standing)
      → ss ≡ map standing_of ds → s ≡ standing_of d → new ≡ set ss place s → new ≡ map standing_of (set ds place d)
  kept-index ss new ds place d s before is written =
      written ∙ (ap (set ss place) is ∙ (ap (λ (z : List Standing). set z place (standing_of d)) before ∙ sym (map-set standing_of ds place d)))

  -- the Oids of a list stay distinct: where one dbuf is changed, and where one with a new Oid is added
  has-changed : (at : Oid) (ds : List (Dbuf H)) (place : ℕ) (new : Dbuf H) → new.at ≡ (get_or ds place new).at → has_item dbuf_oid at (set ds place new) ≡ has_item dbuf_oid at ds
  has-changed at [] place new same = refl
  has-changed at (d ∷ ds) zero new same = elim (bool_cases (oid_eq at d.at)) [
    | inl holds ↦ rw (same, holds) refl
    | inr fails ↦ rw (same, fails) refl
  ]
  has-changed at (d ∷ ds) (suc place) new same = elim (bool_cases (oid_eq at d.at)) [
    | inl holds ↦ rw holds refl
    | inr fails ↦ rw fails (has-changed at ds place new same)
  ]

  once-set : (ds : List (Dbuf H)) (place : ℕ) (new : Dbuf H) → new.at ≡ (get_or ds place new).at → is_distinct dbuf_oid ds ≡ true → is_distinct dbuf_oid (set ds place new) ≡ true
  once-set [] place new same h = refl
  once-set (d ∷ ds) zero new same h = subst (λ (at : Oid). (not (has_item dbuf_oid at ds) && is_distinct dbuf_oid ds) ≡ true) (sym same) h
  once-set (d ∷ ds) (suc place) new same h =
      let parts = and-parts (not (has_item dbuf_oid d.at ds)) (is_distinct dbuf_oid ds) h in
      and-both _ _ (ap not (has-changed d.at ds place new same) ∙ parts.0) (once-set ds place new same parts.1)

  pub kept-once : (ds : List (Dbuf H)) (place : ℕ) (d new : Dbuf H) (change : Change H) → d ≡ get_or ds place d → new ≡ applied change d → is_distinct dbuf_oid ds ≡ true → is_distinct dbuf_oid (set ds place new) ≡ true
  kept-once ds place d new change read is once = once-set ds place new (same ds place read) once
    where
      here : new.at ≡ d.at
      here = ap dbuf_oid is ∙ applied-at change d

      same : (xs : List (Dbuf H)) (i : ℕ) → d ≡ get_or xs i d → new.at ≡ (get_or xs i new).at
      same [] i read = refl
      same (x ∷ xs) zero read = here ∙ ap dbuf_oid read
      same (x ∷ xs) (suc i) read = same xs i read

  has-push : (at : Oid) (ds : List (Dbuf H)) (new : Dbuf H) → has_item dbuf_oid at ds ≡ false → oid_eq at new.at ≡ false → has_item dbuf_oid at (ds ++ new ∷ []) ≡ false
  has-push at [] new h other = rw other refl
  has-push at (d ∷ ds) new h other = elim (bool_cases (oid_eq at d.at)) [
    | inl holds ↦ let h' : true ≡ false = rw holds at h in cc
    | inr fails ↦ rw fails (has-push at ds new (rw fails at h) other)
  ]

  pub once-push : (ds : List (Dbuf H)) (new : Dbuf H) → has_item dbuf_oid new.at ds ≡ false → is_distinct dbuf_oid ds ≡ true → is_distinct dbuf_oid (ds ++ new ∷ []) ≡ true
  once-push [] new absent once = refl
  once-push (d ∷ ds) new absent once = elim (bool_cases (oid_eq new.at d.at)) [
    | inl holds ↦ let h' : true ≡ false = rw holds at absent in cc
    | inr fails ↦
        let parts = and-parts (not (has_item dbuf_oid d.at ds)) (is_distinct dbuf_oid ds) once in
        let here : has_item dbuf_oid d.at ds ≡ false = not-true _ parts.0 in
        and-both _ _ (ap not (has-push d.at ds new here (oid_eq-sym d.at new.at ∙ fails))) (once-push ds new (rw fails at absent) parts.1)
  ]
    where
      not-true : (b : Bool) → not b ≡ true → b ≡ false
      not-true true h = cc
      not-true false h = refl

  pub no-name : (at : Oid) (ds : List (Dbuf H)) → has_item dbuf_oid at ds ≡ false → list_any (oid_eq at) (map dbuf_oid ds) ≡ false
  no-name at [] h = refl
  no-name at (d ∷ ds) h = elim (bool_cases (oid_eq at d.at)) [
    | inl holds ↦ let h' : true ≡ false = rw holds at h in cc
    | inr fails ↦ rw fails (no-name at ds (rw fails at h))
  ]

pub on-ok : {T E : Type 0} (r : Result T E) (P Q : Type 0) → OnOk r P → (P → Q) → OnOk r Q
on-ok (Ok x) P Q h f = f h
on-ok (Err e) P Q h f = h

pub if-ok : {T E : Type 0} (r : Result T E) (P Q : T → Type 0) → IfOk r P → ((x : T) → P x → Q x) → IfOk r Q
if-ok (Ok x) P Q h f = f x h
if-ok (Err e) P Q h f = h
