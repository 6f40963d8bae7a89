-- Lists of holds: one of them less or more, and what dbufs keep.
use Rattle.std.proofs.Common.{◌≡◌, ◌⊎◌, ℕ, zero, suc, ◌+◌, ◌<◌, Bool, true, false, List, [], ◌∷◌, ◌++◌, cond, if◌then◌else◌, Option, Some, None, refl, sym, ap, ◌∙◌, subst, inl, inr, ⊎_elim, arith}
use mathlib.Core.Option.{some, some-injective, some-ne-none}
use lib.ListN.{get_elem?}
use Rattle.blk_ptr.specs.Order.{key_eq}
use Rattle.blk_ptr.specs.Ptr.{sha256_of}
use Rattle.blk_ptr.specs.declared.key.Key.{Key}
use Rattle.blk_ptr.specs.declared.ptr.Ptr.{Ptr}
use Rattle.blk_ptr.proofs.Keys.{key_eq-is, key_eq-same}
use Rattle.arc_core.specs.Keeps.{holds_on}
use Rattle.arc_table.specs.Booking.{without_hold}
use Rattle.arc_table.specs.Giving.{AreHolds}
use Rattle.arc_table.specs.Holding.{IsOneOf}
use Rattle.arc_table.proofs.Bookings.{from_without, holds_cons, without_else}
use Rattle.dbuf_state.proofs.IndexLemmas.{bool_cases}
use Rattle.dbuf_state.specs.Dbufs.{dbuf_at, with_dbuf}
use Rattle.dbuf_state.specs.Oids.{oid_eq}
use Rattle.dbuf_state.specs.Soundness.{hold_in, holds_in}
use Rattle.dbuf_state.specs.declared.dbuf.Dbuf.{Dbuf}
use Rattle.dbuf_state.specs.declared.oid.Oid.{Oid}
use Rattle.dbuf_cells.specs.Kept.{bytes_of, is_held, key_of}
use Rattle.dbuf_cells.specs.declared.kept.Kept.{Kept}

abbrev mark : Bool → ℕ
mark b = cond b 1 0

pub later : (x y : Ptr) (hs : List Ptr) → IsOneOf x hs → IsOneOf x (y ∷ hs)
later x y hs one = (suc one.0, one.1)

pub first-or-later : (x y : Ptr) (hs : List Ptr) → IsOneOf x (y ∷ hs) → (y ≡ x) ⊎ IsOneOf x hs
first-or-later x y hs one = go one.0 one.1
  where
    go : (q : ℕ) → get_elem? (y ∷ hs) q ≡ some x → (y ≡ x) ⊎ IsOneOf x hs
    go zero e = inl (some-injective y x e)
    go (suc q) e = inr (q, e)

-- ---- one hold less

pub less : (j : Key) (hs : List Ptr) → 0 < holds_on j hs → holds_on j (without_hold j hs) + 1 ≡ holds_on j hs
less j [] some_hold = let z : holds_on j [] ≡ 0 = refl in absurd (omega arith)
less j (x ∷ hs) some_hold = go (λ h. less j hs h) (key_eq j x.key) refl
  where
    go : (0 < holds_on j hs → holds_on j (without_hold j hs) + 1 ≡ holds_on j hs) → (c : Bool) → key_eq j x.key ≡ c → holds_on j (if c then hs else (x ∷ without_hold j hs)) + 1 ≡ holds_on j (x ∷ hs)
    go ih true e = let a = holds_cons j x hs in let y : mark (key_eq j x.key) ≡ 1 = ap mark e in omega arith
    go ih false e = let a = holds_cons j x hs in let b = holds_cons j x (without_hold j hs) in let y : mark (key_eq j x.key) ≡ 0 = ap mark e in
        let r = ih (omega arith) in omega arith

-- what is counted stands in the list, and what stands there is counted
pub hold-there : (k : Key) (hs : List Ptr) → 0 < holds_on k hs → (h : Ptr) × IsOneOf h hs × (k ≡ h.key)
hold-there k [] some_hold = let z : holds_on k [] ≡ 0 = refl in absurd (omega arith)
hold-there k (x ∷ hs) some_hold = go (λ h. hold-there k hs h) (key_eq k x.key) refl
  where
    go : (0 < holds_on k hs → (h : Ptr) × IsOneOf h hs × (k ≡ h.key)) → (c : Bool) → key_eq k x.key ≡ c → (h : Ptr) × IsOneOf h (x ∷ hs) × (k ≡ h.key)
    go ih true e = (x, (0, refl), key_eq-is k x.key e)
    go ih false e = let a = holds_cons k x hs in let y : mark (key_eq k x.key) ≡ 0 = ap mark e in let r = ih (omega arith) in (r.0, later r.0 x hs r.1, r.2)

pub hold-counts : (hs : List Ptr) (h : Ptr) → IsOneOf h hs → 0 < holds_on h.key hs
hold-counts [] h one = absurd (some-ne-none h (sym one.1))
hold-counts (x ∷ hs) h one = ⊎_elim
    (λ is. let a = holds_cons h.key x hs in let y : mark (key_eq h.key x.key) ≡ 1 = ap mark (ap (λ (z : Ptr). key_eq h.key z.key) is ∙ key_eq-same h.key) in omega arith)
    (λ rest. let a = holds_cons h.key x hs in let r = hold-counts hs h rest in omega arith)
    (first-or-later h x hs one)

pub without-one : (k : Key) (x : Ptr) (hs : List Ptr) → IsOneOf x (without_hold k hs) → IsOneOf x hs
without-one k x hs one = from_without k hs one.0 x one.1

-- a hold of another key stays
pub without-other : (k : Key) (x : Ptr) (hs : List Ptr) → key_eq k x.key ≡ false → IsOneOf x hs → IsOneOf x (without_hold k hs)
without-other k x [] far one = absurd (some-ne-none x (sym one.1))
without-other k x (y ∷ hs) far one = go (λ rest. without-other k x hs far rest) (key_eq k y.key) refl
  where
    go : (IsOneOf x hs → IsOneOf x (without_hold k hs)) → (c : Bool) → key_eq k y.key ≡ c → IsOneOf x (if c then hs else (y ∷ without_hold k hs))
    go ih true e = ⊎_elim (λ is. let clash : true ≡ false = sym e ∙ (ap (λ (z : Ptr). key_eq k z.key) is ∙ far) in cc) (λ rest. rest) (first-or-later x y hs one)
    go ih false e = ⊎_elim (λ is. (0, ap some is)) (λ rest. later x y (without_hold k hs) (ih rest)) (first-or-later x y hs one)

-- all holds of this key are one pointer's
abbrev pub AreAlikeOn : Key → Ptr → List Ptr → Type 0
AreAlikeOn k x hs = (h : Ptr) → IsOneOf h hs → h.key ≡ k → h ≡ x

-- one less of what is counted, and one less in the list
less-count : (k j : Key) (holds left listed : List Ptr) → AreHolds holds listed → ((x : Key) → holds_on x left + mark (key_eq x k) ≡ holds_on x holds) → holds_on j left ≡ holds_on j (without_hold k listed)
less-count k j holds left listed are count = go (key_eq j k) refl
  where
    go : (c : Bool) → key_eq j k ≡ c → holds_on j left ≡ holds_on j (without_hold k listed)
    go true e =
        let same : mark (key_eq k k) ≡ 1 = ap mark (key_eq-same k) in
        let a = count k in let b = are.count k in
        let here : holds_on k (without_hold k listed) + 1 ≡ holds_on k listed = less k listed (omega arith) in
        let one : holds_on k left ≡ holds_on k (without_hold k listed) = omega arith in
        subst (λ (z : Key). holds_on z left ≡ holds_on z (without_hold k listed)) (sym (key_eq-is j k e)) one
    go false e = let y : mark (key_eq j k) ≡ 0 = ap mark e in let a = count j in let b = are.count j in let c = without_else j k listed e in omega arith

-- of holds that are those of a list one goes, and one of the list on its key
pub one-less : (k : Key) (x : Ptr) (holds left listed : List Ptr) → AreHolds holds listed → AreAlikeOn k x listed
    → ((j : Key) → holds_on j left + cond (key_eq j k) 1 0 ≡ holds_on j holds) → ((h : Ptr) → IsOneOf h left → IsOneOf h holds) → AreHolds left (without_hold k listed)
one-less k x holds left listed are alike count among = record {
  count = λ j. less-count k j holds left listed are count;
  among = λ j h at. stands h (j, at) (bool_cases (key_eq k h.key));
}
  where
    listed-one : (h : Ptr) → IsOneOf h left → IsOneOf h listed
    listed-one h one = let held = among h one in are.among held.0 h held.1

    stands : (h : Ptr) → IsOneOf h left → (key_eq k h.key ≡ true) ⊎ (key_eq k h.key ≡ false) → IsOneOf h (without_hold k listed)
    stands h one (inr far) = without-other k h listed far (listed-one h one)
    stands h one (inl near) =
        let same : k ≡ h.key = key_eq-is k h.key near in
        let more : 0 < holds_on k left = subst (λ (z : Key). 0 < holds_on z left) (sym same) (hold-counts left h one) in
        let count-now = less-count k k holds left listed are count in
        let found = hold-there k (without_hold k listed) (omega arith) in
        let is-x : found.0 ≡ x = alike found.0 (without-one k found.0 listed found.1) (sym found.2) in
        let is-h : h ≡ x = alike h (listed-one h one) (sym same) in
        subst (λ (z : Ptr). IsOneOf z (without_hold k listed)) (is-x ∙ sym is-h) found.1

-- of holds that are those of a list one comes, and one to the list
pub one-more : (x : Ptr) (holds more listed : List Ptr) → AreHolds holds listed → ((j : Key) → holds_on j more ≡ cond (key_eq j x.key) 1 0 + holds_on j holds)
    → ((h : Ptr) → IsOneOf h more → (x ≡ h) ⊎ IsOneOf h holds) → AreHolds more (x ∷ listed)
one-more x holds more listed are count among = record {
  count = λ j. count j ∙ (ap (λ (n : ℕ). cond (key_eq j x.key) 1 0 + n) (are.count j) ∙ sym (holds_cons j x listed));
  among = λ j h at. ⊎_elim (λ is. (0, ap some is)) (λ one. later h x listed (are.among one.0 h one.1)) (among h (j, at));
}

-- ---- what dbufs keep

abbrev ptr-of : Kept → Ptr
ptr-of k = record { key = key_of k; digest = sha256_of (bytes_of k) }

-- what the dbufs behind one keep, they keep all together
pub behind : (o : Option Kept) (x : Ptr) (hs : List Ptr) → IsOneOf x hs → IsOneOf x (hold_in key_of bytes_of is_held o ++ hs)
behind None x hs one = one
behind (Some k) x hs one = go (is_held k)
  where
    go : (c : Bool) → IsOneOf x ((if c then (ptr-of k ∷ []) else []) ++ hs)
    go true = later x (ptr-of k) hs one
    go false = one

-- and it is what the first keeps, or one behind it
pub first-or-behind : (o : Option Kept) (x : Ptr) (hs : List Ptr) → IsOneOf x (hold_in key_of bytes_of is_held o ++ hs) → IsOneOf x (hold_in key_of bytes_of is_held o) ⊎ IsOneOf x hs
first-or-behind None x hs one = inr one
first-or-behind (Some k) x hs one = go (is_held k) one
  where
    go : (c : Bool) → IsOneOf x ((if c then (ptr-of k ∷ []) else []) ++ hs) → IsOneOf x (if c then (ptr-of k ∷ []) else []) ⊎ IsOneOf x hs
    go true one = ⊎_elim (λ is. inl (0, ap some is)) (λ rest. inr rest) (first-or-later x (ptr-of k) hs one)
    go false one = inr one

pub first-of : (o : Option Kept) (x : Ptr) (hs : List Ptr) → IsOneOf x (hold_in key_of bytes_of is_held o) → IsOneOf x (hold_in key_of bytes_of is_held o ++ hs)
first-of None x hs one = absurd (some-ne-none x (sym one.1))
first-of (Some k) x hs one = go (is_held k) one
  where
    go : (c : Bool) → IsOneOf x (if c then (ptr-of k ∷ []) else []) → IsOneOf x ((if c then (ptr-of k ∷ []) else []) ++ hs)
    go true one = ⊎_elim (λ is. (0, ap some is)) (λ rest. absurd (some-ne-none x (sym rest.1))) (first-or-later x (ptr-of k) [] one)
    go false one = absurd (some-ne-none x (sym one.1))

-- a hold that a dbuf keeps is one of all
pub kept-one : (at : Oid) (ds : List (Dbuf Kept)) (d : Dbuf Kept) (k : Kept) → dbuf_at at ds ≡ Some d → d.kept ≡ Some k → is_held k ≡ true → IsOneOf (ptr-of k) (holds_in key_of bytes_of is_held ds)
kept-one at [] d k found there held = let clash : ◌≡◌ {A = Option (Dbuf Kept)} None (Some d) = found in cc
kept-one at (x ∷ ds) d k found there held = elim (bool_cases (oid_eq at x.at)) [
  | inl here ↦
      let same : ◌≡◌ {A = Option (Dbuf Kept)} (Some x) (Some d) = rw here at found in
      let is : x ≡ d = cc in
      first-of x.kept (ptr-of k) (holds_in key_of bytes_of is_held ds)
      (subst (λ (o : Option Kept). IsOneOf (ptr-of k) (hold_in key_of bytes_of is_held o)) (sym (ap (λ (y : Dbuf Kept). y.kept) is ∙ there))
      (subst (λ (c : Bool). IsOneOf (ptr-of k) (if c then (ptr-of k ∷ []) else [])) (sym held) (0, refl)))
  | inr far ↦ behind x.kept (ptr-of k) (holds_in key_of bytes_of is_held ds) (kept-one at ds d k (rw far at found) there held)
]

-- where a dbuf keeps nothing any more, no hold comes
pub taken-out : (at : Oid) (f : Dbuf Kept → Dbuf Kept) → ((d : Dbuf Kept) → (f d).kept ≡ None) → (x : Ptr) (ds : List (Dbuf Kept)) → IsOneOf x (holds_in key_of bytes_of is_held (with_dbuf at f ds))
    → IsOneOf x (holds_in key_of bytes_of is_held ds)
taken-out at f none x [] one = one
taken-out at f none x (d ∷ ds) one = elim (bool_cases (oid_eq at d.at)) [
  | inl here ↦
      let changed : IsOneOf x (hold_in key_of bytes_of is_held (f d).kept ++ holds_in key_of bytes_of is_held ds) = rw here at one in
      behind d.kept x (holds_in key_of bytes_of is_held ds) (subst (λ (o : Option Kept). IsOneOf x (hold_in key_of bytes_of is_held o ++ holds_in key_of bytes_of is_held ds)) (none d) changed)
  | inr far ↦ ⊎_elim
      (λ first. first-of d.kept x (holds_in key_of bytes_of is_held ds) first)
      (λ rest. behind d.kept x (holds_in key_of bytes_of is_held ds) (taken-out at f none x ds rest))
      (first-or-behind d.kept x (holds_in key_of bytes_of is_held (with_dbuf at f ds)) (rw far at one))
]
