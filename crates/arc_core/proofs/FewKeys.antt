-- A few keys beside others, in rising order.
use Rattle.std.proofs.Common.{◌≡◌, ◌+◌, Bool, true, false, ◌||◌, List, [], ◌∷◌, ◌++◌, length, inl, inr, refl, sym, ap, ◌∙◌, arith}
use Rattle.std.specs.List.{list_any}
use Rattle.blk_ptr.specs.declared.key.Key.{Key}
use Rattle.blk_ptr.specs.Order.{key_eq, key_lt}
use Rattle.blk_ptr.proofs.Keys.{key_eq-is, key_lt-apart, key_lt-flip, key_lt-trans}
use Rattle.arc_lists.specs.ByKey.{with_item}
use Rattle.arc_lists.specs.Sequences.{stands_on}
use Rattle.arc_lists.proofs.Tables.{cases_true, length-with_item}
use Rattle.arc_core.specs.seats.FewKeys.{beside}
use Rattle.arc_core.proofs.Marking.{stands_on-with_key}

-- a smaller key and a greater one come in either order
swap-below : (j k : Key) (xs : List Key) → key_lt j k ≡ true → with_item (λ x. x) j (with_item (λ x. x) k xs) ≡ with_item (λ x. x) k (with_item (λ x. x) j xs)
swap-below j k [] below = rw (below, key_lt-flip j k below) refl
swap-below j k (x ∷ xs) below = elim (cases_true (key_lt k x)) [
  | inl over ↦ rw (over, below, key_lt-trans j k x below over, key_lt-flip j k below, over) refl
  | inr past ↦ elim (cases_true (key_lt j x)) [
    | inl before ↦ rw (past, before, key_lt-flip j k below, past) refl
    | inr behind ↦ rw (past, behind, past) (ap (λ ys. x ∷ ys) (swap-below j k xs below))
  ]
]

-- two keys come in either order
swap : (j k : Key) (xs : List Key) → with_item (λ x. x) j (with_item (λ x. x) k xs) ≡ with_item (λ x. x) k (with_item (λ x. x) j xs)
swap j k xs = elim (cases_true (key_eq j k)) [
  | inl same ↦ rw (key_eq-is j k same) refl
  | inr differ ↦ elim (cases_true (key_lt j k)) [
    | inl below ↦ swap-below j k xs below
    | inr other ↦ sym (swap-below k j xs (key_lt-apart j k other differ))
  ]
]

-- a key that comes among the others, and one that comes among the few
pub beside-more : (few : List Key) (k : Key) (more : List Key) → beside few (with_item (λ x. x) k more) ≡ with_item (λ x. x) k (beside few more)
beside-more [] k more = refl
beside-more (j ∷ few) k more = ap (with_item (λ x. x) j) (beside-more few k more) ∙ swap j k (beside few more)

pub beside-few : (few : List Key) (k : Key) (more : List Key) → beside (few ++ k ∷ []) more ≡ with_item (λ x. x) k (beside few more)
beside-few [] k more = refl
beside-few (j ∷ few) k more = ap (with_item (λ x. x) j) (beside-few few k more) ∙ swap j k (beside few more)

pub stands-beside : (k : Key) (few more : List Key) → stands_on k (beside few more) ≡ (stands_on k few || stands_on k more)
stands-beside k [] more = refl
stands-beside k (j ∷ few) more = stands_on-with_key k (beside few more) j ∙ ap (λ b. key_eq j k || b) (stands-beside k few more) ∙ joined (key_eq j k) (stands_on k few) (stands_on k more)
  where
    joined : (a b c : Bool) → (a || (b || c)) ≡ ((a || b) || c)
    joined true b c = refl
    joined false b c = refl

pub length-beside : (few more : List Key) → length (beside few more) ≡ length few + length more
length-beside [] more = omega arith
length-beside (j ∷ few) more = omega (arith, length-with_item (λ (x : Key). x) j (beside few more), length-beside few more)

-- where nothing is among the few or the others, it is not among both; and a test of each of the few finds what is there
pub absent-more : (k : Key) (few more : List Key) → stands_on k (beside few more) ≡ false → stands_on k more ≡ false
absent-more k few more off = right (stands_on k few) (stands_on k more) (sym (stands-beside k few more) ∙ off)
  where
    right : (a b : Bool) → (a || b) ≡ false → b ≡ false
    right true true off = off
    right true false off = refl
    right false b off = off

pub tested : (k : Key) (few : List Key) → list_any (λ j. key_eq j k) few ≡ stands_on k few
tested k [] = refl
tested k (j ∷ few) = ap (λ b. key_eq j k || b) (tested k few)

-- no keys beside none
pub no-keys : (xs : List Key) → length xs ≡ 0 → xs ≡ []
no-keys [] none = refl
no-keys (x ∷ xs) none = absurd (omega (arith, none))
