-- A scan finds no more keys than there are entries neither marked nor passed.
use Rattle.std.proofs.Common.{◌≡◌, if◌then◌else◌, ℕ, ◌+◌, ◌<◌, ◌≤◌, List, [], ◌∷◌, length, Bool, true, false, cond, Some, refl, sym, ap, ◌∙◌, subst, arith}
use Rattle.std.specs.Prelude.{◌&&◌, ◌||◌, not, count_by}
use Rattle.std.proofs.lemmas.List.Sums.{count_by-le-length, sum_by-cons}
use Rattle.std.proofs.lemmas.Option.{none-some}
use Rattle.blk_ptr.specs.declared.key.Key.{Key}
use Rattle.blk_ptr.specs.Order.{key_eq, key_lt}
use Rattle.blk_ptr.proofs.Keys.{key_eq-is, key_eq-same}
use Rattle.arc_lists.specs.ByKey.{item_at, with_item}
use Rattle.arc_lists.specs.Sequences.{stands_on}
use Rattle.arc_core.specs.declared.entry.Entry.{Entry}
use Rattle.arc_core.specs.declared.event.Event.TheVariants.{Pass}
use Rattle.arc_core.specs.PlainShard.{PlainShard, entry_key, entry_of, is_passed}
use Rattle.arc_core.specs.Step.{after}
use Rattle.arc_table.specs.scans.Scanning.{is_open, open_entries}

-- ---- counting

-- the test f passes wherever f' does
abbrev Covers : (f f' : Entry → Bool) → Type 0
Covers f f' = (e : Entry) → f' e ≡ true → f e ≡ true

one_less : (b c : Bool) → (c ≡ true → b ≡ true) → cond c 1 0 ≤ cond b 1 0
one_less true true h = omega arith
one_less true false h = omega arith
one_less false true h = absurd (let k : false ≡ true = h refl in cc)
one_less false false h = omega arith

count_more : (f f' : Entry → Bool) (xs : List Entry) → Covers f f' → count_by f' xs ≤ count_by f xs
count_more f f' [] h = omega arith
count_more f f' (x ∷ xs) h =
    let ih = count_more f f' xs h in
    let a : count_by f' (x ∷ xs) ≡ cond (f' x) 1 0 + count_by f' xs = sum_by-cons (λ y. cond (f' y) 1 0) x xs in
    let b : count_by f (x ∷ xs) ≡ cond (f x) 1 0 + count_by f xs = sum_by-cons (λ y. cond (f y) 1 0) x xs in
    let c = one_less (f x) (f' x) (h x) in
    omega arith

-- and at the entry of a key f passes, and f' doesn't
pub count_less : (f f' : Entry → Bool) (k : Key) (xs : List Entry) (x : Entry) → Covers f f' → item_at entry_key k xs ≡ Some x → ((e : Entry) → key_eq e.key k ≡ true → (f e ≡ true) × (f' e ≡ false)) → count_by f' xs < count_by f xs
count_less f f' k [] x h there at = absurd (none-some x there)
count_less f f' k (y ∷ xs) x h there at =
    let a : count_by f' (y ∷ xs) ≡ cond (f' y) 1 0 + count_by f' xs = sum_by-cons (λ z. cond (f' z) 1 0) y xs in
    let b : count_by f (y ∷ xs) ≡ cond (f y) 1 0 + count_by f xs = sum_by-cons (λ z. cond (f z) 1 0) y xs in
    by_test (λ t. count_less f f' k xs x h t at) (count_more f f' xs h) a b (key_eq y.key k) refl there
  where
    by_test : (item_at entry_key k xs ≡ Some x → count_by f' xs < count_by f xs) → count_by f' xs ≤ count_by f xs → count_by f' (y ∷ xs) ≡ cond (f' y) 1 0 + count_by f' xs → count_by f (y ∷ xs) ≡ cond (f y) 1 0 + count_by f xs
        → (t : Bool) → key_eq y.key k ≡ t → (if t then Some y else item_at entry_key k xs) ≡ Some x → count_by f' (y ∷ xs) < count_by f (y ∷ xs)
    by_test ih more a b true is e =
        let h : (f y ≡ true) × (f' y ≡ false) = at y is in
        let yes : ◌≡◌ {A = ℕ} (cond {A = ℕ} (f y) 1 0) 1 = ap (λ (z : Bool). cond {A = ℕ} z 1 0) h.0 in
        let no : ◌≡◌ {A = ℕ} (cond {A = ℕ} (f' y) 1 0) 0 = ap (λ (z : Bool). cond {A = ℕ} z 1 0) h.1 in
        omega arith
    by_test ih more a b false is e =
        let less = ih e in
        let c = one_less (f y) (f' y) (h y) in
        omega arith

-- ---- the tests of a scan

and_left : (a b : Bool) → (a && b) ≡ true → a ≡ true
and_left true b h = refl
and_left false b h = h

and_right : (a b : Bool) → (a && b) ≡ true → b ≡ true
and_right true b h = h
and_right false b h = absurd (cc)

both : (a b : Bool) → a ≡ true → b ≡ true → (a && b) ≡ true
both true b h k = k
both false b h k = absurd (cc)

not_or : (a b : Bool) → not (a || b) ≡ true → not b ≡ true
not_or true b h = absurd (cc)
not_or false b h = h

same_key : (e : Entry) (k : Key) → key_eq e.key k ≡ true → e.key ≡ k
same_key e k h = key_eq-is e.key k h

-- a key was marked
pub fewer_marked : (s s' : PlainShard) (marked marked' : List Key) (k : Key) (x : Entry) → s' ≡ s → ((j : Key) → stands_on j marked' ≡ (key_eq k j || stands_on j marked))
    → entry_of k s ≡ Some x → stands_on k marked ≡ false → is_passed s k ≡ false → open_entries s' marked' < open_entries s marked
fewer_marked s s' marked marked' k x same more there unmarked unpassed =
    subst (λ (z : PlainShard). open_entries z marked' < open_entries s marked) (sym same)
    (count_less (is_open s marked) (is_open s marked') k s.entries x covers there at)
  where
    covers : Covers (is_open s marked) (is_open s marked')
    covers e h = both (not (stands_on e.key marked)) (not (is_passed s e.key))
        (not_or (key_eq k e.key) (stands_on e.key marked) (ap not (sym (more e.key)) ∙ and_left (not (stands_on e.key marked')) (not (is_passed s e.key)) h))
        (and_right (not (stands_on e.key marked')) (not (is_passed s e.key)) h)

    at : (e : Entry) → key_eq e.key k ≡ true → (is_open s marked e ≡ true) × (is_open s marked' e ≡ false)
    at e is = subst (λ (z : Key). ((not (stands_on z marked) && not (is_passed s z)) ≡ true) × ((not (stands_on z marked') && not (is_passed s z)) ≡ false)) (sym (same_key e k is)) (
      both (not (stands_on k marked)) (not (is_passed s k)) (ap not unmarked) (ap not unpassed),
      ap (λ (b : Bool). not b && not (is_passed s k)) (more k ∙ ap (λ (b : Bool). b || stands_on k marked) (key_eq-same k)),
    )

-- ---- a key was passed

swap_or : (a b c : Bool) → (a || (b || c)) ≡ (b || (a || c))
swap_or true true c = refl
swap_or true false c = refl
swap_or false true c = refl
swap_or false false c = refl

pub stands_with : (j k : Key) (ks : List Key) → stands_on j (with_item (λ x. x) k ks) ≡ (key_eq k j || stands_on j ks)
stands_with j k [] = refl
stands_with j k (y ∷ ys) = by_test (stands_with j k ys) (key_lt k y)
  where
    by_test : stands_on j (with_item (λ x. x) k ys) ≡ (key_eq k j || stands_on j ys) → (t : Bool) → stands_on j (if t then k ∷ (y ∷ ys) else (y ∷ with_item (λ x. x) k ys)) ≡ (key_eq k j || (key_eq y j || stands_on j ys))
    by_test ih true = refl
    by_test ih false = ap (λ (b : Bool). key_eq y j || b) ih ∙ swap_or (key_eq y j) (key_eq k j) (stands_on j ys)

pub fewer_passed : (s s' : PlainShard) (marked : List Key) (n owner : ℕ) (k : Key) (x : Entry) → s' ≡ after s (Pass n k owner)
    → entry_of k s ≡ Some x → stands_on k marked ≡ false → is_passed s k ≡ false → open_entries s' marked < open_entries s marked
fewer_passed s s' marked n owner k x same there unmarked unpassed =
    subst (λ (z : PlainShard). open_entries z marked < open_entries s marked) (sym same)
    (count_less (is_open s marked) (is_open (after s (Pass n k owner)) marked) k s.entries x covers there at)
  where
    covers : Covers (is_open s marked) (is_open (after s (Pass n k owner)) marked)
    covers e h = both (not (stands_on e.key marked)) (not (is_passed s e.key))
        (and_left (not (stands_on e.key marked)) (not (is_passed (after s (Pass n k owner)) e.key)) h)
        (not_or (key_eq k e.key) (is_passed s e.key) (ap not (sym (stands_with e.key k s.passed)) ∙ and_right (not (stands_on e.key marked)) (not (is_passed (after s (Pass n k owner)) e.key)) h))

    passed_now : is_passed (after s (Pass n k owner)) k ≡ true
    passed_now = stands_with k k s.passed ∙ ap (λ (b : Bool). b || stands_on k s.passed) (key_eq-same k)

    at : (e : Entry) → key_eq e.key k ≡ true → (is_open s marked e ≡ true) × (is_open (after s (Pass n k owner)) marked e ≡ false)
    at e is = subst (λ (z : Key). ((not (stands_on z marked) && not (is_passed s z)) ≡ true) × ((not (stands_on z marked) && not (is_passed (after s (Pass n k owner)) z)) ≡ false)) (sym (same_key e k is)) (
      both (not (stands_on k marked)) (not (is_passed s k)) (ap not unmarked) (ap not unpassed),
      ap (λ (b : Bool). not b && not (is_passed (after s (Pass n k owner)) k)) unmarked ∙ ap not passed_now,
    )

-- at the start there are as many as entries
pub open_at_most : (s : PlainShard) (marked : List Key) → open_entries s marked ≤ length s.entries
open_at_most s marked = count_by-le-length (is_open s marked) s.entries
