-- Tables by key: where a key stands among them, and what an edit at that place does.
use Rattle.std.proofs.Common.{◌≡◌, ℕ, zero, suc, ◌+◌, ◌<◌, ◌≤◌, Bool, true, false, cond, IsTrue, List, [], ◌∷◌, length, get_or, set, Option, Some, None, IsSome, map, option_map, ◌⊎◌, inl, inr, refl, sym, ap, subst, ◌∙◌, arith}
use Rattle.std.specs.List.{insert, remove, AllByRecursion}
use Rattle.std.specs.List.Sorted.{IsPartitionedBy, IsPartitionPoint}
use Rattle.std.proofs.lemmas.List.Sums.{prefix_len_is, prefix_len-le-length}
use Rattle.std.proofs.lemmas.Bool.{false≢true}
use Rattle.blk_ptr.specs.declared.key.Key.{Key}
use Rattle.blk_ptr.specs.Order.{key_eq, key_lt}
use Rattle.blk_ptr.proofs.Keys.{key_eq-same, key_eq-sym, key_lt-same, key_lt-flip, key_eq-lt, key_lt-apart, key_lt-trans, key_eq-is}
use Rattle.arc_lists.specs.ByKey.{item_at, has_key, with_item, without, with_change, IsAbove, IsRising, rank}

pub cases_true : (b : Bool) → (b ≡ true) ⊎ (b ≡ false)
cases_true true = inl refl
cases_true false = inr refl

one_more_is : (n : ℕ) → 1 + n ≡ suc n
one_more_is n = omega arith

same_is_not_lt : (a b : Key) → key_eq a b ≡ true → key_lt a b ≡ false
same_is_not_lt a b same = subst (λ c. key_lt a c ≡ false) (key_eq-is a b same) (key_lt-same a)

pub some_is : {A : Type 0} {a b : A} → Some a ≡ Some b → a ≡ b
some_is e = cc

-- what is there has a value
pub is_some_of : {A : Type 0} (o : Option A) → IsSome o → (a : A) × (o ≡ Some a)
is_some_of None there = absurd (false≢true there)
is_some_of (Some a) there = (a, refl)

module _ {X : Type 0} (key_of : X → Key) where
  rank-below : (k : Key) (x : X) (xs : List X) → key_lt (key_of x) k ≡ true → rank key_of k (x ∷ xs) ≡ suc (rank key_of k xs)
  rank-below k x xs below = rw below (one_more_is (rank key_of k xs))

  rank-here : (k : Key) (x : X) (xs : List X) → key_lt (key_of x) k ≡ false → rank key_of k (x ∷ xs) ≡ 0
  rank-here k x xs above = rw above refl

  -- a key that no item has is not the first item's
  pub head_differs : (k : Key) (y : X) (ys : List X) → has_key key_of k (y ∷ ys) ≡ false → key_eq (key_of y) k ≡ false
  head_differs k y ys absent = elim (cases_true (key_eq (key_of y) k)) [
    | inl same ↦ absurd (false≢true (sym (rw same at absent)))
    | inr differs ↦ differs
  ]

  -- every item of a table above one key is above a smaller key
  pub IsAbove-lt : (j k : Key) (xs : List X) → key_lt j k ≡ true → IsAbove key_of k xs → IsAbove key_of j xs
  IsAbove-lt j k [] lt above = tt
  IsAbove-lt j k (x ∷ xs) lt above = (key_lt-trans j k (key_of x) lt above.0, IsAbove-lt j k xs lt above.1)

  -- a key below every item is no item's
  pub absent_below : (k : Key) (xs : List X) → IsAbove key_of k xs → item_at key_of k xs ≡ None
  absent_below k [] above = refl
  absent_below k (x ∷ xs) above = rw (key_eq-sym (key_of x) k, key_eq-lt k (key_of x) above.0) (absent_below k xs above.1)

  -- an item of a table above a key has a greater key
  pub item-above : (j k : Key) (xs : List X) (m : X) → IsAbove key_of j xs → item_at key_of k xs ≡ Some m → key_lt j k ≡ true
  item-above j k [] m above item = cc
  item-above j k (x ∷ xs) m above item = elim (cases_true (key_eq (key_of x) k)) [
    | inl same ↦ subst (λ h. key_lt j h ≡ true) (key_eq-is (key_of x) k same) above.0
    | inr differs ↦ item-above j k xs m above.1 (rw differs at item)
  ]

  -- ---- a binary search for the first item at which a key is not greater gives the key's rank

  -- each item of a table above a key has a greater key
  get_or-above : (j : Key) (xs : List X) (i : ℕ) (d : X) → IsAbove key_of j xs → i < length xs → key_lt j (key_of (get_or xs i d)) ≡ true
  get_or-above j [] i d above lt = absurd (omega arith)
  get_or-above j (x ∷ xs) zero d above lt = above.0
  get_or-above j (x ∷ xs) (suc i) d above lt = get_or-above j xs i d above.1 (omega arith)

  -- smaller keys stand before the others
  smaller_first : (k : Key) (xs : List X) → IsRising key_of xs → IsPartitionedBy (λ x. key_lt (key_of x) k) xs
  smaller_first k [] rising i j d le lt smaller = absurd (omega arith)
  smaller_first k (x ∷ xs) rising zero zero d le lt smaller = smaller
  smaller_first k (x ∷ xs) rising zero (suc j) d le lt smaller = key_lt-trans (key_of x) (key_of (get_or xs j d)) k (get_or-above (key_of x) xs j d rising.0 (omega arith)) smaller
  smaller_first k (x ∷ xs) rising (suc i) zero d le lt smaller = absurd (omega arith)
  smaller_first k (x ∷ xs) rising (suc i) (suc j) d le lt smaller = smaller_first k xs rising.1 i j d (omega arith) (omega arith) smaller

  pub searched : (k : Key) (xs : List X) (i : ℕ) → IsRising key_of xs → i ≤ length xs
      → (IsPartitionedBy (λ x. key_lt (key_of x) k) xs → IsPartitionPoint (λ x. key_lt (key_of x) k ≡ true) (λ x. key_lt (key_of x) k ≡ false) xs i) → i ≡ rank key_of k xs
  searched k [] i rising le point = omega arith
  searched k (x ∷ xs) i rising le point =
      let parted = point (smaller_first k (x ∷ xs) rising) in
      sym (prefix_len_is (λ x. key_lt (key_of x) k) (x ∷ xs) i x le (λ j lt. parted.0 j x (omega arith) lt) (λ lt. parted.1 i x (omega arith) lt))

  -- inserting at the place of a key that is not there
  pub insert-rank : (x : X) (xs : List X) → has_key key_of (key_of x) xs ≡ false → insert xs (rank key_of (key_of x) xs) x ≡ with_item key_of x xs
  insert-rank x [] absent = refl
  insert-rank x (y ∷ ys) absent = elim (cases_true (key_lt (key_of y) (key_of x))) [
    | inl below ↦ rw (below, key_lt-flip (key_of y) (key_of x) below, one_more_is (rank key_of (key_of x) ys)) (ap (λ l. y ∷ l) (insert-rank x ys (rw (key_eq-lt (key_of y) (key_of x) below) at absent)))
    | inr above ↦ rw (above, key_lt-apart (key_of y) (key_of x) above (head_differs (key_of x) y ys absent)) refl
  ]

  -- the rank of a key that is there is its place
  pub rank-item : (k : Key) (xs : List X) (m : X) → IsRising key_of xs → item_at key_of k xs ≡ Some m → (rank key_of k xs < length xs) × ((d : X) → get_or xs (rank key_of k xs) d ≡ m)
  rank-item k [] m rising item = cc
  rank-item k (x ∷ xs) m rising item = elim (cases_true (key_eq (key_of x) k)) [
    | inl same ↦ rw (rank-here k x xs (same_is_not_lt (key_of x) k same)) (omega arith, λ d. some_is (rw same at item))
    | inr differs ↦
        let there : item_at key_of k xs ≡ Some m = rw differs at item in
        let rest = rank-item k xs m rising.1 there in
        rw (rank-below k x xs (item-above (key_of x) k xs m rising.0 there)) (omega (arith, rest.0), rest.1)
  ]

  -- what stands at the rank of a key, where it has the key, is the key's item
  pub item-rank : (k : Key) (xs : List X) (d : X) → rank key_of k xs < length xs → key_eq (key_of (get_or xs (rank key_of k xs) d)) k ≡ true → item_at key_of k xs ≡ Some (get_or xs (rank key_of k xs) d)
  item-rank k [] d lt same = absurd (omega arith)
  item-rank k (x ∷ xs) d lt same = elim (cases_true (key_lt (key_of x) k)) [
    | inl below ↦
        let e = rank-below k x xs below in
        rw (e, key_eq-lt (key_of x) k below) (item-rank k xs d (omega (arith, rw e at lt)) (rw e at same))
    | inr above ↦
        let e = rank-here k x xs above in
        rw (e, rw e at same) refl
  ]

  -- where the rank of a key is past the end, or what stands there has another key, the key is not there
  pub absent-rank_end : (k : Key) (xs : List X) → rank key_of k xs ≡ length xs → item_at key_of k xs ≡ None
  absent-rank_end k [] e = refl
  absent-rank_end k (x ∷ xs) e = elim (cases_true (key_lt (key_of x) k)) [
    | inl below ↦ rw (key_eq-lt (key_of x) k below) (absent-rank_end k xs (omega (arith, rank-below k x xs below)))
    | inr above ↦ absurd (omega (arith, rank-here k x xs above))
  ]

  pub absent-rank : (k : Key) (xs : List X) (d : X) → IsRising key_of xs → rank key_of k xs < length xs → key_eq (key_of (get_or xs (rank key_of k xs) d)) k ≡ false → item_at key_of k xs ≡ None
  absent-rank k [] d rising lt differs = refl
  absent-rank k (x ∷ xs) d rising lt differs = elim (cases_true (key_lt (key_of x) k)) [
    | inl below ↦
        let e = rank-below k x xs below in
        rw (key_eq-lt (key_of x) k below) (absent-rank k xs d rising.1 (omega (arith, rw e at lt)) (rw e at differs))
    | inr above ↦
        let other : key_eq (key_of x) k ≡ false = rw (rank-here k x xs above) at differs in
        rw other (absent_below k xs (IsAbove-lt k (key_of x) xs (key_lt-apart (key_of x) k above other) rising.0))
  ]

  -- removing or changing what stands at the place of a key that is there
  pub remove-rank : (k : Key) (xs : List X) (m : X) → IsRising key_of xs → item_at key_of k xs ≡ Some m → remove xs (rank key_of k xs) ≡ without key_of k xs
  remove-rank k [] m rising item = cc
  remove-rank k (x ∷ xs) m rising item = elim (cases_true (key_eq (key_of x) k)) [
    | inl same ↦ rw (rank-here k x xs (same_is_not_lt (key_of x) k same), same) refl
    | inr differs ↦
        let there : item_at key_of k xs ≡ Some m = rw differs at item in
        rw (rank-below k x xs (item-above (key_of x) k xs m rising.0 there), differs) (ap (λ l. x ∷ l) (remove-rank k xs m rising.1 there))
  ]

  pub set-rank : (k : Key) (xs : List X) (m : X) (change : X → X) → IsRising key_of xs → item_at key_of k xs ≡ Some m → set xs (rank key_of k xs) (change m) ≡ with_change key_of k change xs
  set-rank k [] m change rising item = cc
  set-rank k (x ∷ xs) m change rising item = elim (cases_true (key_eq (key_of x) k)) [
    | inl same ↦ rw (rank-here k x xs (same_is_not_lt (key_of x) k same), same) (ap (λ z. change z ∷ xs) (sym (some_is (rw same at item))))
    | inr differs ↦
        let there : item_at key_of k xs ≡ Some m = rw differs at item in
        rw (rank-below k x xs (item-above (key_of x) k xs m rising.0 there), differs) (ap (λ l. x ∷ l) (set-rank k xs m change rising.1 there))
  ]

  -- ---- what an edit keeps

  IsAbove-with_item : (j : Key) (x : X) (xs : List X) → key_lt j (key_of x) ≡ true → IsAbove key_of j xs → IsAbove key_of j (with_item key_of x xs)
  IsAbove-with_item j x [] lt above = (lt, tt)
  IsAbove-with_item j x (y ∷ ys) lt above = elim (cases_true (key_lt (key_of x) (key_of y))) [
    | inl below ↦ rw below (lt, above)
    | inr other ↦ rw other (above.0, IsAbove-with_item j x ys lt above.1)
  ]

  IsAbove-without : (j k : Key) (xs : List X) → IsRising key_of xs → IsAbove key_of j xs → IsAbove key_of j (without key_of k xs)
  IsAbove-without j k [] rising above = tt
  IsAbove-without j k (x ∷ xs) rising above = elim (cases_true (key_eq (key_of x) k)) [
    | inl same ↦ rw same above.1
    | inr differs ↦ rw differs (above.0, IsAbove-without j k xs rising.1 above.1)
  ]

  -- a table with one more item, or one less, rises
  pub IsRising-with_item : (x : X) (xs : List X) → IsRising key_of xs → has_key key_of (key_of x) xs ≡ false → IsRising key_of (with_item key_of x xs)
  IsRising-with_item x [] rising absent = (tt, tt)
  IsRising-with_item x (y ∷ ys) rising absent = elim (cases_true (key_lt (key_of x) (key_of y))) [
    | inl below ↦ rw below ((below, IsAbove-lt (key_of x) (key_of y) ys below rising.0), rising)
    | inr other ↦
        let apart = head_differs (key_of x) y ys absent in
        let below : key_lt (key_of y) (key_of x) ≡ true = key_lt-apart (key_of x) (key_of y) other (key_eq-sym (key_of x) (key_of y) ∙ apart) in
        rw other (IsAbove-with_item (key_of y) x ys below rising.0, IsRising-with_item x ys rising.1 (rw apart at absent))
  ]

  pub IsRising-without : (k : Key) (xs : List X) → IsRising key_of xs → IsRising key_of (without key_of k xs)
  IsRising-without k [] rising = tt
  IsRising-without k (x ∷ xs) rising = elim (cases_true (key_eq (key_of x) k)) [
    | inl same ↦ rw same rising.1
    | inr differs ↦ rw differs (IsAbove-without (key_of x) k xs rising.1 rising.0, IsRising-without k xs rising.1)
  ]

  -- ---- what an edit leaves at a key

  -- after an item came in, its key has it
  pub item_at-with_item_same : (x : X) (xs : List X) → has_key key_of (key_of x) xs ≡ false → item_at key_of (key_of x) (with_item key_of x xs) ≡ Some x
  item_at-with_item_same x [] absent = rw (key_eq-same (key_of x)) refl
  item_at-with_item_same x (y ∷ ys) absent = elim (cases_true (key_lt (key_of x) (key_of y))) [
    | inl below ↦ rw (below, key_eq-same (key_of x)) refl
    | inr other ↦ rw (other, head_differs (key_of x) y ys absent) (item_at-with_item_same x ys (rw (head_differs (key_of x) y ys absent) at absent))
  ]

  -- and every other key has what it had
  pub item_at-with_item_other : (k : Key) (x : X) (xs : List X) → key_eq (key_of x) k ≡ false → item_at key_of k (with_item key_of x xs) ≡ item_at key_of k xs
  item_at-with_item_other k x [] differs = rw differs refl
  item_at-with_item_other k x (y ∷ ys) differs = elim (cases_true (key_lt (key_of x) (key_of y))) [
    | inl below ↦ rw (below, differs) refl
    | inr other ↦ rw other (ap (λ rest. cond (key_eq (key_of y) k) (Some y) rest) (item_at-with_item_other k x ys differs))
  ]

  -- after an item left, its key has none
  pub item_at-without_same : (k : Key) (xs : List X) → IsRising key_of xs → item_at key_of k (without key_of k xs) ≡ None
  item_at-without_same k [] rising = refl
  item_at-without_same k (x ∷ xs) rising = elim (cases_true (key_eq (key_of x) k)) [
    | inl same ↦ rw same (absent_below k xs (subst (λ h. IsAbove key_of h xs) (key_eq-is (key_of x) k same) rising.0))
    | inr differs ↦ rw (differs, differs) (item_at-without_same k xs rising.1)
  ]

  pub item_at-without_other : (j k : Key) (xs : List X) → key_eq j k ≡ false → item_at key_of j (without key_of k xs) ≡ item_at key_of j xs
  item_at-without_other j k [] differs = refl
  item_at-without_other j k (x ∷ xs) differs = elim (cases_true (key_eq (key_of x) k)) [
    | inl same ↦
        let other : key_eq (key_of x) j ≡ false = subst (λ h. key_eq h j ≡ false) (sym (key_eq-is (key_of x) k same)) (key_eq-sym k j ∙ differs) in
        rw (same, other) refl
    | inr apart ↦ rw apart (ap (λ rest. cond (key_eq (key_of x) j) (Some x) rest) (item_at-without_other j k xs differs))
  ]

  -- the item that a key has is the key's
  pub item_at-key : (k : Key) (xs : List X) (x : X) → item_at key_of k xs ≡ Some x → key_of x ≡ k
  item_at-key k [] x item = cc
  item_at-key k (y ∷ ys) x item = elim (cases_true (key_eq (key_of y) k)) [
    | inl same ↦ subst (λ z. key_of z ≡ k) (some_is (rw same at item)) (key_eq-is (key_of y) k same)
    | inr differs ↦ item_at-key k ys x (rw differs at item)
  ]

  -- ---- how many items there are

  pub length-with_item : (x : X) (xs : List X) → length (with_item key_of x xs) ≡ length xs + 1
  length-with_item x [] = refl
  length-with_item x (y ∷ ys) = elim (cases_true (key_lt (key_of x) (key_of y))) [
    | inl below ↦ rw below (omega arith)
    | inr other ↦ rw other (omega (arith, length-with_item x ys))
  ]

  pub length-without : (k : Key) (xs : List X) (x : X) → item_at key_of k xs ≡ Some x → length (without key_of k xs) + 1 ≡ length xs
  length-without k [] x item = cc
  length-without k (y ∷ ys) x item = elim (cases_true (key_eq (key_of y) k)) [
    | inl same ↦ rw same (omega arith)
    | inr differs ↦ rw differs (omega (arith, length-without k ys x (rw differs at item)))
  ]

  -- ---- what holds of each item

  pub All-with_item : (P : X → Type 0) (x : X) (xs : List X) → P x → AllByRecursion P xs → AllByRecursion P (with_item key_of x xs)
  All-with_item P x [] here all = (here, tt)
  All-with_item P x (y ∷ ys) here all = elim (cases_true (key_lt (key_of x) (key_of y))) [
    | inl below ↦ rw below (here, all)
    | inr other ↦ rw other (all.0, All-with_item P x ys here all.1)
  ]

  pub All-without : (P : X → Type 0) (k : Key) (xs : List X) → AllByRecursion P xs → AllByRecursion P (without key_of k xs)
  All-without P k [] all = tt
  All-without P k (y ∷ ys) all = elim (cases_true (key_eq (key_of y) k)) [
    | inl same ↦ rw same all.1
    | inr differs ↦ rw differs (all.0, All-without P k ys all.1)
  ]

  pub All-item : (P : X → Type 0) (k : Key) (xs : List X) (x : X) → AllByRecursion P xs → item_at key_of k xs ≡ Some x → P x
  All-item P k [] x all item = cc
  All-item P k (y ∷ ys) x all item = elim (cases_true (key_eq (key_of y) k)) [
    | inl same ↦ subst P (some_is (rw same at item)) all.0
    | inr differs ↦ All-item P k ys x all.1 (rw differs at item)
  ]

  -- ---- where a key stands that is there

  pub record IsPlace (k : Key) (xs : List X) (i : ℕ) : Type 0 where
    pub within : i < length xs
    pub item : (d : X) → item_at key_of k xs ≡ Some (get_or xs i d)
    pub key : (d : X) → key_of (get_or xs i d) ≡ k
    pub removed : remove xs i ≡ without key_of k xs

  pub place : (k : Key) (xs : List X) → IsRising key_of xs → IsSome (item_at key_of k xs) → IsPlace k xs (rank key_of k xs)
  place k xs rising there =
      let some = is_some_of (item_at key_of k xs) there in
      let at = rank-item k xs some.0 rising some.1 in
      record {
        within = at.0;
        item = λ d. some.1 ∙ ap (λ x. Some x) (sym (at.1 d));
        key = λ d. rw (at.1 d) (item_at-key k xs some.0 some.1);
        removed = remove-rank k xs some.0 rising some.1;
      }

  -- ---- what a look at the place of a key finds

  pub item_at-read : (k : Key) (xs : List X) (i : ℕ) (x : X) → i ≡ rank key_of k xs → i < length xs → x ≡ get_or xs i x → key_eq (key_of x) k ≡ true → item_at key_of k xs ≡ Some x
  item_at-read k xs i x at lt read same =
      let here : x ≡ get_or xs (rank key_of k xs) x = subst (λ n. x ≡ get_or xs n x) at read in
      item-rank k xs x (omega (arith, at)) (subst (λ z. key_eq (key_of z) k ≡ true) here same) ∙ ap (λ z. Some z) (sym here)

  pub item_at-read_other : (k : Key) (xs : List X) (i : ℕ) (x : X) → IsRising key_of xs → i ≡ rank key_of k xs → i < length xs → x ≡ get_or xs i x → key_eq (key_of x) k ≡ false → item_at key_of k xs ≡ None
  item_at-read_other k xs i x rising at lt read differs =
      let here : x ≡ get_or xs (rank key_of k xs) x = subst (λ n. x ≡ get_or xs n x) at read in
      absent-rank k xs x rising (omega (arith, at)) (subst (λ z. key_eq (key_of z) k ≡ false) here differs)

  pub item_at-read_end : (k : Key) (xs : List X) (i : ℕ) → i ≡ rank key_of k xs → length xs ≤ i → item_at key_of k xs ≡ None
  item_at-read_end k xs i at past = absent-rank_end k xs (omega (arith, at, prefix_len-le-length (λ x. key_lt (key_of x) k) xs))

  -- ---- a change of one item that keeps its key

  IsAbove-with_change : (j k : Key) (change : X → X) (xs : List X) → ((x : X) → key_eq (key_of x) k ≡ true → key_of (change x) ≡ key_of x) → IsAbove key_of j xs → IsAbove key_of j (with_change key_of k change xs)
  IsAbove-with_change j k change [] keeps above = tt
  IsAbove-with_change j k change (x ∷ xs) keeps above = elim (cases_true (key_eq (key_of x) k)) [
    | inl same ↦ rw same (subst (λ h. IsTrue (key_lt j h)) (sym (keeps x same)) above.0, above.1)
    | inr differs ↦ rw differs (above.0, IsAbove-with_change j k change xs keeps above.1)
  ]

  pub IsRising-with_change : (k : Key) (change : X → X) (xs : List X) → ((x : X) → key_eq (key_of x) k ≡ true → key_of (change x) ≡ key_of x) → IsRising key_of xs → IsRising key_of (with_change key_of k change xs)
  IsRising-with_change k change [] keeps rising = tt
  IsRising-with_change k change (x ∷ xs) keeps rising = elim (cases_true (key_eq (key_of x) k)) [
    | inl same ↦ rw same (subst (λ h. IsAbove key_of h xs) (sym (keeps x same)) rising.0, rising.1)
    | inr differs ↦ rw differs (IsAbove-with_change (key_of x) k change xs keeps rising.0, IsRising-with_change k change xs keeps rising.1)
  ]

  pub item_at-with_change_same : (k : Key) (change : X → X) (xs : List X) (x : X) → key_eq (key_of (change x)) k ≡ true → item_at key_of k xs ≡ Some x → item_at key_of k (with_change key_of k change xs) ≡ Some (change x)
  item_at-with_change_same k change [] x keeps item = cc
  item_at-with_change_same k change (y ∷ ys) x keeps item = elim (cases_true (key_eq (key_of y) k)) [
    | inl same ↦
        let is : y ≡ x = some_is (rw same at item) in
        let kept : key_eq (key_of (change y)) k ≡ true = subst (λ z. key_eq (key_of (change z)) k ≡ true) (sym is) keeps in
        rw (same, kept) (ap (λ z. Some (change z)) is)
    | inr differs ↦ rw (differs, differs) (item_at-with_change_same k change ys x keeps (rw differs at item))
  ]

  pub item_at-with_change_other : (j k : Key) (change : X → X) (xs : List X) → ((x : X) → key_eq (key_of x) k ≡ true → key_of (change x) ≡ key_of x) → key_eq j k ≡ false → item_at key_of j (with_change key_of k change xs) ≡ item_at key_of j xs
  item_at-with_change_other j k change [] keeps differs = refl
  item_at-with_change_other j k change (x ∷ xs) keeps differs = elim (cases_true (key_eq (key_of x) k)) [
    | inl same ↦
        let other : key_eq (key_of x) j ≡ false = subst (λ h. key_eq h j ≡ false) (sym (key_eq-is (key_of x) k same)) (key_eq-sym k j ∙ differs) in
        let kept : key_eq (key_of (change x)) j ≡ false = subst (λ h. key_eq h j ≡ false) (sym (keeps x same)) other in
        rw (same, kept, other) refl
    | inr apart ↦ rw apart (ap (λ rest. cond (key_eq (key_of x) j) (Some x) rest) (item_at-with_change_other j k change xs keeps differs))
  ]

  pub All-with_change : (P : X → Type 0) (k : Key) (change : X → X) (xs : List X) → ((x : X) → item_at key_of k xs ≡ Some x → P (change x)) → AllByRecursion P xs → AllByRecursion P (with_change key_of k change xs)
  All-with_change P k change [] keeps all = tt
  All-with_change P k change (x ∷ xs) keeps all = elim (cases_true (key_eq (key_of x) k)) [
    | inl same ↦ rw same (keeps x (rw same refl), all.1)
    | inr differs ↦ rw differs (all.0, All-with_change P k change xs (λ y item. keeps y (rw differs item)) all.1)
  ]

  pub length-with_change : (k : Key) (change : X → X) (xs : List X) → length (with_change key_of k change xs) ≡ length xs
  length-with_change k change [] = refl
  length-with_change k change (x ∷ xs) = elim (cases_true (key_eq (key_of x) k)) [
    | inl same ↦ rw same refl
    | inr differs ↦ rw differs (ap (λ n. suc n) (length-with_change k change xs))
  ]

  -- two changes that do the same to the key's item
  pub with_change-same : (k : Key) (f g : X → X) (xs : List X) → ((x : X) → item_at key_of k xs ≡ Some x → f x ≡ g x) → with_change key_of k f xs ≡ with_change key_of k g xs
  with_change-same k f g [] agree = refl
  with_change-same k f g (x ∷ xs) agree = elim (cases_true (key_eq (key_of x) k)) [
    | inl same ↦ rw same (ap (λ z. z ∷ xs) (agree x (rw same refl)))
    | inr differs ↦ rw differs (ap (λ l. x ∷ l) (with_change-same k f g xs (λ y item. agree y (rw differs item))))
  ]

  -- a table without a key that it doesn't have
  pub without-absent : (k : Key) (xs : List X) → has_key key_of k xs ≡ false → without key_of k xs ≡ xs
  without-absent k [] absent = refl
  without-absent k (x ∷ xs) absent = rw (head_differs k x xs absent) (ap (λ l. x ∷ l) (without-absent k xs (rw (head_differs k x xs absent) at absent)))

  with_item-below : (x : X) (xs : List X) → IsAbove key_of (key_of x) xs → with_item key_of x xs ≡ x ∷ xs
  with_item-below x [] above = refl
  with_item-below x (y ∷ ys) above = rw above.0 refl

  -- taking the key's item out and putting another in at that key is changing it
  pub with_item-without : (x : X) (xs : List X) → IsRising key_of xs → IsTrue (has_key key_of (key_of x) xs) → with_item key_of x (without key_of (key_of x) xs) ≡ with_change key_of (key_of x) (λ _. x) xs
  with_item-without x [] rising there = absurd (false≢true there)
  with_item-without x (y ∷ ys) rising there = elim (cases_true (key_eq (key_of y) (key_of x))) [
    | inl same ↦ rw same (with_item-below x ys (subst (λ h. IsAbove key_of h ys) (key_eq-is (key_of y) (key_of x) same) rising.0))
    | inr differs ↦
        let in_tail : IsTrue (has_key key_of (key_of x) ys) = rw differs at there in
        let some : (m : X) × (item_at key_of (key_of x) ys ≡ Some m) = is_some_of (item_at key_of (key_of x) ys) in_tail in
        let below = item-above (key_of y) (key_of x) ys some.0 rising.0 some.1 in
        rw (differs, key_lt-flip (key_of y) (key_of x) below) (ap (λ l. y ∷ l) (with_item-without x ys rising.1 in_tail))
  ]

-- ---- tables of other items under the same keys

module _ {X Y : Type 0} (key_of : X → Key) (key_in : Y → Key) (f : X → Y) (keeps : (x : X) → key_in (f x) ≡ key_of x) where
  pub item_at-map : (k : Key) (xs : List X) → item_at key_in k (map f xs) ≡ option_map f (item_at key_of k xs)
  item_at-map k [] = refl
  item_at-map k (x ∷ xs) = rw (keeps x) (elim (cases_true (key_eq (key_of x) k)) [
    | inl same ↦ rw same refl
    | inr differs ↦ rw differs (item_at-map k xs)
  ])

  pub map-with_item : (x : X) (xs : List X) → map f (with_item key_of x xs) ≡ with_item key_in (f x) (map f xs)
  map-with_item x [] = refl
  map-with_item x (y ∷ ys) = rw (keeps x, keeps y) (elim (cases_true (key_lt (key_of x) (key_of y))) [
    | inl below ↦ rw below refl
    | inr other ↦ rw other (ap (λ l. f y ∷ l) (map-with_item x ys))
  ])

  pub map-without : (k : Key) (xs : List X) → map f (without key_of k xs) ≡ without key_in k (map f xs)
  map-without k [] = refl
  map-without k (x ∷ xs) = rw (keeps x) (elim (cases_true (key_eq (key_of x) k)) [
    | inl same ↦ rw same refl
    | inr differs ↦ rw differs (ap (λ l. f x ∷ l) (map-without k xs))
  ])

  pub map-with_change : (k : Key) (g : X → X) (h : Y → Y) (xs : List X) → ((x : X) → item_at key_of k xs ≡ Some x → f (g x) ≡ h (f x)) → map f (with_change key_of k g xs) ≡ with_change key_in k h (map f xs)
  map-with_change k g h [] agree = refl
  map-with_change k g h (x ∷ xs) agree = rw (keeps x) (elim (cases_true (key_eq (key_of x) k)) [
    | inl same ↦ rw same (ap (λ z. z ∷ map f xs) (agree x (rw same refl)))
    | inr differs ↦ rw differs (ap (λ l. f x ∷ l) (map-with_change k g h xs (λ y item. agree y (rw differs item))))
  ])
