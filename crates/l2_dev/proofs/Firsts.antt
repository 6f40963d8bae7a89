-- The first entry of each key: by the keys that were met before it, and once more.
use Rattle.std.proofs.Common.{◌≡◌, ◌≢◌, List, [], ◌∷◌, ◌++◌, ℕ, ◌+◌, ◌<◌, length, take, get_or, Bool, true, false, not, cond, map, ◌||◌, refl, sym, ap, subst, ◌∙◌, arith}
use Rattle.std.proofs.lemmas.Bool.{false≢true}
use Rattle.std.proofs.lemmas.List.Elements.{filter-append, recursion_from_All}
use Rattle.std.specs.List.{All, AllByRecursion, filter, list_any}
use Rattle.blk_ptr.specs.Key.{IsWellFormed}
use Rattle.l2_ring.specs.declared.plan.Plan.{Plan}
use Rattle.arc_core.specs.declared.served.Restored.{Restored}
use Rattle.l2_dev.specs.Rebuilding.{HaveKeys}
use Rattle.l2_dev.specs.Walking.{IsFit}
use Rattle.std.specs.BTreeMap.{is_at}
use Rattle.std.specs.BTreeSet.{BTreeSet, contains}
use Rattle.std.proofs.lemmas.Bool.Decides.{nat_tests}
use Rattle.std.proofs.lemmas.List.{append-nil, take_more}
use Rattle.blk_ptr.specs.Order.{key_eq, key_cmp}
use Rattle.blk_ptr.specs.declared.key.Key.{Key}
use Rattle.blk_ptr.proofs.Keys.{key_eq-is, key_eq-same}
use Rattle.l2_ring.specs.declared.live.Written.{Written}
use Rattle.l2_ring.specs.Ranges.{IsInOrder, IsOlder, range_of}
use Rattle.l2_dev.specs.Restoring.{firsts, is_same_key, restored_of}
use Rattle.l2_dev.proofs.ListLaws.{filter_yes, filter_no, filter_whole, filter_swap, filter_all, all_passes, all_weaker, all_map, all_unmap, firsts_all}

-- whether one of the entries has the key
abbrev pub has_key : List Written → Key → Bool
has_key ws k = list_any (λ w. key_eq k w.live.key) ws

or_false : (a : Bool) → (a || false) ≡ a
or_false true = refl
or_false false = refl

or_assoc : (a b c : Bool) → (a || (b || c)) ≡ ((a || b) || c)
or_assoc true b c = refl
or_assoc false b c = refl

pub has_key-more : (ws : List Written) (w : Written) (k : Key) → has_key (ws ++ w ∷ []) k ≡ (has_key ws k || key_eq k w.live.key)
has_key-more [] w k = or_false (key_eq k w.live.key)
has_key-more (x ∷ ws) w k =
    ap (λ (b : Bool). key_eq k x.live.key || b) (has_key-more ws w k) ∙ or_assoc (key_eq k x.live.key) (has_key ws k) (key_eq k w.live.key)

cond_or : (a b : Bool) → cond a true b ≡ (b || a)
cond_or true true = refl
cond_or true false = refl
cond_or false true = refl
cond_or false false = refl

-- the set's order tells keys apart as their equality does
at_key : (a k : Key) → is_at (key_cmp a) k ≡ key_eq k a
at_key a k = grind (arith, nat_tests)

-- one more key was put into the set of those that were met
pub keys_turn : (found : List Written) (i : ℕ) (d : Written) (old new : BTreeSet Key) → i < length found → ((k : Key) → contains key_cmp old k ≡ has_key (take i found) k)
    → ((q : Key) → contains key_cmp new q ≡ cond (is_at (key_cmp (get_or found i d).live.key) q) true (contains key_cmp old q)) → (k : Key) → contains key_cmp new k ≡ has_key (take (i + 1) found) k
keys_turn found i d old new lt was turn k =
    let w : Written = get_or found i d in
    turn k ∙ ap (λ (b : Bool). cond b true (contains key_cmp old k)) (at_key w.live.key k) ∙ cond_or (key_eq k w.live.key) (contains key_cmp old k)
    ∙ ap (λ (b : Bool). b || key_eq k w.live.key) (was k) ∙ sym (has_key-more (take i found) w k)
    ∙ ap (λ (ws : List Written). has_key ws k) (sym (take_more found i d lt))

last_if : (x w : Written) (h b : Bool) → is_same_key w x ≡ b → filter (λ y. not (is_same_key y x)) (cond h [] (w ∷ [])) ≡ cond (b || h) [] (w ∷ [])
last_if x w true true e = refl
last_if x w true false e = refl
last_if x w false true e = filter_no (λ y. not (is_same_key y x)) w [] (ap (λ (t : Bool). not t) e)
last_if x w false false e = filter_yes (λ y. not (is_same_key y x)) w [] (ap (λ (t : Bool). not t) e)

-- one more entry is a first one where none before it has its key
pub firsts-more : (ws : List Written) (w : Written) → firsts (ws ++ w ∷ []) ≡ firsts ws ++ cond (has_key ws w.live.key) [] (w ∷ [])
firsts-more [] w = refl
firsts-more (x ∷ ws) w =
    let p : Written → Bool = λ y. not (is_same_key y x) in
    ap (λ zs. x ∷ filter p zs) (firsts-more ws w)
    ∙ ap (λ zs. x ∷ zs) (filter-append p (firsts ws) (cond (has_key ws w.live.key) [] (w ∷ [])))
    ∙ ap (λ zs. x ∷ (filter p (firsts ws) ++ zs)) (last_if x w (has_key ws w.live.key) (is_same_key w x) refl)

-- the next entry is the first one of its key
pub first_turn : (found : List Written) (i : ℕ) (d : Written) → i < length found → has_key (take i found) (get_or found i d).live.key ≡ false → firsts (take (i + 1) found) ≡ firsts (take i found) ++ get_or found i d ∷ []
first_turn found i d lt fresh =
    let w : Written = get_or found i d in
    ap (λ (ws : List Written). firsts ws) (take_more found i d lt) ∙ firsts-more (take i found) w ∙ ap (λ (b : Bool). firsts (take i found) ++ cond b [] (w ∷ [])) fresh

-- or it isn't
pub other_turn : (found : List Written) (i : ℕ) (d : Written) → i < length found → has_key (take i found) (get_or found i d).live.key ≡ true → firsts (take (i + 1) found) ≡ firsts (take i found)
other_turn found i d lt met =
    let w : Written = get_or found i d in
    ap (λ (ws : List Written). firsts ws) (take_more found i d lt) ∙ firsts-more (take i found) w ∙ ap (λ (b : Bool). firsts (take i found) ++ cond b [] (w ∷ [])) met ∙ append-nil (firsts (take i found))

-- what an insertion answers
pub is_fresh : (a b : Bool) → a ≡ not b → a ≡ true → b ≡ false
is_fresh a true e t = absurd (false≢true (sym e ∙ t))
is_fresh a false e t = refl

pub is_met : (a b : Bool) → a ≡ not b → a ≡ false → b ≡ true
is_met a true e f = refl
is_met a false e f = absurd (false≢true (sym f ∙ e))

-- two entries of one key are alike to a third
alike : (a b c : Written) → is_same_key a b ≡ true → is_same_key a c ≡ is_same_key b c
alike a b c e = ap (λ (k : Key). key_eq k c.live.key) (key_eq-is a.live.key b.live.key e)

-- a test that goes by the key alone
abbrev GoesByKey : (Written → Bool) → Type 0
GoesByKey test = (a b : Written) → is_same_key a b ≡ true → test a ≡ test b

differs_if : (test : Written → Bool) (x y : Written) (b : Bool) → GoesByKey test → test x ≡ false → is_same_key y x ≡ b → test y ≡ true → not b ≡ true
differs_if test x y true by off e on = absurd (false≢true (sym off ∙ sym (by y x e) ∙ on))
differs_if test x y false by off e on = refl

firsts_by_if : (test : Written → Bool) (x : Written) (xs : List Written) (b : Bool) → GoesByKey test → test x ≡ b → firsts (filter test xs) ≡ filter test (firsts xs)
    → firsts (filter test (x ∷ xs)) ≡ filter test (firsts (x ∷ xs))
firsts_by_if test x xs true by e rest =
    let p : Written → Bool = λ y. not (is_same_key y x) in
    ap (λ ys. firsts ys) (filter_yes test x xs e) ∙ ap (λ ys. x ∷ filter p ys) rest ∙ ap (λ ys. x ∷ ys) (filter_swap p test (firsts xs)) ∙ sym (filter_yes test x (filter p (firsts xs)) e)
firsts_by_if test x xs false by e rest =
    let p : Written → Bool = λ y. not (is_same_key y x) in
    let others : AllByRecursion (λ y. p y ≡ true) (filter test (firsts xs)) =
    all_weaker (λ y. test y ≡ true) (λ y. p y ≡ true) (filter test (firsts xs)) (λ y yes. differs_if test x y (is_same_key y x) by e refl yes) (all_passes test (firsts xs)) in
    ap (λ ys. firsts ys) (filter_no test x xs e) ∙ rest ∙ sym (filter_whole p (filter test (firsts xs)) others) ∙ filter_swap p test (firsts xs) ∙ sym (filter_no test x (filter p (firsts xs)) e)

firsts_by : (test : Written → Bool) (xs : List Written) → GoesByKey test → firsts (filter test xs) ≡ filter test (firsts xs)
firsts_by test [] by = refl
firsts_by test (x ∷ xs) by = firsts_by_if test x xs (test x) by refl (firsts_by test xs by)

-- the first entries of each key are their own first ones
pub firsts_twice : (xs : List Written) → firsts (firsts xs) ≡ firsts xs
firsts_twice [] = refl
firsts_twice (x ∷ xs) =
    let p : Written → Bool = λ y. not (is_same_key y x) in
    ap (λ ys. x ∷ filter p ys) (firsts_by p (firsts xs) (λ a b e. ap (λ (t : Bool). not t) (alike a b x e)) ∙ ap (λ ys. filter p ys) (firsts_twice xs))
    ∙ ap (λ ys. x ∷ ys) (filter_whole p (filter p (firsts xs)) (all_passes p (firsts xs)))

ordered_if : (p : Written → Bool) (x : Written) (xs : List Written) (b : Bool) → p x ≡ b → AllByRecursion (λ (y : Written). IsOlder (range_of x) (range_of y)) (filter p xs)
    → IsInOrder (map range_of (filter p xs)) → IsInOrder (map range_of (cond b (x ∷ filter p xs) (filter p xs)))
ordered_if p x xs true e older rest = (all_map (IsOlder (range_of x)) range_of (filter p xs) older, rest)
ordered_if p x xs false e older rest = rest

ordered_filter : (p : Written → Bool) (xs : List Written) → IsInOrder (map range_of xs) → IsInOrder (map range_of (filter p xs))
ordered_filter p [] ordered = tt
ordered_filter p (x ∷ xs) ordered =
    ordered_if p x xs (p x) refl (filter_all (λ (y : Written). IsOlder (range_of x) (range_of y)) p xs (all_unmap (IsOlder (range_of x)) range_of xs ordered.0)) (ordered_filter p xs ordered.1)

-- the first entries of each key stand in the order of all
pub firsts_ordered : (xs : List Written) → IsInOrder (map range_of xs) → IsInOrder (map range_of (firsts xs))
firsts_ordered [] ordered = tt
firsts_ordered (x ∷ xs) ordered =
    let p : Written → Bool = λ y. not (is_same_key y x) in (
      all_map (IsOlder (range_of x)) range_of (filter p (firsts xs))
          (filter_all (λ (y : Written). IsOlder (range_of x) (range_of y)) p (firsts xs) (firsts_all (λ (y : Written). IsOlder (range_of x) (range_of y)) xs (all_unmap (IsOlder (range_of x)) range_of xs ordered.0))),
      ordered_filter p (firsts xs) (firsts_ordered xs ordered.1),
    )

has_keys_if : (p : Written → Bool) (x : Written) (xs : List Written) (b : Bool) → IsWellFormed x.live.key → AllByRecursion (λ (s : Restored). s.key ≢ x.live.key) (map restored_of (filter p xs))
    → HaveKeys (map restored_of (filter p xs)) → HaveKeys (map restored_of (cond b (x ∷ filter p xs) (filter p xs)))
has_keys_if p x xs true formed apart rest = (formed, apart, rest)
has_keys_if p x xs false formed apart rest = rest

keys_filter : (p : Written → Bool) (xs : List Written) → HaveKeys (map restored_of xs) → HaveKeys (map restored_of (filter p xs))
keys_filter p [] keys = tt
keys_filter p (x ∷ xs) keys =
    has_keys_if p x xs (p x) keys.0
    (all_map (λ (s : Restored). s.key ≢ x.live.key) restored_of (filter p xs)
    (filter_all (λ (y : Written). y.live.key ≢ x.live.key) p xs (all_unmap (λ (s : Restored). s.key ≢ x.live.key) restored_of xs keys.1)))
    (keys_filter p xs keys.2)

apart_if : (x y : Written) (b : Bool) → is_same_key y x ≡ b → not b ≡ true → y.live.key ≢ x.live.key
apart_if x y true e other same = false≢true other
apart_if x y false e other same = false≢true (sym e ∙ ap (λ (k : Key). key_eq k x.live.key) same ∙ key_eq-same x.live.key)

-- no two of the first entries have one key
pub firsts_keys : (xs : List Written) → AllByRecursion (λ (w : Written). IsWellFormed w.live.key) xs → HaveKeys (map restored_of (firsts xs))
firsts_keys [] formed = tt
firsts_keys (x ∷ xs) formed =
    let p : Written → Bool = λ y. not (is_same_key y x) in (
      formed.0,
      all_map (λ (s : Restored). s.key ≢ x.live.key) restored_of (filter p (firsts xs))
          (all_weaker (λ (y : Written). p y ≡ true) (λ (y : Written). y.live.key ≢ x.live.key) (filter p (firsts xs)) (λ y other. apart_if x y (is_same_key y x) refl other) (all_passes p (firsts xs))),
      keys_filter p (firsts xs) (firsts_keys xs formed.1),
    )

-- the same of what was found, by a list that is equal
pub restored_keys : (plan : Plan) (found : List Written) (restored : List Restored) → restored ≡ map restored_of (firsts found) → All (IsFit plan) found → HaveKeys restored
restored_keys plan found restored is fit =
    subst (λ (rs : List Restored). HaveKeys rs) (sym is)
    (firsts_keys found (all_weaker (IsFit plan) (λ (w : Written). IsWellFormed w.live.key) found (λ w f. f.formed) (recursion_from_All (IsFit plan) found fit)))
