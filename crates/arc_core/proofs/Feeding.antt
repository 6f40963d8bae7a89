-- The picks of a feed, and the passed keys of a scan: what is chosen is wanted, and no key is picked twice.
use Rattle.std.proofs.Common.{◌≡◌, ℕ, ◌+◌, ◌*◌, ◌≤◌, arith, Bool, true, false, not, if◌then◌else◌, nat_le, List, [], ◌∷◌, ◌++◌, reverse, Option, Some, None, is_some, inl, inr, refl, sym, subst, ◌∙◌}
use Rattle.std.specs.List.{list_all}
use Rattle.std.specs.Prelude.{sum_by}
use Rattle.std.proofs.lemmas.List.Sums.{sum_by-cons}
use Rattle.std.proofs.lemmas.Bool.Decides.{nat_tests}
use Rattle.std.specs.Option.{option_and_then}
use Rattle.std.proofs.lemmas.Bool.{false≢true}
use Rattle.blk_ptr.specs.declared.key.Key.{Key}
use Rattle.blk_ptr.specs.Order.{key_eq, key_lt}
use Rattle.blk_ptr.proofs.Keys.{key_eq-sym}
use Rattle.arc_lists.specs.ByKey.{has_key, with_item}
use Rattle.arc_lists.specs.Sequences.{stands_on}
use Rattle.arc_lists.specs.Room.{or_else}
use Rattle.arc_lists.proofs.Standing.{and_left, and_right, both, not_true, not_true_is}
use Rattle.arc_lists.proofs.Tables.{cases_true, some_is}
use Rattle.arc_core.specs.declared.entry.Picked.{Picked}
use Rattle.arc_core.specs.declared.entry.Phase.TheVariants.{Picking}
use Rattle.arc_core.specs.PlainShard.{PlainShard, is_passed, place_of}
use Rattle.arc_core.specs.Candidate.{candidate, chosen, may_be_picked, picked_bytes, walk}
use Rattle.arc_core.specs.Changes.{pick_of, without_pick, writing_phase}
use Rattle.arc_core.specs.Sound.{are_distinct_picks, fits_phase}

-- ---- what is chosen is wanted

pub walk-wanted : (limit met : ℕ) (wanted : Key → Bool) (ks : List Key) (k : Key) → walk limit met wanted ks ≡ Some k → wanted k ≡ true
walk-wanted limit met wanted [] k found = cc
walk-wanted limit met wanted (x ∷ xs) k found = elim (cases_true (nat_le (met + x.size) limit)) [
  | inl within ↦ elim (cases_true (wanted x)) [
    | inl wants ↦ subst (λ h. wanted h ≡ true) (some_is (rw (within, wants) at found)) wants
    | inr refuses ↦ walk-wanted limit (met + x.size) wanted xs k (rw (within, refuses) at found)
  ]
  | inr over ↦ let none : None ≡ Some k = rw over at found in cc
]

pub chosen-wanted : (s : PlainShard) (k : Key) → chosen s ≡ Some k → may_be_picked s k ≡ true
chosen-wanted s k is = go (walk limit 0 (may_be_picked s) (reverse s.sequences.mfu)) (walk limit 0 (may_be_picked s) (reverse s.sequences.mru))
    (walk-wanted limit 0 (may_be_picked s) (reverse s.sequences.mfu) k) (walk-wanted limit 0 (may_be_picked s) (reverse s.sequences.mru) k) is
  where
    limit : ℕ
    limit = s.bounds.write_max * s.bounds.headroom

    go : (a b : Option Key) → (a ≡ Some k → may_be_picked s k ≡ true) → (b ≡ Some k → may_be_picked s k ≡ true) → or_else a b ≡ Some k → may_be_picked s k ≡ true
    go None b first second is = second is
    go (Some x) b first second is = first is

pub candidate-chosen : (s : PlainShard) (k : Key) → candidate s ≡ Some k → chosen s ≡ Some k
candidate-chosen s k is = go (chosen s) is
  where
    pick : (b : Bool) (x : Key) → (if b then Some x else None) ≡ Some k → Some x ≡ Some k
    pick true x is = is
    pick false x is = cc

    go : (o : Option Key) → option_and_then (λ x. if nat_le (picked_bytes s + x.size) s.bounds.write_max then Some x else None) o ≡ Some k → o ≡ Some k
    go None is = cc
    go (Some x) is = pick (nat_le (picked_bytes s + x.size) s.bounds.write_max) x is

-- what is a candidate has no place, is not picked and was not passed
pub record Wanted (s : PlainShard) (k : Key) : Type 0 where
  pub placeless : is_some (place_of k s) ≡ false
  pub unpicked : is_some (pick_of k s.picked) ≡ false
  pub unpassed : is_passed s k ≡ false

pub candidate-wanted : (s : PlainShard) (k : Key) → candidate s ≡ Some k → Wanted s k
candidate-wanted s k is =
    let wanted = chosen-wanted s k (candidate-chosen s k is) in
    let rest = and_right (not (is_some (place_of k s))) _ wanted in
    record {
      placeless = not_true_is _ (and_left _ _ wanted);
      unpicked = not_true_is _ (and_left _ _ rest);
      unpassed = not_true_is _ (and_right (not (is_some (pick_of k s.picked))) _ rest);
    }

-- ---- no key is picked twice

pub pick_of-append : (k : Key) (picks : List Picked) (pick : Picked) → is_some (pick_of k picks) ≡ false → key_eq pick.key k ≡ false → is_some (pick_of k (picks ++ pick ∷ [])) ≡ false
pick_of-append k [] pick none apart = rw apart refl
pick_of-append k (x ∷ xs) pick none apart = elim (cases_true (key_eq x.key k)) [
  | inl same ↦ absurd (false≢true (sym (rw same at none)))
  | inr differs ↦ rw differs (pick_of-append k xs pick (rw differs at none) apart)
]

pub distinct-append : (picks : List Picked) (pick : Picked) → are_distinct_picks picks ≡ true → is_some (pick_of pick.key picks) ≡ false → are_distinct_picks (picks ++ pick ∷ []) ≡ true
distinct-append [] pick once none = refl
distinct-append (x ∷ xs) pick once none = elim (cases_true (key_eq x.key pick.key)) [
  | inl same ↦ absurd (false≢true (sym (rw same at none)))
  | inr differs ↦
      let apart : key_eq pick.key x.key ≡ false = key_eq-sym pick.key x.key ∙ differs in
      both _ _ (not_true _ (pick_of-append x.key xs pick (not_true_is _ (and_left _ _ once)) apart))
      (distinct-append xs pick (and_right (not (is_some (pick_of x.key xs))) _ once) (rw differs at none))
]

pick_of-without : (j k : Key) (picks : List Picked) → is_some (pick_of j picks) ≡ false → is_some (pick_of j (without_pick k picks)) ≡ false
pick_of-without j k [] none = refl
pick_of-without j k (x ∷ xs) none = elim (cases_true (key_eq x.key j)) [
  | inl here ↦ absurd (false≢true (sym (rw here at none)))
  | inr other ↦ elim (cases_true (key_eq x.key k)) [
    | inl same ↦ rw same (rw other at none)
    | inr differs ↦ rw (differs, other) (pick_of-without j k xs (rw other at none))
  ]
]

pub distinct-without : (k : Key) (picks : List Picked) → are_distinct_picks picks ≡ true → are_distinct_picks (without_pick k picks) ≡ true
distinct-without k [] once = refl
distinct-without k (x ∷ xs) once = elim (cases_true (key_eq x.key k)) [
  | inl same ↦ rw same (and_right (not (is_some (pick_of x.key xs))) _ once)
  | inr differs ↦ rw differs
      (both _ _ (not_true _ (pick_of-without x.key k xs (not_true_is _ (and_left _ _ once)))) (distinct-without k xs (and_right (not (is_some (pick_of x.key xs))) _ once)))
]

-- ---- the phase and the picks agree

pub fits-picking : (picks : List Picked) (pick : Picked) → fits_phase Picking (picks ++ pick ∷ []) ≡ true
fits-picking [] pick = refl
fits-picking (x ∷ xs) pick = refl

pub fits-writing : (picks : List Picked) → fits_phase (writing_phase picks) picks ≡ true
fits-writing [] = refl
fits-writing (pick ∷ picks) = refl

-- ---- the passed keys

pub all-with_key : (test : Key → Bool) (k : Key) (ks : List Key) → test k ≡ true → list_all test ks ≡ true → list_all test (with_item (λ x. x) k ks) ≡ true
all-with_key test k [] passes all = both (test k) true passes refl
all-with_key test k (x ∷ xs) passes all = elim (cases_true (key_lt k x)) [
  | inl below ↦ rw below (both (test k) _ passes all)
  | inr other ↦ rw other (both (test x) _ (and_left _ _ all) (all-with_key test k xs passes (and_right (test x) _ all)))
]

pub has_key-stands : (k : Key) (ks : List Key) → has_key (λ x. x) k ks ≡ stands_on k ks
has_key-stands k [] = refl
has_key-stands k (x ∷ xs) = elim (cases_true (key_eq x k)) [
  | inl same ↦ rw same refl
  | inr differs ↦ rw differs (has_key-stands k xs)
]

-- ---- the bytes of a feed

-- what a candidate and the picks have together is within the bound of one feed
pub candidate-within : (s : PlainShard) (k : Key) → candidate s ≡ Some k → picked_bytes s + k.size ≤ s.bounds.write_max
candidate-within s k is = go (chosen s) is
  where
    inside : (x : Key) → (if nat_le (picked_bytes s + x.size) s.bounds.write_max then Some x else None) ≡ Some k → picked_bytes s + k.size ≤ s.bounds.write_max
    inside x h = elim (cases_true (nat_le (picked_bytes s + x.size) s.bounds.write_max)) [
      | inl fits ↦
          let le : picked_bytes s + x.size ≤ s.bounds.write_max = grind (arith, nat_tests) in
          subst (λ j. picked_bytes s + j.size ≤ s.bounds.write_max) (some_is (rw fits at h)) le
      | inr over ↦ let none : None ≡ Some k = rw over at h in cc
    ]

    go : (o : Option Key) → option_and_then (λ x. if nat_le (picked_bytes s + x.size) s.bounds.write_max then Some x else None) o ≡ Some k → picked_bytes s + k.size ≤ s.bounds.write_max
    go None h = cc
    go (Some x) h = inside x h

pub bytes-append : (picks : List Picked) (pick : Picked) → sum_by (λ (p : Picked). p.key.size) (picks ++ pick ∷ []) ≡ sum_by (λ (p : Picked). p.key.size) picks + pick.key.size
bytes-append [] pick = refl
bytes-append (x ∷ xs) pick =
    omega (arith, bytes-append xs pick, sum_by-cons (λ (p : Picked). p.key.size) x xs, sum_by-cons (λ (p : Picked). p.key.size) x (xs ++ pick ∷ []))
