-- Marked keys: each has an entry, and so there are no more of them than entries.
use Rattle.std.proofs.Common.{◌≡◌, ◌<◌, length, arith, Bool, true, false, not, ◌||◌, IsTrue, List, [], ◌∷◌, inl, inr, refl, ap, ◌∙◌}
use Rattle.std.specs.List.{AllByRecursion}
use Rattle.blk_ptr.specs.declared.key.Key.{Key}
use Rattle.blk_ptr.specs.Order.{key_eq, key_lt}
use Rattle.blk_ptr.proofs.Keys.{key_eq-sym}
use Rattle.arc_lists.specs.declared.member.Member.{Member}
use Rattle.arc_lists.specs.ByKey.{IsRising, has_key, with_item}
use Rattle.arc_lists.specs.Members.{member_key}
use Rattle.arc_lists.specs.Queues.{IsSequenceOf}
use Rattle.arc_lists.specs.Sequences.{is_distinct, stands_on}
use Rattle.arc_lists.proofs.Tables.{cases_true}
use Rattle.arc_lists.proofs.Standing.{IsSequenceOf-head, and_left, and_right, both, length-le, not_true, not_true_is, or_left_false, or_right_false}

-- a key among keys that rise, with one more of them
pub stands_on-with_key : (j : Key) (ks : List Key) (k : Key) → stands_on j (with_item (λ x. x) k ks) ≡ (key_eq k j || stands_on j ks)
stands_on-with_key j [] k = refl
stands_on-with_key j (x ∷ xs) k = elim (cases_true (key_lt k x)) [
  | inl below ↦ rw below refl
  | inr other ↦ rw other (ap (λ b. key_eq x j || b) (stands_on-with_key j xs k) ∙ swap (key_eq x j) (key_eq k j) (stands_on j xs))
]
  where
    swap : (a b c : Bool) → (a || (b || c)) ≡ (b || (a || c))
    swap true true c = refl
    swap true false c = refl
    swap false b c = refl

distinct-with_key : (ks : List Key) (k : Key) → is_distinct ks ≡ true → stands_on k ks ≡ false → is_distinct (with_item (λ x. x) k ks) ≡ true
distinct-with_key [] k once off = refl
distinct-with_key (x ∷ xs) k once off = elim (cases_true (key_lt k x)) [
  | inl below ↦ rw below (both _ _ (not_true _ off) once)
  | inr other ↦
      let apart : key_eq k x ≡ false = key_eq-sym k x ∙ or_left_false (key_eq x k) _ off in
      let alone : stands_on x xs ≡ false = not_true_is _ (and_left _ _ once) in
      let absent : stands_on x (with_item (λ y. y) k xs) ≡ false = stands_on-with_key x xs k ∙ rw (apart, alone) refl in
      rw other (both _ _ (not_true _ absent) (distinct-with_key xs k (and_right (not (stands_on x xs)) _ once) (or_right_false (key_eq x k) _ off)))
]

named-with_key : (ms : List Member) (ks : List Key) (k : Key) → IsTrue (has_key member_key k ms) → AllByRecursion (λ j. IsTrue (has_key member_key j ms)) ks
    → AllByRecursion (λ j. IsTrue (has_key member_key j ms)) (with_item (λ x. x) k ks)
named-with_key ms [] k there all = (there, tt)
named-with_key ms (x ∷ xs) k there all = elim (cases_true (key_lt k x)) [
  | inl below ↦ rw below (there, all)
  | inr other ↦ rw other (all.0, named-with_key ms xs k there all.1)
]

-- one more marked key
pub IsSequenceOf-with_key : (ms : List Member) (ks : List Key) (k : Key) → IsTrue (has_key member_key k ms) → stands_on k ks ≡ false → IsSequenceOf ms ks → IsSequenceOf ms (with_item (λ x. x) k ks)
IsSequenceOf-with_key ms ks k there off listed = record { once = distinct-with_key ks k listed.once off; members = named-with_key ms ks k there listed.members }

-- there is room for it
pub fewer-marked : (ms : List Member) (ks : List Key) (k : Key) → IsRising member_key ms → IsTrue (has_key member_key k ms) → stands_on k ks ≡ false → IsSequenceOf ms ks → length ks < length ms
fewer-marked ms ks k rising there off listed = omega (arith, length-le ms (k ∷ ks) rising (IsSequenceOf-head ms k ks there off listed))
