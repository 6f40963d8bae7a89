-- Sequences that name members, each once.
use Rattle.std.proofs.Common.{◌≡◌, ℕ, suc, ◌≤◌, Bool, true, false, not, ◌&&◌, ◌||◌, IsTrue, List, [], ◌∷◌, length, map, Some, Option, is_some, inl, inr, refl, sym, ap, subst, ◌∙◌, arith}
use Rattle.std.specs.List.{AllByRecursion}
use Rattle.std.proofs.lemmas.Bool.{false≢true}
use Rattle.blk_ptr.specs.declared.key.Key.{Key}
use Rattle.blk_ptr.specs.declared.state.State.{State}
use Rattle.blk_ptr.specs.declared.state.State.TheVariants.{Anon, Mru, MruGhost, Mfu, MfuGhost, L2Only}
use Rattle.blk_ptr.specs.Order.{key_eq}
use Rattle.blk_ptr.proofs.Keys.{key_eq-is, key_eq-sym}
use Rattle.arc_links.specs.PlainLinks.{Placed, PlainLinks, elements}
use Rattle.arc_lists.specs.declared.member.Member.{Member}
use Rattle.arc_lists.specs.ByKey.{IsRising, has_key, item_at, with_item, without}
use Rattle.arc_lists.specs.Members.{member_key}
use Rattle.arc_lists.specs.declared.queues.Queues.{Queues}
use Rattle.arc_lists.specs.Queues.{AreSequencesOf, HaveCapacity, HaveRoom, IsSequenceOf, sequences_in}
use Rattle.arc_lists.specs.Sequences.{Sequences, is_distinct, put_at_head, stands_on, taken_off, without_key}
use Rattle.arc_lists.proofs.Tables.{cases_true, is_some_of, IsRising-without, item_at-with_item_other, item_at-without_other, length-without}

-- there are as many elements as nodes
pub length-elements : (l : PlainLinks Key) → length (elements l) ≡ length l.nodes
length-elements l = go l.nodes
  where
    go : (ns : List (Placed Key)) → length (map (λ (n : Placed Key). n.element) ns) ≡ length ns
    go [] = refl
    go (n ∷ ns) = ap (λ k. suc k) (go ns)

pub and_left : (a b : Bool) → (a && b) ≡ true → a ≡ true
and_left true b h = refl
and_left false b h = h

pub and_right : (a b : Bool) → (a && b) ≡ true → b ≡ true
and_right true b h = h
and_right false b h = absurd (false≢true h)

pub both : (a b : Bool) → a ≡ true → b ≡ true → (a && b) ≡ true
both a b p q = rw (p, q) refl

pub or_left_false : (a b : Bool) → (a || b) ≡ false → a ≡ false
or_left_false true b h = h
or_left_false false b h = refl

pub or_right_false : (a b : Bool) → (a || b) ≡ false → b ≡ false
or_right_false true b h = absurd (false≢true (sym h))
or_right_false false b h = h

pub not_true : (b : Bool) → b ≡ false → not b ≡ true
not_true b h = rw h refl

pub not_true_is : (b : Bool) → not b ≡ true → b ≡ false
not_true_is true h = sym h
not_true_is false h = refl

-- ---- a list of keys without one of them

-- a key that stands in what is left stood there before
pub stands_on-without_key : (j k : Key) (ks : List Key) → stands_on j ks ≡ false → stands_on j (without_key k ks) ≡ false
stands_on-without_key j k [] off = refl
stands_on-without_key j k (x ∷ xs) off = elim (cases_true (key_eq x k)) [
  | inl same ↦ rw same (stands_on-without_key j k xs (or_right_false _ _ off))
  | inr differs ↦ rw (differs, or_left_false (key_eq x j) _ off) (stands_on-without_key j k xs (or_right_false (key_eq x j) _ off))
]

-- the key itself stands there no more
pub stands_on-without_same : (k : Key) (ks : List Key) → stands_on k (without_key k ks) ≡ false
stands_on-without_same k [] = refl
stands_on-without_same k (x ∷ xs) = elim (cases_true (key_eq x k)) [
  | inl same ↦ rw same (stands_on-without_same k xs)
  | inr differs ↦ rw (differs, differs) (stands_on-without_same k xs)
]

-- every other key stands there as before
pub stands_on-without_other : (j k : Key) (ks : List Key) → key_eq j k ≡ false → stands_on j (without_key k ks) ≡ stands_on j ks
stands_on-without_other j k [] differs = refl
stands_on-without_other j k (x ∷ xs) differs = elim (cases_true (key_eq x k)) [
  | inl same ↦
      let other : key_eq x j ≡ false = subst (λ h. key_eq h j ≡ false) (sym (key_eq-is x k same)) (key_eq-sym k j ∙ differs) in
      rw (same, other) (stands_on-without_other j k xs differs)
  | inr apart ↦ rw apart (ap (λ b. key_eq x j || b) (stands_on-without_other j k xs differs))
]

-- a key that doesn't stand there leaves the list as it is
pub without_key-absent : (k : Key) (ks : List Key) → stands_on k ks ≡ false → without_key k ks ≡ ks
without_key-absent k [] off = refl
without_key-absent k (x ∷ xs) off = rw (or_left_false (key_eq x k) _ off) (ap (λ l. x ∷ l) (without_key-absent k xs (or_right_false (key_eq x k) _ off)))

pub distinct-without_key : (k : Key) (ks : List Key) → is_distinct ks ≡ true → is_distinct (without_key k ks) ≡ true
distinct-without_key k [] once = refl
distinct-without_key k (x ∷ xs) once =
    let rest = distinct-without_key k xs (and_right _ _ once) in
    elim (cases_true (key_eq x k)) [
      | inl same ↦ rw same rest
      | inr differs ↦ rw differs (both _ _ (not_true _ (stands_on-without_key x k xs (not_true_is _ (and_left _ _ once)))) rest)
    ]

-- ---- what names members

module _ (P : Key → Type 0) where
  All-without_key : (k : Key) (ks : List Key) → AllByRecursion P ks → AllByRecursion P (without_key k ks)
  All-without_key k [] all = tt
  All-without_key k (x ∷ xs) all = elim (cases_true (key_eq x k)) [
    | inl same ↦ rw same (All-without_key k xs all.1)
    | inr differs ↦ rw differs (all.0, All-without_key k xs all.1)
  ]

  -- a key for which the fact does not hold is not among those for which it does
  pub off-from_All : (k : Key) (ks : List Key) → (P k → ⊥) → AllByRecursion P ks → stands_on k ks ≡ false
  off-from_All k [] bad all = refl
  off-from_All k (x ∷ xs) bad all = elim (cases_true (key_eq x k)) [
    | inl same ↦ absurd (bad (subst P (key_eq-is x k same) all.0))
    | inr differs ↦ rw differs (off-from_All k xs bad all.1)
  ]

All-mapped : (P Q : Key → Type 0) (ks : List Key) → ((k : Key) → P k → Q k) → AllByRecursion P ks → AllByRecursion Q ks
All-mapped P Q [] f all = tt
All-mapped P Q (k ∷ ks) f all = (f k all.0, All-mapped P Q ks f all.1)

-- of those that are not k, each is a member without k too
All-members_without : (k : Key) (ms : List Member) (ks : List Key) → stands_on k ks ≡ false
    → AllByRecursion (λ j. IsTrue (has_key member_key j ms)) ks → AllByRecursion (λ j. IsTrue (has_key member_key j (without member_key k ms))) ks
All-members_without k ms [] off all = tt
All-members_without k ms (x ∷ xs) off all = (
  ap (λ (o : Option Member). is_some o) (item_at-without_other member_key x k ms (or_left_false (key_eq x k) _ off)) ∙ all.0,
  All-members_without k ms xs (or_right_false (key_eq x k) _ off) all.1,
)

-- there are no more names than members
pub length-le : (ms : List Member) (ks : List Key) → IsRising member_key ms → IsSequenceOf ms ks → length ks ≤ length ms
length-le ms [] rising listed = omega arith
length-le ms (k ∷ ks) rising listed =
    let some : (m : Member) × (item_at member_key k ms ≡ Some m) = is_some_of (item_at member_key k ms) listed.members.0 in
    let off = not_true_is _ (and_left _ _ listed.once) in
    let rest : length ks ≤ length (without member_key k ms) = length-le (without member_key k ms) ks (IsRising-without member_key k ms rising) (record {
      once = and_right _ _ listed.once;
      members = All-members_without k ms ks off listed.members.1;
    }) in
    omega (arith, length-without member_key k ms some.0 some.1, rest)

-- ---- the changes of the lists keep sequences of members

-- a key that is there, and not on the sequence, may be put at its head
pub IsSequenceOf-head : (ms : List Member) (k : Key) (ks : List Key) → IsTrue (has_key member_key k ms) → stands_on k ks ≡ false → IsSequenceOf ms ks → IsSequenceOf ms (k ∷ ks)
IsSequenceOf-head ms k ks there off listed = record { once = both _ _ (not_true _ off) listed.once; members = (there, listed.members) }

pub IsSequenceOf-off : (ms : List Member) (k : Key) (ks : List Key) → IsSequenceOf ms ks → IsSequenceOf ms (without_key k ks)
IsSequenceOf-off ms k ks listed = record {
  once = distinct-without_key k ks listed.once;
  members = All-without_key (λ j. IsTrue (has_key member_key j ms)) k ks listed.members;
}

pub IsSequenceOf-with_item : (m : Member) (ms : List Member) (ks : List Key) → has_key member_key m.key ms ≡ false → IsSequenceOf ms ks → IsSequenceOf (with_item member_key m ms) ks
IsSequenceOf-with_item m ms ks absent listed = record {
  once = listed.once;
  members = All-mapped _ _ ks (λ j there. elim (cases_true (key_eq m.key j)) [
    | inl same ↦ absurd (false≢true (sym absent ∙ subst (λ h. has_key member_key h ms ≡ true) (sym (key_eq-is m.key j same)) there))
    | inr differs ↦ ap (λ (o : Option Member). is_some o) (item_at-with_item_other member_key j m ms differs) ∙ there
  ]) listed.members;
}

pub IsSequenceOf-without : (k : Key) (ms : List Member) (ks : List Key) → IsSequenceOf ms ks → IsSequenceOf (without member_key k ms) (without_key k ks)
IsSequenceOf-without k ms ks listed =
    let off = IsSequenceOf-off ms k ks listed in
    record { once = off.once; members = All-members_without k ms (without_key k ks) (stands_on-without_same k ks) off.members }

-- ---- the four together

pub AreSequencesOf-without : (k : Key) (ms : List Member) (q : Sequences) → AreSequencesOf ms q → AreSequencesOf (without member_key k ms) (taken_off k q)
AreSequencesOf-without k ms q listed = record {
  mru = IsSequenceOf-without k ms q.mru listed.mru;
  mru_ghost = IsSequenceOf-without k ms q.mru_ghost listed.mru_ghost;
  mfu = IsSequenceOf-without k ms q.mfu listed.mfu;
  mfu_ghost = IsSequenceOf-without k ms q.mfu_ghost listed.mfu_ghost;
}

pub AreSequencesOf-with_item : (m : Member) (ms : List Member) (q : Sequences) → has_key member_key m.key ms ≡ false → AreSequencesOf ms q → AreSequencesOf (with_item member_key m ms) q
AreSequencesOf-with_item m ms q absent listed = record {
  mru = IsSequenceOf-with_item m ms q.mru absent listed.mru;
  mru_ghost = IsSequenceOf-with_item m ms q.mru_ghost absent listed.mru_ghost;
  mfu = IsSequenceOf-with_item m ms q.mfu absent listed.mfu;
  mfu_ghost = IsSequenceOf-with_item m ms q.mfu_ghost absent listed.mfu_ghost;
}

-- what `stands` says of each sequence
pub record IsOff (k : Key) (q : Sequences) : Type 0 where
  pub mru : stands_on k q.mru ≡ false
  pub mru_ghost : stands_on k q.mru_ghost ≡ false
  pub mfu : stands_on k q.mfu ≡ false
  pub mfu_ghost : stands_on k q.mfu_ghost ≡ false

pub AreSequencesOf-head : (s : State) (ms : List Member) (k : Key) (q : Sequences) → IsTrue (has_key member_key k ms) → IsOff k q → AreSequencesOf ms q → AreSequencesOf ms (put_at_head s k q)
AreSequencesOf-head Mru ms k q there off listed = record { mru = IsSequenceOf-head ms k q.mru there off.mru listed.mru; mru_ghost = listed.mru_ghost; mfu = listed.mfu; mfu_ghost = listed.mfu_ghost }
AreSequencesOf-head MruGhost ms k q there off listed = record { mru = listed.mru; mru_ghost = IsSequenceOf-head ms k q.mru_ghost there off.mru_ghost listed.mru_ghost; mfu = listed.mfu; mfu_ghost = listed.mfu_ghost }
AreSequencesOf-head Mfu ms k q there off listed = record { mru = listed.mru; mru_ghost = listed.mru_ghost; mfu = IsSequenceOf-head ms k q.mfu there off.mfu listed.mfu; mfu_ghost = listed.mfu_ghost }
AreSequencesOf-head MfuGhost ms k q there off listed = record { mru = listed.mru; mru_ghost = listed.mru_ghost; mfu = listed.mfu; mfu_ghost = IsSequenceOf-head ms k q.mfu_ghost there off.mfu_ghost listed.mfu_ghost }
AreSequencesOf-head Anon ms k q there off listed = listed
AreSequencesOf-head L2Only ms k q there off listed = listed

-- a key that is not there stands on none of them
pub off_absent : (ms : List Member) (k : Key) (q : Sequences) → has_key member_key k ms ≡ false → AreSequencesOf ms q → IsOff k q
off_absent ms k q absent listed =
    let bad : IsTrue (has_key member_key k ms) → ⊥ = λ there. false≢true (sym absent ∙ there) in
    record {
      mru = off-from_All _ k q.mru bad listed.mru.members;
      mru_ghost = off-from_All _ k q.mru_ghost bad listed.mru_ghost.members;
      mfu = off-from_All _ k q.mfu bad listed.mfu.members;
      mfu_ghost = off-from_All _ k q.mfu_ghost bad listed.mfu_ghost.members;
    }

-- where each has room for more keys than there are members, each has room for one more
pub HaveRoom-more : (ms : List Member) (n : ℕ) (q : Queues) → IsRising member_key ms → AreSequencesOf ms (sequences_in q) → suc (length ms) ≤ n → HaveCapacity n q → HaveRoom q
HaveRoom-more ms n q rising listed le room = record {
  mru = omega (arith, length-le ms (elements q.mru) rising listed.mru, length-elements q.mru, room.mru);
  mru_ghost = omega (arith, length-le ms (elements q.mru_ghost) rising listed.mru_ghost, length-elements q.mru_ghost, room.mru_ghost);
  mfu = omega (arith, length-le ms (elements q.mfu) rising listed.mfu, length-elements q.mfu, room.mfu);
  mfu_ghost = omega (arith, length-le ms (elements q.mfu_ghost) rising listed.mfu_ghost, length-elements q.mfu_ghost, room.mfu_ghost);
}

pub HaveCapacity-le : (m n : ℕ) (q : Queues) → m ≤ n → HaveCapacity n q → HaveCapacity m q
HaveCapacity-le m n q le room = record { mru = omega (arith, room.mru); mru_ghost = omega (arith, room.mru_ghost); mfu = omega (arith, room.mfu); mfu_ghost = omega (arith, room.mfu_ghost) }
