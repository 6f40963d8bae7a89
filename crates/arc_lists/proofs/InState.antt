-- Each key stands on the sequence of its own state alone.
use Rattle.std.proofs.Common.{◌≡◌, true, false, IsSome, List, Some, is_some, ◌⊎◌, inl, inr, refl, sym, ap, subst, ◌∙◌}
use Rattle.std.proofs.lemmas.Bool.{false≢true}
use Rattle.blk_ptr.specs.declared.key.Key.{Key}
use Rattle.blk_ptr.specs.declared.state.State.{State}
use Rattle.blk_ptr.specs.declared.state.State.TheVariants.{Anon, Mru, MruGhost, Mfu, MfuGhost, L2Only}
use Rattle.blk_ptr.specs.Order.{key_eq}
use Rattle.blk_ptr.specs.State.{is_same_state}
use Rattle.blk_ptr.proofs.Keys.{key_eq-is, key_eq-sym}
use Rattle.arc_lists.specs.declared.member.Member.{Member}
use Rattle.arc_lists.specs.ByKey.{has_key, item_at, with_item, without}
use Rattle.arc_lists.specs.Members.{member, member_key}
use Rattle.arc_lists.specs.Queues.{AreInState, IsOnlyOn}
use Rattle.arc_lists.specs.Sequences.{Sequences, has_sequence, put_at_head, sequence_of, stands, stands_on, taken_off, without_key}
use Rattle.arc_lists.proofs.SizeSums.{is_same_state-same}
use Rattle.arc_lists.proofs.Standing.{stands_on-without_key, stands_on-without_same, without_key-absent}
use Rattle.arc_lists.proofs.Tables.{cases_true, some_is, item_at-with_item_other, item_at-without_other}

-- ---- a key taken off

sequence_of-taken_off : (s : State) (k : Key) (q : Sequences) → sequence_of s (taken_off k q) ≡ without_key k (sequence_of s q)
sequence_of-taken_off Anon k q = refl
sequence_of-taken_off Mru k q = refl
sequence_of-taken_off MruGhost k q = refl
sequence_of-taken_off Mfu k q = refl
sequence_of-taken_off MfuGhost k q = refl
sequence_of-taken_off L2Only k q = refl

-- what stands there after a key was taken off stood there before
stood : (s : State) (j k : Key) (q : Sequences) → stands_on j (sequence_of s (taken_off k q)) ≡ true → stands_on j (sequence_of s q) ≡ true
stood s j k q there = elim (cases_true (stands_on j (sequence_of s q))) [
  | inl before ↦ before
  | inr off ↦ absurd (false≢true (sym (stands_on-without_key j k (sequence_of s q) off) ∙ ap (stands_on j) (sym (sequence_of-taken_off s k q)) ∙ there))
]

pub AreInState-without : (k : Key) (ms : List Member) (q : Sequences) → AreInState ms q → AreInState (without member_key k ms) (taken_off k q)
AreInState-without k ms q stated s j there = elim (cases_true (key_eq k j)) [
  | inl same ↦
      let here : stands_on k (sequence_of s (taken_off k q)) ≡ true = subst (λ h. stands_on h (sequence_of s (taken_off k q)) ≡ true) (sym (key_eq-is k j same)) there in
      absurd (false≢true (sym (stands_on-without_same k (sequence_of s q)) ∙ ap (stands_on k) (sym (sequence_of-taken_off s k q)) ∙ here))
  | inr apart ↦ item_at-without_other member_key j k ms (key_eq-sym j k ∙ apart) ∙ stated s j (stood s j k q there)
]

-- ---- a key put at a head

head-cases : (t s : State) (j k : Key) (q : Sequences) → stands_on j (sequence_of s (put_at_head t k q)) ≡ true → ((key_eq k j ≡ true) × (t ≡ s)) ⊎ (stands_on j (sequence_of s q) ≡ true)
head-cases Mru Mru j k q there = elim (cases_true (key_eq k j)) [ inl same ↦ inl (same, refl) | inr differs ↦ inr (rw differs at there) ]
head-cases MruGhost MruGhost j k q there = elim (cases_true (key_eq k j)) [ inl same ↦ inl (same, refl) | inr differs ↦ inr (rw differs at there) ]
head-cases Mfu Mfu j k q there = elim (cases_true (key_eq k j)) [ inl same ↦ inl (same, refl) | inr differs ↦ inr (rw differs at there) ]
head-cases MfuGhost MfuGhost j k q there = elim (cases_true (key_eq k j)) [ inl same ↦ inl (same, refl) | inr differs ↦ inr (rw differs at there) ]
head-cases t s j k q there = inr there

pub AreInState-head : (t : State) (ms : List Member) (k : Key) (q : Sequences) → item_at member_key k ms ≡ Some (member k t) → AreInState ms q → AreInState ms (put_at_head t k q)
AreInState-head t ms k q item stated s j there = elim (head-cases t s j k q there) [
  | inl new ↦ subst (λ h. item_at member_key h ms ≡ Some (member h s)) (key_eq-is k j new.0) (item ∙ ap (λ x. Some (member k x)) new.1)
  | inr before ↦ stated s j before
]

pub AreInState-with_item : (m : Member) (ms : List Member) (q : Sequences) → has_key member_key m.key ms ≡ false → AreInState ms q → AreInState (with_item member_key m ms) q
AreInState-with_item m ms q absent stated s j there = elim (cases_true (key_eq m.key j)) [
  | inl same ↦
      let item : item_at member_key j ms ≡ Some (member j s) = stated s j there in
      absurd (false≢true (sym absent ∙ ap (λ h. has_key member_key h ms) (key_eq-is m.key j same) ∙ ap is_some item))
  | inr differs ↦ item_at-with_item_other member_key j m ms differs ∙ stated s j there
]

-- ---- the only sequence on which a key may stand

pub only_on : (s : State) (ms : List Member) (k : Key) (q : Sequences) → item_at member_key k ms ≡ Some (member k s) → AreInState ms q → IsOnlyOn s k q
only_on s ms k q item stated t other = elim (cases_true (stands_on k (sequence_of t q))) [
  | inl there ↦
      let is : s ≡ t = ap (λ (m : Member). m.state) (some_is (sym item ∙ stated t k there)) in
      absurd (false≢true (sym other ∙ subst (λ x. is_same_state s x ≡ true) is (is_same_state-same s)))
  | inr off ↦ off
]

-- where a key stands on no sequence of another state, that one's sequence is left
pub left : (s t : State) (k : Key) (q : Sequences) → IsOnlyOn s k q → is_same_state s t ≡ false → without_key k (sequence_of t q) ≡ sequence_of t q
left s t k q only other = without_key-absent k (sequence_of t q) (only t other)

-- and where the key's state has no sequence, each is left
pub all_left : (s : State) (k : Key) (q : Sequences) → has_sequence s ≡ false → IsOnlyOn s k q → q ≡ taken_off k q
all_left Anon k q none only = rw (left Anon Mru k q only refl, left Anon MruGhost k q only refl, left Anon Mfu k q only refl, left Anon MfuGhost k q only refl) refl
all_left L2Only k q none only = rw (left L2Only Mru k q only refl, left L2Only MruGhost k q only refl, left L2Only Mfu k q only refl, left L2Only MfuGhost k q only refl) refl
all_left s k q none only = absurd (false≢true (sym none))

-- a key that stands on some sequence is a member
pub stands-member : (ms : List Member) (k : Key) (q : Sequences) → AreInState ms q → stands k q ≡ true → IsSome (item_at member_key k ms)
stands-member ms k q stated there = elim (cases_true (stands_on k q.mru)) [
  | inl here ↦ ap is_some (stated Mru k here)
  | inr off ↦ elim (cases_true (stands_on k q.mru_ghost)) [
    | inl here ↦ ap is_some (stated MruGhost k here)
    | inr off2 ↦ elim (cases_true (stands_on k q.mfu)) [
      | inl here ↦ ap is_some (stated Mfu k here)
      | inr off3 ↦ ap is_some (stated MfuGhost k (rw (off, off2, off3) at there))
    ]
  ]
]
