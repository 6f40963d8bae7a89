-- A walk over a list of keys, one key after the other, as the walks over a sequence go.
use Rattle.std.proofs.Common.{◌≡◌, ℕ, ◌+◌, ◌<◌, ◌≤◌, nat_le, Bool, true, false, not, ◌||◌, List, [], ◌∷◌, Option, Some, None, inl, inr, refl, sym, ap, subst, ◌∙◌, arith}
use Rattle.std.proofs.lemmas.Bool.{false≢true}
use Rattle.blk_ptr.specs.declared.key.Key.{Key}
use Rattle.blk_ptr.specs.declared.state.State.{State}
use Rattle.blk_ptr.specs.declared.state.State.TheVariants.{Anon, Mru, MruGhost, Mfu, MfuGhost, L2Only}
use Rattle.blk_ptr.specs.Order.{key_eq}
use Rattle.blk_ptr.proofs.Keys.{key_eq-is, key_eq-same}
use Rattle.arc_lists.specs.Sequences.{is_distinct, sequence_of, stands, stands_on}
use Rattle.arc_lists.specs.Walks.{first_of, next_to, oldest_first}
use Rattle.arc_lists.proofs.Standing.{and_left, and_right, not_true_is}
use Rattle.arc_lists.proofs.Tables.{cases_true, some_is}
use Rattle.arc_lists.proofs.Walking.{distinct-reversed, stands_on-reversed}
use Rattle.std.proofs.lemmas.Bool.Decides.{nat_tests}
use Rattle.arc_core.specs.Candidate.{walk}
use Rattle.arc_core.specs.Scan.{from_key, from_next}
use Rattle.arc_core.specs.PlainShard.{PlainShard}
use Rattle.arc_core.specs.Sound.{IsTidy}

pub from-first : (xs : List Key) → from_next (first_of xs) xs ≡ xs
from-first [] = refl
from-first (x ∷ xs) = rw key_eq-same refl

pub first-stands : (xs : List Key) (k : Key) → first_of xs ≡ Some k → stands_on k xs ≡ true
first-stands [] k is = cc
first-stands (x ∷ xs) k is = subst (λ h. stands_on h (x ∷ xs) ≡ true) (some_is is) (rw key_eq-same refl)

pub next-stands : (k j : Key) (xs : List Key) → next_to k xs ≡ Some j → stands_on j xs ≡ true
next-stands k j [] is = cc
next-stands k j (x ∷ xs) is = elim (cases_true (key_eq x j)) [
  | inl here ↦ rw here refl
  | inr other ↦ rw other (elim (cases_true (key_eq x k)) [
    | inl same ↦ first-stands xs j (rw same at is)
    | inr differs ↦ next-stands k j xs (rw differs at is)
  ])
]

-- a walk that goes on behind a first key never comes back to it
pub behind : (x : Key) (xs : List Key) (o : Option Key) → stands_on x xs ≡ false → ((j : Key) → o ≡ Some j → stands_on j xs ≡ true) → from_next o (x ∷ xs) ≡ from_next o xs
behind x xs None off within = refl
behind x xs (Some j) off within = elim (cases_true (key_eq x j)) [
  | inl same ↦ absurd (false≢true (sym off ∙ subst (λ h. stands_on h xs ≡ true) (sym (key_eq-is x j same)) (within j refl)))
  | inr differs ↦ rw differs refl
]

pub from-next : (k : Key) (xs : List Key) → is_distinct xs ≡ true → stands_on k xs ≡ true → from_key k xs ≡ k ∷ from_next (next_to k xs) xs
from-next k [] once there = absurd (false≢true there)
from-next k (x ∷ xs) once there =
    let off : stands_on x xs ≡ false = not_true_is _ (and_left _ _ once) in
    elim (cases_true (key_eq x k)) [
      | inl same ↦ rw same
          (ap (λ h. h ∷ xs) (key_eq-is x k same) ∙ ap (λ l. k ∷ l) (sym (behind x xs (first_of xs) off (λ j is. first-stands xs j is) ∙ from-first xs)))
      | inr differs ↦ rw differs
          (from-next k xs (and_right (not (stands_on x xs)) _ once) (rw differs at there) ∙ ap (λ l. k ∷ l) (sym (behind x xs (next_to k xs) off (λ j is. next-stands k j xs is))))
    ]

-- ---- the sequences of a tidy shard, walked from the oldest key on

pub distinct-oldest : (state : State) (s : PlainShard) → IsTidy s → is_distinct (oldest_first state s.sequences) ≡ true
distinct-oldest Anon s tidy = refl
distinct-oldest Mru s tidy = distinct-reversed s.sequences.mru tidy.mru.once
distinct-oldest MruGhost s tidy = distinct-reversed s.sequences.mru_ghost tidy.mru_ghost.once
distinct-oldest Mfu s tidy = distinct-reversed s.sequences.mfu tidy.mfu.once
distinct-oldest MfuGhost s tidy = distinct-reversed s.sequences.mfu_ghost tidy.mfu_ghost.once
distinct-oldest L2Only s tidy = refl

-- a key of a state's sequence stands
or_here : (a b : Bool) → a ≡ true → (a || b) ≡ true
or_here a b h = rw h refl

or_there : (a b : Bool) → b ≡ true → (a || b) ≡ true
or_there true b h = refl
or_there false b h = h

pub sequence-stands : (state : State) (s : PlainShard) (k : Key) → stands_on k (sequence_of state s.sequences) ≡ true → stands k s.sequences ≡ true
sequence-stands Anon s k there = absurd (false≢true there)
sequence-stands Mru s k there = or_here _ _ there
sequence-stands MruGhost s k there = or_there (stands_on k s.sequences.mru) _ (or_here _ _ there)
sequence-stands Mfu s k there = or_there (stands_on k s.sequences.mru) _ (or_there (stands_on k s.sequences.mru_ghost) _ (or_here _ _ there))
sequence-stands MfuGhost s k there = or_there (stands_on k s.sequences.mru) _ (or_there (stands_on k s.sequences.mru_ghost) _ (or_there (stands_on k s.sequences.mfu) _ there))
sequence-stands L2Only s k there = absurd (false≢true there)

pub oldest-in : (state : State) (s : PlainShard) (k : Key) → stands_on k (oldest_first state s.sequences) ≡ true → stands_on k (sequence_of state s.sequences) ≡ true
oldest-in state s k there = sym (stands_on-reversed k (sequence_of state s.sequences)) ∙ there

-- ---- one step of a walk that sums sizes

pub walk-over : (limit met : ℕ) (wanted : Key → Bool) (k : Key) (ks : List Key) → limit < met + k.size → walk limit met wanted (k ∷ ks) ≡ None
walk-over limit met wanted k ks over =
    let past : nat_le (met + k.size) limit ≡ false = grind (arith, nat_tests) in
    rw past refl

pub walk-here : (limit met : ℕ) (wanted : Key → Bool) (k : Key) (ks : List Key) → met + k.size ≤ limit → wanted k ≡ true → walk limit met wanted (k ∷ ks) ≡ Some k
walk-here limit met wanted k ks within is =
    let inside : nat_le (met + k.size) limit ≡ true = grind (arith, nat_tests) in
    rw (inside, is) refl

pub walk-on : (limit met : ℕ) (wanted : Key → Bool) (k : Key) (ks : List Key) → met + k.size ≤ limit → wanted k ≡ false → walk limit met wanted (k ∷ ks) ≡ walk limit (met + k.size) wanted ks
walk-on limit met wanted k ks within is =
    let inside : nat_le (met + k.size) limit ≡ true = grind (arith, nat_tests) in
    rw (inside, is) refl
