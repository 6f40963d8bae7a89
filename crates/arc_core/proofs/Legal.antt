-- What a legal event says of its key's entry, and that writing the changed entry is the event's change.
use Rattle.std.proofs.Common.{◌≡◌, ℕ, Bool, ◌+◌, ◌<◌, ◌≤◌, true, false, not, ◌&&◌, ◌==◌, nat_le, sum, IsTrue, IsSome, List, [], ◌∷◌, length, get_or, Option, None, Some, is_some, ◌-◌, ◌^◌, inl, inr, refl, sym, ap, subst, ◌∙◌, arith}
use Rattle.std.proofs.lemmas.Bool.{ltb-true}
use Rattle.std.proofs.lemmas.Bool.Decides.{nat_tests}
use Rattle.std.proofs.lemmas.List.Sums.{get_or-le-sum_by, sum_by-set}
use Rattle.std.proofs.lemmas.Bool.{false≢true}
use Rattle.std.proofs.Math.ListN.{length-set}
use Rattle.blk_ptr.specs.declared.key.Key.{Key}
use Rattle.blk_ptr.specs.declared.digest.Digest.{Digest}
use Rattle.blk_ptr.specs.Order.{key_eq}
use Rattle.arc_lists.specs.ByKey.{item_at}
use Rattle.arc_lists.proofs.Standing.{and_left, and_right, both as both_true}
use Rattle.arc_lists.proofs.Tables.{cases_true, some_is}
use Rattle.arc_core.specs.declared.entry.Entry.{Entry}
use Rattle.arc_core.specs.declared.event.Origin.{Origin}
use Rattle.arc_core.specs.declared.event.Event.{Event}
use Rattle.arc_core.specs.declared.event.Event.TheVariants.{Hit, Miss, Arrive, Drop, Hand, Release}
use Rattle.arc_core.specs.PlainShard.{PlainShard, entry_is, entry_of, held_by, holds_of, is_cell, is_number, is_at_rest, is_resident, is_unheld, numbers}
use Rattle.arc_core.specs.Changes.{one_less, one_more}
use Rattle.arc_core.specs.Edits.{is_off, placed}
use Rattle.arc_core.specs.Owed.{owed_by, owed_in, owed_of}
use Rattle.arc_core.specs.Rules.{accessed}
use Rattle.arc_core.specs.Sound.{IsSoundEntry, IsTidy, fits_state}
use Rattle.arc_core.specs.Step.{agree, arrived, effect, holds, legal, may_come_from, read_entry, reads}
use Rattle.blk_ptr.specs.declared.state.State.{State}
use Rattle.blk_ptr.specs.declared.state.State.TheVariants.{Anon, Mru, MruGhost, Mfu, MfuGhost, L2Only}
use Rattle.blk_ptr.specs.State.{is_same_state}
use Rattle.std.specs.List.{list_all}
use Rattle.std.specs.Option.{option_map_or}
use Rattle.arc_core.proofs.Accesses.{IsSoundEntry-arrived, IsSoundEntry-held, IsSoundEntry-hit, IsSoundEntry-read, accessed-keeps, change-placed, given_back-placed, held-one_hold, hit-placed, off-held, unheld-held, unheld-one_more}
use Rattle.arc_core.proofs.Evictions.{Found, found, passes, sum-none}

-- a number is below their number
pub number-lt : (n : ℕ) → is_number n ≡ true → n < numbers
number-lt n h = ltb-true n numbers h

pub cell-lt : (n : ℕ) → is_cell n ≡ true → n < numbers
cell-lt n h = ltb-true n numbers (and_right (nat_le 2 n) _ h)

-- a count is within what is owed
pub held-le : (n : ℕ) (e : Entry) → n < length e.holds → held_by n e ≤ owed_by e
held-le n e lt = omega (arith, get_or-le-sum_by (λ x. x) e.holds n 0 lt)

pub owed-item : (k : Key) (es : List Entry) (e : Entry) → item_at (λ x. x.key) k es ≡ Some e → owed_by e ≤ owed_in es
owed-item k [] e item = cc
owed-item k (x ∷ xs) e item = elim (cases_true (key_eq x.key k)) [
  | inl same ↦ subst (λ z. owed_by z ≤ owed_by x + owed_in xs) (some_is (rw same at item)) (omega arith)
  | inr differs ↦ omega (arith, owed-item k xs e (rw differs at item))
]

-- an entry that passes two tests
pub entry_is-and : (p q : Entry → Bool) (k : Key) (s : PlainShard) → IsTrue (entry_is (λ x. p x && q x) k s) → IsTrue (entry_is p k s) × IsTrue (entry_is q k s)
entry_is-and p q k s h = go (entry_of k s) h
  where
    go : (o : Option Entry) → option_map_or (λ x. p x && q x) o false ≡ true → (option_map_or p o false ≡ true) × (option_map_or q o false ≡ true)
    go None h = absurd (false≢true h)
    go (Some e) h = (and_left (p e) _ h, and_right (p e) _ h)

-- writing this entry over its key's is this event
pub record Writes (s : PlainShard) (event : Event) (e : Entry) : Type 0 where
  pub there : IsSome (entry_of e.key s)
  pub sound : IsSoundEntry e
  pub effect : placed e s ≡ effect s event

pub hit-writes : (n t : ℕ) (k : Key) (s : PlainShard) (e : Entry) → IsTidy s → Some e ≡ entry_of k s → IsTrue (legal s (Hit n k t)) → Writes s (Hit n k t) (one_more n (accessed s.mintime t e))
hit-writes n t k s e tidy is ok =
    let at = found k s e tidy is in
    let lt = number-lt n (and_left _ _ ok) in
    let resident = passes is_resident k s e at.item (and_right (is_number n) _ ok) in
    let kept = accessed-keeps e.state s.mintime t e in
    record {
      there = subst (λ h. IsSome (entry_of h s)) (sym kept.key) at.there;
      sound = IsSoundEntry-hit n s.mintime t e resident at.sound;
      effect = hit-placed n t k s e at.item lt at.sound;
    }

-- a count of a hit entry has room to rise
pub hit-count : (t : ℕ) (k : Key) (s : PlainShard) (e : Entry) → IsTidy s → Some e ≡ entry_of k s → owed_of s + 1 < 2 ^ 32 → holds_of (accessed s.mintime t e) + 1 < 2 ^ 32
hit-count t k s e tidy is few =
    let at = found k s e tidy is in
    let same : holds_of (accessed s.mintime t e) ≡ holds_of e = ap sum (accessed-keeps e.state s.mintime t e).holds in
    omega (arith, same, owed-item k s.entries e at.item, few)

pub arrive-writes : (n : ℕ) (k : Key) (d : Digest) (from : Origin) (s : PlainShard) (e : Entry) → IsTidy s → Some e ≡ entry_of k s → IsTrue (legal s (Arrive n k d from)) → Writes s (Arrive n k d from) (arrived d e)
arrive-writes n k d from s e tidy is ok =
    let at = found k s e tidy is in
    let reads = and_left _ _ (passes (λ x. reads n x && may_come_from from x) k s e at.item (and_right (is_number n) _ ok)) in
    let reading = and_left e.reading _ reads in
    let held = unheld-held n e (and_right e.reading _ reads) in
    record {
      there = at.there;
      sound = IsSoundEntry-arrived d e reading at.sound;
      effect = change-placed (arrived d) k s e tidy at.item refl held held;
    }

-- an entry at rest that n holds
pub record Holding (n : ℕ) (k : Key) (s : PlainShard) (e : Entry) : Type 0 where
  pub at : Found k s e
  pub lt : n < numbers
  pub rest : not e.reading ≡ true
  pub held : is_unheld e ≡ false
  pub some : 0 < held_by n e

positive : (x : ℕ) → not (x == 0) ≡ true → 0 < x
positive x h = grind (arith, nat_tests)

pub holding : (n : ℕ) (k : Key) (s : PlainShard) (e : Entry) → IsTidy s → Some e ≡ entry_of k s → is_number n ≡ true → IsTrue (entry_is (holds n) k s) → Holding n k s e
holding n k s e tidy is number ok =
    let at = found k s e tidy is in
    let both = passes (holds n) k s e at.item ok in
    let some = and_right (not e.reading) _ both in
    record { at = at; lt = number-lt n number; rest = and_left _ _ both; held = unheld-held n e some; some = positive _ some }

pub drop-writes : (n : ℕ) (k : Key) (s : PlainShard) (e : Entry) → IsTidy s → Some e ≡ entry_of k s → IsTrue (legal s (Drop n k)) → Writes s (Drop n k) (one_less n e)
drop-writes n k s e tidy is ok =
    let h = holding n k s e tidy is (and_left _ _ ok) (and_right (is_number n) _ ok) in
    record {
      there = h.at.there;
      sound = IsSoundEntry-held _ e h.rest h.held (length-set e.holds n _) h.at.sound;
      effect = given_back-placed n k s e tidy h.at.item h.held;
    }

-- what a miss puts in
pub miss-off : (n : ℕ) (k : Key) (t : ℕ) (s : PlainShard) → IsTrue (legal s (Miss n k t)) → IsTrue (is_off (read_entry n k t s))
miss-off n k t s ok = off-held (read_entry n k t s) (held-one_hold n (number-lt n (and_left _ _ ok)))

pub miss-sound : (n : ℕ) (k : Key) (t : ℕ) (s : PlainShard) → IsTrue (legal s (Miss n k t)) → IsSoundEntry (read_entry n k t s)
miss-sound n k t s ok = IsSoundEntry-read n k t s (number-lt n (and_left _ _ ok)) (and_left _ _ (and_right (is_number n) _ ok))

-- ---- a hold handed on, and one given back while others stay

-- counts that sum to more than none are not all none
pub held-sum : (xs : List ℕ) → 0 < sum xs → list_all (λ x. x == 0) xs ≡ false
held-sum xs some = elim (cases_true (list_all (λ x. x == 0) xs)) [
  | inl none ↦ absurd (omega (arith, sum-none xs none))
  | inr held ↦ held
]

pub hand-writes : (n : ℕ) (k : Key) (to : ℕ) (s : PlainShard) (e : Entry) → IsTidy s → Some e ≡ entry_of k s → IsTrue (legal s (Hand n k to)) → Writes s (Hand n k to) (one_more to (one_less n e))
hand-writes n k to s e tidy is ok =
    let rest = and_right (is_number n) _ ok in
    let h = holding n k s e tidy is (and_left _ _ ok) (and_right (is_cell to) _ rest) in
    let lt = cell-lt to (and_left (is_cell to) _ rest) in
    let same : length (one_more to (one_less n e)).holds ≡ length e.holds = length-set (one_less n e).holds to _ ∙ length-set e.holds n _ in
    record {
      there = h.at.there;
      sound = IsSoundEntry-held (one_more to (one_less n e)).holds e h.rest h.held same h.at.sound;
      effect = change-placed (λ x. one_more to (one_less n x)) k s e tidy h.at.item refl h.held
          (unheld-one_more to (one_less n e) (omega (arith, length-set e.holds n (held_by n e - 1), h.at.sound.numbers, lt)));
    }

-- one hold of n less, where there are others
pub shared : (n : ℕ) (e : Entry) → n < length e.holds → 0 < held_by n e → not (holds_of e == 1) ≡ true → is_unheld (one_less n e) ≡ false
shared n e lt some others =
    let less = sum_by-set (λ x. x) e.holds n (get_or e.holds n 0 - 1) 0 lt in
    let one = get_or-le-sum_by (λ x. x) e.holds n 0 lt in
    held-sum (one_less n e).holds (more (holds_of e) others (omega (arith, less, one)) (omega (arith, less, one)))
  where
    more : (h : ℕ) {x : ℕ} → not (h == 1) ≡ true → 0 < h → x + 1 ≡ h → 0 < x
    more h others any is = grind (arith, nat_tests)

pub release-writes : (n : ℕ) (k : Key) (s : PlainShard) (e : Entry) → IsTidy s → Some e ≡ entry_of k s → IsTrue (legal s (Release n k false)) → Writes s (Release n k false) (one_less n e)
release-writes n k s e tidy is ok =
    let both = entry_is-and (holds n) (λ x. agree false (holds_of x == 1)) k s (and_right (is_number n) _ ok) in
    let h = holding n k s e tidy is (and_left _ _ ok) both.0 in
    let others = passes (λ x. agree false (holds_of x == 1)) k s e h.at.item both.1 in
    record {
      there = h.at.there;
      sound = IsSoundEntry-held _ e h.rest h.held (length-set e.holds n _) h.at.sound;
      effect = change-placed (one_less n) k s e tidy h.at.item refl h.held (shared n e (omega (arith, h.at.sound.numbers, h.lt)) h.some others);
    }

-- an entry with another place, where it has one that it needs
pub IsSoundEntry-place : (place : Option ℕ) (e : Entry) → (is_same_state e.state L2Only ≡ true → is_some place ≡ true) → IsSoundEntry e → IsSoundEntry (record e { place = place })
IsSoundEntry-place place e needs sound = record { key = sound.key; state = go e.state needs sound.state; reading = sound.reading; numbers = sound.numbers }
  where
    go : (state : State) → (is_same_state state L2Only ≡ true → is_some place ≡ true) → fits_state state e ≡ true → fits_state state (record e { place = place }) ≡ true
    go Anon needs fits = fits
    go Mru needs fits = fits
    go Mfu needs fits = fits
    go MruGhost needs fits = fits
    go MfuGhost needs fits = fits
    go L2Only needs fits = both_true (is_at_rest e) _ (and_left _ _ fits) (both_true (is_unheld e) _ (and_left _ _ (and_right (is_at_rest e) _ fits)) (needs refl))
