-- How many holds each event takes and gives back, and that what is held keeps its bytes.
use Rattle.std.proofs.Common.{◌≡◌, ℕ, zero, suc, ◌+◌, ◌-◌, ◌<◌, ◌^◌, Bool, true, false, not, ◌&&◌, ◌||◌, if◌then◌else◌, ◌==◌, nat_lt, IsTrue, List, [], ◌∷◌, length, set, get_or, Option, Some, None, is_some, is_none, inl, inr, refl, sym, ap, subst, ◌∙◌, arith, get_or-set_other, get_or-set_same}
use Rattle.std.specs.List.{list_all}
use Rattle.std.specs.Option.{option_and_then, option_map, option_map_or}
use Rattle.std.proofs.lemmas.Bool.{eqb-true, false≢true}
use Rattle.std.proofs.lemmas.Bool.Decides.{nat_tests}
use Rattle.std.proofs.lemmas.List.{get_or-replicate}
use Rattle.std.proofs.lemmas.List.Sums.{get_or-le-sum_by, sum_by-set}
use Rattle.std.proofs.Math.ListN.{length-set}
use Rattle.blk_ptr.specs.declared.key.Key.{Key}
use Rattle.blk_ptr.specs.declared.digest.Digest.{Digest}
use Rattle.blk_ptr.specs.declared.state.State.{State}
use Rattle.blk_ptr.specs.declared.state.State.TheVariants.{Anon, Mru, MruGhost, Mfu, MfuGhost, L2Only}
use Rattle.blk_ptr.specs.Order.{key_eq}
use Rattle.blk_ptr.specs.State.{is_cached, is_same_state}
use Rattle.blk_ptr.proofs.Keys.{key_eq-is, key_eq-same}
use Rattle.arc_lists.proofs.Standing.{and_left, and_right, both, not_true_is}
use Rattle.arc_lists.proofs.Tables.{All-item, cases_true, is_some_of, some_is}
use Rattle.arc_core.specs.declared.entry.Entry.{Entry}
use Rattle.arc_core.specs.declared.event.Event.{Event}
use Rattle.arc_core.specs.declared.event.Event.TheVariants.{Pass, Hit, Miss, Arrive, Fail, Drop, Past, Hand, Insert, Release, Pick, FeedEnd, Set, Leave, Clear, Restore, Resize}
use Rattle.arc_core.specs.PlainShard.{PlainShard, count_of, entry_is, entry_key, entry_of, held_by, holds_of, is_at_rest, is_cell, is_free, is_number, is_resident, is_unheld, no_holds, numbers, one_hold}
use Rattle.arc_core.specs.Changes.{one_less, one_more}
use Rattle.arc_core.specs.Changing.{HasBytes, entry_after, gained, handed, hold_for, lost, placed_at, without_place}
use Rattle.arc_core.specs.Operations.{event_key, is_about}
use Rattle.arc_core.specs.Rules.{access, accessed}
use Rattle.arc_core.specs.Sound.{IsSound, IsSoundEntry, IsTidy, fits_state}
use Rattle.arc_core.specs.Sparing.{IsSpared}
use Rattle.arc_core.specs.Step.{after, agree, arrived, hit_entry, holds, is_missing, is_new_here, is_without_bytes, legal, may_come_from, reads}
use Rattle.arc_core.proofs.Accesses.{accessed-keeps, unheld-held}
use Rattle.arc_core.proofs.Evictions.{entry_of-is, or_other, passes}
use Rattle.arc_core.specs.Owed.{owed_of}
use Rattle.arc_core.proofs.Legal.{cell-lt, entry_is-and, holding, number-lt, owed-item}
use Rattle.arc_core.proofs.Others.{own-entry, sparing}
use Rattle.arc_core.proofs.Sparing.{spared-held}

-- one, where the numbers are the same
abbrev one_if : (m n : ℕ) → ℕ
one_if m n = if m == n then 1 else 0

-- the holds of a number on what may be an entry
abbrev counted : ℕ → Option Entry → ℕ
counted m o = option_map_or (held_by m) o 0

same_number : (m n : ℕ) → (m == n) ≡ true → m ≡ n
same_number m n is = eqb-true m n is

other_number : (m n : ℕ) → (m == n) ≡ false → (m ≡ n → ⊥)
other_number m n differs is = false≢true (sym differs ∙ grind (arith, nat_tests))

-- ---- counts of a list

get-none : (xs : List ℕ) (m : ℕ) → list_all (λ x. x == 0) xs ≡ true → get_or xs m 0 ≡ 0
get-none [] m none = refl
get-none (x ∷ xs) zero none = eqb-true x 0 (and_left (x == 0) _ none)
get-none (x ∷ xs) (suc m) none = get-none xs m (and_right (x == 0) _ none)

unheld-count : (m : ℕ) (e : Entry) → is_unheld e ≡ true → held_by m e ≡ 0
unheld-count m e unheld = get-none e.holds m unheld

held-one_more : (m n : ℕ) (e : Entry) → n < length e.holds → held_by m (one_more n e) ≡ held_by m e + one_if m n
held-one_more m n e lt = elim (cases_true (m == n)) [
  | inl same ↦
      let is = same_number m n same in
      subst (λ j. get_or (set e.holds n (get_or e.holds n 0 + 1)) j 0 ≡ get_or e.holds j 0 + one_if m n) (sym is)
      (get_or-set_same e.holds n (get_or e.holds n 0 + 1) 0 lt ∙ ap (λ b. get_or e.holds n 0 + (if b then 1 else 0)) (sym same))
  | inr differs ↦
      let apart = other_number m n differs in
      get_or-set_other e.holds n m (get_or e.holds n 0 + 1) 0 apart ∙ (let none : one_if m n ≡ 0 = rw differs refl in omega (arith, none))
]

held-one_less : (m n : ℕ) (e : Entry) → n < length e.holds → 0 < held_by n e → held_by m (one_less n e) + one_if m n ≡ held_by m e
held-one_less m n e lt some = elim (cases_true (m == n)) [
  | inl same ↦
      let is = same_number m n same in
      let one : one_if m n ≡ 1 = rw same refl in
      let less = get_or-set_same e.holds n (get_or e.holds n 0 - 1) 0 lt in
      subst (λ j. get_or (set e.holds n (get_or e.holds n 0 - 1)) j 0 + one_if m n ≡ get_or e.holds j 0) (sym is) (omega (arith, less, one, some))
  | inr differs ↦
      let apart = other_number m n differs in
      let none : one_if m n ≡ 0 = rw differs refl in
      omega (arith, get_or-set_other e.holds n m (get_or e.holds n 0 - 1) 0 apart, none)
]

-- a count of which a hold is handed over has room to rise
pub hand-count : (n : ℕ) (k : Key) (to : ℕ) (s : PlainShard) (e : Entry) → IsTidy s → Some e ≡ entry_of k s → IsTrue (legal s (Hand n k to)) → owed_of s < 2 ^ 32 → holds_of (one_less n e) + 1 < 2 ^ 32
hand-count n k to s e tidy is ok few =
    let rest = and_right (is_number n) _ ok in
    let h = holding n k s e tidy is (and_left _ _ ok) (and_right (is_cell to) _ rest) in
    let less = sum_by-set (λ x. x) e.holds n (held_by n e - 1) 0 (omega (arith, h.at.sound.numbers, h.lt)) in
    omega (arith, less, h.some, owed-item k s.entries e h.at.item, few)

-- the one hold that there is
held-sole : (m n : ℕ) (e : Entry) → n < length e.holds → m < length e.holds → holds_of e ≡ 1 → 0 < held_by n e → held_by m e ≡ one_if m n
held-sole m n e lt below sole some =
    let less = sum_by-set (λ x. x) e.holds n 0 0 lt in
    let rest = get_or-le-sum_by (λ x. x) (set e.holds n 0) m 0 (omega (arith, length-set e.holds n 0)) in
    let mine = get_or-le-sum_by (λ x. x) e.holds n 0 lt in
    elim (cases_true (m == n)) [
      | inl same ↦
          let one : one_if m n ≡ 1 = rw same refl in
          subst (λ j. get_or e.holds j 0 ≡ one_if m n) (sym (same_number m n same)) (omega (arith, one, mine, sole, some))
      | inr differs ↦
          let none : one_if m n ≡ 0 = rw differs refl in
          omega (arith, none, less, rest, mine, sole, some, get_or-set_other e.holds n m 0 0 (other_number m n differs))
    ]

held-one_hold : (m n : ℕ) → m < numbers → n < numbers → get_or (one_hold n) m 0 ≡ one_if m n
held-one_hold m n below lt = elim (cases_true (m == n)) [
  | inl same ↦ subst (λ j. get_or (one_hold n) j 0 ≡ one_if m n) (sym (same_number m n same)) (get_or-set_same no_holds n 1 0 lt ∙ (let one : one_if m n ≡ 1 = rw same refl in sym one))
  | inr differs ↦
      let none : one_if m n ≡ 0 = rw differs refl in
      get_or-set_other no_holds n m 1 0 (other_number m n differs) ∙ get_or-replicate {A = ℕ} numbers m 0 0 below ∙ sym none
]

positive : (x : ℕ) → not (x == 0) ≡ true → 0 < x
positive x h = grind (arith, nat_tests)

-- ---- holds of another key

counted-spared : (m : ℕ) (a b : Option Entry) → IsSpared a b → counted m b ≡ counted m a
counted-spared m None b spared = ap (counted m) spared
counted-spared m (Some e) None spared = sym (unheld-count m e (and_left (is_unheld e) (is_at_rest e) (and_left (is_free e) _ spared.0)))
counted-spared m (Some e) (Some f) spared = elim spared [
  | inl same ↦ ap (λ (x : Entry). held_by m x) same
  | inr lost ↦ ap (λ (x : Entry). held_by m x) lost.2
]

abbrev one_where : Bool → ℕ
one_where b = if b then 1 else 0

-- an event that takes and gives no hold of the key
hold_for-other : (n m : ℕ) (k j : Key) → key_eq j k ≡ false → hold_for n k m j ≡ 0
hold_for-other n m k j apart = ap (λ b. one_where (m == n && b)) apart ∙ go (m == n)
  where
    go : (b : Bool) → one_where (b && false) ≡ 0
    go true = refl
    go false = refl

hold_for-own : (n m : ℕ) (k : Key) → hold_for n k m k ≡ one_if m n
hold_for-own n m k = ap (λ b. one_where (m == n && b)) (key_eq-same k) ∙ go (m == n)
  where
    go : (b : Bool) → one_where (b && true) ≡ one_where b
    go true = refl
    go false = refl

gained-other : (e : Event) (m : ℕ) (j : Key) → is_about j e ≡ false → gained e m j ≡ 0
gained-other (Pass n k owner) m j apart = refl
gained-other (Hit n k t) m j apart = hold_for-other n m k j apart
gained-other (Miss n k t) m j apart = hold_for-other n m k j apart
gained-other (Arrive n k d from) m j apart = refl
gained-other (Fail n k at) m j apart = refl
gained-other (Drop n k) m j apart = refl
gained-other (Past n k kept) m j apart = refl
gained-other (Hand n k to) m j apart = hold_for-other to m k j apart
gained-other (Insert n k d t) m j apart = hold_for-other n m k j apart
gained-other (Release n k sole) m j apart = refl
gained-other (Pick n k) m j apart = refl
gained-other (FeedEnd n) m j apart = refl
gained-other (Set n k place) m j apart = refl
gained-other (Leave n k why) m j apart = refl
gained-other (Clear n k) m j apart = refl
gained-other (Restore n k place d) m j apart = refl
gained-other (Resize n c) m j apart = refl

lost-other : (e : Event) (m : ℕ) (j : Key) → is_about j e ≡ false → lost e m j ≡ 0
lost-other (Pass n k owner) m j apart = refl
lost-other (Hit n k t) m j apart = refl
lost-other (Miss n k t) m j apart = refl
lost-other (Arrive n k d from) m j apart = refl
lost-other (Fail n k at) m j apart = hold_for-other n m k j apart
lost-other (Drop n k) m j apart = hold_for-other n m k j apart
lost-other (Past n k kept) m j apart = refl
lost-other (Hand n k to) m j apart = hold_for-other n m k j apart
lost-other (Insert n k d t) m j apart = refl
lost-other (Release n k sole) m j apart = hold_for-other n m k j apart
lost-other (Pick n k) m j apart = refl
lost-other (FeedEnd n) m j apart = refl
lost-other (Set n k place) m j apart = refl
lost-other (Leave n k why) m j apart = refl
lost-other (Clear n k) m j apart = refl
lost-other (Restore n k place d) m j apart = refl
lost-other (Resize n c) m j apart = refl

-- ---- holds of the event's own key

-- an entry of a shard, with what is known of it
sound-entry : (k : Key) (s : PlainShard) (e : Entry) → IsSound s → entry_of k s ≡ Some e → IsSoundEntry e
sound-entry k s e sound item = All-item entry_key IsSoundEntry k s.entries e sound.tidy.entries item

-- what is kept of a key without bytes is not held
missing-count : (m : ℕ) (k : Key) (s : PlainShard) → IsSound s → is_missing k s ≡ true → counted m (entry_of k s) ≡ 0
missing-count m k s sound missing = go (entry_of k s) refl missing
  where
    free : (state : State) (e : Entry) → is_without_bytes state ≡ true → fits_state state e ≡ true → is_unheld e ≡ true
    free MruGhost e bare fits = and_left (is_unheld e) _ (and_right (is_at_rest e) _ fits)
    free MfuGhost e bare fits = and_left (is_unheld e) _ (and_right (is_at_rest e) _ fits)
    free L2Only e bare fits = and_left (is_unheld e) _ (and_right (is_at_rest e) _ fits)
    free Anon e bare fits = absurd (false≢true bare)
    free Mru e bare fits = absurd (false≢true bare)
    free Mfu e bare fits = absurd (false≢true bare)

    go : (o : Option Entry) → entry_of k s ≡ o → option_map_or (λ (e : Entry). is_without_bytes e.state) o true ≡ true → counted m o ≡ 0
    go None is bare = refl
    go (Some e) is bare = unheld-count m e (free e.state e bare (sound-entry k s e sound is).state)

new-missing : (k : Key) (s : PlainShard) → is_new_here k s ≡ true → is_missing k s ≡ true
new-missing k s new = go (entry_of k s) new
  where
    only : (state : State) → is_same_state state L2Only ≡ true → is_without_bytes state ≡ true
    only L2Only is = refl
    only Anon is = absurd (false≢true is)
    only Mru is = absurd (false≢true is)
    only MruGhost is = refl
    only Mfu is = absurd (false≢true is)
    only MfuGhost is = refl

    go : (o : Option Entry) → option_map_or (λ (e : Entry). is_same_state e.state L2Only) o true ≡ true → option_map_or (λ (e : Entry). is_without_bytes e.state) o true ≡ true
    go None is = refl
    go (Some e) is = only e.state is

-- an entry of which a fact was tested, with what the test says
pub record Tested (test : Entry → Bool) (k : Key) (s : PlainShard) : Type 0 where
  pub entry : Entry
  pub item : entry_of k s ≡ Some entry
  pub passes : test entry ≡ true
  pub sound : IsSoundEntry entry

tested : (test : Entry → Bool) (k : Key) (s : PlainShard) → IsSound s → IsTrue (entry_is test k s) → Tested test k s
tested test k s sound holds = let e = entry_of-is test k s holds in record { entry = e.0; item = e.1; passes = e.2; sound = sound-entry k s e.0 sound e.1 }

held-hit : (m n mintime t : ℕ) (e : Entry) → n < length e.holds → held_by m (hit_entry n mintime t e) ≡ held_by m e + one_if m n
held-hit m n mintime t e lt =
    let kept = (accessed-keeps e.state mintime t e).holds in
    held-one_more m n (accessed mintime t e) (omega (arith, ap length kept)) ∙ ap (λ xs. get_or xs m 0 + one_if m n) kept

held-cleared : (m : ℕ) (e : Entry) → IsSoundEntry e → counted m (without_place e) ≡ held_by m e
held-cleared m e sound = go (is_same_state e.state L2Only) refl
  where
    only : (state : State) → is_same_state state L2Only ≡ true → fits_state state e ≡ true → is_unheld e ≡ true
    only L2Only is fits = and_left (is_unheld e) _ (and_right (is_at_rest e) _ fits)
    only Anon is fits = absurd (false≢true is)
    only Mru is fits = absurd (false≢true is)
    only MruGhost is fits = absurd (false≢true is)
    only Mfu is fits = absurd (false≢true is)
    only MfuGhost is fits = absurd (false≢true is)

    go : (b : Bool) → is_same_state e.state L2Only ≡ b → counted m (if b then None else Some (record e { place = None })) ≡ held_by m e
    go true is = sym (unheld-count m e (only e.state is sound.state))
    go false is = refl

-- the one hold of an entry that n reads
sole-read : (m n : ℕ) (e : Entry) → IsSoundEntry e → m < numbers → n < numbers → reads n e ≡ true → held_by m e ≡ one_if m n
sole-read m n e sound below lt reading =
    let one = go e.reading (holds_of e) (is_none e.digest) (and_left e.reading _ reading) sound.reading in
    held-sole m n e (omega (arith, sound.numbers)) (omega (arith, sound.numbers)) one (positive _ (and_right e.reading _ reading))
  where
    go : (r : Bool) (h : ℕ) (d : Bool) → r ≡ true → (not r || (h == 1 && d)) ≡ true → h ≡ 1
    go true h d r fits = eqb-true h 1 (and_left (h == 1) d fits)
    go false h d r fits = absurd (false≢true r)

-- what an event makes of the holds on its own key
module _ (s : PlainShard) (m : ℕ) (sound : IsSound s) (below : m < numbers) where
  own-hit : (n : ℕ) (k : Key) (t : ℕ) → IsTrue (legal s (Hit n k t)) → counted m (entry_after s.mintime (Hit n k t) (entry_of k s)) + 0 ≡ counted m (entry_of k s) + one_if m n
  own-hit n k t ok =
      let e = tested is_resident k s sound (and_right (is_number n) _ ok) in
      let more = held-hit m n s.mintime t e.entry (omega (arith, e.sound.numbers, number-lt n (and_left _ _ ok))) in
      rw e.item (omega (arith, more))

  own-miss : (n : ℕ) (k : Key) (t : ℕ) → IsTrue (legal s (Miss n k t)) → counted m (entry_after s.mintime (Miss n k t) (entry_of k s)) + 0 ≡ counted m (entry_of k s) + one_if m n
  own-miss n k t ok =
      let none = missing-count m k s sound (and_right _ _ (and_right (is_number n) _ ok)) in
      omega (arith, held-one_hold m n below (number-lt n (and_left _ _ ok)), none)

  own-insert : (n : ℕ) (k : Key) (d : Digest) (t : ℕ) → IsTrue (legal s (Insert n k d t)) → counted m (entry_after s.mintime (Insert n k d t) (entry_of k s)) + 0 ≡ counted m (entry_of k s) + one_if m n
  own-insert n k d t ok =
      let none = missing-count m k s sound (new-missing k s (and_right _ _ (and_right (is_cell n) _ ok))) in
      omega (arith, held-one_hold m n below (cell-lt n (and_left _ _ ok)), none)

  own-arrive : (n : ℕ) (k : Key) (d : Digest) → counted m (option_map (arrived d) (entry_of k s)) + 0 ≡ counted m (entry_of k s) + 0
  own-arrive n k d = go (entry_of k s)
    where
      go : (o : Option Entry) → counted m (option_map (arrived d) o) + 0 ≡ counted m o + 0
      go None = refl
      go (Some e) = refl

  own-fail : (n : ℕ) (k : Key) → IsTrue (is_number n && entry_is (reads n) k s) → 0 + one_if m n ≡ counted m (entry_of k s) + 0
  own-fail n k ok =
      let e = tested (reads n) k s sound (and_right (is_number n) _ ok) in
      let one = sole-read m n e.entry e.sound below (number-lt n (and_left _ _ ok)) e.passes in
      rw e.item (omega (arith, one))

  own-less : (n : ℕ) (k : Key) → n < numbers → IsTrue (entry_is (holds n) k s) → counted m (option_map (one_less n) (entry_of k s)) + one_if m n ≡ counted m (entry_of k s) + 0
  own-less n k lt ok =
      let e = tested (holds n) k s sound ok in
      let less = held-one_less m n e.entry (omega (arith, e.sound.numbers)) (positive _ (and_right (is_at_rest e.entry) _ e.passes)) in
      rw e.item (omega (arith, less))

  own-handed : (n : ℕ) (k : Key) (to : ℕ) → n < numbers → to < numbers → IsTrue (entry_is (holds n) k s) → counted m (option_map (handed n to) (entry_of k s)) + one_if m n ≡ counted m (entry_of k s) + one_if m to
  own-handed n k to lt lt_to ok =
      let e = tested (holds n) k s sound ok in
      let less = held-one_less m n e.entry (omega (arith, e.sound.numbers)) (positive _ (and_right (is_at_rest e.entry) _ e.passes)) in
      let more = held-one_more m to (one_less n e.entry) (omega (arith, e.sound.numbers, length-set e.entry.holds n (held_by n e.entry - 1))) in
      rw e.item (omega (arith, less, more))

  own-release : (n : ℕ) (k : Key) (sole : Bool) → IsTrue (legal s (Release n k sole)) → counted m (if sole then None else option_map (one_less n) (entry_of k s)) + one_if m n ≡ counted m (entry_of k s) + 0
  own-release n k sole ok =
      let e = tested (λ x. holds n x && agree sole (holds_of x == 1)) k s sound (and_right (is_number n) _ ok) in
      let lt = number-lt n (and_left _ _ ok) in
      let some = positive _ (and_right (is_at_rest e.entry) _ (and_left (holds n e.entry) _ e.passes)) in
      go sole e.entry e.item e.sound lt some (and_right (holds n e.entry) _ e.passes)
    where
      go : (sole : Bool) (e : Entry) → entry_of k s ≡ Some e → IsSoundEntry e → n < numbers → 0 < held_by n e → agree sole (holds_of e == 1) ≡ true
          → counted m (if sole then None else option_map (one_less n) (entry_of k s)) + one_if m n ≡ counted m (entry_of k s) + 0
      go true e item entry lt some only = rw item (omega (arith, held-sole m n e (omega (arith, entry.numbers)) (omega (arith, entry.numbers)) (eqb-true (holds_of e) 1 only) some))
      go false e item entry lt some others = rw item (omega (arith, held-one_less m n e (omega (arith, entry.numbers)) some))

  own-set : (k : Key) (place : ℕ) → counted m (option_map (placed_at place) (entry_of k s)) + 0 ≡ counted m (entry_of k s) + 0
  own-set k place = go (entry_of k s)
    where
      go : (o : Option Entry) → counted m (option_map (placed_at place) o) + 0 ≡ counted m o + 0
      go None = refl
      go (Some e) = refl

  own-clear : (k : Key) → counted m (option_and_then without_place (entry_of k s)) + 0 ≡ counted m (entry_of k s) + 0
  own-clear k = go (entry_of k s) refl
    where
      go : (o : Option Entry) → entry_of k s ≡ o → counted m (option_and_then without_place o) + 0 ≡ counted m o + 0
      go None is = refl
      go (Some e) is = omega (arith, held-cleared m e (sound-entry k s e sound is))

  own-restore : (n : ℕ) (k : Key) (place : ℕ) (d : Option Digest) → IsTrue (legal s (Restore n k place d)) → get_or no_holds m 0 + 0 ≡ counted m (entry_of k s) + 0
  own-restore n k place d ok =
      let absent = not_true_is _ (and_right _ _ (and_right (is_number n) _ ok)) in
      go (entry_of k s) absent
    where
      go : (o : Option Entry) → is_some o ≡ false → get_or no_holds m 0 + 0 ≡ counted m o + 0
      go None none = omega (arith, get_or-replicate {A = ℕ} numbers m 0 0 below)
      go (Some e) none = absurd (false≢true (sym none))

-- how many holds there are on the event's own key
own-counted : (s : PlainShard) (e : Event) (m : ℕ) (k : Key) → IsSound s → IsTrue (legal s e) → m < numbers → event_key e ≡ Some k
    → counted m (entry_after s.mintime e (entry_of k s)) + lost e m k ≡ counted m (entry_of k s) + gained e m k
own-counted s (Pass n h owner) m k sound ok below is = refl
own-counted s (Hit n h t) m k sound ok below is = subst (λ j. counted m (entry_after s.mintime (Hit n h t) (entry_of j s)) + 0 ≡ counted m (entry_of j s) + hold_for n h m j) (some_is is)
    (own-hit s m sound below n h t ok ∙ ap (λ x. counted m (entry_of h s) + x) (sym (hold_for-own n m h)))
own-counted s (Miss n h t) m k sound ok below is = subst (λ j. counted m (entry_after s.mintime (Miss n h t) (entry_of j s)) + 0 ≡ counted m (entry_of j s) + hold_for n h m j) (some_is is)
    (own-miss s m sound below n h t ok ∙ ap (λ x. counted m (entry_of h s) + x) (sym (hold_for-own n m h)))
own-counted s (Arrive n h d from) m k sound ok below is = own-arrive s m sound below n k d
own-counted s (Fail n h at) m k sound ok below is = subst (λ j. 0 + hold_for n h m j ≡ counted m (entry_of j s) + 0) (some_is is)
    (ap (λ x. 0 + x) (hold_for-own n m h) ∙ own-fail s m sound below n h ok)
own-counted s (Drop n h) m k sound ok below is = subst (λ j. counted m (option_map (one_less n) (entry_of j s)) + hold_for n h m j ≡ counted m (entry_of j s) + 0) (some_is is)
    (ap (λ x. counted m (option_map (one_less n) (entry_of h s)) + x) (hold_for-own n m h) ∙ own-less s m sound below n h (number-lt n (and_left _ _ ok)) (and_right (is_number n) _ ok))
own-counted s (Past n h kept) m k sound ok below is = refl
own-counted s (Hand n h to) m k sound ok below is =
    let rest = and_right (is_number n) _ ok in
    subst (λ j. counted m (option_map (handed n to) (entry_of j s)) + hold_for n h m j ≡ counted m (entry_of j s) + hold_for to h m j) (some_is is)
    (ap (λ x. counted m (option_map (handed n to) (entry_of h s)) + x) (hold_for-own n m h)
    ∙ own-handed s m sound below n h to (number-lt n (and_left _ _ ok)) (cell-lt to (and_left _ _ rest)) (and_right (is_cell to) _ rest)
    ∙ ap (λ x. counted m (entry_of h s) + x) (sym (hold_for-own to m h)))
own-counted s (Insert n h d t) m k sound ok below is = subst (λ j. counted m (entry_after s.mintime (Insert n h d t) (entry_of j s)) + 0 ≡ counted m (entry_of j s) + hold_for n h m j) (some_is is)
    (own-insert s m sound below n h d t ok ∙ ap (λ x. counted m (entry_of h s) + x) (sym (hold_for-own n m h)))
own-counted s (Release n h sole) m k sound ok below is = subst (λ j. counted m (if sole then None else option_map (one_less n) (entry_of j s)) + hold_for n h m j ≡ counted m (entry_of j s) + 0) (some_is is)
    (ap (λ x. counted m (if sole then None else option_map (one_less n) (entry_of h s)) + x) (hold_for-own n m h) ∙ own-release s m sound below n h sole ok)
own-counted s (Pick n h) m k sound ok below is = refl
own-counted s (FeedEnd n) m k sound ok below is = refl
own-counted s (Set n h place) m k sound ok below is = own-set s m sound below k place
own-counted s (Leave n h why) m k sound ok below is = refl
own-counted s (Clear n h) m k sound ok below is = own-clear s m sound below k
own-counted s (Restore n h place d) m k sound ok below is = subst (λ j. get_or no_holds m 0 + 0 ≡ counted m (entry_of j s) + 0) (some_is is) (own-restore s m sound below n h place d ok)
own-counted s (Resize n c) m k sound ok below is = refl

-- the key that an event is about
pub about-key : (j : Key) (e : Event) → is_about j e ≡ true → event_key e ≡ Some j
about-key j e about = go (event_key e) about
  where
    go : (o : Option Key) → option_map_or (key_eq j) o false ≡ true → o ≡ Some j
    go None about = absurd (false≢true about)
    go (Some k) about = ap (λ h. Some h) (sym (key_eq-is j k about))

pub counting : (s : PlainShard) (e : Event) (m : ℕ) (j : Key) → IsSound s → IsTrue (legal s e) → m < numbers → count_of m j (after s e) + lost e m j ≡ count_of m j s + gained e m j
counting s e m j sound ok below = elim (cases_true (is_about j e)) [
  | inl own ↦
      let is = about-key j e own in
      ap (λ o. counted m o + lost e m j) (own-entry s e j sound ok is) ∙ own-counted s e m j sound ok below is
  | inr other ↦
      let same = counted-spared m (entry_of j s) (entry_of j (after s e)) (sparing s e j sound ok (ap not other)) in
      omega (arith, same, gained-other e m j other, lost-other e m j other)
]

-- ---- what is held keeps its bytes

-- what an entry at rest that is held has
held-has : (state : State) (e : Entry) → fits_state state e ≡ true → is_at_rest e ≡ true → is_unheld e ≡ false → (is_cached state ≡ true) × (is_some e.digest ≡ true)
held-has Anon e fits rest held = absurd (false≢true (sym (ap not fits) ∙ rest))
held-has Mru e fits rest held = (refl, and_right (is_at_rest e) _ fits)
held-has Mfu e fits rest held = (refl, or_other e.reading _ (not_true_is _ rest) fits)
held-has MruGhost e fits rest held = absurd (false≢true (sym held ∙ and_left (is_unheld e) _ (and_right (is_at_rest e) _ fits)))
held-has MfuGhost e fits rest held = absurd (false≢true (sym held ∙ and_left (is_unheld e) _ (and_right (is_at_rest e) _ fits)))
held-has L2Only e fits rest held = absurd (false≢true (sym held ∙ and_left (is_unheld e) _ (and_right (is_at_rest e) _ fits)))

pub held-cached : (s : PlainShard) (k : Key) (e : Entry) (n : ℕ) → IsSound s → entry_of k s ≡ Some e → IsTrue (holds n e) → IsTrue (is_resident e) × ((d : Digest) × (e.digest ≡ Some d))
held-cached s k e n sound item ok =
    let rest = and_left (is_at_rest e) _ ok in
    let has = held-has e.state e (sound-entry k s e sound item).state rest (unheld-held n e (and_right (is_at_rest e) _ ok)) in
    (both _ _ has.0 rest, is_some_of e.digest has.1)

hit-cached : (state : State) (mintime t : ℕ) (e : Entry) → is_cached state ≡ true → e.state ≡ state → is_cached (access state mintime t e).state ≡ true
hit-cached Mru mintime t e cached is = go (nat_lt (e.last + mintime) t)
  where
    go : (b : Bool) → is_cached (if b then record e { state = Mfu; last = t } else e).state ≡ true
    go true = refl
    go false = ap is_cached is
hit-cached Mfu mintime t e cached is = ap is_cached is
hit-cached Anon mintime t e cached is = absurd (false≢true cached)
hit-cached MruGhost mintime t e cached is = absurd (false≢true cached)
hit-cached MfuGhost mintime t e cached is = absurd (false≢true cached)
hit-cached L2Only mintime t e cached is = absurd (false≢true cached)

-- a state is not both with and without bytes
with-bytes : (state : State) → is_cached state ≡ true → is_without_bytes state ≡ true → ⊥
with-bytes Mru cached bare = false≢true bare
with-bytes Mfu cached bare = false≢true bare
with-bytes Anon cached bare = false≢true bare
with-bytes MruGhost cached bare = false≢true cached
with-bytes MfuGhost cached bare = false≢true cached
with-bytes L2Only cached bare = false≢true cached

-- an event of the key of an entry that is held at rest leaves its bytes and its digest, as long as it is held
module _ (s : PlainShard) (k : Key) (x : Entry) (m : ℕ) (item : entry_of k s ≡ Some x) (rest : is_at_rest x ≡ true) (cached : is_cached x.state ≡ true) where
  -- an event that finds no bytes is not legal here
  not-missing : IsTrue (is_missing k s) → ⊥
  not-missing missing = with-bytes x.state cached (let bare : is_without_bytes x.state ≡ true = rw item at missing in bare)

  not-reading : (n : ℕ) → IsTrue (entry_is (reads n) k s) → ⊥
  not-reading n reading = false≢true (sym (ap not (and_left x.reading _ (passes (reads n) k s x item reading))) ∙ rest)

  resident : is_resident x ≡ true
  resident = both _ _ cached rest

  own-hit_kept : (n t : ℕ) → HasBytes x.digest (Some (hit_entry n s.mintime t x))
  own-hit_kept n t =
      let kept = accessed-keeps x.state s.mintime t x in
      (both _ _ (hit-cached x.state s.mintime t x cached refl) (ap not kept.reading ∙ rest), kept.digest)

  own-clear_kept : HasBytes x.digest (without_place x)
  own-clear_kept = go (is_same_state x.state L2Only) refl
    where
      only : (state : State) → is_cached state ≡ true → is_same_state state L2Only ≡ false
      only Mru is = refl
      only Mfu is = refl
      only Anon is = refl
      only MruGhost is = refl
      only MfuGhost is = refl
      only L2Only is = absurd (false≢true is)

      go : (b : Bool) → is_same_state x.state L2Only ≡ b → HasBytes x.digest (if b then None else Some (record x { place = None }))
      go true is = absurd (false≢true (sym (only x.state cached) ∙ is))
      go false is = (resident, refl)

  kept-own : (e : Event) → IsTrue (legal s e) → event_key e ≡ Some k → 0 < counted m (entry_after s.mintime e (Some x)) → HasBytes x.digest (entry_after s.mintime e (Some x))
  kept-own (Pass n h owner) ok is some = (resident, refl)
  kept-own (Hit n h t) ok is some = own-hit_kept n t
  kept-own (Miss n h t) ok is some = absurd (not-missing (subst (λ j. IsTrue (is_missing j s)) (some_is is) (and_right _ _ (and_right (is_number n) _ ok))))
  kept-own (Arrive n h d from) ok is some =
      absurd (not-reading n (subst (λ j. IsTrue (entry_is (reads n) j s)) (some_is is) (entry_is-and (reads n) (may_come_from from) h s (and_right (is_number n) _ ok)).0))
  kept-own (Fail n h at) ok is some = absurd (not-reading n (subst (λ j. IsTrue (entry_is (reads n) j s)) (some_is is) (and_right (is_number n) _ ok)))
  kept-own (Drop n h) ok is some = (resident, refl)
  kept-own (Past n h kept) ok is some = (resident, refl)
  kept-own (Hand n h to) ok is some = (resident, refl)
  kept-own (Insert n h d t) ok is some = absurd (not-missing (subst (λ j. IsTrue (is_missing j s)) (some_is is) (new-missing h s (and_right _ _ (and_right (is_cell n) _ ok)))))
  kept-own (Release n h true) ok is some = absurd (omega (arith, some))
  kept-own (Release n h false) ok is some = (resident, refl)
  kept-own (Pick n h) ok is some = (resident, refl)
  kept-own (FeedEnd n) ok is some = (resident, refl)
  kept-own (Set n h place) ok is some = (resident, refl)
  kept-own (Leave n h why) ok is some = (resident, refl)
  kept-own (Clear n h) ok is some = own-clear_kept
  kept-own (Restore n h place d) ok is some =
      let absent = subst (λ j. is_some (entry_of j s) ≡ false) (some_is is) (not_true_is _ (and_right _ _ (and_right (is_number n) _ ok))) in
      absurd (false≢true (sym absent ∙ ap is_some item))
  kept-own (Resize n c) ok is some = (resident, refl)

pub held-kept : (s : PlainShard) (e : Event) (k : Key) (x : Entry) (n m : ℕ) → IsSound s → IsTrue (legal s e) → entry_of k s ≡ Some x → IsTrue (holds n x)
    → 0 < count_of m k (after s e) → HasBytes x.digest (entry_of k (after s e))
held-kept s e k x n m sound ok item holds some =
    let has = held-cached s k x n sound item holds in
    let rest = and_left (is_at_rest x) _ holds in
    let held = unheld-held n x (and_right (is_at_rest x) _ holds) in
    elim (cases_true (is_about k e)) [
      | inl own ↦
          let is = about-key k e own in
          let now : entry_of k (after s e) ≡ entry_after s.mintime e (Some x) = own-entry s e k sound ok is ∙ ap (entry_after s.mintime e) item in
          subst (HasBytes x.digest) (sym now) (kept-own s k x m item rest (and_left (is_cached x.state) _ has.0) e ok is (subst (λ o. 0 < counted m o) now some))
      | inr other ↦
          let spared : IsSpared (Some x) (entry_of k (after s e)) = subst (λ o. IsSpared o (entry_of k (after s e))) item (sparing s e k sound ok (ap not other)) in
          let same = spared-held x (entry_of k (after s e)) (ap (λ u. u && is_at_rest x) held) spared in
          subst (HasBytes x.digest) (sym same) (has.0, refl)
    ]
