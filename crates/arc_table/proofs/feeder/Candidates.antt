-- The feed's candidate: its bytes are cached at rest, it may be passed or picked, and then it is a candidate no more.
use Rattle.std.proofs.Common.{◌≡◌, ◌≢◌, ◌⊎◌, ◌==◌, if◌then◌else◌, ℕ, ◌+◌, ◌*◌, ◌<◌, ◌≤◌, List, [], ◌∷◌, ◌++◌, Bool, true, false, Option, Some, None, refl, sym, ap, ◌∙◌, subst, inl, inr, ⊎_elim, ne_eqb, arith}
use Rattle.std.specs.Prelude.{IsTrue, ◌&&◌, ◌||◌, not, is_some, is_none, nat_le, reverse, sum}
use Rattle.std.specs.List.{list_all}
use Rattle.std.specs.Option.{option_and_then, option_map_or}
use Rattle.std.proofs.lemmas.Bool.Decides.{nat_tests}
use Rattle.std.proofs.lemmas.List.Sums.{sum_by-cons}
use Rattle.std.proofs.lemmas.Option.{none-some}
use Rattle.blk_ptr.specs.declared.digest.Digest.{Digest}
use Rattle.blk_ptr.specs.declared.key.Key.{Key}
use Rattle.blk_ptr.specs.declared.state.State.{State}
use Rattle.blk_ptr.specs.declared.state.State.TheVariants.{Anon, Mru, MruGhost, Mfu, MfuGhost, L2Only}
use Rattle.blk_ptr.specs.Order.{key_eq}
use Rattle.blk_ptr.specs.State.{is_cached, is_same_state}
use Rattle.blk_ptr.proofs.Keys.{key_eq-is, key_eq-same}
use Rattle.arc_lists.specs.Room.{or_else}
use Rattle.arc_lists.specs.Sequences.{sequence_of, stands, stands_on}
use Rattle.arc_core.specs.declared.entry.Entry.{Entry}
use Rattle.arc_core.specs.declared.entry.Picked.{Picked}
use Rattle.arc_core.specs.declared.event.Event.TheVariants.{FeedEnd, Pass, Pick}
use Rattle.arc_core.specs.Candidate.{candidate, may_be_picked, walk}
use Rattle.arc_core.specs.Changes.{pick_of}
use Rattle.arc_core.specs.PlainShard.{PlainShard, entry_is, entry_of, holds_of, is_at_rest, place_of, is_passed, is_resident, is_unheld, numbers}
use Rattle.arc_core.specs.Sound.{IsSound, belongs_on, fits_reading, fits_state}
use Rattle.arc_core.specs.Step.{after, legal, may_pick}
use Rattle.arc_core.proofs.Feeding.{candidate-chosen, candidate-wanted}
use Rattle.arc_core.proofs.Scanning.{oldest-in, sequence-stands}
use Rattle.arc_table.proofs.feeder.FeedEvents.{number_is}
use Rattle.arc_table.proofs.reads.HitEvents.{passing}
use Rattle.arc_table.proofs.scans.ScanRoom.{count_less, stands_with}
use Rattle.arc_table.proofs.ShardGives.{entry_sound}
use Rattle.arc_table.proofs.Standings.{both_true, or_false}
use Rattle.arc_table.specs.feeder.Picking.{left_to_pick}

pub and_true : (a b : Bool) → a ≡ true → b ≡ true → (a && b) ≡ true
and_true a b h k = λ z. h z && k z

-- ---- it stands on MRU or MFU

walk_stands : (limit met : ℕ) (wanted : Key → Bool) (ks : List Key) (k : Key) → walk limit met wanted ks ≡ Some k → stands_on k ks ≡ true
walk_stands limit met wanted [] k found = absurd (none-some k found)
walk_stands limit met wanted (x ∷ xs) k found = by_tests (nat_le (met + x.size) limit) (wanted x) (walk_stands limit (met + x.size) wanted xs k) found
  where
    same : (x y : Key) → ◌≡◌ {A = Option Key} (Some x) (Some y) → x ≡ y
    same x y e = cc

    or_right : (a b : Bool) → b ≡ true → (a || b) ≡ true
    or_right true b h = refl
    or_right false b h = h

    by_tests : (a b : Bool) → (walk limit (met + x.size) wanted xs ≡ Some k → stands_on k xs ≡ true) → (if a then (if b then Some x else walk limit (met + x.size) wanted xs) else None) ≡ Some k → (key_eq x k || stands_on k xs) ≡ true
    by_tests true true ih e = ap (λ (z : Key). key_eq x z || stands_on k xs) (sym (same x k e)) ∙ ap (λ (b : Bool). b || stands_on k xs) (key_eq-same x)
    by_tests true false ih e = or_right (key_eq x k) (stands_on k xs) (ih e)
    by_tests false b ih e = absurd (none-some k e)

pub stands_in : (s : PlainShard) (k : Key) → candidate s ≡ Some k → (stands_on k (sequence_of Mfu s.sequences) ≡ true) ⊎ (stands_on k (sequence_of Mru s.sequences) ≡ true)
stands_in s k is = go (walk limit 0 (may_be_picked s) (reverse s.sequences.mfu)) (walk limit 0 (may_be_picked s) (reverse s.sequences.mru)) refl refl (candidate-chosen s k is)
  where
    limit : ℕ
    limit = s.bounds.write_max * s.bounds.headroom

    go : (a b : Option Key) → walk limit 0 (may_be_picked s) (reverse s.sequences.mfu) ≡ a → walk limit 0 (may_be_picked s) (reverse s.sequences.mru) ≡ b → or_else a b ≡ Some k
        → (stands_on k (sequence_of Mfu s.sequences) ≡ true) ⊎ (stands_on k (sequence_of Mru s.sequences) ≡ true)
    go None b mfu mru e = inr (oldest-in Mru s k (walk_stands limit 0 (may_be_picked s) (reverse s.sequences.mru) k (mru ∙ e)))
    go (Some x) b mfu mru e = inl (oldest-in Mfu s k (walk_stands limit 0 (may_be_picked s) (reverse s.sequences.mfu) k (mfu ∙ e)))

pub candidate_stands : (s : PlainShard) (k : Key) → candidate s ≡ Some k → stands k s.sequences ≡ true
candidate_stands s k is = ⊎_elim (sequence-stands Mfu s k) (sequence-stands Mru s k) (stands_in s k is)

-- ---- so its bytes are cached at rest, with a digest

pub record IsCandidate (s : PlainShard) (k : Key) : Type 0 where
  pub entry : Entry
  pub there : entry_of k s ≡ Some entry
  pub resident : is_resident entry ≡ true
  pub digest : Digest
  pub digest_is : entry.digest ≡ Some digest

none_held : (xs : List ℕ) → list_all (λ count. count == 0) xs ≡ true → sum xs ≡ 0
none_held [] h = refl
none_held (x ∷ xs) h =
    let two = both_true (x == 0) _ h in
    let ih = none_held xs two.1 in
    let zero : x ≡ 0 = is_zero x two.0 in
    let s = sum_by-cons (λ y. y) x xs in
    omega arith
  where
    is_zero : (x : ℕ) → (x == 0) ≡ true → x ≡ 0
    is_zero x h = grind (arith, nat_tests)

unheld_rests : (e : Entry) → is_unheld e ≡ true → fits_reading e ≡ true → e.reading ≡ false
unheld_rests e unheld fits = by_reading e.reading refl
  where
    by_reading : (b : Bool) → e.reading ≡ b → e.reading ≡ false
    by_reading false r = r
    by_reading true r =
        let none : holds_of e ≡ 0 = none_held e.holds unheld in
        let held : (holds_of e == 1) ≡ true = (both_true (holds_of e == 1) _ (or_false (is_at_rest e) _ (ap not r) fits)).0 in
        let zero_is : (holds_of e == 1) ≡ false = ap (λ (x : ℕ). x == 1) none in
        let f : false ≡ true = sym zero_is ∙ held in absurd (cc)

some_digest : (o : Option Digest) → is_some o ≡ true → (d : Digest) × (o ≡ Some d)
some_digest None h = absurd (cc)
some_digest (Some d) h = (d, refl)

is_mru : (s : State) → is_same_state s Mru ≡ true → s ≡ Mru
is_mru Mru h = refl
is_mru Anon h = absurd (cc)
is_mru MruGhost h = absurd (cc)
is_mru Mfu h = absurd (cc)
is_mru MfuGhost h = absurd (cc)
is_mru L2Only h = absurd (cc)

is_mfu : (s : State) → is_same_state s Mfu ≡ true → s ≡ Mfu
is_mfu Mfu h = refl
is_mfu Anon h = absurd (cc)
is_mfu Mru h = absurd (cc)
is_mfu MruGhost h = absurd (cc)
is_mfu MfuGhost h = absurd (cc)
is_mfu L2Only h = absurd (cc)

pub candidate_is : (s : PlainShard) (k : Key) → IsSound s → candidate s ≡ Some k → IsCandidate s k
candidate_is s k sound is = ⊎_elim (λ h. of_mfu (sym (sound.tidy.mfu.exact k) ∙ h)) (λ h. of_mru (sym (sound.tidy.mru.exact k) ∙ h)) (stands_in s k is)
  where
    of_mru : entry_is (belongs_on Mru) k s ≡ true → IsCandidate s k
    of_mru h =
        let p = passing (belongs_on Mru) k s h in
        let two = both_true (is_unheld p.entry) _ p.passes in
        let one = entry_sound k s.entries p.entry sound.tidy.entries p.there in
        let state = is_mru p.entry.state two.1 in
        let rest = unheld_rests p.entry two.0 one.reading in
        let d = some_digest p.entry.digest (both_true (is_at_rest p.entry) _ (subst (λ (x : State). fits_state x p.entry ≡ true) state one.state)).1 in
        record { entry = p.entry; there = p.there; resident = and_true _ _ (ap is_cached state) (ap not rest); digest = d.0; digest_is = d.1 }

    of_mfu : entry_is (belongs_on Mfu) k s ≡ true → IsCandidate s k
    of_mfu h =
        let p = passing (belongs_on Mfu) k s h in
        let two = both_true (is_unheld p.entry) _ p.passes in
        let one = entry_sound k s.entries p.entry sound.tidy.entries p.there in
        let state = is_mfu p.entry.state two.1 in
        let rest = unheld_rests p.entry two.0 one.reading in
        let d = some_digest p.entry.digest (or_false p.entry.reading _ rest (subst (λ (x : State). fits_state x p.entry ≡ true) state one.state)) in
        record { entry = p.entry; there = p.there; resident = and_true _ _ (ap is_cached state) (ap not rest); digest = d.0; digest_is = d.1 }

-- ---- what may come

pub pass_legal : (n owner : ℕ) (k : Key) (s : PlainShard) → n < numbers → owner ≤ 16 → owner ≢ n → candidate s ≡ Some k → IsTrue (legal s (Pass n k owner))
pass_legal n owner k s number party apart is =
    and_true _ _ (number_is n number) (and_true _ _ (candidate_stands s k is) (and_true _ _ (ap not (candidate-wanted s k is).unpassed) (and_true _ _ (ap not (ne_eqb owner n apart)) (at_most owner party))))
  where
    at_most : (x : ℕ) → x ≤ 16 → nat_le x 16 ≡ true
    at_most x h = grind (arith, nat_tests)

pub pick_legal : (n : ℕ) (k : Key) (s : PlainShard) → n < numbers → may_pick s.phase ≡ true → candidate s ≡ Some k → IsTrue (legal s (Pick n k))
pick_legal n k s number phase is = and_true _ _ (number_is n number) (and_true _ _ phase (ap (λ (o : Option Key). option_map_or (λ x. key_eq x k) o false) is ∙ key_eq-same k))

pub end_legal : (n : ℕ) (s : PlainShard) → n < numbers → may_pick s.phase ≡ true → candidate s ≡ None → IsTrue (legal s (FeedEnd n))
end_legal n s number phase is = and_true _ _ (number_is n number) (and_true _ _ phase (ap is_none is))

-- ---- fewer are left

first_of : (a b c : Bool) → (not a && (not b && not c)) ≡ true → a ≡ false
first_of true b c h = absurd (cc)
first_of false b c h = refl

wanted_is : (a b c : Bool) → (not a && (not b && not c)) ≡ true → (not b ≡ true) × (not c ≡ true)
wanted_is true b c h = absurd (cc)
wanted_is false true c h = absurd (cc)
wanted_is false false true h = absurd (cc)
wanted_is false false false h = (refl, refl)

no_more : (a b c : Bool) → c ≡ true → (not a && (not b && not c)) ≡ false
no_more true b c h = refl
no_more false true c h = refl
no_more false false c h = ap not h

no_pick : (a b c : Bool) → b ≡ true → (not a && (not b && not c)) ≡ false
no_pick true b c h = refl
no_pick false b c h = ap (λ (x : Bool). not x && not c) h

or_none : (a b : Bool) → not (a || b) ≡ true → not b ≡ true
or_none true b h = absurd (cc)
or_none false b h = h

pub fewer_passed : (n owner : ℕ) (k : Key) (s : PlainShard) (e : Entry) → entry_of k s ≡ Some e → may_be_picked s k ≡ true → left_to_pick (after s (Pass n k owner)) < left_to_pick s
fewer_passed n owner k s x there wanted = count_less (λ e. may_be_picked s e.key) (λ e. may_be_picked (after s (Pass n k owner)) e.key) k s.entries x covers there at
  where
    s' : PlainShard
    s' = after s (Pass n k owner)

    covers : (e : Entry) → may_be_picked (after s (Pass n k owner)) e.key ≡ true → may_be_picked s e.key ≡ true
    covers e h =
        let p = is_some (place_of e.key s) in
        let w = wanted_is p (is_some (pick_of e.key s.picked)) (is_passed (after s (Pass n k owner)) e.key) h in
        and_true _ _ (ap not (first_of p (is_some (pick_of e.key s.picked)) (is_passed (after s (Pass n k owner)) e.key) h))
        (and_true _ _ w.0 (or_none (key_eq k e.key) (is_passed s e.key) (ap not (sym (stands_with e.key k s.passed)) ∙ w.1)))

    at : (e : Entry) → key_eq e.key k ≡ true → (may_be_picked s e.key ≡ true) × (may_be_picked (after s (Pass n k owner)) e.key ≡ false)
    at e is = subst (λ (z : Key). (may_be_picked s z ≡ true) × (may_be_picked (after s (Pass n k owner)) z ≡ false)) (sym (key_eq-is e.key k is)) (
      wanted,
      no_more (is_some (place_of k s)) (is_some (pick_of k s.picked)) (is_passed (after s (Pass n k owner)) k)
          (stands_with k k s.passed ∙ ap (λ (b : Bool). b || stands_on k s.passed) (key_eq-same k)),
    )

pick_last : (k : Key) (picks : List Picked) (p : Picked) → key_eq p.key k ≡ true → is_some (pick_of k (picks ++ p ∷ [])) ≡ true
pick_last k [] p h = ap (λ (b : Bool). is_some (if b then Some p else None)) h
pick_last k (x ∷ xs) p h = by_test (pick_last k xs p h) (key_eq x.key k)
  where
    by_test : is_some (pick_of k (xs ++ p ∷ [])) ≡ true → (b : Bool) → is_some (if b then Some x else pick_of k (xs ++ p ∷ [])) ≡ true
    by_test ih true = refl
    by_test ih false = ih

pick_front : (k : Key) (picks : List Picked) (p : Picked) → is_some (pick_of k (picks ++ p ∷ [])) ≡ false → is_some (pick_of k picks) ≡ false
pick_front k [] p h = refl
pick_front k (x ∷ xs) p h = by_test (pick_front k xs p) (key_eq x.key k) h
  where
    by_test : (is_some (pick_of k (xs ++ p ∷ [])) ≡ false → is_some (pick_of k xs) ≡ false) → (b : Bool) → is_some (if b then Some x else pick_of k (xs ++ p ∷ [])) ≡ false → is_some (if b then Some x else pick_of k xs) ≡ false
    by_test ih true e = e
    by_test ih false e = ih e

not_true : (b : Bool) → not b ≡ true → b ≡ false
not_true true h = absurd (cc)
not_true false h = refl

pub fewer_picked : (n : ℕ) (k : Key) (s : PlainShard) (e : Entry) → entry_of k s ≡ Some e → may_be_picked s k ≡ true → left_to_pick (after s (Pick n k)) < left_to_pick s
fewer_picked n k s x there wanted = count_less (λ e. may_be_picked s e.key) (λ e. may_be_picked (after s (Pick n k)) e.key) k s.entries x covers there at
  where
    covers : (e : Entry) → may_be_picked (after s (Pick n k)) e.key ≡ true → may_be_picked s e.key ≡ true
    covers e h =
        let p = is_some (place_of e.key s) in
        let w = wanted_is p (is_some (pick_of e.key (after s (Pick n k)).picked)) (is_passed s e.key) h in
        and_true _ _ (ap not (first_of p (is_some (pick_of e.key (after s (Pick n k)).picked)) (is_passed s e.key) h))
        (and_true _ _ (ap not (pick_front e.key s.picked record { key = k; digest = option_and_then (λ y. y.digest) (entry_of k s) } (not_true _ w.0))) w.1)

    at : (e : Entry) → key_eq e.key k ≡ true → (may_be_picked s e.key ≡ true) × (may_be_picked (after s (Pick n k)) e.key ≡ false)
    at e is = subst (λ (z : Key). (may_be_picked s z ≡ true) × (may_be_picked (after s (Pick n k)) z ≡ false)) (sym (key_eq-is e.key k is)) (
      wanted,
      no_pick (is_some (place_of k s)) (is_some (pick_of k (after s (Pick n k)).picked)) (is_passed s k)
          (pick_last k s.picked record { key = k; digest = option_and_then (λ y. y.digest) (entry_of k s) } (key_eq-same k)),
    )
