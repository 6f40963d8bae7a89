-- What each event leaves of other keys' entries, and what it makes of its own key's.
use Rattle.std.proofs.Common.{◌≡◌, ℕ, Bool, true, false, not, ◌&&◌, if◌then◌else◌, IsTrue, List, [], Option, Some, None, refl, sym, ap, subst, ◌∙◌}
use Rattle.std.specs.Option.{option_and_then, option_map, option_map_or}
use Rattle.std.proofs.lemmas.Bool.{false≢true}
use Rattle.blk_ptr.specs.declared.key.Key.{Key}
use Rattle.blk_ptr.specs.declared.digest.Digest.{Digest}
use Rattle.blk_ptr.specs.declared.state.State.TheVariants.{L2Only}
use Rattle.blk_ptr.specs.Key.{is_well_formed}
use Rattle.blk_ptr.specs.Order.{key_eq}
use Rattle.blk_ptr.specs.State.{is_same_state}
use Rattle.blk_ptr.proofs.Keys.{key_eq-sym}
use Rattle.arc_lists.specs.ByKey.{item_at}
use Rattle.arc_lists.specs.Sequences.{stands, stands_on}
use Rattle.arc_lists.proofs.Standing.{and_left, and_right, both, not_true, not_true_is}
use Rattle.arc_lists.proofs.Tables.{item_at-with_item_other, item_at-with_item_same, item_at-without_other, item_at-without_same, some_is}
use Rattle.arc_core.specs.declared.entry.Entry.{Entry}
use Rattle.arc_core.specs.declared.event.Event.{Event}
use Rattle.arc_core.specs.declared.event.Event.TheVariants.{Pass, Hit, Miss, Arrive, Fail, Drop, Past, Hand, Insert, Release, Pick, FeedEnd, Set, Leave, Clear, Restore, Resize}
use Rattle.arc_core.specs.PlainShard.{PlainShard, entry_is, entry_key, entry_of, is_cell, is_number, is_passed}
use Rattle.arc_core.specs.Changes.{changed, gone, one_less}
use Rattle.arc_core.specs.Changing.{KeepsFrame, entry_after, handed, placed_at, without_place}
use Rattle.arc_core.specs.Operations.{event_key, is_about}
use Rattle.arc_core.specs.Rules.{resized, with_target_for}
use Rattle.arc_core.specs.Sound.{IsSound}
use Rattle.arc_core.specs.Sparing.{IsSpared, next_victim, victims}
use Rattle.arc_core.specs.Step.{after, arrived, cleared, hit_entry, legal, read_entry, restored_entry, written_entry}
use Rattle.arc_core.proofs.Accesses.{IsSoundEntry-written, held-one_hold}
use Rattle.arc_core.proofs.EntriesAfter.{changed-other, entry_of-drop_other, given_back-entries, hit-key, own-changed}
use Rattle.arc_core.proofs.Evictions.{absent-changed}
use Rattle.arc_core.proofs.Legal.{cell-lt, miss-off, miss-sound, number-lt}
use Rattle.arc_core.proofs.Sparing.{entry_of-insert, entry_of-miss, insert-off, spared-insert, spared-miss, spared-same, sparing-fitted, tidy-resized, tidy-target}
use Rattle.arc_core.proofs.Victims.{Standing, fitted-others, fitting-stands, kept-fitted, kept-given_back, kept-taken_in, taken_in-others, unfound, victims-stand}

-- ---- another key's entry

-- what stays is spared
unchanged : (a b : Option Entry) → b ≡ a → IsSpared a b
unchanged a b same = subst (λ o. IsSpared a o) (sym same) (spared-same a)

-- a change of a key's entry that keeps its key leaves the others
other-cleared : (s : PlainShard) (k j : Key) → key_eq j k ≡ false → entry_of j (cleared k s) ≡ entry_of j s
other-cleared s k j apart = go (entry_is (λ e. is_same_state e.state L2Only) k s)
  where
    go : (b : Bool) → entry_of j (if b then gone k s else changed k (λ e. record e { place = None }) s) ≡ entry_of j s
    go true = item_at-without_other entry_key j k s.entries apart
    go false = changed-other (λ e. record e { place = None }) (λ x. refl) j k s apart

other-release : (s : PlainShard) (n : ℕ) (k j : Key) (sole : Bool) → key_eq j k ≡ false → entry_of j (after s (Release n k sole)) ≡ entry_of j s
other-release s n k j true apart = item_at-without_other entry_key j k s.entries apart
other-release s n k j false apart = changed-other (one_less n) (λ x. refl) j k s apart

other-restore : (s : PlainShard) (n : ℕ) (k j : Key) (place : ℕ) (d : Option Digest) → key_eq j k ≡ false → entry_of j (after s (Restore n k place d)) ≡ entry_of j s
other-restore s n k j place d apart = item_at-with_item_other entry_key j (restored_entry k place d) s.entries (key_eq-sym k j ∙ apart)

pub sparing : (s : PlainShard) (e : Event) (j : Key) → IsSound s → IsTrue (legal s e) → IsTrue (not (is_about j e)) → IsSpared (entry_of j s) (entry_of j (after s e))
sparing s (Pass n k owner) j sound ok apart = spared-same (entry_of j s)
sparing s (Hit n k t) j sound ok apart = unchanged _ _ (changed-other (hit_entry n s.mintime t) (hit-key n s.mintime t) j k s (not_true_is _ apart))
sparing s (Miss n k t) j sound ok apart = spared-miss s n t k j sound ok (not_true_is _ apart)
sparing s (Arrive n k d from) j sound ok apart = unchanged _ _ (changed-other (arrived d) (λ x. refl) j k s (not_true_is _ apart))
sparing s (Fail n k at) j sound ok apart = unchanged _ _ (item_at-without_other entry_key j k s.entries (not_true_is _ apart))
sparing s (Drop n k) j sound ok apart = unchanged _ _ (entry_of-drop_other s n k j (not_true_is _ apart))
sparing s (Past n k kept) j sound ok apart = spared-same (entry_of j s)
sparing s (Hand n k to) j sound ok apart = unchanged _ _ (changed-other (handed n to) (λ x. refl) j k s (not_true_is _ apart))
sparing s (Insert n k d t) j sound ok apart = spared-insert s n t k j d sound ok (not_true_is _ apart)
sparing s (Release n k sole) j sound ok apart = unchanged _ _ (other-release s n k j sole (not_true_is _ apart))
sparing s (Pick n k) j sound ok apart = spared-same (entry_of j s)
sparing s (FeedEnd n) j sound ok apart = spared-same (entry_of j s)
sparing s (Set n k place) j sound ok apart = unchanged _ _ (changed-other (placed_at place) (λ x. refl) j k s (not_true_is _ apart))
sparing s (Leave n k why) j sound ok apart = spared-same (entry_of j s)
sparing s (Clear n k) j sound ok apart = unchanged _ _ (other-cleared s k j (not_true_is _ apart))
sparing s (Restore n k place d) j sound ok apart = unchanged _ _ (other-restore s n k j place d (not_true_is _ apart))
sparing s (Resize n c) j sound ok apart = (sparing-fitted j (resized c s) (tidy-resized c s sound.tidy)).spared

pub sparing-others : (s : PlainShard) (e : Event) (j : Key) → IsSound s → IsTrue (legal s e) → IsTrue (not (is_about j e)) → IsTrue (not (stands_on j (victims s e)))
    → entry_of j (after s e) ≡ entry_of j s
sparing-others s (Pass n k owner) j sound ok apart off = refl
sparing-others s (Hit n k t) j sound ok apart off = changed-other (hit_entry n s.mintime t) (hit-key n s.mintime t) j k s (not_true_is _ apart)
sparing-others s (Miss n k t) j sound ok apart off = taken_in-others (read_entry n k t s) (with_target_for k s) j (not_true_is _ apart) (not_true_is _ off)
sparing-others s (Arrive n k d from) j sound ok apart off = changed-other (arrived d) (λ x. refl) j k s (not_true_is _ apart)
sparing-others s (Fail n k at) j sound ok apart off = item_at-without_other entry_key j k s.entries (not_true_is _ apart)
sparing-others s (Drop n k) j sound ok apart off = entry_of-drop_other s n k j (not_true_is _ apart)
sparing-others s (Past n k kept) j sound ok apart off = refl
sparing-others s (Hand n k to) j sound ok apart off = changed-other (handed n to) (λ x. refl) j k s (not_true_is _ apart)
sparing-others s (Insert n k d t) j sound ok apart off = taken_in-others (written_entry n k d t) s j (not_true_is _ apart) (not_true_is _ off)
sparing-others s (Release n k sole) j sound ok apart off = other-release s n k j sole (not_true_is _ apart)
sparing-others s (Pick n k) j sound ok apart off = refl
sparing-others s (FeedEnd n) j sound ok apart off = refl
sparing-others s (Set n k place) j sound ok apart off = changed-other (placed_at place) (λ x. refl) j k s (not_true_is _ apart)
sparing-others s (Leave n k why) j sound ok apart off = refl
sparing-others s (Clear n k) j sound ok apart off = other-cleared s k j (not_true_is _ apart)
sparing-others s (Restore n k place d) j sound ok apart off = other-restore s n k j place d (not_true_is _ apart)
sparing-others s (Resize n c) j sound ok apart off = fitted-others (resized c s) j (not_true_is _ off)

pub sparing-unmarked : (s : PlainShard) (marked : List Key) (e : Event) (j : Key) → IsSound s → IsTrue (legal s e) → IsTrue (not (is_about j e))
    → next_victim s marked e ≡ None → IsTrue (not (stands_on j marked)) → entry_of j (after s e) ≡ entry_of j s
sparing-unmarked s marked e j sound ok apart none unmarked =
    sparing-others s e j sound ok apart (not_true _ (unfound (λ k. not (stands_on k marked)) (victims s e) j none unmarked))

-- a victim as the law says it
as-said : (s : PlainShard) (k : Key) (about : Bool) → Standing k s → about ≡ false → IsTrue (stands k s.sequences && (not (is_passed s k) && not about))
as-said s k about stood apart = both _ _ stood.stood (both _ _ (not_true _ stood.unpassed) (not_true _ apart))

pub standing-victim : (s : PlainShard) (e : Event) (k : Key) → IsSound s → IsTrue (legal s e) → IsTrue (stands_on k (victims s e))
    → IsTrue (stands k s.sequences && (not (is_passed s k) && not (is_about k e)))
standing-victim s (Miss n h t) k sound ok there =
    let lt = number-lt n (and_left _ _ ok) in
    let u = with_target_for h s in
    let stood = victims-stand (read_entry n h t s) u (tidy-target h s sound.tidy) (miss-off n h t s ok) (miss-sound n h t s ok) (held-one_hold n lt) k there in
    as-said s k (key_eq k h) (record { stood = stood.standing.stood; unpassed = stood.standing.unpassed }) stood.other
standing-victim s (Insert n h d t) k sound ok there =
    let lt = cell-lt n (and_left _ _ ok) in
    let entry = IsSoundEntry-written n h d t (and_left _ _ (and_right (is_cell n) _ ok)) in
    let stood = victims-stand (written_entry n h d t) s sound.tidy (insert-off n h d t lt) entry (held-one_hold n lt) k there in
    as-said s k (key_eq k h) stood.standing stood.other
standing-victim s (Resize n c) k sound ok there =
    let stood = fitting-stands (resized c s) k (tidy-resized c s sound.tidy) there in
    as-said s k false (record { stood = stood.stood; unpassed = stood.unpassed }) refl
standing-victim s (Pass n h owner) k sound ok there = absurd (false≢true there)
standing-victim s (Hit n h t) k sound ok there = absurd (false≢true there)
standing-victim s (Arrive n h d from) k sound ok there = absurd (false≢true there)
standing-victim s (Fail n h at) k sound ok there = absurd (false≢true there)
standing-victim s (Drop n h) k sound ok there = absurd (false≢true there)
standing-victim s (Past n h kept) k sound ok there = absurd (false≢true there)
standing-victim s (Hand n h to) k sound ok there = absurd (false≢true there)
standing-victim s (Release n h sole) k sound ok there = absurd (false≢true there)
standing-victim s (Pick n h) k sound ok there = absurd (false≢true there)
standing-victim s (FeedEnd n) k sound ok there = absurd (false≢true there)
standing-victim s (Set n h place) k sound ok there = absurd (false≢true there)
standing-victim s (Leave n h why) k sound ok there = absurd (false≢true there)
standing-victim s (Clear n h) k sound ok there = absurd (false≢true there)
standing-victim s (Restore n h place d) k sound ok there = absurd (false≢true there)

-- ---- the entry of the event's own key

own-cleared : (s : PlainShard) (k : Key) → IsSound s → entry_of k (cleared k s) ≡ option_and_then without_place (entry_of k s)
own-cleared s k sound = go (entry_of k s) refl
  where
    unplaced : Entry → Entry
    unplaced e = record e { place = None }

    go : (o : Option Entry) → entry_of k s ≡ o
        → entry_of k (if option_map_or (λ (e : Entry). is_same_state e.state L2Only) o false then gone k s else changed k (λ e. record e { place = None }) s) ≡ option_and_then without_place o
    go None is = absent-changed k k (λ e. record e { place = None }) s.entries (λ x. refl) is
    go (Some e) is = pick (is_same_state e.state L2Only)
      where
        pick : (b : Bool) → entry_of k (if b then gone k s else changed k (λ e. record e { place = None }) s) ≡ (if b then None else Some (record e { place = None }))
        pick true = item_at-without_same entry_key k s.entries sound.tidy.once
        pick false = own-changed (λ e. record e { place = None }) (λ x. refl) k s ∙ ap (option_map (λ (e : Entry). record e { place = None })) is

own-release : (s : PlainShard) (n : ℕ) (k : Key) (sole : Bool) → IsSound s → entry_of k (after s (Release n k sole)) ≡ (if sole then None else option_map (one_less n) (entry_of k s))
own-release s n k true sound = item_at-without_same entry_key k s.entries sound.tidy.once
own-release s n k false sound = own-changed (one_less n) (λ x. refl) k s

pub own-entry : (s : PlainShard) (e : Event) (k : Key) → IsSound s → IsTrue (legal s e) → event_key e ≡ Some k → entry_of k (after s e) ≡ entry_after s.mintime e (entry_of k s)
own-entry s (Pass n h owner) k sound ok is = refl
own-entry s (Hit n h t) k sound ok is = subst (λ j. entry_of j (after s (Hit n h t)) ≡ option_map (hit_entry n s.mintime t) (entry_of j s)) (some_is is) (own-changed (hit_entry n s.mintime t) (hit-key n s.mintime t) h s)
own-entry s (Miss n h t) k sound ok is = subst (λ j. entry_of j (after s (Miss n h t)) ≡ entry_after s.mintime (Miss n h t) (entry_of j s)) (some_is is) (entry_of-miss s n t h sound ok)
own-entry s (Arrive n h d from) k sound ok is = subst (λ j. entry_of j (after s (Arrive n h d from)) ≡ option_map (arrived d) (entry_of j s)) (some_is is) (own-changed (arrived d) (λ x. refl) h s)
own-entry s (Fail n h at) k sound ok is = subst (λ j. entry_of j (after s (Fail n h at)) ≡ None) (some_is is) (item_at-without_same entry_key h s.entries sound.tidy.once)
own-entry s (Drop n h) k sound ok is = subst (λ j. entry_of j (after s (Drop n h)) ≡ option_map (one_less n) (entry_of j s)) (some_is is)
    (ap (item_at entry_key h) (given_back-entries n h s) ∙ own-changed (one_less n) (λ x. refl) h s)
own-entry s (Past n h kept) k sound ok is = refl
own-entry s (Hand n h to) k sound ok is = subst (λ j. entry_of j (after s (Hand n h to)) ≡ option_map (handed n to) (entry_of j s)) (some_is is) (own-changed (handed n to) (λ x. refl) h s)
own-entry s (Insert n h d t) k sound ok is = subst (λ j. entry_of j (after s (Insert n h d t)) ≡ Some (written_entry n h d t)) (some_is is) (entry_of-insert s n t h d sound ok)
own-entry s (Release n h sole) k sound ok is = subst (λ j. entry_of j (after s (Release n h sole)) ≡ (if sole then None else option_map (one_less n) (entry_of j s))) (some_is is) (own-release s n h sole sound)
own-entry s (Pick n h) k sound ok is = refl
own-entry s (FeedEnd n) k sound ok is = refl
own-entry s (Set n h place) k sound ok is = subst (λ j. entry_of j (after s (Set n h place)) ≡ option_map (placed_at place) (entry_of j s)) (some_is is) (own-changed (placed_at place) (λ x. refl) h s)
own-entry s (Leave n h why) k sound ok is = refl
own-entry s (Clear n h) k sound ok is = subst (λ j. entry_of j (after s (Clear n h)) ≡ option_and_then without_place (entry_of j s)) (some_is is) (own-cleared s h sound)
own-entry s (Restore n h place d) k sound ok is =
    let absent = not_true_is _ (and_right (is_well_formed h) _ (and_right (is_number n) _ ok)) in
    subst (λ j. entry_of j (after s (Restore n h place d)) ≡ Some (restored_entry h place d)) (some_is is) (item_at-with_item_same entry_key (restored_entry h place d) s.entries absent)
own-entry s (Resize n c) k sound ok is = let none : None ≡ Some k = is in cc

-- ---- the frame

frame-settled : {X : Type 0} {a b : X} → IsTrue (not true) → a ≡ b
frame-settled never = absurd (false≢true never)

pub frame-kept : (s : PlainShard) (e : Event) → KeepsFrame e s (after s e)
frame-kept s (Pass n k owner) = record { c = refl; mintime = refl; bounds = refl; phase = λ f. refl; picked = λ f. refl; passed = frame-settled }
frame-kept s (Hit n k t) = record { c = refl; mintime = refl; bounds = refl; phase = λ f. refl; picked = λ f. refl; passed = λ f. refl }
frame-kept s (Miss n k t) = record {
  c = kept-taken_in (λ (u : PlainShard). u.c) (λ u es q. refl) (read_entry n k t s) (with_target_for k s);
  mintime = kept-taken_in (λ (u : PlainShard). u.mintime) (λ u es q. refl) (read_entry n k t s) (with_target_for k s);
  bounds = kept-taken_in (λ (u : PlainShard). u.bounds) (λ u es q. refl) (read_entry n k t s) (with_target_for k s);
  phase = λ f. kept-taken_in (λ (u : PlainShard). u.phase) (λ u es q. refl) (read_entry n k t s) (with_target_for k s);
  picked = λ f. kept-taken_in (λ (u : PlainShard). u.picked) (λ u es q. refl) (read_entry n k t s) (with_target_for k s);
  passed = λ f. refl;
}
frame-kept s (Arrive n k d from) = record { c = refl; mintime = refl; bounds = refl; phase = λ f. refl; picked = λ f. refl; passed = λ f. refl }
frame-kept s (Fail n k at) = record { c = refl; mintime = refl; bounds = refl; phase = λ f. refl; picked = λ f. refl; passed = λ f. refl }
frame-kept s (Drop n k) = record {
  c = kept-given_back (λ (u : PlainShard). u.c) (λ u es q. refl) n k s;
  mintime = kept-given_back (λ (u : PlainShard). u.mintime) (λ u es q. refl) n k s;
  bounds = kept-given_back (λ (u : PlainShard). u.bounds) (λ u es q. refl) n k s;
  phase = λ f. kept-given_back (λ (u : PlainShard). u.phase) (λ u es q. refl) n k s;
  picked = λ f. kept-given_back (λ (u : PlainShard). u.picked) (λ u es q. refl) n k s;
  passed = λ f. refl;
}
frame-kept s (Past n k kept) = record { c = refl; mintime = refl; bounds = refl; phase = λ f. refl; picked = λ f. refl; passed = λ f. refl }
frame-kept s (Hand n k to) = record { c = refl; mintime = refl; bounds = refl; phase = λ f. refl; picked = λ f. refl; passed = λ f. refl }
frame-kept s (Insert n k d t) = record {
  c = kept-taken_in (λ (u : PlainShard). u.c) (λ u es q. refl) (written_entry n k d t) s;
  mintime = kept-taken_in (λ (u : PlainShard). u.mintime) (λ u es q. refl) (written_entry n k d t) s;
  bounds = kept-taken_in (λ (u : PlainShard). u.bounds) (λ u es q. refl) (written_entry n k d t) s;
  phase = λ f. kept-taken_in (λ (u : PlainShard). u.phase) (λ u es q. refl) (written_entry n k d t) s;
  picked = λ f. kept-taken_in (λ (u : PlainShard). u.picked) (λ u es q. refl) (written_entry n k d t) s;
  passed = λ f. refl;
}
frame-kept s (Release n k true) = record { c = refl; mintime = refl; bounds = refl; phase = λ f. refl; picked = λ f. refl; passed = λ f. refl }
frame-kept s (Release n k false) = record { c = refl; mintime = refl; bounds = refl; phase = λ f. refl; picked = λ f. refl; passed = λ f. refl }
frame-kept s (Pick n k) = record { c = refl; mintime = refl; bounds = refl; phase = frame-settled; picked = frame-settled; passed = frame-settled }
frame-kept s (FeedEnd n) = record { c = refl; mintime = refl; bounds = refl; phase = frame-settled; picked = frame-settled; passed = λ f. refl }
frame-kept s (Set n k place) = record { c = refl; mintime = refl; bounds = refl; phase = frame-settled; picked = frame-settled; passed = λ f. refl }
frame-kept s (Leave n k why) = record { c = refl; mintime = refl; bounds = refl; phase = frame-settled; picked = frame-settled; passed = λ f. refl }
frame-kept s (Clear n k) = go (entry_is (λ e. is_same_state e.state L2Only) k s)
  where
    go : (b : Bool) → KeepsFrame (Clear n k) s (record (if b then gone k s else changed k (λ e. record e { place = None }) s) { passed = [] })
    go true = record { c = refl; mintime = refl; bounds = refl; phase = frame-settled; picked = frame-settled; passed = λ f. refl }
    go false = record { c = refl; mintime = refl; bounds = refl; phase = frame-settled; picked = frame-settled; passed = λ f. refl }
frame-kept s (Restore n k place d) = record { c = refl; mintime = refl; bounds = refl; phase = frame-settled; picked = frame-settled; passed = λ f. refl }
frame-kept s (Resize n c) = record {
  c = kept-fitted (λ (u : PlainShard). u.c) (λ u es q. refl) (resized c s);
  mintime = kept-fitted (λ (u : PlainShard). u.mintime) (λ u es q. refl) (resized c s);
  bounds = kept-fitted (λ (u : PlainShard). u.bounds) (λ u es q. refl) (resized c s);
  phase = frame-settled;
  picked = frame-settled;
  passed = λ f. refl;
}
