-- Each legal event keeps a sound shard sound, by the definitions alone.
use Rattle.std.proofs.Common.{◌≡◌, ℕ, Bool, true, false, ◌&&◌, if◌then◌else◌, ◌==◌, IsTrue, Option, Some, None, is_some, inl, inr, refl, sym, ap, subst, ◌∙◌}
use Rattle.std.specs.Option.{option_map_or, option_and_then}
use Rattle.std.proofs.lemmas.Bool.{false≢true}
use Rattle.blk_ptr.specs.declared.key.Key.{Key}
use Rattle.blk_ptr.specs.declared.digest.Digest.{Digest}
use Rattle.blk_ptr.specs.declared.state.State.TheVariants.{L2Only}
use Rattle.blk_ptr.specs.Key.{is_well_formed}
use Rattle.blk_ptr.specs.State.{is_same_state}
use Rattle.blk_ptr.proofs.Keys.{key_eq-is}
use Rattle.arc_lists.specs.Sequences.{stands}
use Rattle.arc_lists.proofs.Standing.{and_left, and_right, not_true_is}
use Rattle.arc_lists.proofs.Tables.{cases_true}
use Rattle.arc_core.specs.declared.entry.Entry.{Entry}
use Rattle.arc_core.specs.declared.entry.Picked.{Picked}
use Rattle.arc_core.specs.declared.event.Event.{Event}
use Rattle.arc_core.specs.declared.event.Event.TheVariants.{Pass, Hit, Miss, Arrive, Fail, Drop, Past, Hand, Insert, Release, Pick, FeedEnd, Set, Leave, Clear, Restore, Resize}
use Rattle.arc_core.specs.declared.event.FailedAt.{FailedAt}
use Rattle.arc_core.specs.declared.event.Origin.{Origin}
use Rattle.arc_core.specs.declared.event.Why.{Why}
use Rattle.arc_core.specs.PlainShard.{PlainShard, entry_is, entry_of, holds_of, is_cell, is_number, is_resident, place_of}
use Rattle.arc_core.specs.Candidate.{candidate}
use Rattle.arc_core.specs.Changes.{changed, come, gone, pick_of, settled, with_none_passed, without_pick}
use Rattle.arc_core.specs.Edits.{amended}
use Rattle.arc_core.specs.Rules.{resized, with_target_for}
use Rattle.arc_core.specs.Sound.{IsSound, IsTidy}
use Rattle.arc_core.specs.Step.{after, agree, cleared, effect, fitted, holds, is_key, is_writing, legal, may_be_placed, may_come_from, may_pick, may_set, read_entry, reads, restored_entry, taken_in, written_entry}
use Rattle.arc_core.proofs.Accesses.{IsSoundEntry-restored, IsSoundEntry-written}
use Rattle.arc_core.proofs.Evictions.{changed-written, entry_of-is, found}
use Rattle.arc_core.proofs.Feeding.{all-with_key, candidate-wanted, distinct-append, distinct-without, fits-picking, fits-writing}
use Rattle.arc_core.proofs.Frames.{SameFrame, frame-cleared, frame-fitted, frame-given_back, frame-taken_in, resized-within}
use Rattle.arc_core.proofs.Keeping.{sound-miss}
use Rattle.arc_core.proofs.Legal.{IsSoundEntry-place, Writes, arrive-writes, cell-lt, drop-writes, hand-writes, hit-writes, miss-off, miss-sound, release-writes}
use Rattle.arc_core.proofs.Sparing.{insert-off, sparing-fitted, tidy-resized, tidy-taken_in, tidy-target}
use Rattle.arc_core.proofs.Stepping.{sound-framed}
use Rattle.arc_core.proofs.Tables.{IsTidy-same}
use Rattle.arc_core.proofs.Tidy.{IsTidy-amended, IsTidy-come, IsTidy-gone, IsTidy-placed}

-- forgetting the passed keys changes no entry and no sequence
tidy-forgetting : (s : PlainShard) → IsTidy s → IsTidy (with_none_passed s)
tidy-forgetting s tidy = IsTidy-same s (with_none_passed s) refl refl tidy

-- an event that writes an entry over its key's
tidy-written : (s : PlainShard) (event : Event) (e : Entry) → IsTidy s → Writes s event e → IsTidy (with_none_passed (effect s event))
tidy-written s event e tidy writes = tidy-forgetting (effect s event) (subst IsTidy writes.effect (IsTidy-placed e s writes.there writes.sound tidy))

sound-hit : (s : PlainShard) (n t : ℕ) (k : Key) → IsSound s → IsTrue (legal s (Hit n k t)) → IsSound (after s (Hit n k t))
sound-hit s n t k sound ok =
    let e = entry_of-is is_resident k s (and_right (is_number n) _ ok) in
    let frame : SameFrame s (after s (Hit n k t)) = record { p = refl; c = refl; phase = refl; picked = refl } in
    sound-framed s (after s (Hit n k t)) sound frame refl (tidy-written s (Hit n k t) _ sound.tidy (hit-writes n t k s e.0 sound.tidy (sym e.1) ok))

sound-missed : (s : PlainShard) (n t : ℕ) (k : Key) → IsSound s → IsTrue (legal s (Miss n k t)) → IsSound (after s (Miss n k t))
sound-missed s n t k sound ok =
    let into = read_entry n k t s in
    let target = with_target_for k s in
    sound-miss n t k s (after s (Miss n k t)) sound refl
    (tidy-forgetting (taken_in into target) (tidy-taken_in into target (tidy-target k s sound.tidy) (miss-off n k t s ok) (miss-sound n k t s ok)))

sound-arrive : (s : PlainShard) (n : ℕ) (k : Key) (d : Digest) (from : Origin) → IsSound s → IsTrue (legal s (Arrive n k d from)) → IsSound (after s (Arrive n k d from))
sound-arrive s n k d from sound ok =
    let e = entry_of-is (λ x. reads n x && may_come_from from x) k s (and_right (is_number n) _ ok) in
    let frame : SameFrame s (after s (Arrive n k d from)) = record { p = refl; c = refl; phase = refl; picked = refl } in
    sound-framed s (after s (Arrive n k d from)) sound frame refl (tidy-written s (Arrive n k d from) _ sound.tidy (arrive-writes n k d from s e.0 sound.tidy (sym e.1) ok))

sound-fail : (s : PlainShard) (n : ℕ) (k : Key) (at : FailedAt) → IsSound s → IsSound (after s (Fail n k at))
sound-fail s n k at sound =
    let frame : SameFrame s (after s (Fail n k at)) = record { p = refl; c = refl; phase = refl; picked = refl } in
    sound-framed s (after s (Fail n k at)) sound frame refl (tidy-forgetting (gone k s) (IsTidy-gone k s sound.tidy))

sound-drop : (s : PlainShard) (n : ℕ) (k : Key) → IsSound s → IsTrue (legal s (Drop n k)) → IsSound (after s (Drop n k))
sound-drop s n k sound ok =
    let e = entry_of-is (holds n) k s (and_right (is_number n) _ ok) in
    let back = frame-given_back n k s in
    let frame : SameFrame s (after s (Drop n k)) = record { p = back.p; c = back.c; phase = back.phase; picked = back.picked } in
    sound-framed s (after s (Drop n k)) sound frame refl (tidy-written s (Drop n k) _ sound.tidy (drop-writes n k s e.0 sound.tidy (sym e.1) ok))

sound-past : (s : PlainShard) (n : ℕ) (k : Key) (kept : Digest) → IsSound s → IsSound (after s (Past n k kept))
sound-past s n k kept sound =
    let frame : SameFrame s (after s (Past n k kept)) = record { p = refl; c = refl; phase = refl; picked = refl } in
    sound-framed s (after s (Past n k kept)) sound frame refl (tidy-forgetting s sound.tidy)

sound-pass : (s : PlainShard) (n : ℕ) (k : Key) (owner : ℕ) → IsSound s → IsTrue (legal s (Pass n k owner)) → IsSound (after s (Pass n k owner))
sound-pass s n k owner sound ok = record {
  tidy = IsTidy-same s (after s (Pass n k owner)) refl refl sound.tidy;
  target_low = sound.target_low;
  target_high = sound.target_high;
  feed = sound.feed;
  picks = sound.picks;
  passed = all-with_key (λ j. stands j s.sequences) k s.passed (and_left _ _ (and_right (is_number n) _ ok)) sound.passed;
}

sound-hand : (s : PlainShard) (n : ℕ) (k : Key) (to : ℕ) → IsSound s → IsTrue (legal s (Hand n k to)) → IsSound (after s (Hand n k to))
sound-hand s n k to sound ok =
    let e = entry_of-is (holds n) k s (and_right (is_cell to) _ (and_right (is_number n) _ ok)) in
    let frame : SameFrame s (after s (Hand n k to)) = record { p = refl; c = refl; phase = refl; picked = refl } in
    sound-framed s (after s (Hand n k to)) sound frame refl (tidy-written s (Hand n k to) _ sound.tidy (hand-writes n k to s e.0 sound.tidy (sym e.1) ok))

sound-insert : (s : PlainShard) (n : ℕ) (k : Key) (d : Digest) (t : ℕ) → IsSound s → IsTrue (legal s (Insert n k d t)) → IsSound (after s (Insert n k d t))
sound-insert s n k d t sound ok =
    let into = written_entry n k d t in
    let kept = frame-taken_in into s in
    let frame : SameFrame s (after s (Insert n k d t)) = record { p = kept.p; c = kept.c; phase = kept.phase; picked = kept.picked } in
    let tidy = tidy-taken_in into s sound.tidy (insert-off n k d t (cell-lt n (and_left _ _ ok))) (IsSoundEntry-written n k d t (and_left _ _ (and_right (is_cell n) _ ok))) in
    sound-framed s (after s (Insert n k d t)) sound frame refl (tidy-forgetting (taken_in into s) tidy)

sound-release : (s : PlainShard) (n : ℕ) (k : Key) (sole : Bool) → IsSound s → IsTrue (legal s (Release n k sole)) → IsSound (after s (Release n k sole))
sound-release s n k true sound ok =
    let frame : SameFrame s (after s (Release n k true)) = record { p = refl; c = refl; phase = refl; picked = refl } in
    sound-framed s (after s (Release n k true)) sound frame refl (tidy-forgetting (gone k s) (IsTidy-gone k s sound.tidy))
sound-release s n k false sound ok =
    let e = entry_of-is (λ x. holds n x && agree false (holds_of x == 1)) k s (and_right (is_number n) _ ok) in
    let frame : SameFrame s (after s (Release n k false)) = record { p = refl; c = refl; phase = refl; picked = refl } in
    sound-framed s (after s (Release n k false)) sound frame refl (tidy-written s (Release n k false) _ sound.tidy (release-writes n k s e.0 sound.tidy (sym e.1) ok))

-- the candidate that a pick takes
pub picked-candidate : (s : PlainShard) (n : ℕ) (k : Key) → IsTrue (legal s (Pick n k)) → candidate s ≡ Some k
picked-candidate s n k ok = go (candidate s) (and_right (may_pick s.phase) _ (and_right (is_number n) _ ok))
  where
    go : (o : Option Key) → option_map_or (is_key k) o false ≡ true → o ≡ Some k
    go None h = absurd (false≢true h)
    go (Some x) h = ap (λ j. Some j) (key_eq-is x k h)

sound-pick : (s : PlainShard) (n : ℕ) (k : Key) → IsSound s → IsTrue (legal s (Pick n k)) → IsSound (after s (Pick n k))
sound-pick s n k sound ok =
    let wanted = candidate-wanted s k (picked-candidate s n k ok) in
    record {
      tidy = IsTidy-same s (after s (Pick n k)) refl refl sound.tidy;
      target_low = sound.target_low;
      target_high = sound.target_high;
      feed = fits-picking s.picked _;
      picks = distinct-append s.picked _ sound.picks wanted.unpicked;
      passed = sound.passed;
    }

sound-feed_end : (s : PlainShard) (n : ℕ) → IsSound s → IsSound (after s (FeedEnd n))
sound-feed_end s n sound = record {
  tidy = IsTidy-same s (after s (FeedEnd n)) refl refl sound.tidy;
  target_low = sound.target_low;
  target_high = sound.target_high;
  feed = fits-writing s.picked;
  picks = sound.picks;
  passed = refl;
}

-- a key leaves the picked list
sound-settled : (s t : PlainShard) (k : Key) → IsSound s → IsTidy t → t.p ≡ s.p → t.c ≡ s.c → t.picked ≡ s.picked → IsSound (with_none_passed (settled k t))
sound-settled s t k sound tidy p c picked = record {
  tidy = IsTidy-same t (with_none_passed (settled k t)) refl refl tidy;
  target_low = rw (p, c) sound.target_low;
  target_high = rw (p, c) sound.target_high;
  feed = fits-writing (without_pick k t.picked);
  picks = distinct-without k t.picked (rw picked sound.picks);
  passed = refl;
}

-- the entry of a key with another place
abbrev placing : Option ℕ → Entry → Entry
placing place e = record e { place = place }

tidy-placing : (place : Option ℕ) (k : Key) (s : PlainShard) (e : Entry) → IsTidy s → entry_of k s ≡ Some e → (is_same_state e.state L2Only ≡ true → is_some place ≡ true) → IsTidy (changed k (placing place) s)
tidy-placing place k s e tidy item needs =
    let at = found k s e tidy (sym item) in
    let item' : entry_of e.key s ≡ Some e = subst (λ h. entry_of h s ≡ Some e) (sym at.key) item in
    let f = placing place e in
    let same : changed e.key (placing place) s ≡ amended f s = ap (λ es. record s { entries = es }) (changed-written e.key (placing place) s.entries e item') in
    subst (λ h. IsTidy (changed h (placing place) s)) at.key
    (subst IsTidy (sym same) (IsTidy-amended f s e item' (λ state. refl) (IsSoundEntry-place place e needs at.sound) tidy))

-- the entry of a picked key that may gain a place
pub settable : (s : PlainShard) (k : Key) → IsTrue (may_set k s) → (e : Entry) × (entry_of k s ≡ Some e)
settable s k ok = go (pick_of k s.picked) ok
  where
    go : (o : Option Picked) → option_map_or (λ pick. entry_is (may_be_placed pick) k s) o false ≡ true → (e : Entry) × (entry_of k s ≡ Some e)
    go None h = absurd (false≢true h)
    go (Some pick) h = let e = entry_of-is (may_be_placed pick) k s h in (e.0, e.1)

sound-set : (s : PlainShard) (n : ℕ) (k : Key) (place : ℕ) → IsSound s → IsTrue (legal s (Set n k place)) → IsSound (after s (Set n k place))
sound-set s n k place sound ok =
    let e = settable s k (and_right (is_writing s.phase) _ (and_right (is_number n) _ ok)) in
    sound-settled s (changed k (placing (Some place)) s) k sound (tidy-placing (Some place) k s e.0 sound.tidy e.1 (λ l2. refl)) refl refl refl

sound-leave : (s : PlainShard) (n : ℕ) (k : Key) (why : Why) → IsSound s → IsSound (after s (Leave n k why))
sound-leave s n k why sound = sound-settled s s k sound sound.tidy refl refl refl

-- the entry of a key that has a place
pub placed-entry : (s : PlainShard) (k : Key) → is_some (place_of k s) ≡ true → (e : Entry) × (entry_of k s ≡ Some e)
placed-entry s k has = go (entry_of k s) has
  where
    go : (o : Option Entry) → is_some (option_and_then (λ (e : Entry). e.place) o) ≡ true → (e : Entry) × (o ≡ Some e)
    go None h = absurd (false≢true h)
    go (Some e) h = (e, refl)

sound-clear : (s : PlainShard) (n : ℕ) (k : Key) → IsSound s → IsTrue (legal s (Clear n k)) → IsSound (after s (Clear n k))
sound-clear s n k sound ok =
    let e = placed-entry s k (and_right (is_number n) _ ok) in
    let l2 = is_same_state e.0.state L2Only in
    let which : entry_is (λ x. is_same_state x.state L2Only) k s ≡ l2 = ap (λ o. option_map_or (λ (x : Entry). is_same_state x.state L2Only) o false) e.1 in
    let tidy : IsTidy (cleared k s) = elim (cases_true l2) [
      | inl only ↦ subst (λ b. IsTidy (if b then gone k s else changed k (placing None) s)) (sym (which ∙ only)) (IsTidy-gone k s sound.tidy)
      | inr more ↦ subst (λ b. IsTidy (if b then gone k s else changed k (placing None) s)) (sym (which ∙ more))
          (tidy-placing None k s e.0 sound.tidy e.1 (λ only. absurd (false≢true (sym more ∙ only))))
    ] in
    let kept = frame-cleared k s in
    let frame : SameFrame s (after s (Clear n k)) = record { p = kept.p; c = kept.c; phase = kept.phase; picked = kept.picked } in
    sound-framed s (after s (Clear n k)) sound frame refl (tidy-forgetting (cleared k s) tidy)

sound-restore : (s : PlainShard) (n : ℕ) (k : Key) (place : ℕ) (d : Option Digest) → IsSound s → IsTrue (legal s (Restore n k place d)) → IsSound (after s (Restore n k place d))
sound-restore s n k place d sound ok =
    let rest = and_right (is_number n) _ ok in
    let e = restored_entry k place d in
    let absent = not_true_is _ (and_right (is_well_formed k) _ rest) in
    let frame : SameFrame s (after s (Restore n k place d)) = record { p = refl; c = refl; phase = refl; picked = refl } in
    sound-framed s (after s (Restore n k place d)) sound frame refl
    (tidy-forgetting (come e s) (IsTidy-come e s absent refl (IsSoundEntry-restored k place d (and_left _ _ rest)) sound.tidy))

sound-resize : (s : PlainShard) (n c : ℕ) → IsSound s → IsSound (after s (Resize n c))
sound-resize s n c sound =
    let frame = frame-fitted (resized c s) in
    let within = resized-within c s.p in
    record {
      tidy = tidy-forgetting (fitted (resized c s)) (sparing-fitted anything (resized c s) (tidy-resized c s sound.tidy)).tidy;
      target_low = rw (frame.p, frame.c) within.0;
      target_high = rw (frame.p, frame.c) within.1;
      feed = rw (frame.phase, frame.picked) sound.feed;
      picks = rw frame.picked sound.picks;
      passed = refl;
    }
  where
    anything : Key
    anything = record { offset = 0; size = 0; birth = 0 }

pub IsSound-after : (s : PlainShard) (e : Event) → IsSound s → IsTrue (legal s e) → IsSound (after s e)
IsSound-after s (Pass n k owner) sound ok = sound-pass s n k owner sound ok
IsSound-after s (Hit n k t) sound ok = sound-hit s n t k sound ok
IsSound-after s (Miss n k t) sound ok = sound-missed s n t k sound ok
IsSound-after s (Arrive n k d from) sound ok = sound-arrive s n k d from sound ok
IsSound-after s (Fail n k at) sound ok = sound-fail s n k at sound
IsSound-after s (Drop n k) sound ok = sound-drop s n k sound ok
IsSound-after s (Past n k kept) sound ok = sound-past s n k kept sound
IsSound-after s (Hand n k to) sound ok = sound-hand s n k to sound ok
IsSound-after s (Insert n k d t) sound ok = sound-insert s n k d t sound ok
IsSound-after s (Release n k sole) sound ok = sound-release s n k sole sound ok
IsSound-after s (Pick n k) sound ok = sound-pick s n k sound ok
IsSound-after s (FeedEnd n) sound ok = sound-feed_end s n sound
IsSound-after s (Set n k place) sound ok = sound-set s n k place sound ok
IsSound-after s (Leave n k why) sound ok = sound-leave s n k why sound
IsSound-after s (Clear n k) sound ok = sound-clear s n k sound ok
IsSound-after s (Restore n k place d) sound ok = sound-restore s n k place d sound ok
IsSound-after s (Resize n c) sound ok = sound-resize s n c sound
