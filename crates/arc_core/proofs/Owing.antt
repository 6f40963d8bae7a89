-- What is owed after each event stays within the room that the event takes.
use Rattle.std.proofs.Common.{◌≡◌, ℕ, ◌+◌, ◌-◌, ◌<◌, ◌≤◌, Bool, true, false, if◌then◌else◌, ◌==◌, IsTrue, List, [], ◌∷◌, ◌++◌, length, get_or, sum, Option, Some, None, is_some, inl, inr, refl, sym, ap, arith, length-append}
use Rattle.std.specs.Option.{option_map_or}
use Rattle.std.proofs.lemmas.Bool.{false≢true}
use Rattle.std.proofs.lemmas.List.Sums.{sum_by-set}
use Rattle.std.proofs.Math.ListN.{length-set}
use Rattle.blk_ptr.specs.declared.key.Key.{Key}
use Rattle.blk_ptr.specs.declared.digest.Digest.{Digest}
use Rattle.blk_ptr.specs.declared.state.State.TheVariants.{L2Only}
use Rattle.blk_ptr.specs.Order.{key_eq}
use Rattle.blk_ptr.specs.State.{is_same_state}
use Rattle.arc_lists.proofs.Standing.{and_left, and_right}
use Rattle.arc_lists.proofs.Tables.{cases_true}
use Rattle.arc_core.specs.declared.entry.Entry.{Entry}
use Rattle.arc_core.specs.declared.entry.Picked.{Picked}
use Rattle.arc_core.specs.declared.event.Event.{Event}
use Rattle.arc_core.specs.declared.event.Event.TheVariants.{Pass, Hit, Miss, Arrive, Fail, Drop, Past, Hand, Insert, Release, Pick, FeedEnd, Set, Leave, Clear, Restore, Resize}
use Rattle.arc_core.specs.PlainShard.{PlainShard, entry_is, entry_of, holds_of, is_cell, is_number}
use Rattle.arc_core.specs.Changes.{changed, gone, one_less, one_more, pick_of, without_pick}
use Rattle.arc_core.specs.Owed.{owed_by, owed_in, owed_of, room_for}
use Rattle.arc_core.specs.Rules.{resized, with_room}
use Rattle.arc_core.specs.Sound.{IsSound}
use Rattle.arc_core.specs.Step.{after, agree, cleared, fitted, holds, is_writing, legal, may_be_placed, may_set, restored_entry, written_entry}
use Rattle.arc_core.proofs.Accesses.{sum-one_hold}
use Rattle.arc_core.proofs.Evictions.{entry_of-is}
use Rattle.arc_core.proofs.Frames.{frame-cleared, frame-fitted, frame-taken_in, owed-changed, owed-evicting, owed-kept, owed-taken_in, owed-trimming, owed-with_item, owed-without, owed-without_le}
use Rattle.arc_core.proofs.Legal.{cell-lt, entry_is-and, holding}
use Rattle.arc_core.proofs.Stepping.{owed-arrive, owed-drop, owed-fail, owed-hit, owed-miss}

-- one pick less
length-without_pick : (k : Key) (picks : List Picked) → is_some (pick_of k picks) ≡ true → length (without_pick k picks) + 1 ≡ length picks
length-without_pick k [] there = absurd (false≢true there)
length-without_pick k (x ∷ xs) there = elim (cases_true (key_eq x.key k)) [
  | inl same ↦ rw same (omega arith)
  | inr differs ↦ rw differs (omega (arith, length-without_pick k xs (rw differs at there)))
]

owed-hand : (s : PlainShard) (n : ℕ) (k : Key) (to : ℕ) → IsSound s → IsTrue (legal s (Hand n k to)) → owed_of (after s (Hand n k to)) + 1 ≤ owed_of s + 1
owed-hand s n k to sound ok =
    let rest = and_right (is_number n) _ ok in
    let lt = cell-lt to (and_left (is_cell to) _ rest) in
    let e = entry_of-is (holds n) k s (and_right (is_cell to) _ rest) in
    let h = holding n k s e.0 sound.tidy (sym e.1) (and_left _ _ ok) (and_right (is_cell to) _ rest) in
    let change = owed-changed k (λ x. one_more to (one_less n x)) s.entries e.0 e.1 in
    let less = sum_by-set (λ x. x) e.0.holds n (get_or e.0.holds n 0 - 1) 0 (omega (arith, h.at.sound.numbers, h.lt)) in
    let more = sum_by-set (λ x. x) (one_less n e.0).holds to (get_or (one_less n e.0).holds to 0 + 1) 0 (omega (arith, length-set e.0.holds n (get_or e.0.holds n 0 - 1), h.at.sound.numbers, lt)) in
    omega (arith, change, less, more, h.some)

owed-insert : (s : PlainShard) (n : ℕ) (k : Key) (d : Digest) (t : ℕ) → IsTrue (legal s (Insert n k d t)) → owed_of (after s (Insert n k d t)) + 1 ≤ owed_of s + 2
owed-insert s n k d t ok =
    let one = sum-one_hold n (cell-lt n (and_left _ _ ok)) in
    omega (arith, owed-taken_in (written_entry n k d t) s, one, ap length (frame-taken_in (written_entry n k d t) s).picked)

owed-release : (s : PlainShard) (n : ℕ) (k : Key) (sole : Bool) → IsSound s → IsTrue (legal s (Release n k sole)) → owed_of (after s (Release n k sole)) + 1 ≤ owed_of s
owed-release s n k sole sound ok =
    let both = entry_is-and (holds n) (λ x. agree sole (holds_of x == 1)) k s (and_right (is_number n) _ ok) in
    let e = entry_of-is (holds n) k s both.0 in
    let h = holding n k s e.0 sound.tidy (sym e.1) (and_left _ _ ok) both.0 in
    let less = sum_by-set (λ x. x) e.0.holds n (get_or e.0.holds n 0 - 1) 0 (omega (arith, h.at.sound.numbers, h.lt)) in
    go sole e.0 e.1 less h.some
  where
    go : (sole : Bool) (e : Entry) → entry_of k s ≡ Some e → sum (one_less n e).holds + get_or e.holds n 0 ≡ sum e.holds + (get_or e.holds n 0 - 1) → 0 < get_or e.holds n 0
        → owed_of (after s (Release n k sole)) + 1 ≤ owed_of s
    go true e item less some = omega (arith, owed-without k s.entries e item, less, some)
    go false e item less some = omega (arith, owed-changed k (one_less n) s.entries e item, less, some)

owed-cleared : (s : PlainShard) (k : Key) → owed_in (cleared k s).entries ≤ owed_in s.entries
owed-cleared s k = go (entry_is (λ e. is_same_state e.state L2Only) k s)
  where
    go : (b : Bool) → owed_in (if b then gone k s else changed k (λ e. record e { place = None }) s).entries ≤ owed_in s.entries
    go true = owed-without_le k s.entries
    go false = omega (arith, owed-kept k (λ e. record e { place = None }) s.entries (λ e. refl))

owed-fitted : (s : PlainShard) → owed_in (fitted s).entries ≤ owed_in s.entries
owed-fitted s = omega (arith, owed-trimming (length (with_room 0 s).entries) (with_room 0 s), owed-evicting (length s.entries) 0 s)

picked-set : (s : PlainShard) (k : Key) → IsTrue (may_set k s) → is_some (pick_of k s.picked) ≡ true
picked-set s k ok = go (pick_of k s.picked) ok
  where
    go : (o : Option Picked) → option_map_or (λ pick. entry_is (may_be_placed pick) k s) o false ≡ true → is_some o ≡ true
    go None h = absurd (false≢true h)
    go (Some pick) h = refl

owed-restored : (k : Key) (place : ℕ) (d : Option Digest) → owed_by (restored_entry k place d) ≡ 0
owed-restored k place d = refl

length-one_more : (picks : List Picked) (pick : Picked) → length (picks ++ pick ∷ []) ≡ length picks + 1
length-one_more picks pick = length-append picks (pick ∷ [])

pub owed-after : (s : PlainShard) (e : Event) → IsSound s → IsTrue (legal s e) → owed_of (after s e) + 1 ≤ owed_of s + room_for e
owed-after s (Pass n k owner) sound ok = omega arith
owed-after s (Hit n k t) sound ok = owed-hit n t k s sound.tidy ok
owed-after s (Miss n k t) sound ok = owed-miss n t k s sound.tidy ok
owed-after s (Arrive n k d from) sound ok = omega (arith, owed-arrive n k d from s sound.tidy ok)
owed-after s (Fail n k at) sound ok = omega (arith, owed-fail n k at s sound.tidy ok)
owed-after s (Drop n k) sound ok = omega (arith, owed-drop n k s sound.tidy ok)
owed-after s (Past n k kept) sound ok = omega arith
owed-after s (Hand n k to) sound ok = owed-hand s n k to sound ok
owed-after s (Insert n k d t) sound ok = owed-insert s n k d t ok
owed-after s (Release n k sole) sound ok = omega (arith, owed-release s n k sole sound ok)
owed-after s (Pick n k) sound ok = omega (arith, length-one_more s.picked)
owed-after s (FeedEnd n) sound ok = omega arith
owed-after s (Set n k place) sound ok =
    let kept = owed-kept k (λ e. record e { place = Some place }) s.entries (λ e. refl) in
    omega (arith, kept, length-without_pick k s.picked (picked-set s k (and_right (is_writing s.phase) _ (and_right (is_number n) _ ok))))
owed-after s (Leave n k why) sound ok =
    omega (arith, length-without_pick k s.picked (and_left _ _ (and_right (is_writing s.phase) _ (and_right (is_number n) _ ok))))
owed-after s (Clear n k) sound ok = omega (arith, owed-cleared s k, ap length (frame-cleared k s).picked)
owed-after s (Restore n k place d) sound ok = omega (arith, owed-with_item (restored_entry k place d) s.entries, owed-restored k place d)
owed-after s (Resize n c) sound ok = omega (arith, owed-fitted (resized c s), ap length (frame-fitted (resized c s)).picked)
