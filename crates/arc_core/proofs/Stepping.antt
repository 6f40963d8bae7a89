-- Each event of one caller keeps a sound shard sound, and what is owed within the room that the event takes.
use Rattle.std.proofs.Common.{◌≡◌, ℕ, ◌+◌, ◌-◌, ◌<◌, ◌≤◌, Bool, true, ◌&&◌, if◌then◌else◌, IsTrue, List, [], ◌∷◌, ◌++◌, length, get_or, sum, refl, sym, ap, arith}
use Rattle.std.proofs.lemmas.List.Sums.{sum_by-set}
use Rattle.blk_ptr.specs.declared.key.Key.{Key}
use Rattle.blk_ptr.specs.declared.digest.Digest.{Digest}
use Rattle.arc_lists.proofs.Standing.{and_left, and_right}
use Rattle.arc_core.specs.declared.entry.Entry.{Entry}
use Rattle.arc_core.specs.declared.event.Event.{Event}
use Rattle.arc_core.specs.declared.event.Event.TheVariants.{Hit, Miss, Arrive, Fail, Drop}
use Rattle.arc_core.specs.declared.event.FailedAt.{FailedAt}
use Rattle.arc_core.specs.declared.event.Origin.{Origin}
use Rattle.arc_core.specs.PlainShard.{PlainShard, holds_of, is_number, is_resident}
use Rattle.arc_core.specs.Changes.{one_less}
use Rattle.arc_core.specs.Owed.{owed_by, owed_of, room_for}
use Rattle.arc_core.specs.Rules.{accessed, with_target_for}
use Rattle.arc_core.specs.Replay.{is_legal_history, replay}
use Rattle.arc_core.specs.Sound.{IsSound, IsTidy}
use Rattle.arc_core.specs.Step.{after, arrived, hit_entry, holds, legal, may_come_from, read_entry, reads}
use Rattle.arc_core.proofs.Accesses.{accessed-keeps, sum-one_hold}
use Rattle.arc_core.proofs.Evictions.{entry_of-is, found}
use Rattle.arc_core.proofs.Frames.{SameFrame, frame-given_back, frame-taken_in, owed-changed, owed-given_back, owed-taken_in, owed-without}
use Rattle.arc_core.proofs.Legal.{holding, number-lt}

-- a shard in the same frame, tidy and with nothing passed, is as sound as it was
pub sound-framed : (s t : PlainShard) → IsSound s → SameFrame s t → t.passed ≡ [] → IsTidy t → IsSound t
sound-framed s t sound frame none tidy = record {
  tidy = tidy;
  target_low = rw (frame.p, frame.c) sound.target_low;
  target_high = rw (frame.p, frame.c) sound.target_high;
  feed = rw (frame.phase, frame.picked) sound.feed;
  picks = rw frame.picked sound.picks;
  passed = rw none refl;
}

-- ---- histories

pub replay-append : (s : PlainShard) (front rest : List Event) → replay s (front ++ rest) ≡ replay (replay s front) rest
replay-append s [] rest = refl
replay-append s (e ∷ es) rest = replay-append (after s e) es rest

pub legal-append : (s : PlainShard) (front : List Event) (e : Event) → is_legal_history s front ≡ true → legal (replay s front) e ≡ true → is_legal_history s (front ++ e ∷ []) ≡ true
legal-append s [] e before now = rw now refl
legal-append s (x ∷ xs) e before now =
    let first = and_left (legal s x) _ before in
    rw first (legal-append (after s x) xs e (and_right (legal s x) _ before) now)

pub prefix-legal : (s : PlainShard) (front rest : List Event) → is_legal_history s (front ++ rest) ≡ true → is_legal_history s front ≡ true
prefix-legal s [] rest ok = refl
prefix-legal s (e ∷ es) rest ok = rw (and_left (legal s e) _ ok) (prefix-legal (after s e) es rest (and_right (legal s e) _ ok))

-- ---- what is owed after each event

owed-hit_entry : (n mintime t : ℕ) (e : Entry) → n < length e.holds → owed_by (hit_entry n mintime t e) ≡ owed_by e + 1
owed-hit_entry n mintime t e lt =
    let kept = accessed-keeps e.state mintime t e in
    let more = sum_by-set (λ x. x) (accessed mintime t e).holds n (get_or (accessed mintime t e).holds n 0 + 1) 0 (omega (arith, ap length kept.holds)) in
    let mark : Bool → ℕ = λ b. if b then 1 else 0 in
    let reads : mark (accessed mintime t e).reading ≡ mark e.reading = ap mark kept.reading in
    omega (arith, more, reads, ap sum kept.holds)

pub owed-hit : (n t : ℕ) (k : Key) (s : PlainShard) → IsTidy s → IsTrue (legal s (Hit n k t)) → owed_of (after s (Hit n k t)) + 1 ≤ owed_of s + room_for (Hit n k t)
owed-hit n t k s tidy ok =
    let e = entry_of-is is_resident k s (and_right (is_number n) _ ok) in
    let at = found k s e.0 tidy (sym e.1) in
    let change = owed-changed k (hit_entry n s.mintime t) s.entries e.0 e.1 in
    omega (arith, change, owed-hit_entry n s.mintime t e.0 (omega (arith, at.sound.numbers, number-lt n (and_left _ _ ok))))

pub owed-arrive : (n : ℕ) (k : Key) (d : Digest) (from : Origin) (s : PlainShard) → IsTidy s → IsTrue (legal s (Arrive n k d from)) → owed_of (after s (Arrive n k d from)) + 1 ≤ owed_of s
owed-arrive n k d from s tidy ok =
    let e = entry_of-is (λ x. reads n x && may_come_from from x) k s (and_right (is_number n) _ ok) in
    let reading : e.0.reading ≡ true = and_left e.0.reading _ (and_left (reads n e.0) _ e.2) in
    let change = owed-changed k (arrived d) s.entries e.0 e.1 in
    let was : owed_by e.0 ≡ holds_of e.0 + 1 = rw reading refl in
    omega (arith, change, was)

pub owed-fail : (n : ℕ) (k : Key) (at : FailedAt) (s : PlainShard) → IsTidy s → IsTrue (legal s (Fail n k at)) → owed_of (after s (Fail n k at)) + 1 ≤ owed_of s
owed-fail n k at s tidy ok =
    let e = entry_of-is (reads n) k s (and_right (is_number n) _ ok) in
    let reading : e.0.reading ≡ true = and_left e.0.reading _ e.2 in
    let was : owed_by e.0 ≡ holds_of e.0 + 1 = rw reading refl in
    omega (arith, owed-without k s.entries e.0 e.1, was)

pub owed-drop : (n : ℕ) (k : Key) (s : PlainShard) → IsTidy s → IsTrue (legal s (Drop n k)) → owed_of (after s (Drop n k)) + 1 ≤ owed_of s
owed-drop n k s tidy ok =
    let e = entry_of-is (holds n) k s (and_right (is_number n) _ ok) in
    let h = holding n k s e.0 tidy (sym e.1) (and_left _ _ ok) (and_right (is_number n) _ ok) in
    let change = owed-changed k (one_less n) s.entries e.0 e.1 in
    let less = sum_by-set (λ x. x) e.0.holds n (get_or e.0.holds n 0 - 1) 0 (omega (arith, h.at.sound.numbers, h.lt)) in
    omega (arith, change, less, h.some, owed-given_back n k s, ap length (frame-given_back n k s).picked)

pub owed-miss : (n t : ℕ) (k : Key) (s : PlainShard) → IsTidy s → IsTrue (legal s (Miss n k t)) → owed_of (after s (Miss n k t)) + 1 ≤ owed_of s + 3
owed-miss n t k s tidy ok =
    let one = sum-one_hold n (number-lt n (and_left _ _ ok)) in
    omega (arith, owed-taken_in (read_entry n k t s) (with_target_for k s), one, ap length (frame-taken_in (read_entry n k t s) (with_target_for k s)).picked)
