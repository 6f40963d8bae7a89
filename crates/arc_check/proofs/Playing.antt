-- Histories that are played again, event by event.
use Rattle.std.proofs.Common.{◌≡◌, ℕ, zero, suc, ◌+◌, ◌≤◌, Bool, true, false, IsTrue, if◌then◌else◌, List, [], ◌∷◌, ◌++◌, map, drop, take, Some, refl, sym, ap, subst, ◌∙◌, arith}
use Rattle.std.specs.Prelude.{slice_get}
use Rattle.std.specs.List.{AllByRecursion}
use Rattle.std.proofs.lemmas.List.{append-nil, map-append, take-append-drop}
use Rattle.arc_core.specs.declared.event.Event.{Event}
use Rattle.arc_core.specs.declared.event.Event.TheVariants.{Pass, Hit, Miss, Arrive, Fail, Drop, Past, Hand, Insert, Release, Pick, FeedEnd, Set, Leave, Clear, Restore, Resize}
use Rattle.arc_core.specs.Owed.{entries_for, room_for}
use Rattle.arc_core.specs.PlainShard.{PlainShard, is_absent}
use Rattle.arc_core.specs.Replay.{is_legal_history, replay}
use Rattle.arc_core.specs.ShardLog.{HasRoom, ShardLog}
use Rattle.arc_core.specs.Step.{after, legal}
use Rattle.trace_text.specs.declared.ends.ShardEnd.{ShardEnd}
use Rattle.arc_check.specs.declared.judge.Played.{Played}
use Rattle.arc_check.specs.declared.judge.Played.TheVariants.{Ended, Stuck}
use Rattle.arc_check.specs.Judging.{IsFirstStuck, IsLegalFrom, IsPlayed, IsStuckAt, IsTried, end_of, ends_from}
use Rattle.arc_core.proofs.Stepping.{legal-append, replay-append}

-- what an event takes of the room
room-most : (e : Event) → room_for e ≤ 3
room-most (Pass n k owner) = omega arith
room-most (Hit n k t) = omega arith
room-most (Miss n k t) = omega arith
room-most (Arrive n k d from) = omega arith
room-most (Fail n k at) = omega arith
room-most (Drop n k) = omega arith
room-most (Past n k kept) = omega arith
room-most (Hand n k to) = omega arith
room-most (Insert n k d t) = omega arith
room-most (Release n k sole) = omega arith
room-most (Pick n k) = omega arith
room-most (FeedEnd n) = omega arith
room-most (Set n k place) = omega arith
room-most (Leave n k why) = omega arith
room-most (Clear n k) = omega arith
room-most (Restore n k place d) = omega arith
room-most (Resize n c) = omega arith

one-most : (b : Bool) → (if b then 1 else 0) ≤ 1
one-most true = omega arith
one-most false = omega arith

entries-most : (s : PlainShard) (e : Event) → entries_for s e ≤ 1
entries-most s (Miss n k t) = one-most (is_absent k s)
entries-most s (Insert n k d t) = one-most (is_absent k s)
entries-most s (Restore n k place d) = omega arith
entries-most s (Pass n k owner) = omega arith
entries-most s (Hit n k t) = omega arith
entries-most s (Arrive n k d from) = omega arith
entries-most s (Fail n k at) = omega arith
entries-most s (Drop n k) = omega arith
entries-most s (Past n k kept) = omega arith
entries-most s (Hand n k to) = omega arith
entries-most s (Release n k sole) = omega arith
entries-most s (Pick n k) = omega arith
entries-most s (FeedEnd n) = omega arith
entries-most s (Set n k place) = omega arith
entries-most s (Leave n k why) = omega arith
entries-most s (Clear n k) = omega arith
entries-most s (Resize n c) = omega arith

-- what was reserved is room for any event
pub room-for-any : (e : Event) (log : ShardLog) → 3 ≤ log.event_room → 1 ≤ log.entry_room → HasRoom e log
room-for-any e log events entries = record {
  events = let most = room-most e in omega (arith, most, events);
  entries = let most = entries-most log.now e in omega (arith, most, entries);
}

-- an event that is not told as one that may come may not
pub told-no : (told may : Bool) → (IsTrue may → IsTrue told) → told ≡ false → may ≡ false
told-no told false is not = refl
told-no told true is not = sym (is refl) ∙ not

-- more room changes nothing of which event may come, and what it does
module _ (e : Event) (old roomy : PlainShard) (same : roomy ≡ old) where
  pub still-legal : IsTrue (legal old e) → IsTrue (legal roomy e)
  still-legal may = subst (λ (s : PlainShard). IsTrue (legal s e)) (sym same) may

  pub made-there : (new : PlainShard) → IsTrue (legal old e) → new ≡ after roomy e → IsTried e old new true
  made-there new may makes = (may, makes ∙ ap (λ (s : PlainShard). after s e) same)

-- one event more
take-more : (es : List Event) (i : ℕ) (e : Event) → slice_get es i ≡ Some e → take (i + 1) es ≡ take i es ++ e ∷ []
take-more [] i e at = cc
take-more (x ∷ xs) zero e at = let same : x ≡ e = cc in ap (λ (y : Event). y ∷ []) same
take-more (x ∷ xs) (suc i) e at =
    let next : suc i + 1 ≡ suc (i + 1) = omega arith in ap (λ k. take k (x ∷ xs)) next ∙ ap (λ (ys : List Event). x ∷ ys) (take-more xs i e at)

-- what is left behind the first events begins with the next one
pub next-left : (es : List Event) (i : ℕ) (e : Event) (rest : List Event) → drop i es ≡ e ∷ rest → (slice_get es i ≡ Some e) × (drop (i + 1) es ≡ rest)
next-left [] zero e rest left = (cc, cc)
next-left [] (suc i) e rest left = (cc, cc)
next-left (x ∷ xs) zero e rest left = (cc, cc)
next-left (x ∷ xs) (suc i) e rest left =
    let more = next-left xs i e rest left in
    let next : suc i + 1 ≡ suc (i + 1) = omega arith in (more.0, ap (λ k. drop k (x ∷ xs)) next ∙ more.1)

-- where none is left, these are all
pub none-left : (es : List Event) (i : ℕ) → drop i es ≡ [] → take i es ≡ es
none-left es i left = sym (append-nil (take i es)) ∙ ap (λ (ys : List Event). take i es ++ ys) (sym left) ∙ take-append-drop i es

-- one event more that may come
pub played-more : (opening s t : PlainShard) (es : List Event) (i : ℕ) (e : Event) (b : Bool) → slice_get es i ≡ Some e → s ≡ replay opening (take i es)
    → is_legal_history opening (take i es) ≡ true → IsTried e s t b → b ≡ true
    → (t ≡ replay opening (take (i + 1) es)) × (is_legal_history opening (take (i + 1) es) ≡ true)
played-more opening s t es i e b at now before done is =
    let tried : IsTried e s t true = subst (IsTried e s t) is done in
    let more = take-more es i e at in
    let whole : replay opening (take i es ++ e ∷ []) ≡ t = replay-append opening (take i es) (e ∷ []) ∙ ap (λ (u : PlainShard). after u e) (sym now) ∙ sym tried.1 in (
      sym whole ∙ ap (replay opening) (sym more),
      ap (is_legal_history opening) more ∙ legal-append opening (take i es) e before (subst (λ (u : PlainShard). legal u e ≡ true) now tried.0),
    )

-- an event that may not come
pub stuck-at : (opening s t : PlainShard) (es : List Event) (i : ℕ) (e : Event) (b : Bool) → slice_get es i ≡ Some e → s ≡ replay opening (take i es)
    → is_legal_history opening (take i es) ≡ true → IsTried e s t b → b ≡ false → IsStuckAt opening es i
stuck-at opening s t es i e b at now before done is =
    let tried : IsTried e s t false = subst (IsTried e s t) is done in
    record { event = e; there = at; before = before; stuck = subst (λ (u : PlainShard). legal u e ≡ false) now tried }

-- ---- histories, one after another

-- one history more
hist-more : (hs : List (List Event)) (i : ℕ) (h : List Event) → slice_get hs i ≡ Some h → take (i + 1) hs ≡ take i hs ++ h ∷ []
hist-more [] i h at = cc
hist-more (x ∷ xs) zero h at = let same : x ≡ h = cc in ap (λ (y : List Event). y ∷ []) same
hist-more (x ∷ xs) (suc i) h at =
    let next : suc i + 1 ≡ suc (i + 1) = omega arith in ap (λ k. take k (x ∷ xs)) next ∙ ap (λ (ys : List (List Event)). x ∷ ys) (hist-more xs i h at)

all-push : (opening : PlainShard) (hs : List (List Event)) (h : List Event) → AllByRecursion (IsLegalFrom opening) hs → IsLegalFrom opening h → AllByRecursion (IsLegalFrom opening) (hs ++ h ∷ [])
all-push opening [] h all last = (last, tt)
all-push opening (x ∷ xs) h all last = (all.0, all-push opening xs h all.1 last)

pub judged-more : (opening : PlainShard) (hs : List (List Event)) (i : ℕ) (h : List Event) (ends more : List ShardEnd) (end : ShardEnd) (p : Played) → slice_get hs i ≡ Some h
    → AllByRecursion (IsLegalFrom opening) (take i hs) → ends ≡ ends_from opening (take i hs) → IsPlayed opening h p → p ≡ Ended end → more ≡ ends ++ end ∷ []
    → AllByRecursion (IsLegalFrom opening) (take (i + 1) hs) × (more ≡ ends_from opening (take (i + 1) hs))
judged-more opening hs i h ends more end p at all told came ended is =
    let played : IsPlayed opening h (Ended end) = subst (IsPlayed opening h) ended came in
    let longer = hist-more hs i h at in
    let f : List Event → ShardEnd = λ history. end_of (replay opening history) in
    let last : ends ++ end ∷ [] ≡ map f (take i hs) ++ f h ∷ [] = ap (λ (es : List ShardEnd). es ++ end ∷ []) told ∙ ap (λ (e : ShardEnd). map f (take i hs) ++ e ∷ []) played.1 in (
      subst (AllByRecursion (IsLegalFrom opening)) (sym longer) (all-push opening (take i hs) h all played.0),
      is ∙ last ∙ sym (map-append f (take i hs) (h ∷ [])) ∙ ap (map f) (sym longer),
    )

pub first-stuck : (opening : PlainShard) (hs : List (List Event)) (i index : ℕ) (h : List Event) (p : Played) → slice_get hs i ≡ Some h
    → AllByRecursion (IsLegalFrom opening) (take i hs) → IsPlayed opening h p → p ≡ Stuck index → IsFirstStuck opening hs i index
first-stuck opening hs i index h p at all came stuck =
    record { history = h; there = at; before = all; stuck = subst (IsPlayed opening h) stuck came }
