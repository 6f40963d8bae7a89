-- Taking back the picks and passes of a feed leaves the shard that was there before them.
use Rattle.std.proofs.Common.{◌≡◌, ℕ, true, false, IsTrue, List, [], ◌∷◌, take, drop, refl, sym, ap, subst, ◌∙◌}
use Rattle.std.specs.List.{AllByRecursion}
use Rattle.std.proofs.lemmas.Bool.{false≢true}
use Rattle.arc_core.specs.declared.entry.Picked.{Picked}
use Rattle.arc_core.specs.declared.entry.Phase.{Phase}
use Rattle.arc_core.specs.declared.entry.Phase.TheVariants.{Idle, Picking}
use Rattle.arc_core.specs.declared.event.Event.{Event}
use Rattle.arc_core.specs.declared.event.Event.TheVariants.{Pass, Hit, Miss, Arrive, Fail, Drop, Past, Hand, Insert, Release, Pick, FeedEnd, Set, Leave, Clear, Restore, Resize}
use Rattle.std.proofs.Common.{Bool, if◌then◌else◌, None, take-append-drop}
use Rattle.blk_ptr.specs.declared.key.Key.{Key}
use Rattle.blk_ptr.specs.declared.state.State.TheVariants.{L2Only}
use Rattle.blk_ptr.specs.State.{is_same_state}
use Rattle.arc_core.specs.PlainShard.{PlainShard, entry_is}
use Rattle.arc_core.specs.Rules.{resized}
use Rattle.arc_core.proofs.Frames.{frame-fitted}
use Rattle.arc_core.specs.Changes.{changed, gone, unpicked, without_pick, writing_phase}
use Rattle.arc_core.specs.Replay.{is_legal_history, replay}
use Rattle.arc_core.specs.ShardLog.{MayUnpick, ShardLog, is_scan}
use Rattle.arc_core.specs.Sound.{IsSound}
use Rattle.arc_core.specs.Step.{after}
use Rattle.arc_core.proofs.Others.{frame-kept}
use Rattle.arc_core.proofs.Stepping.{prefix-legal, replay-append}
use Rattle.arc_core.proofs.Tables.{IsTidy-same}

-- without a feed nothing is picked
abbrev IdleEmpty : PlainShard → Type 0
IdleEmpty s = s.phase ≡ Idle → s.picked ≡ []

writing-empty : (picks : List Picked) → writing_phase picks ≡ Idle → picks ≡ []
writing-empty [] is = refl
writing-empty (p ∷ ps) is = cc

-- where the phase and the picks stay, so does this
idle-same : (s t : PlainShard) → t.phase ≡ s.phase → t.picked ≡ s.picked → IdleEmpty s → IdleEmpty t
idle-same s t phase picked empty is = picked ∙ empty (sym phase ∙ is)

idle-after : (s : PlainShard) (e : Event) → IdleEmpty s → IdleEmpty (after s e)
idle-after s (Pass n k owner) empty = idle-same s (after s (Pass n k owner)) refl refl empty
idle-after s (Hit n k t) empty = idle-same s (after s (Hit n k t)) refl refl empty
idle-after s (Miss n k t) empty = let f = frame-kept s (Miss n k t) in idle-same s (after s (Miss n k t)) (f.phase refl) (f.picked refl) empty
idle-after s (Arrive n k d from) empty = idle-same s (after s (Arrive n k d from)) refl refl empty
idle-after s (Fail n k at) empty = idle-same s (after s (Fail n k at)) refl refl empty
idle-after s (Drop n k) empty = let f = frame-kept s (Drop n k) in idle-same s (after s (Drop n k)) (f.phase refl) (f.picked refl) empty
idle-after s (Past n k kept) empty = idle-same s (after s (Past n k kept)) refl refl empty
idle-after s (Hand n k to) empty = idle-same s (after s (Hand n k to)) refl refl empty
idle-after s (Insert n k d t) empty = let f = frame-kept s (Insert n k d t) in idle-same s (after s (Insert n k d t)) (f.phase refl) (f.picked refl) empty
idle-after s (Release n k sole) empty = let f = frame-kept s (Release n k sole) in idle-same s (after s (Release n k sole)) (f.phase refl) (f.picked refl) empty
idle-after s (Pick n k) empty = λ is. let wrong : Picking ≡ Idle = is in cc
idle-after s (FeedEnd n) empty = λ is. writing-empty s.picked is
idle-after s (Set n k place) empty = λ is. writing-empty (without_pick k s.picked) is
idle-after s (Leave n k why) empty = λ is. writing-empty (without_pick k s.picked) is
idle-after s (Clear n k) empty = go (entry_is (λ e. is_same_state e.state L2Only) k s)
  where
    go : (b : Bool) → IdleEmpty (record (if b then gone k s else changed k (λ e. record e { place = None }) s) { passed = [] })
    go true = empty
    go false = empty
idle-after s (Restore n k place d) empty = idle-same s (after s (Restore n k place d)) refl refl empty
idle-after s (Resize n c) empty = let f = frame-fitted (resized c s) in idle-same s (after s (Resize n c)) f.phase f.picked empty

idle-replay : (s : PlainShard) (es : List Event) → IdleEmpty s → IdleEmpty (replay s es)
idle-replay s [] empty = empty
idle-replay s (e ∷ es) empty = idle-replay (after s e) es (idle-after s e empty)

-- picks and passes change the passed keys, the phase and the picks alone
scan-step : (s : PlainShard) (e : Event) → is_scan e ≡ true → unpicked (after s e) ≡ unpicked s
scan-step s (Pass n k owner) is = refl
scan-step s (Pick n k) is = refl
scan-step s (Hit n k t) is = absurd (false≢true is)
scan-step s (Miss n k t) is = absurd (false≢true is)
scan-step s (Arrive n k d from) is = absurd (false≢true is)
scan-step s (Fail n k at) is = absurd (false≢true is)
scan-step s (Drop n k) is = absurd (false≢true is)
scan-step s (Past n k kept) is = absurd (false≢true is)
scan-step s (Hand n k to) is = absurd (false≢true is)
scan-step s (Insert n k d t) is = absurd (false≢true is)
scan-step s (Release n k sole) is = absurd (false≢true is)
scan-step s (FeedEnd n) is = absurd (false≢true is)
scan-step s (Set n k place) is = absurd (false≢true is)
scan-step s (Leave n k why) is = absurd (false≢true is)
scan-step s (Clear n k) is = absurd (false≢true is)
scan-step s (Restore n k place d) is = absurd (false≢true is)
scan-step s (Resize n c) is = absurd (false≢true is)

scan-replay : (s : PlainShard) (es : List Event) → AllByRecursion (λ e. IsTrue (is_scan e)) es → unpicked (replay s es) ≡ unpicked s
scan-replay s [] all = refl
scan-replay s (e ∷ es) all = scan-replay (after s e) es all.1 ∙ scan-step s e all.0

unpicked-same : (s : PlainShard) → s.passed ≡ [] → s.phase ≡ Idle → s.picked ≡ [] → unpicked s ≡ s
unpicked-same s passed phase picked =
    let build : List Key × Phase × List Picked → PlainShard = λ x. record s { passed = x.0; phase = x.1; picked = x.2 } in
    let none : List Key × Phase × List Picked = ([], Idle, []) in
    let parts : none ≡ (s.passed, s.phase, s.picked) = rw (passed, phase, picked) refl in
    ap build parts

-- the shard before the picks is the shard now without them
pub before-scan : (log : ShardLog) (len : ℕ) → MayUnpick len log → replay log.opening log.history ≡ log.now → IdleEmpty log.opening → unpicked log.now ≡ replay log.opening (take len log.history)
before-scan log len may replayed empty =
    let front = take len log.history in
    let rest = drop len log.history in
    let before = replay log.opening front in
    let whole : replay log.opening log.history ≡ replay before rest = ap (replay log.opening) (sym (take-append-drop len log.history)) ∙ replay-append log.opening front rest in
    ap unpicked (sym replayed ∙ whole) ∙ scan-replay before rest may.scan
    ∙ unpicked-same before may.unpassed may.idle (idle-replay log.opening front empty may.idle)

pub sound-unpicked : (s : PlainShard) → IsSound s → IsSound (unpicked s)
sound-unpicked s sound = record {
  tidy = IsTidy-same s (unpicked s) refl refl sound.tidy;
  target_low = sound.target_low;
  target_high = sound.target_high;
  feed = refl;
  picks = refl;
  passed = refl;
}

pub front-legal : (log : ShardLog) (len : ℕ) → is_legal_history log.opening log.history ≡ true → is_legal_history log.opening (take len log.history) ≡ true
front-legal log len ok = prefix-legal log.opening (take len log.history) (drop len log.history) (subst (λ es. is_legal_history log.opening es ≡ true) (sym (take-append-drop len log.history)) ok)
