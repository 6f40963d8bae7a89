-- What the end of a feed says of its acts, and what one feed leaves for the next.
use Rattle.std.proofs.Common.{◌≡◌, ◌≢◌, ◌⊎◌, ℕ, zero, suc, ◌+◌, ◌≤◌, List, [], ◌∷◌, ◌++◌, take, drop, inl, inr, refl, sym, ap, ◌∙◌, subst, ⊎_elim, add-one, arith}
use Rattle.std.specs.List.{AllByRecursion, range_with_len}
use Rattle.std.proofs.lemmas.Bool.{cases_lt}
use Rattle.vdev_io.specs.declared.device.CacheDev.{Ghosts}
use Rattle.vdev_io.specs.Calls.{DeviceCall}
use Rattle.blk_ptr.specs.declared.key.Key.{Key}
use Rattle.arc_core.specs.declared.event.Why.{Why}
use Rattle.arc_core.specs.declared.event.Why.TheVariants as why
use Rattle.arc_table.specs.declared.picks.Picked.{Picked as Block}
use Rattle.arc_table.specs.Items.{Meanings}
use Rattle.l2_ring.specs.declared.live.Live.{Live}
use Rattle.l2_ring.specs.declared.live.Written.{Written}
use Rattle.l2_ring.specs.declared.plan.Plan.{Plan}
use Rattle.l2_ring.specs.Ring.{IsPlanFor}
use Rattle.l2_dev.specs.declared.report.FeedStop.{FeedStop}
use Rattle.l2_dev.specs.declared.report.FeedStop.TheVariants as stop
use Rattle.l2_dev.specs.Cursor.{CursorState}
use Rattle.l2_feed.specs.Acts.{Act, Absent, Cleared, Left, Picked, Placed, Refused, Unpicked}
use Rattle.l2_feed.specs.Ends.{DoneIsWhole, IsLeftFor, LeavesForItsEnd, NewestStay, TakesFewLaps, shards_picked}
use Rattle.l2_feed.specs.Places.{IsAmongActs, IsNewest}
use Rattle.l2_feed.specs.Runs.{AreCleared, AreLeft, AreRuns, AreSet, bytes_of, most}
use Rattle.l2_feed.specs.Shape.{FedShard, IsRefusal, IsUnwritten, IsWritten, LeavesSome, NoneRefused, why_of}
use Rattle.l2_feed.proofs.Stepped.{Knows}
use Rattle.l2_feed.proofs.Taking.{acts_takes}
use Rattle.l2_log.specs.Rules.{log_len}

-- ---- what is so of each act

module _ (P : Act → Type 0) where
  all_two : (a b : List Act) → AllByRecursion P a → AllByRecursion P b → AllByRecursion P (a ++ b)
  all_two [] b first rest = rest
  all_two (x ∷ a) b first rest = (first.0, all_two a b first.1 rest)

  module _ (cleared : (k : Key) (x : ℕ) → P (Cleared k x)) (absent : (k : Key) (x : ℕ) → P (Absent k x)) (refused : (k : Key) (x : ℕ) → P (Refused k x)) where
    clears_all : (ls : List Live) (acts : List Act) → AreCleared ls acts → AllByRecursion P acts
    clears_all [] [] are = tt
    clears_all [] (a ∷ acts) are = absurd are
    clears_all (l ∷ ls) [] are = absurd are
    clears_all (l ∷ ls) (Cleared k x ∷ acts) are = (cleared k x, clears_all ls acts are.1)
    clears_all (l ∷ ls) (Absent k x ∷ acts) are = (absent k x, clears_all ls acts are.1)
    clears_all (l ∷ ls) (Refused k x ∷ acts) are = (refused k x, clears_all ls acts are.1)
    clears_all (l ∷ ls) (Picked i bs ∷ acts) are = absurd are
    clears_all (l ∷ ls) (Unpicked i ∷ acts) are = absurd are
    clears_all (l ∷ ls) (Placed k x ∷ acts) are = absurd are
    clears_all (l ∷ ls) (Left k w ∷ acts) are = absurd are

  lefts_all : (reason : Why) → ((k : Key) (w : Why) → (w ≡ reason) ⊎ (w ≡ why.Gone) → P (Left k w)) → (bs : List Block) (acts : List Act) → AreLeft reason bs acts → AllByRecursion P acts
  lefts_all reason left [] [] are = tt
  lefts_all reason left [] (a ∷ acts) are = absurd are
  lefts_all reason left (b ∷ bs) [] are = absurd are
  lefts_all reason left (b ∷ bs) (Left k w ∷ acts) are = (left k w are.0.1, lefts_all reason left bs acts are.1)
  lefts_all reason left (b ∷ bs) (Picked i cs ∷ acts) are = absurd are
  lefts_all reason left (b ∷ bs) (Unpicked i ∷ acts) are = absurd are
  lefts_all reason left (b ∷ bs) (Cleared k x ∷ acts) are = absurd are
  lefts_all reason left (b ∷ bs) (Absent k x ∷ acts) are = absurd are
  lefts_all reason left (b ∷ bs) (Refused k x ∷ acts) are = absurd are
  lefts_all reason left (b ∷ bs) (Placed k x ∷ acts) are = absurd are

  module _ (placed : (k : Key) (x : ℕ) → P (Placed k x)) (gone : (k : Key) (w : Why) → w ≡ why.Gone → P (Left k w)) where
    sets_all : (place : ℕ) (bs : List Block) (acts : List Act) → AreSet place bs acts → AllByRecursion P acts
    sets_all place [] [] are = tt
    sets_all place [] (a ∷ acts) are = absurd are
    sets_all place (b ∷ bs) [] are = absurd are
    sets_all place (b ∷ bs) (Placed k x ∷ acts) are = (placed k x, sets_all (place + b.key.size) bs acts are.1)
    sets_all place (b ∷ bs) (Left k w ∷ acts) are = (gone k w are.0.1, sets_all (place + b.key.size) bs acts are.1)
    sets_all place (b ∷ bs) (Picked i cs ∷ acts) are = absurd are
    sets_all place (b ∷ bs) (Unpicked i ∷ acts) are = absurd are
    sets_all place (b ∷ bs) (Cleared k x ∷ acts) are = absurd are
    sets_all place (b ∷ bs) (Absent k x ∷ acts) are = absurd are
    sets_all place (b ∷ bs) (Refused k x ∷ acts) are = absurd are

    runs_all : (lap hand count : ℕ) (bs : List Block) (acts : List Act) (ws : List Written) (left : List Block) → AreRuns lap hand count bs acts ws left → AllByRecursion P acts
    runs_all lap hand zero bs acts ws left are = subst (AllByRecursion P) (sym are.0) tt
    runs_all lap hand (suc count) bs acts ws left (some, sets, more, behind, is, rows, set, rest) =
        subst (AllByRecursion P) (sym is) (all_two sets more (sets_all hand (take most bs) sets set) (runs_all lap (hand + (bytes_of (take most bs) + log_len)) count (drop most bs) more behind left rest))

-- ---- why keys are left

-- none is left at Done
lefts_for : (end : FeedStop) (left : List Block) (acts : List Act) → LeavesSome end left → AreLeft (why_of end) left acts → AllByRecursion (IsLeftFor end) acts
lefts_for stop.Done [] [] some are = tt
lefts_for stop.Done [] (a ∷ acts) some are = absurd are
lefts_for stop.Done (b ∷ bs) acts some are = cc
lefts_for stop.DevFault left acts some are = lefts_all (IsLeftFor stop.DevFault) why.Device (λ k w is. ⊎_elim (λ (r : w ≡ why.Device). inr (r, (λ e. cc))) (λ (r : w ≡ why.Gone). inl r) is) left acts are
lefts_for stop.NoMemory left acts some are = lefts_all (IsLeftFor stop.NoMemory) why.Memory (λ k w is. ⊎_elim (λ (r : w ≡ why.Memory). inr (r, (λ e. cc))) (λ (r : w ≡ why.Gone). inl r) is) left acts are

shard_left : (shard : ℕ) (old new : CursorState) (acts : List Act) (calls : List DeviceCall) (end : FeedStop) → FedShard shard old new acts calls end → AllByRecursion (IsLeftFor end) acts
shard_left shard old new acts calls end (inl f) = subst (AllByRecursion (IsLeftFor end)) (sym f.0) (tt, tt)
shard_left shard old new acts calls end (inr (inl f)) = subst (AllByRecursion (IsLeftFor end)) (sym f.0) (tt, tt)
shard_left shard old new acts calls end (inr (inr f)) = subst (AllByRecursion (IsLeftFor end)) (sym f.acts_are) (tt, go f.written)
  where
    go : IsWritten old new f.blocks f.clears f.settles end ⊎ IsUnwritten old new f.blocks f.clears f.settles end → AllByRecursion (IsLeftFor end) (f.clears ++ f.settles)
    go (inl w) =
        let clears = clears_all (IsLeftFor end) (λ k x. tt) (λ k x. tt) (λ k x. tt) _ f.clears w.cleared in
        let sets = runs_all (IsLeftFor end) (λ k x. tt) (λ k v is. inl is) w.begun.ring.lap w.begun.ring.hand w.ran.count f.blocks w.ran.sets w.ran.entries w.ran.left w.ran.runs in
        let leaves = lefts_for end w.ran.left w.ran.leaves w.ran.some w.ran.lefts in
        all_two (IsLeftFor end) f.clears f.settles clears (subst (AllByRecursion (IsLeftFor end)) (sym w.ran.settled) (all_two (IsLeftFor end) w.ran.sets w.ran.leaves sets leaves))
    go (inr u) =
        let ended : (v : Why) → (v ≡ why.Memory) ⊎ (v ≡ why.Gone) → (v ≡ why.Gone) ⊎ ((v ≡ why_of end) × (end ≢ stop.Done)) =
        λ v is. subst (λ (e : FeedStop). (v ≡ why.Gone) ⊎ ((v ≡ why_of e) × (e ≢ stop.Done))) (sym u.ended) (⊎_elim (λ (r : v ≡ why.Memory). inr (r, (λ e. cc))) (λ (r : v ≡ why.Gone). inl r) is) in
        all_two (IsLeftFor end) f.clears f.settles (subst (AllByRecursion (IsLeftFor end)) (sym u.none) tt) (lefts_all (IsLeftFor end) why.Memory (λ k v is. ended v is) f.blocks f.settles u.lefts)

-- what is left by a shard that was fed to its end is gone
done_left : (end : FeedStop) (acts : List Act) → AllByRecursion (IsLeftFor stop.Done) acts → AllByRecursion (IsLeftFor end) acts
done_left end [] all = tt
done_left end (Left k w ∷ acts) all = (⊎_elim (λ (is : w ≡ why.Gone). inl is) (λ (r : (w ≡ why.Gone) × (stop.Done ≢ stop.Done)). inl r.0) all.0, done_left end acts all.1)
done_left end (Picked i bs ∷ acts) all = (tt, done_left end acts all.1)
done_left end (Unpicked i ∷ acts) all = (tt, done_left end acts all.1)
done_left end (Cleared k x ∷ acts) all = (tt, done_left end acts all.1)
done_left end (Absent k x ∷ acts) all = (tt, done_left end acts all.1)
done_left end (Refused k x ∷ acts) all = (tt, done_left end acts all.1)
done_left end (Placed k x ∷ acts) all = (tt, done_left end acts all.1)

pub leaves_for_its_end : LeavesForItsEnd
leaves_for_its_end shard zero old new acts calls end fed = subst (AllByRecursion (IsLeftFor end)) (sym fed.0) tt
leaves_for_its_end shard (suc count) old new acts calls end (inl ends) = shard_left shard old new acts calls end ends.1
leaves_for_its_end shard (suc count) old new acts calls end (inr (first, more, between, front, behind, is, asked, one, rest)) =
    subst (AllByRecursion (IsLeftFor end)) (sym is) (all_two (IsLeftFor end) first more (done_left end first (shard_left shard old between first front stop.Done one)) (leaves_for_its_end (suc shard) count between new more behind end rest))

-- ---- a feed that was done

picked_two : (a b : List Act) → shards_picked (a ++ b) ≡ shards_picked a ++ shards_picked b
picked_two [] b = refl
picked_two (Picked i bs ∷ a) b = ap (λ (l : List ℕ). i ∷ l) (picked_two a b)
picked_two (Unpicked i ∷ a) b = picked_two a b
picked_two (Cleared k x ∷ a) b = picked_two a b
picked_two (Absent k x ∷ a) b = picked_two a b
picked_two (Refused k x ∷ a) b = picked_two a b
picked_two (Placed k x ∷ a) b = picked_two a b
picked_two (Left k w ∷ a) b = picked_two a b

-- it is no pick
abbrev IsNoPick : Act → Type 0
IsNoPick (Picked i bs) = ⊥
IsNoPick _ = Unit {0}

none_picked : (acts : List Act) → AllByRecursion IsNoPick acts → shards_picked acts ≡ []
none_picked [] all = refl
none_picked (Picked i bs ∷ acts) all = absurd all.0
none_picked (Unpicked i ∷ acts) all = none_picked acts all.1
none_picked (Cleared k x ∷ acts) all = none_picked acts all.1
none_picked (Absent k x ∷ acts) all = none_picked acts all.1
none_picked (Refused k x ∷ acts) all = none_picked acts all.1
none_picked (Placed k x ∷ acts) all = none_picked acts all.1
none_picked (Left k w ∷ acts) all = none_picked acts all.1

abbrev NotRefused : Act → Type 0
NotRefused act = ¬ IsRefusal act

shard_done : (shard : ℕ) (old new : CursorState) (acts : List Act) (calls : List DeviceCall) → FedShard shard old new acts calls stop.Done → NoneRefused acts × (shards_picked acts ≡ shard ∷ [])
shard_done shard old new acts calls (inl f) = subst (λ (l : List Act). NoneRefused l × (shards_picked l ≡ shard ∷ [])) (sym f.0) (((λ r. r), tt), refl)
shard_done shard old new acts calls (inr (inl f)) = let no = f.2 in cc
shard_done shard old new acts calls (inr (inr f)) = subst (λ (l : List Act). NoneRefused l × (shards_picked l ≡ shard ∷ [])) (sym f.acts_are) (go f.written)
  where
    go : IsWritten old new f.blocks f.clears f.settles stop.Done ⊎ IsUnwritten old new f.blocks f.clears f.settles stop.Done → NoneRefused (Picked shard f.blocks ∷ (f.clears ++ f.settles)) × (shards_picked (Picked shard f.blocks ∷ (f.clears ++ f.settles)) ≡ shard ∷ [])
    go (inr u) = let no = u.ended in cc
    go (inl w) =
        let clears : NoneRefused f.clears = ⊎_elim (λ (none : NoneRefused f.clears). none) (λ (no : (w.ran.count ≡ 0) × (stop.Done ≢ stop.Done)). absurd (no.1 refl)) w.refused in
        let sets = runs_all NotRefused (λ k x r. r) (λ k v is r. r) w.begun.ring.lap w.begun.ring.hand w.ran.count f.blocks w.ran.sets w.ran.entries w.ran.left w.ran.runs in
        let leaves = lefts_all NotRefused (why_of stop.Done) (λ k v is r. r) w.ran.left w.ran.leaves w.ran.lefts in
        let settles : NoneRefused f.settles = subst NoneRefused (sym w.ran.settled) (all_two NotRefused w.ran.sets w.ran.leaves sets leaves) in
        let clear_picks = clears_all IsNoPick (λ k x. tt) (λ k x. tt) (λ k x. tt) _ f.clears w.cleared in
        let set_picks = runs_all IsNoPick (λ k x. tt) (λ k v is. tt) w.begun.ring.lap w.begun.ring.hand w.ran.count f.blocks w.ran.sets w.ran.entries w.ran.left w.ran.runs in
        let leave_picks = lefts_all IsNoPick (why_of stop.Done) (λ k v is. tt) w.ran.left w.ran.leaves w.ran.lefts in
        let settle_picks = subst (AllByRecursion IsNoPick) (sym w.ran.settled) (all_two IsNoPick w.ran.sets w.ran.leaves set_picks leave_picks) in
        (((λ r. r), all_two NotRefused f.clears f.settles clears settles), ap (λ (l : List ℕ). shard ∷ l) (none_picked (f.clears ++ f.settles) (all_two IsNoPick f.clears f.settles clear_picks settle_picks)))

pub done_is_whole : DoneIsWhole
done_is_whole shard zero old new acts calls fed = subst (λ (l : List Act). NoneRefused l × (shards_picked l ≡ [])) (sym fed.0) (tt, refl)
done_is_whole shard (suc count) old new acts calls (inl ends) = absurd (ends.0 refl)
done_is_whole shard (suc count) old new acts calls (inr (first, more, between, front, behind, is, asked, one, rest)) =
    let a = shard_done shard old between first front one in
    let b = done_is_whole (suc shard) count between new more behind rest in
    subst (λ (l : List Act). NoneRefused l × (shards_picked l ≡ range_with_len shard (suc count))) (sym is) (all_two NotRefused first more a.0 b.0, picked_two first more ∙ ((λ i. a.1 i ++ b.1 i) ∙ ap (λ (n : ℕ). shard ∷ range_with_len n count) (sym (add-one shard))))

-- ---- laps

plan_laps : (old : CursorState) (n : ℕ) (plan : Plan) → IsPlanFor old.ring n plan → plan.lap ≤ old.ring.lap + 1
plan_laps old n plan is = elim (cases_lt old.ring.end (old.ring.hand + n)) [
  | inl far ↦ let e = ap (λ (x : Plan). x.lap) (is.wrapped far) in omega arith
  | inr near ↦ let e = ap (λ (x : Plan). x.lap) (is.straight (omega arith)) in omega arith
]

shard_laps : (shard : ℕ) (old new : CursorState) (acts : List Act) (calls : List DeviceCall) (end : FeedStop) → FedShard shard old new acts calls end → new.ring.lap ≤ old.ring.lap + 1
shard_laps shard old new acts calls end (inl f) = let e = ap (λ (c : CursorState). c.ring.lap) f.1 in omega arith
shard_laps shard old new acts calls end (inr (inl f)) = let e = ap (λ (c : CursorState). c.ring.lap) f.1 in omega arith
shard_laps shard old new acts calls end (inr (inr f)) = go f.written
  where
    go : IsWritten old new f.blocks f.clears f.settles end ⊎ IsUnwritten old new f.blocks f.clears f.settles end → new.ring.lap ≤ old.ring.lap + 1
    go (inl w) = let few = plan_laps old _ w.planned.plan w.planned.plan_for in let a = w.planned.numbers.lap in let b = w.ran.numbers.lap in omega arith
    go (inr u) = let e = ap (λ (c : CursorState). c.ring.lap) u.same in omega arith

pub takes_few_laps : TakesFewLaps
takes_few_laps shard zero old new acts calls end fed = let e = ap (λ (c : CursorState). c.ring.lap) fed.1 in omega arith
takes_few_laps shard (suc count) old new acts calls end (inl ends) = let one = shard_laps shard old new acts calls end ends.1 in omega arith
takes_few_laps shard (suc count) old new acts calls end (inr (first, more, between, front, behind, is, asked, one, rest)) =
    let a = shard_laps shard old between first front stop.Done one in let b = takes_few_laps (suc shard) count between new more behind end rest in omega arith

-- ---- newest places

refused_none : (k : Key) (x : ℕ) (acts : List Act) → NoneRefused acts → IsAmongActs (Refused k x) acts → ⊥
refused_none k x [] none among = among
refused_none k x (a ∷ acts) none (inl is) = none.0 (subst IsRefusal (sym is) tt)
refused_none k x (a ∷ acts) none (inr among) = refused_none k x acts none.1 among

pub newest_stay : {C D : Type 0} (m : Meanings C) (device : Ghosts D) → NewestStay m device
newest_stay m device cache was now old new p q report ready fed none before k x at =
    let knows : Knows cache.config p = record { valid = ready.on.valid; config = ready.on.of.config; feeder = ready.on.feeder; seen = ready.on.seen } in
    ⊎_elim (λ (is : IsNewest k x new.ring.live). is) (λ (refused : IsAmongActs (Refused k x) fed.acts). absurd (refused_none k x fed.acts none refused))
    (fed.newest k x (⊎_elim (λ (had : _). inl (before k x had)) (λ (given : IsAmongActs (Placed k x) fed.acts). inr given) (acts_takes m cache.config fed.acts p q knows fed.did k x at)) at)
