-- What a start leaves for the first feed, what feeds one after another keep, and what a crash behind them restores.
use Rattle.std.proofs.Common.{◌≡◌, ◌≢◌, ◌⊎◌, ℕ, suc, ◌+◌, ◌^◌, ◌<◌, ◌≤◌, true, not, IsTrue, List, [], ◌∷◌, ◌++◌, map, length, Some, None, inl, inr, refl, sym, ap, ◌∙◌, subst, ⊎_elim, arith}
use Rattle.std.specs.Prelude.{◌==◌, if◌then◌else◌, reverse}
use Rattle.std.specs.List.{AllByRecursion, filter}
use Rattle.std.specs.Option.{option_and_then}
use Rattle.std.proofs.lemmas.List.{map-append, reverse-append}
use Rattle.vdev_io.specs.declared.device.CacheDev.{Ghosts}
use Rattle.vdev_io.specs.Faults.{Rose}
use Rattle.blk_ptr.specs.declared.key.Key.{Key}
use Rattle.blk_ptr.specs.Hash.{shard_of}
use Rattle.blk_ptr.specs.Order.{key_eq}
use Rattle.blk_ptr.proofs.Keys.{key_eq-is}
use Rattle.arc_lists.proofs.Standing.{and_left, and_right}
use Rattle.arc_lists.proofs.Tables.{cases_true}
use Rattle.arc_core.specs.Config.{IsConfig}
use Rattle.arc_core.specs.declared.config.Config.{Config}
use Rattle.arc_core.specs.declared.entry.Entry.{Entry}
use Rattle.arc_core.specs.declared.event.Event.{Event}
use Rattle.arc_core.specs.declared.event.Event.TheVariants.{Restore}
use Rattle.arc_core.specs.declared.served.Restored.{Restored}
use Rattle.arc_core.specs.PlainShard.{PlainShard, place_of}
use Rattle.arc_core.specs.Replay.{is_legal_history, replay}
use Rattle.arc_core.specs.Sound.{IsSound}
use Rattle.arc_core.specs.Step.{after, legal}
use Rattle.arc_core.proofs.Others.{own-entry}
use Rattle.arc_core.proofs.Places.{taking-places}
use Rattle.arc_core.proofs.Soundness.{IsSound-after}
use Rattle.turn_table.specs.Places.{Place}
use Rattle.arc_table.specs.declared.view.Known.{Known}
use Rattle.arc_table.specs.Cache.{Cache}
use Rattle.arc_table.specs.Items.{Meanings}
use Rattle.arc_table.proofs.OpeningLaws.{opening_sound}
use Rattle.arc_table.specs.Seen.{seen_of}
use Rattle.arc_table.specs.Telling.{opening_of}
use Rattle.l2_ring.specs.declared.live.Written.{Written}
use Rattle.l2_ring.specs.Ring.{last_lap}
use Rattle.l2_dev.specs.declared.report.FeedReport.{FeedReport}
use Rattle.l2_dev.specs.declared.report.FeedStop.{FeedStop}
use Rattle.l2_dev.specs.declared.report.FeedStop.TheVariants as stop
use Rattle.l2_dev.specs.Cursor.{CursorState}
use Rattle.l2_dev.proofs.ListLaws.{firsts_prefix}
use Rattle.l2_dev.proofs.NewestLaws.{newest_is_restored}
use Rattle.l2_dev.proofs.ReadLaws.{reads_keep}
use Rattle.l2_dev.specs.Rebuilding.{HaveKeys}
use Rattle.l2_dev.specs.Restoring.{firsts, is_same_key, restored_of}
use Rattle.l2_feed.specs.Crashes.{FeedKeeps}
use Rattle.l2_feed.specs.Ends.{PlacesAreNewest}
use Rattle.l2_feed.specs.Places.{IsLive, IsNewest}
use Rattle.l2_feed.specs.Series.{AreInTurn, CrashesRestorePlaces, FaultsRise, FeedsInTurn, FeedsKeepLive, IsBetween, IsRestoredAt, KeepsLive, LentKeepLive, RestoredAreNewest, faults_in, is_fault, restores_at}
use Rattle.l2_feed.specs.Shape.{AreFed}
use Rattle.l2_feed.proofs.Between.{places_go}
use Rattle.l2_feed.proofs.Ends.{done_is_whole, newest_stay, takes_few_laps}
use Rattle.l2_feed.proofs.Keeping.{live_either}

-- ---- lists of live entries

live_front : (k : Key) (x : ℕ) (a b : List Written) → IsLive k x a → IsLive k x (a ++ b)
live_front k x [] b live = absurd live
live_front k x (w ∷ a) b (inl is) = inl is
live_front k x (w ∷ a) b (inr live) = inr (live_front k x a b live)

live_behind : (k : Key) (x : ℕ) (a b : List Written) → IsLive k x b → IsLive k x (a ++ b)
live_behind k x [] b live = live
live_behind k x (w ∷ a) b live = inr (live_behind k x a b live)

turned : (w : Written) (ws : List Written) → reverse (w ∷ ws) ≡ reverse ws ++ w ∷ []
turned w ws = reverse-append (w ∷ []) ws

-- what is live stands in the turned list, and the other way round
live_there : (k : Key) (x : ℕ) (ws : List Written) → IsLive k x ws → IsLive k x (reverse ws)
live_there k x [] live = live
live_there k x (w ∷ ws) (inl is) = subst (IsLive k x) (sym (turned w ws)) (live_behind k x (reverse ws) (w ∷ []) (inl is))
live_there k x (w ∷ ws) (inr live) = subst (IsLive k x) (sym (turned w ws)) (live_front k x (reverse ws) (w ∷ []) (live_there k x ws live))

pub live_back : (k : Key) (x : ℕ) (ws : List Written) → IsLive k x (reverse ws) → IsLive k x ws
live_back k x [] live = live
live_back k x (w ∷ ws) live = ⊎_elim
    (λ (front : IsLive k x (reverse ws)). inr (live_back k x ws front))
    (λ (last : IsLive k x (w ∷ [])). ⊎_elim (λ (is : (w.live.key ≡ k) × (w.live.place ≡ x)). inl is) (λ (no : IsLive k x []). absurd no) last)
    (live_either k x (reverse ws) (w ∷ []) (subst (IsLive k x) (turned w ws) live))

-- ---- the newest entry of a key is the first of the turned list

not_same : (w o : Written) (k : Key) → o.live.key ≡ k → w.live.key ≢ k → not (is_same_key o w) ≡ true
not_same w o k is other = elim (cases_true (is_same_key o w)) [
  | inl same ↦ absurd (other (sym (key_eq-is o.live.key w.live.key same) ∙ is))
  | inr differs ↦ ap not differs
]

live_kept : (w : Written) (k : Key) (x : ℕ) (zs : List Written) → w.live.key ≢ k → IsLive k x zs → IsLive k x (filter (λ o. not (is_same_key o w)) zs)
live_kept w k x [] other live = live
live_kept w k x (z ∷ zs) other (inl is) = rw (not_same w z k is.0 other) (inl is)
live_kept w k x (z ∷ zs) other (inr live) = elim (cases_true (not (is_same_key z w))) [
  | inl keeps ↦ rw keeps (inr (live_kept w k x zs other live))
  | inr drops ↦ rw drops (live_kept w k x zs other live)
]

last_first : (w : Written) (xs : List Written) → ((y : ℕ) → ¬ IsLive w.live.key y xs) → IsLive w.live.key w.live.place (firsts (xs ++ w ∷ []))
last_first w [] none = inl (refl, refl)
last_first w (z ∷ xs) none = inr (live_kept z w.live.key w.live.place (firsts (xs ++ w ∷ [])) (λ same. none z.live.place (inl (same, refl))) (last_first w xs (λ y live. none y (inr live))))

newest_first : (k : Key) (x : ℕ) (ws : List Written) → IsNewest k x ws → IsLive k x (firsts (reverse ws))
newest_first k x [] new = absurd new
newest_first k x (w ∷ ws) (inl new) =
    let front = firsts_prefix (reverse ws) (w ∷ []) in
    subst (λ (l : List Written). IsLive k x (firsts l)) (sym (turned w ws)) (subst (IsLive k x) (sym front.1) (live_front k x (firsts (reverse ws)) front.0 (newest_first k x ws new)))
newest_first k x (w ∷ ws) (inr one) =
    let none : (y : ℕ) → ¬ IsLive w.live.key y (reverse ws) = λ y live. one.1 y (subst (λ (j : Key). IsLive j y ws) one.0.0 (live_back w.live.key y ws live)) in
    let first : IsLive w.live.key w.live.place (firsts (reverse ws ++ w ∷ [])) = last_first w (reverse ws) none in
    subst (λ (l : List Written). IsLive k x (firsts l)) (sym (turned w ws))
    (subst (λ (j : Key). IsLive j x (firsts (reverse ws ++ w ∷ []))) one.0.0 (subst (λ (y : ℕ). IsLive w.live.key y (firsts (reverse ws ++ w ∷ []))) one.0.1 first))

-- ---- what is restored

restored_live : (k : Key) (x : ℕ) (ws : List Written) → IsLive k x ws → IsRestoredAt k x (map restored_of ws)
restored_live k x [] live = live
restored_live k x (w ∷ ws) (inl is) = inl is
restored_live k x (w ∷ ws) (inr live) = inr (restored_live k x ws live)

pub live_restored : (k : Key) (x : ℕ) (ws : List Written) → IsRestoredAt k x (map restored_of ws) → IsLive k x ws
live_restored k x [] at = at
live_restored k x (w ∷ ws) (inl is) = inl is
live_restored k x (w ∷ ws) (inr at) = inr (live_restored k x ws at)

restored_front : (k : Key) (x : ℕ) (a b : List Restored) → IsRestoredAt k x a → IsRestoredAt k x (a ++ b)
restored_front k x [] b at = absurd at
restored_front k x (r ∷ a) b (inl is) = inl is
restored_front k x (r ∷ a) b (inr at) = inr (restored_front k x a b at)

-- no key stands in front that stands last
keys_front : (a : List Restored) (r : Restored) → HaveKeys (a ++ r ∷ []) → HaveKeys a × AllByRecursion (λ (s : Restored). s.key ≢ r.key) a
keys_front [] r keys = (tt, tt)
keys_front (s ∷ a) r keys =
    let rest = keys_front a r keys.2 in
    let apart = split a keys.1 in
    ((keys.0, apart.0, rest.0), ((λ same. apart.1 (sym same)), rest.1))
  where
    split : (b : List Restored) → AllByRecursion (λ (t : Restored). t.key ≢ s.key) (b ++ r ∷ []) → AllByRecursion (λ (t : Restored). t.key ≢ s.key) b × (r.key ≢ s.key)
    split [] all = (tt, all.0)
    split (t ∷ b) all = let more = split b all.1 in ((all.0, more.0), more.1)

none_with : (k : Key) (y : ℕ) (rs : List Restored) → AllByRecursion (λ (s : Restored). s.key ≢ k) rs → ¬ IsRestoredAt k y rs
none_with k y [] all at = at
none_with k y (r ∷ rs) all (inl is) = all.0 is.0
none_with k y (r ∷ rs) all (inr at) = none_with k y rs all.1 at

-- where each key stands once, each entry is its key's newest
once_newest : (k : Key) (x : ℕ) (ws : List Written) → HaveKeys (map restored_of (reverse ws)) → IsLive k x ws → IsNewest k x ws
once_newest k x [] keys live = live
once_newest k x (w ∷ ws) keys live =
    let whole : HaveKeys (map restored_of (reverse ws) ++ restored_of w ∷ []) =
    subst HaveKeys (ap (map restored_of) (turned w ws) ∙ map-append restored_of (reverse ws) (w ∷ [])) keys in
    let parts = keys_front (map restored_of (reverse ws)) (restored_of w) whole in
    ⊎_elim
    (λ (is : (w.live.key ≡ k) × (w.live.place ≡ x)). inr (
      is,
      (λ y more.
          none_with w.live.key y (map restored_of (reverse ws)) parts.1 (restored_live w.live.key y (reverse ws) (live_there w.live.key y ws (subst (λ (j : Key). IsLive j y ws) (sym is.0) more)))),
    ))
    (λ (more : IsLive k x ws). inl (once_newest k x ws parts.0 more))
    live

-- ---- the start

restored_place : (s : PlainShard) (n y x : ℕ) (j k : Key) (d : _) → IsSound s → IsTrue (legal s (Restore n j y d)) → place_of k (after s (Restore n j y d)) ≡ Some x → (place_of k s ≡ Some x) ⊎ ((j ≡ k) × (y ≡ x))
restored_place s n y x j k d sound ok at = elim (cases_true (key_eq k j)) [
  | inl same ↦
      let is : k ≡ j = key_eq-is k j same in
      let own = own-entry s (Restore n j y d) j sound ok refl in
      let value : Some y ≡ Some x = sym (ap (option_and_then (λ (e : Entry). e.place)) own) ∙ subst (λ (i : Key). place_of i (after s (Restore n j y d)) ≡ Some x) is at in
      inr (sym is, cc)
  | inr other ↦ ⊎_elim (λ (kept : place_of k (after s (Restore n j y d)) ≡ place_of k s). inl (sym kept ∙ at)) (λ (gone : place_of k (after s (Restore n j y d)) ≡ None). cc)
      (taking-places s (Restore n j y d) k sound ok (ap not other))
]

pub restores_give : (g : Config) (n shard : ℕ) (rs : List Restored) (s : PlainShard) (k : Key) (x : ℕ) → IsSound s → IsTrue (is_legal_history s (restores_at g n rs shard)) → place_of k (replay s (restores_at g n rs shard)) ≡ Some x
    → (place_of k s ≡ Some x) ⊎ IsRestoredAt k x rs
restores_give g n shard [] s k x sound ok at = inl at
restores_give g n shard (r ∷ rs) s k x sound ok at = elim (cases_true (shard_of g.shards r.key == shard)) [
  | inl here ↦
      let e : Event = Restore n r.key r.place r.digest in
      let legal_all : IsTrue (is_legal_history s (e ∷ restores_at g n rs shard)) = rw here at ok in
      let now : IsTrue (legal s e) = and_left (legal s e) (is_legal_history (after s e) (restores_at g n rs shard)) legal_all in
      let there : place_of k (replay (after s e) (restores_at g n rs shard)) ≡ Some x = rw here at at in
      ⊎_elim
      (λ (had : place_of k (after s e) ≡ Some x). ⊎_elim (λ (before : place_of k s ≡ Some x). inl before) (λ (is : (r.key ≡ k) × (r.place ≡ x)). inr (inl is)) (restored_place s n r.place x r.key k r.digest sound now had))
      (λ (more : IsRestoredAt k x rs). inr (inr more))
      (restores_give g n shard rs (after s e) k x (IsSound-after s e sound now) (and_right (legal s e) (is_legal_history (after s e) (restores_at g n rs shard)) legal_all) there)
  | inr other ↦ ⊎_elim (λ (before : place_of k s ≡ Some x). inl before) (λ (more : IsRestoredAt k x rs). inr (inr more)) (restores_give g n shard rs s k x sound (rw other at ok) (rw other at at))
]

pub restored_newest : {C : Type 0} (m : Meanings C) → RestoredAreNewest m
restored_newest m g p n end cursor restored valid opened keys seen legal k x at =
    let shard : ℕ = shard_of g.shards k in
    let ok : IsTrue (is_legal_history (opening_of g) (restores_at g n restored shard)) = subst (λ (l : List Event). IsTrue (is_legal_history (opening_of g) l)) (seen shard) (legal shard) in
    let there : place_of k (replay (opening_of g) (restores_at g n restored shard)) ≡ Some x = subst (λ (l : List Event). place_of k (replay (opening_of g) l) ≡ Some x) (seen shard) at in
    let found : IsRestoredAt k x restored = ⊎_elim (λ (before : place_of k (opening_of g) ≡ Some x). cc) (λ (more : IsRestoredAt k x restored). more)
    (restores_give g n shard restored (opening_of g) k x (opening_sound g.c g.mintime g.bounds valid.amounts.c) ok there) in
    once_newest k x cursor.ring.live (subst HaveKeys opened.live keys)
    (live_back k x cursor.ring.live (live_restored k x (reverse cursor.ring.live) (subst (IsRestoredAt k x) opened.live found)))

-- ---- crashes

module _ {D : Type 0} (device : Ghosts D) where
  pub feeds_keep : FeedsKeepLive device
  feeds_keep was now old new keeps live = let more = keeps live.0 live.1 in (more.0, more.1, more.2 live.2)

  pub lent_keep : LentKeepLive device
  lent_keep was now cursor lent live = (live.0, reads_keep device.told device.has_sectors device.may_leave was now cursor live.0 lent.told lent.kind lent.crash live.1, live.2)

  pub crashes_restore : {C : Type 0} (m : Meanings C) → CrashesRestorePlaces device m
  crashes_restore m g p dev cursor live newest image left restored why is well k x at =
      let found = newest_is_restored device.told device.has_sectors device.may_leave dev cursor live.0 live.1 live.2 image left restored why is well in
      subst (IsRestoredAt k x) (sym found.1)
      (restored_front k x (map restored_of (firsts (reverse cursor.ring.live))) found.0 (restored_live k x (firsts (reverse cursor.ring.live)) (newest_first k x cursor.ring.live (newest k x at))))

-- ---- feeds one after another

-- a count of faults that rose where a feed ended so
rise : (end : FeedStop) (t from to n : ℕ) → t ≤ from → from ≤ to → (end ≡ stop.DevFault → Rose from to) → t + suc n < 2 ^ 64 → (t + (if is_fault end then 1 else 0) ≤ to) × (t + (if is_fault end then 1 else 0) + n < 2 ^ 64)
rise stop.Done t from to n le never rose few = (omega arith, omega arith)
rise stop.NoMemory t from to n le never rose few = (omega arith, omega arith)
rise stop.DevFault t from to n le never rose few = let r = rose refl in (omega arith, omega arith)

module _ {C D : Type 0} (m : Meanings C) (device : Ghosts D) (cache : Cache) where
  between_keeps : (was now : D) (old new : CursorState) (p q : Place (Known C)) → IsConfig cache.config → IsBetween m device cache was now old new p q
      → KeepsLive device was old × PlacesAreNewest cache.config p old.ring.live → KeepsLive device now new × PlacesAreNewest cache.config q new.ring.live
  between_keeps was now old new p q valid between (live, newest) = (
    subst (KeepsLive device now) (sym between.cursor) (lent_keep device was now old between.lent live),
    (λ k x at. subst (λ (c : CursorState). IsNewest k x c.ring.live) (sym between.cursor)
        (newest k x (places_go cache.config (seen_of cache.config (shard_of cache.config.shards k) p) (seen_of cache.config (shard_of cache.config.shards k) q) valid (between.seen (shard_of cache.config.shards k)) k x at))),
  )

  pub feeds_in_turn : FeedsInTurn m device cache
  feeds_in_turn [] was now old new p q valid turn done few keeps = between_keeps was now old new p q valid turn keeps
  feeds_in_turn (report ∷ reports) was now old new p q valid (from, to, next, r, s, between, one, rest) done few keeps =
      let here = between_keeps was from old old p r valid between keeps in
      let laps = takes_few_laps 0 cache.config.shards old next one.fed.acts one.fed.calls report.end one.fed.fed in
      let below : next.ring.lap < last_lap = omega arith in
      let own : FeedKeeps device.told device.has_sectors device.may_leave from to old next stop.Done =
      subst (FeedKeeps device.told device.has_sectors device.may_leave from to old next) done.0 (one.crash below) in
      let whole = done_is_whole 0 cache.config.shards old next one.fed.acts one.fed.calls (subst (λ (e : FeedStop). AreFed 0 cache.config.shards old next one.fed.acts one.fed.calls e) done.0 one.fed.fed) in
      feeds_in_turn reports to now next new s q valid rest done.1 (omega arith) (
        feeds_keep device from to old next own here.0,
        newest_stay m device cache from to old next r s report one.ready one.fed whole.0 here.1,
      )

  rises : (t : ℕ) (reports : List FeedReport) (was now : D) (old new : CursorState) (p q : Place (Known C)) → AreInTurn m device cache reports was now old new p q
      → t + length reports < 2 ^ 64 → t ≤ device.faults was → t + faults_in reports ≤ device.faults now
  rises t [] was now old new p q turn few le = let f = turn.lent.faults in omega arith
  rises t (report ∷ reports) was now old new p q (from, to, next, r, s, between, one, rest) few le =
      let a = between.lent.faults in
      let one_more = rise report.end t (device.faults from) (device.faults to) (length reports) (let b = one.faults in omega arith) one.faults one.cause few in
      let more = rises (t + (if is_fault report.end then 1 else 0)) reports to now next new s q rest one_more.1 one_more.0 in
      omega arith

  pub faults_rise : FaultsRise m device cache
  faults_rise reports was now old new p q turn few = rises (device.faults was) reports was now old new p q turn few (omega arith)
