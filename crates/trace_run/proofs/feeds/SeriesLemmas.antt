-- The feeds of a run, one after another: what one group more adds, and what they leave of the cache device.
use Rattle.std.proofs.Common.{◌≡◌, ◌+◌, ◌*◌, ◌^◌, ◌<◌, ◌≤◌, ℕ, zero, suc, ◌==◌, false, IsTrue, if◌then◌else◌, List, [], ◌∷◌, ◌++◌, length, refl, sym, ap, ◌∙◌, subst, inl, inr, arith, append-nil, append_assoc, ne_eqb}
use Rattle.std.specs.Prelude.{◌⊎◌, slice_index_or}
use Rattle.std.specs.List.{AllByRecursion}
use Rattle.std.proofs.lemmas.Bool.{cases_lt}
use Rattle.std.proofs.Math.Nat.{mod-lt}
use Rattle.std.proofs.lemmas.List.Elements.{filter-append}
use Rattle.blk_ptr.specs.declared.key.Key.{Key}
use Rattle.blk_ptr.specs.Hash.{hash_of_key, shard_of}
use Rattle.arc_lists.proofs.Tables.{cases_true}
use Rattle.vdev_io.specs.declared.device.CacheDev.{Ghosts}
use Rattle.vdev_io.specs.Calls.{DeviceCall}
use Rattle.vdev_io.specs.Faults.{Rose}
use Rattle.arc_core.specs.Config.{IsConfig}
use Rattle.arc_core.specs.declared.config.Config.{Config}
use Rattle.arc_core.specs.declared.event.Event.{Event}
use Rattle.arc_core.specs.declared.event.Event.TheVariants.{Restore}
use Rattle.arc_core.specs.declared.served.Restored.{Restored}
use Rattle.arc_core.proofs.Stepping.{prefix-legal}
use Rattle.arc_core.specs.Operations.{has_its_number, own_events}
use Rattle.arc_core.specs.Replay.{is_legal_history}
use Rattle.turn_table.specs.Places.{Place}
use Rattle.arc_table.specs.declared.view.Known.{Known}
use Rattle.arc_table.specs.Cache.{Cache}
use Rattle.arc_table.specs.Fronts.{StartsWith, front_of}
use Rattle.arc_table.specs.Items.{Meanings}
use Rattle.arc_table.specs.Seen.{seen_of, turn_of}
use Rattle.arc_table.specs.Telling.{opening_of}
use Rattle.l2_ring.specs.Ring.{last_lap}
use Rattle.l2_dev.specs.declared.report.FeedStop.{FeedStop}
use Rattle.l2_dev.specs.declared.report.FeedStop.TheVariants as stop
use Rattle.l2_dev.specs.declared.stop.Stop.{Stop}
use Rattle.l2_dev.specs.Cursor.{CursorState}
use Rattle.l2_dev.specs.Rebuilding.{HaveKeys, IsOpened, ring_end_of}
use Rattle.l2_dev.specs.Restoring.{IsRebuilt}
use Rattle.l2_dev.specs.Starting.{StartKeeps, opening}
use Rattle.l2_dev.proofs.ListLaws.{all_left, all_right}
use Rattle.l2_feed.specs.Acts.{Act}
use Rattle.l2_feed.specs.Crashes.{FeedKeeps, IsOwnPromise}
use Rattle.l2_feed.specs.Ends.{PlacesAreNewest}
use Rattle.l2_feed.specs.Places.{IsNewest}
use Rattle.l2_feed.specs.Series.{GivesNone, GoesOn, KeepsLive, WasLent, faults_in, is_fault, restores_at}
use Rattle.l2_feed.specs.Shape.{AreFed, FedShard, IsUnwritten, IsWritten}
use Rattle.l2_feed.proofs.Between.{places_go}
use Rattle.l2_feed.proofs.Ends.{done_is_whole, newest_stay, takes_few_laps}
use Rattle.l2_feed.proofs.InTurn.{crashes_restore, feeds_keep, lent_keep, restored_newest}
use Rattle.trace_text.specs.declared.op.Op.{Op}
use Rattle.trace_text.specs.declared.reply.Reply.{Reply}
use Rattle.trace_run.specs.declared.device.Device.{Device}
use Rattle.trace_run.specs.declared.device.Device.TheVariants as device
use Rattle.trace_run.specs.Devices.{WasLent as WasLentOut, WasOnlyRead, lent_in}
use Rattle.trace_run.specs.FeedSeries.{AreAllDone, AreInTurn, AreInTurnOf, AreMadeSoFar, GoOn, LeavesFed, SeesMore, StandsBetween, WasFed, WasMade, reports_of}
use Rattle.trace_run.specs.Feeds.{AreFedReplies, FeedDone, MadeFeeds, MadeFeedsOf}
use Rattle.trace_run.specs.KeptBlocks.{Stands}
use Rattle.trace_run.specs.Restores.{restores_in}
use Rattle.trace_run.specs.callers.Beside.{LendsAndFeeds}
use Rattle.trace_run.proofs.callers.MeetLemmas.{starts-events, starts-then}
use Rattle.trace_run.proofs.one_caller.TellLemmas.{all-append}
use Rattle.trace_run.proofs.feeds.FeedStands.{acts-still}
use Rattle.trace_run.proofs.feeds.WrittenLemmas.{feeds-written}

-- ---- what the feeder has seen

module _ (g : Config) where
  -- nothing more
  pub sees-same : (es : List Event) → SeesMore g es es
  sees-same es = record { rest = []; whole = sym (append-nil es); own = tt }

  pub sees-then : (a b c : List Event) → SeesMore g a b → SeesMore g b c → SeesMore g a c
  sees-then a b c first second = record {
    rest = first.rest ++ second.rest;
    whole = second.whole ∙ (ap (λ (l : List Event). l ++ second.rest) first.whole ∙ append_assoc a first.rest second.rest);
    own = subst (AllByRecursion GivesNone) (sym (filter-append _ first.rest second.rest)) (all-append GivesNone (own_events g.callers first.rest) (own_events g.callers second.rest) first.own second.own);
  }

  same-behind : {X : Type 0} (xs ys zs : List X) → xs ++ ys ≡ xs ++ zs → ys ≡ zs
  same-behind [] ys zs same = same
  same-behind (x ∷ xs) ys zs same = same-behind xs ys zs (let rest : xs ++ ys ≡ xs ++ zs = cc in rest)

  -- by its own events, before and behind
  pub sees-by : (seen now more : List Event) → StartsWith now seen → own_events g.callers now ≡ own_events g.callers seen ++ more → AllByRecursion GivesNone more → SeesMore g seen now
  sees-by seen now more starts own none = record {
    rest = starts.0;
    whole = starts.1;
    own = subst (AllByRecursion GivesNone)
        (sym (same-behind (own_events g.callers seen) (own_events g.callers starts.0) more (sym (filter-append _ seen starts.0) ∙ (sym (ap (own_events g.callers) starts.1) ∙ own)))) none;
  }

-- ---- one more

module _ {C D : Type 0} (m : Meanings C) (devices : Ghosts D) (cache : Cache) where
  lent-refl : (d : D) → WasLent devices d d
  lent-refl d = record { told = refl; kind = refl; crash = λ c. ((λ x. x), λ x. x); faults = omega arith }

  lent-next : (a b c : D) → WasLent devices a b → WasLent devices b c → WasLent devices a c
  lent-next a b c first second = record {
    told = second.told ∙ first.told;
    kind = second.kind ∙ first.kind;
    crash = λ i. ((λ x. (second.crash i).0 ((first.crash i).0 x)), λ x. (first.crash i).1 ((second.crash i).1 x));
    faults = omega (arith, first.faults, second.faults);
  }

  -- one that was only read was only lent
  pub read-lent : (a b : D) → WasOnlyRead devices a b → WasLent devices a b
  read-lent a b only = record { told = only.told; kind = only.kind; crash = only.crash; faults = only.faults }

  between-same : (d : D) (c : CursorState) (p : Place (Known C)) → StandsBetween m devices cache d d c c p p
  between-same d c p = record { cursor = refl; lent = lent-refl d; sees = λ shard below. sees-same cache.config (seen_of cache.config shard p) }

  between-then : (a b c : D) (x y z : CursorState) (p q r : Place (Known C)) → StandsBetween m devices cache a b x y p q → StandsBetween m devices cache b c y z q r → StandsBetween m devices cache a c x z p r
  between-then a b c x y z p q r first second = record {
    cursor = second.cursor ∙ first.cursor;
    lent = lent-next a b c first.lent second.lent;
    sees = λ shard below. sees-then cache.config (seen_of cache.config shard p) (seen_of cache.config shard q) (seen_of cache.config shard r) (first.sees shard below) (second.sees shard below);
  }

  -- behind the last feed
  turn-behind : (fs : List FeedDone) (a b c : D) (x y z : CursorState) (p q r : Place (Known C)) → AreInTurn m devices cache fs a b x y p q → StandsBetween m devices cache b c y z q r → AreInTurn m devices cache fs a c x z p r
  turn-behind [] a b c x y z p q r turn last = between-then a b c x y z p q r turn last
  turn-behind (f ∷ fs) a b c x y z p q r turn last = (turn.0, turn.1, turn.2, turn.3, turn.4, turn.5, turn-behind fs turn.1 b c f.after y z turn.3 q r turn.6 last)

  -- one feed more
  turn-feed : (fs : List FeedDone) (f : FeedDone) (a b c : D) (x : CursorState) (p q r : Place (Known C)) → AreInTurn m devices cache fs a b x f.before p q → WasMade m devices cache f b c q r → AreInTurn m devices cache (fs ++ f ∷ []) a c x f.after p r
  turn-feed [] f a b c x p q r turn made = (b, c, q, r, turn, made, between-same c f.after r)
  turn-feed (g ∷ fs) f a b c x p q r turn made = (turn.0, turn.1, turn.2, turn.3, turn.4, turn.5, turn-feed fs f turn.1 b c g.after turn.3 q r turn.6 made)

  -- several more, with nothing between them
  turn-feeds : (fs gs : List FeedDone) (a b c : D) (x y z : CursorState) (p q r : Place (Known C)) → Stands cache q [] → AreInTurn m devices cache fs a b x y p q → MadeFeeds m devices cache gs b c y z q r → AreInTurn m devices cache (fs ++ gs) a c x z p r
  turn-feeds fs [] a b c x y z p q r stands turn made =
      subst (λ (l : List FeedDone). AreInTurn m devices cache l a c x z p r) (sym (append-nil fs))
      (subst (λ (s : D × CursorState × Place (Known C)). AreInTurn m devices cache fs a s.0 x s.1 p s.2) (λ i. (sym made.0 i, sym made.1 i, sym made.2 i)) turn)
  turn-feeds fs (f ∷ gs) a b c x y z p q r stands turn made =
      let one = made.3 in
      let still = acts-still m cache one.made.fed.acts q made.1 stands one.made.fed.did in
      let was : WasMade m devices cache f b made.0 q made.1 = record {
        made = one;
        starts = λ shard below. starts-events (front_of (turn_of cache.config shard) made.1.own.seen) (front_of (turn_of cache.config shard) q.own.seen) (still.starts shard);
      } in
      subst (λ (l : List FeedDone). AreInTurn m devices cache l a c x z p r) (append_assoc fs (f ∷ []) gs)
      (turn-feeds (fs ++ f ∷ []) gs a made.0 c x f.after z p made.1 r still.stands
      (turn-feed fs f a b made.0 x p q made.1 (subst (λ (s : CursorState). AreInTurn m devices cache fs a b x s p q) (sym made.2) turn) was) made.4)

  -- one more, behind which the feeder has seen what it had and maybe more
  turn-one : (fs gs : List FeedDone) (a b c : D) (x y z : CursorState) (p q r : Place (Known C)) → length gs ≡ 1 → ((shard : ℕ) → shard < cache.config.shards → StartsWith (seen_of cache.config shard r) (seen_of cache.config shard q)) → AreInTurn m devices cache fs a b x y p q
      → MadeFeeds m devices cache gs b c y z q r → AreInTurn m devices cache (fs ++ gs) a c x z p r
  turn-one fs [] a b c x y z p q r one starts turn made = absurd (omega (arith, one))
  turn-one fs (f ∷ g ∷ gs) a b c x y z p q r one starts turn made = absurd (omega (arith, one))
  turn-one fs (f ∷ []) a b c x y z p q r one starts turn (to, s, same, made, rest) =
      let was : WasMade m devices cache f b to q s = record {
        made = made;
        starts = λ shard below. subst (λ (t : Place (Known C)). StartsWith (seen_of cache.config shard t) (seen_of cache.config shard q)) rest.2 (starts shard below);
      } in
      subst (λ (t : D × CursorState × Place (Known C)). AreInTurn m devices cache (fs ++ f ∷ []) a t.0 x t.1 p t.2) (λ i. (sym rest.0 i, sym rest.1 i, sym rest.2 i))
      (turn-feed fs f a b to x p q s (subst (λ (t : CursorState). AreInTurn m devices cache fs a b x t p q) (sym same) turn) was)

  -- ---- the device of a run

  moved : (fs : List FeedDone) (a b : Device D) (p q r : Place (Known C)) → AreInTurnOf m devices cache fs a b p q → ((shard : ℕ) → shard < cache.config.shards → SeesMore cache.config (seen_of cache.config shard q) (seen_of cache.config shard r)) → AreInTurnOf m devices cache fs a b p r
  moved fs device.None device.None p q r turn sees = turn
  moved fs (device.Short a) (device.Short b) p q r turn sees = turn
  moved fs (device.Ready a) (device.Ready b) p q r turn sees =
      turn-behind fs a.dev b.dev b.dev a.cursor b.cursor b.cursor p q r turn (record { cursor = refl; lent = lent-refl b.dev; sees = sees })
  moved fs device.None (device.Short b) p q r turn sees = absurd turn
  moved fs device.None (device.Ready b) p q r turn sees = absurd turn
  moved fs (device.Short a) device.None p q r turn sees = absurd turn
  moved fs (device.Short a) (device.Ready b) p q r turn sees = absurd turn
  moved fs (device.Ready a) device.None p q r turn sees = absurd turn
  moved fs (device.Ready a) (device.Short b) p q r turn sees = absurd turn

  lent-on : (fs : List FeedDone) (a b c : Device D) (p q : Place (Known C)) → AreInTurnOf m devices cache fs a b p q → WasLentOut devices b c → AreInTurnOf m devices cache fs a c p q
  lent-on fs device.None device.None device.None p q turn lent = turn
  lent-on fs (device.Short a) (device.Short b) (device.Short c) p q turn lent = turn
  lent-on fs (device.Ready a) (device.Ready b) (device.Ready c) p q turn lent =
      turn-behind fs a.dev b.dev c.dev a.cursor b.cursor c.cursor p q q turn
      (record { cursor = lent.0; lent = read-lent b.dev c.dev lent.2; sees = λ shard below. sees-same cache.config (seen_of cache.config shard q) })
  lent-on fs device.None device.None (device.Short c) p q turn lent = absurd lent
  lent-on fs device.None device.None (device.Ready c) p q turn lent = absurd lent
  lent-on fs (device.Short a) (device.Short b) device.None p q turn lent = absurd lent
  lent-on fs (device.Short a) (device.Short b) (device.Ready c) p q turn lent = absurd lent
  lent-on fs (device.Ready a) (device.Ready b) device.None p q turn lent = absurd lent
  lent-on fs (device.Ready a) (device.Ready b) (device.Short c) p q turn lent = absurd lent
  lent-on fs device.None (device.Short b) c p q turn lent = absurd turn
  lent-on fs device.None (device.Ready b) c p q turn lent = absurd turn
  lent-on fs (device.Short a) device.None c p q turn lent = absurd turn
  lent-on fs (device.Short a) (device.Ready b) c p q turn lent = absurd turn
  lent-on fs (device.Ready a) device.None c p q turn lent = absurd turn
  lent-on fs (device.Ready a) (device.Short b) c p q turn lent = absurd turn

  no-more : (fs gs : List FeedDone) → fs ≡ [] → gs ≡ [] → fs ++ gs ≡ []
  no-more fs gs one two = λ i. one i ++ two i

  fed-on : (fs gs : List FeedDone) (a b c : Device D) (p q r : Place (Known C)) → Stands cache q [] → AreInTurnOf m devices cache fs a b p q → MadeFeedsOf m devices cache gs b c q r → AreInTurnOf m devices cache (fs ++ gs) a c p r
  fed-on fs gs device.None device.None device.None p q r stands turn made = no-more fs gs turn made.0
  fed-on fs gs (device.Short a) (device.Short b) (device.Short c) p q r stands turn made = no-more fs gs turn made.0
  fed-on fs gs (device.Ready a) (device.Ready b) (device.Ready c) p q r stands turn made = turn-feeds fs gs a.dev b.dev c.dev a.cursor b.cursor c.cursor p q r stands turn made.1
  fed-on fs gs device.None device.None (device.Short c) p q r stands turn made = absurd made
  fed-on fs gs device.None device.None (device.Ready c) p q r stands turn made = absurd made
  fed-on fs gs (device.Short a) (device.Short b) device.None p q r stands turn made = absurd made
  fed-on fs gs (device.Short a) (device.Short b) (device.Ready c) p q r stands turn made = absurd made
  fed-on fs gs (device.Ready a) (device.Ready b) device.None p q r stands turn made = absurd made
  fed-on fs gs (device.Ready a) (device.Ready b) (device.Short c) p q r stands turn made = absurd made
  fed-on fs gs device.None (device.Short b) c p q r stands turn made = absurd turn
  fed-on fs gs device.None (device.Ready b) c p q r stands turn made = absurd turn
  fed-on fs gs (device.Short a) device.None c p q r stands turn made = absurd turn
  fed-on fs gs (device.Short a) (device.Ready b) c p q r stands turn made = absurd turn
  fed-on fs gs (device.Ready a) device.None c p q r stands turn made = absurd turn
  fed-on fs gs (device.Ready a) (device.Short b) c p q r stands turn made = absurd turn

  one-on : (fs gs : List FeedDone) (a b c : Device D) (p q r : Place (Known C)) (line : Op) (rs : List Reply) → AreFedReplies (lent_in b) (line ∷ []) gs rs → ((shard : ℕ) → shard < cache.config.shards → StartsWith (seen_of cache.config shard r) (seen_of cache.config shard q))
      → AreInTurnOf m devices cache fs a b p q → MadeFeedsOf m devices cache gs b c q r → AreInTurnOf m devices cache (fs ++ gs) a c p r
  one-on fs gs device.None device.None device.None p q r line rs answered starts turn made = no-more fs gs turn made.0
  one-on fs gs (device.Short a) (device.Short b) (device.Short c) p q r line rs answered starts turn made = no-more fs gs turn made.0
  one-on fs gs (device.Ready a) (device.Ready b) (device.Ready c) p q r line rs answered starts turn made = turn-one fs gs a.dev b.dev c.dev a.cursor b.cursor c.cursor p q r answered.0 starts turn made.1
  one-on fs gs device.None device.None (device.Short c) p q r line rs answered starts turn made = absurd made
  one-on fs gs device.None device.None (device.Ready c) p q r line rs answered starts turn made = absurd made
  one-on fs gs (device.Short a) (device.Short b) device.None p q r line rs answered starts turn made = absurd made
  one-on fs gs (device.Short a) (device.Short b) (device.Ready c) p q r line rs answered starts turn made = absurd made
  one-on fs gs (device.Ready a) (device.Ready b) device.None p q r line rs answered starts turn made = absurd made
  one-on fs gs (device.Ready a) (device.Ready b) (device.Short c) p q r line rs answered starts turn made = absurd made
  one-on fs gs device.None (device.Short b) c p q r line rs answered starts turn made = absurd turn
  one-on fs gs device.None (device.Ready b) c p q r line rs answered starts turn made = absurd turn
  one-on fs gs (device.Short a) device.None c p q r line rs answered starts turn made = absurd turn
  one-on fs gs (device.Short a) (device.Ready b) c p q r line rs answered starts turn made = absurd turn
  one-on fs gs (device.Ready a) device.None c p q r line rs answered starts turn made = absurd turn
  one-on fs gs (device.Ready a) (device.Short b) c p q r line rs answered starts turn made = absurd turn

  -- before the first group
  pub none-so-far : (restored : List Restored) (a : Device D) (p : Place (Known C)) → ((shard : ℕ) → seen_of cache.config shard p ≡ restores_in cache.config restored shard) → AreMadeSoFar m devices cache restored [] a a p
  none-so-far restored device.None p begun = record { first = p; begun = begun; turn = refl }
  none-so-far restored (device.Short a) p begun = record { first = p; begun = begun; turn = refl }
  none-so-far restored (device.Ready a) p begun = record { first = p; begun = begun; turn = between-same a.dev a.cursor p }

  -- one group more, with its feeds
  pub group-so-far : (restored : List Restored) (fs gs : List FeedDone) (a b c : Device D) (p q : Place (Known C)) → Stands cache p [] → AreMadeSoFar m devices cache restored fs a b p → LendsAndFeeds m devices cache gs b c p q → AreMadeSoFar m devices cache restored (fs ++ gs) a c q
  group-so-far restored fs gs a b c p q stands so_far used = record {
    first = so_far.first;
    begun = so_far.begun;
    turn = lent-on (fs ++ gs) a used.later c so_far.first q (fed-on fs gs a used.lent used.later so_far.first p q stands (lent-on fs a b used.lent so_far.first p so_far.turn used.gave) used.made) used.took;
  }

  -- one line more that asks for a feed, and was answered so
  pub one-so-far : (restored : List Restored) (fs gs : List FeedDone) (a b c : Device D) (p q : Place (Known C)) (line : Op) (rs : List Reply) → AreFedReplies (lent_in b) (line ∷ []) gs rs
      → ((shard : ℕ) → shard < cache.config.shards → StartsWith (seen_of cache.config shard q) (seen_of cache.config shard p)) → MadeFeedsOf m devices cache gs b c p q → AreMadeSoFar m devices cache restored fs a b p → AreMadeSoFar m devices cache restored (fs ++ gs) a c q
  one-so-far restored fs gs a b c p q line rs answered starts made so_far = record { first = so_far.first; begun = so_far.begun; turn = one-on fs gs a b c so_far.first p q line rs answered starts so_far.turn made }

  -- what the feeder does, or learns, behind a group
  pub moved-so-far : (restored : List Restored) (fs : List FeedDone) (a b : Device D) (p q : Place (Known C)) → AreMadeSoFar m devices cache restored fs a b p
      → ((shard : ℕ) → shard < cache.config.shards → SeesMore cache.config (seen_of cache.config shard p) (seen_of cache.config shard q)) → AreMadeSoFar m devices cache restored fs a b q
  moved-so-far restored fs a b p q so_far sees = record { first = so_far.first; begun = so_far.begun; turn = moved fs a b so_far.first p q so_far.turn sees }

  -- ---- what they leave

  goes-on : (fs : List FeedDone) (a b : D) (x y : CursorState) (p q : Place (Known C)) → AreInTurn m devices cache fs a b x y p q → GoOn fs x y
  goes-on [] a b x y p q turn = turn.cursor
  goes-on (f ∷ fs) a b x y p q turn = (turn.4.cursor, goes-on fs turn.1 b f.after y turn.3 q turn.6)

  -- a count of faults that rose where a feed ended so
  rise : (end : FeedStop) (t from to n : ℕ) → t ≤ from → from ≤ to → (end ≡ stop.DevFault → Rose from to) → t + suc n < 2 ^ 64 → (t + (if is_fault end then 1 else 0) ≤ to) × (t + (if is_fault end then 1 else 0) + n < 2 ^ 64)
  rise stop.Done t from to n le never rose few = (omega arith, omega arith)
  rise stop.NoMemory t from to n le never rose few = (omega arith, omega arith)
  rise stop.DevFault t from to n le never rose few = let r = rose refl in (omega arith, omega arith)

  rises : (t : ℕ) (fs : List FeedDone) (a b : D) (x y : CursorState) (p q : Place (Known C)) → AreInTurn m devices cache fs a b x y p q → t + length fs < 2 ^ 64 → t ≤ devices.faults a → t + faults_in (reports_of fs) ≤ devices.faults b
  rises t [] a b x y p q turn few le = let f = turn.lent.faults in omega arith
  rises t (f ∷ fs) a b x y p q turn few le =
      let lent = turn.4.lent.faults in
      let one = turn.5.made.made in
      let one_more = rise f.report.end t (devices.faults turn.0) (devices.faults turn.1) (length fs) (omega (arith, lent, le, few)) one.faults one.cause few in
      let more = rises (t + (if is_fault f.report.end then 1 else 0)) fs turn.1 b f.after y turn.3 q turn.6 one_more.1 one_more.0 in
      omega (arith, more)

  shard-ends : (shard : ℕ) (old new : CursorState) (acts : List Act) (calls : List DeviceCall) (end : FeedStop) → FedShard shard old new acts calls end → new.ring.end ≡ old.ring.end
  shard-ends shard old new acts calls end (inl f) = ap (λ (c : CursorState). c.ring.end) f.1
  shard-ends shard old new acts calls end (inr (inl f)) = ap (λ (c : CursorState). c.ring.end) f.1
  shard-ends shard old new acts calls end (inr (inr f)) = go f.written
    where
      go : IsWritten old new f.blocks f.clears f.settles end ⊎ IsUnwritten old new f.blocks f.clears f.settles end → new.ring.end ≡ old.ring.end
      go (inl w) = w.ran.numbers.end ∙ w.planned.numbers.end
      go (inr u) = ap (λ (c : CursorState). c.ring.end) u.same

  -- a feed leaves the ring's end
  fed-ends : (shard count : ℕ) (old new : CursorState) (acts : List Act) (calls : List DeviceCall) (end : FeedStop) → AreFed shard count old new acts calls end → new.ring.end ≡ old.ring.end
  fed-ends shard zero old new acts calls end fed = ap (λ (c : CursorState). c.ring.end) fed.1
  fed-ends shard (suc count) old new acts calls end (inl ends) = shard-ends shard old new acts calls end ends.1
  fed-ends shard (suc count) old new acts calls end (inr (first, more, between, front, behind, is, asked, one, rest)) =
      fed-ends (suc shard) count between new more behind end rest ∙ shard-ends shard old between first front stop.Done one

  turn-ends : (fs : List FeedDone) (a b : D) (x y : CursorState) (p q : Place (Known C)) → AreInTurn m devices cache fs a b x y p q → y.ring.end ≡ x.ring.end
  turn-ends [] a b x y p q turn = ap (λ (c : CursorState). c.ring.end) turn.cursor
  turn-ends (f ∷ fs) a b x y p q turn =
      let one = turn.5.made.made.fed in
      turn-ends fs turn.1 b f.after y turn.3 q turn.6 ∙ (fed-ends 0 cache.config.shards f.before f.after one.acts one.calls f.report.end one.fed ∙ ap (λ (c : CursorState). c.ring.end) turn.4.cursor)

  -- The histories of the closed cache: each is legal, each event has its number, and it goes on behind what the party has seen.
  pub record GoesTo (q : Place (Known C)) (history : (shard : ℕ) → List Event) : Type 0 where
    pub starts : (shard : ℕ) → shard < cache.config.shards → StartsWith (history shard) (seen_of cache.config shard q)
    pub legal : (shard : ℕ) → shard < cache.config.shards → IsTrue (is_legal_history (opening_of cache.config) (history shard))
    pub numbers : (shard : ℕ) → shard < cache.config.shards → AllByRecursion (λ e. IsTrue (has_its_number cache.config.callers cache.config.cells e)) (history shard)

  turn-starts : (fs : List FeedDone) (a b : D) (x y : CursorState) (p q : Place (Known C)) → AreInTurn m devices cache fs a b x y p q → (shard : ℕ) → shard < cache.config.shards → StartsWith (seen_of cache.config shard q) (seen_of cache.config shard p)
  turn-starts [] a b x y p q turn shard below = let s = turn.sees shard below in (s.rest, s.whole)
  turn-starts (f ∷ fs) a b x y p q turn shard below =
      let r : Place (Known C) = turn.2 in
      let s : Place (Known C) = turn.3 in
      let between = turn.4.sees shard below in
      starts-then (seen_of cache.config shard q) (seen_of cache.config shard s) (seen_of cache.config shard p) (turn-starts fs turn.1 b f.after y s q turn.6 shard below)
      (starts-then (seen_of cache.config shard s) (seen_of cache.config shard r) (seen_of cache.config shard p) (turn.5.starts shard below) (between.rest, between.whole))

  earlier : (p q : Place (Known C)) (history : ℕ → List Event) → GoesTo q history → ((shard : ℕ) → shard < cache.config.shards → StartsWith (seen_of cache.config shard q) (seen_of cache.config shard p)) → GoesTo p history
  earlier p q history goes starts = record {
    starts = λ shard below. starts-then (history shard) (seen_of cache.config shard q) (seen_of cache.config shard p) (goes.starts shard below) (starts shard below);
    legal = goes.legal;
    numbers = goes.numbers;
  }

  module _ (valid : IsConfig cache.config) where
    shard-below : (k : Key) → shard_of cache.config.shards k < cache.config.shards
    shard-below k = let some = valid.counts.shards in mod-lt (hash_of_key k) (omega (arith, some))

    abbrev HasNumber : Event → Type 0
    HasNumber e = IsTrue (has_its_number cache.config.callers cache.config.cells e)

    -- what is seen of a history that is legal goes on legally
    goes-between : (seen now history : List Event) → SeesMore cache.config seen now → StartsWith history now → IsTrue (is_legal_history (opening_of cache.config) history) → AllByRecursion (λ e. IsTrue (has_its_number cache.config.callers cache.config.cells e)) history → GoesOn cache.config seen now
    goes-between seen now history sees starts legal numbers = record {
      rest = sees.rest;
      whole = sees.whole;
      legal = prefix-legal (opening_of cache.config) now starts.0 (subst (λ (l : List Event). IsTrue (is_legal_history (opening_of cache.config) l)) starts.1 legal);
      numbers = all_right HasNumber seen sees.rest (subst (AllByRecursion HasNumber) sees.whole (all_left HasNumber now starts.0 (subst (AllByRecursion HasNumber) starts.1 numbers)));
      own = sees.own;
    }

    between-keeps : (a b : D) (x y : CursorState) (p q : Place (Known C)) (history : ℕ → List Event) → GoesTo q history → StandsBetween m devices cache a b x y p q
        → KeepsLive devices a x × PlacesAreNewest cache.config p x.ring.live → KeepsLive devices b y × PlacesAreNewest cache.config q y.ring.live
    between-keeps a b x y p q history goes between keeps = (
      subst (KeepsLive devices b) (sym between.cursor) (lent_keep devices a b x between.lent keeps.0),
      (λ k place at.
          let shard : ℕ = shard_of cache.config.shards k in
          let below = shard-below k in
          subst (λ (c : CursorState). IsNewest k place c.ring.live) (sym between.cursor)
          (keeps.1 k place
          (places_go cache.config (seen_of cache.config shard p) (seen_of cache.config shard q) valid
          (goes-between (seen_of cache.config shard p) (seen_of cache.config shard q) (history shard) (between.sees shard below) (goes.starts shard below) (goes.legal shard below) (goes.numbers shard below)) k place at))),
    )

    turn-keeps : (fs : List FeedDone) (a b : D) (x y : CursorState) (p q : Place (Known C)) (history : ℕ → List Event) → GoesTo q history → AreInTurn m devices cache fs a b x y p q → AreAllDone fs → x.ring.lap + cache.config.shards * length fs < last_lap
        → KeepsLive devices a x × PlacesAreNewest cache.config p x.ring.live → KeepsLive devices b y × PlacesAreNewest cache.config q y.ring.live
    turn-keeps [] a b x y p q history goes turn done few keeps = between-keeps a b x y p q history goes turn keeps
    turn-keeps (f ∷ fs) a b x y p q history goes (from, to, r, s, between, was, rest) done few keeps =
        let one = was.made.made in
        let at_s : GoesTo s history = earlier s q history goes (turn-starts fs to b f.after y s q rest) in
        let at_r : GoesTo r history = earlier r s history at_s was.starts in
        let here = between-keeps a from x f.before p r history at_r between keeps in
        let same : f.before.ring.lap ≡ x.ring.lap = ap (λ (c : CursorState). c.ring.lap) between.cursor in
        let laps : f.after.ring.lap ≤ f.before.ring.lap + cache.config.shards = takes_few_laps 0 cache.config.shards f.before f.after one.fed.acts one.fed.calls f.report.end one.fed.fed in
        let below : f.after.ring.lap < last_lap = omega (arith, same, laps, few) in
        let own : FeedKeeps devices.told devices.has_sectors devices.may_leave from to f.before f.after stop.Done =
        subst (FeedKeeps devices.told devices.has_sectors devices.may_leave from to f.before f.after) done.0 (one.crash below) in
        let whole = done_is_whole 0 cache.config.shards f.before f.after one.fed.acts one.fed.calls (subst (λ (e : FeedStop). AreFed 0 cache.config.shards f.before f.after one.fed.acts one.fed.calls e) done.0 one.fed.fed) in
        turn-keeps fs to b f.after y s q history goes rest done.1 (omega (arith, same, laps, few)) (
          feeds_keep devices from to f.before f.after own here.0,
          newest_stay m devices cache from to f.before f.after r s f.report one.ready one.fed whole.0 here.1,
        )

    -- ---- the start

    restores-same : (restored : List Restored) (shard : ℕ) → restores_in cache.config restored shard ≡ restores_at cache.config cache.config.callers restored shard
    restores-same [] shard = refl
    restores-same (r ∷ rs) shard = elim (cases_true (shard_of cache.config.shards r.key == shard)) [
      | inl here ↦ rw here (ap (λ (l : List Event). Restore cache.config.callers r.key r.place r.digest ∷ l) (restores-same rs shard))
      | inr other ↦ rw other (restores-same rs shard)
    ]

    pub restores-none : (restored : List Restored) (shard : ℕ) → cache.config.shards ≤ shard → restores_in cache.config restored shard ≡ []
    restores-none [] shard far = refl
    restores-none (r ∷ rs) shard far =
        let other : (shard_of cache.config.shards r.key == shard) ≡ false = ne_eqb (shard_of cache.config.shards r.key) shard (λ is. let below = shard-below r.key in absurd (omega (arith, below, is, far))) in
        rw other (restores-none rs shard far)

    first-newest : (restored : List Restored) (end : ℕ) (first : CursorState) (p : Place (Known C)) (history : ℕ → List Event) → GoesTo p history → ((shard : ℕ) → seen_of cache.config shard p ≡ restores_in cache.config restored shard) → IsOpened end first restored → HaveKeys restored
        → PlacesAreNewest cache.config p first.ring.live
    first-newest restored end first p history goes begun opened keys =
        restored_newest m cache.config p cache.config.callers end first restored valid opened keys (λ shard. begun shard ∙ restores-same restored shard) legal
      where
        legal : (shard : ℕ) → IsTrue (is_legal_history (opening_of cache.config) (seen_of cache.config shard p))
        legal shard = elim (cases_lt shard cache.config.shards) [
          | inl below ↦
              let starts = goes.starts shard below in
              prefix-legal (opening_of cache.config) (seen_of cache.config shard p) starts.0 (subst (λ (l : List Event). IsTrue (is_legal_history (opening_of cache.config) l)) starts.1 (goes.legal shard below))
          | inr far ↦ subst (λ (l : List Event). IsTrue (is_legal_history (opening_of cache.config) l)) (sym (begun shard ∙ restores-none restored shard (omega (arith, far)))) refl
        ]

    -- ---- all feeds of a run

    -- The feeder, which was p at the last, has made these feeds; then the cache was closed with these histories. The device was so before its start.
    pub was-fed : (restored : List Restored) (fs : List FeedDone) (before a b : D) (x y : CursorState) (p q : Place (Known C)) (why : Stop) (histories : List (List Event)) → ((shard : ℕ) → seen_of cache.config shard p ≡ restores_in cache.config restored shard)
        → AreInTurn m devices cache fs a b x y p q → IsOpened (ring_end_of (devices.size before)) x restored → HaveKeys restored
        → StartKeeps devices.told devices.has_sectors devices.may_leave (ring_end_of (devices.size before)) before a x restored why
        → GoesTo q (λ shard. slice_index_or histories shard [])
        → ((shard : ℕ) → shard < cache.config.shards → SeesMore cache.config (seen_of cache.config shard q) (slice_index_or histories shard []))
        → WasFed devices cache.config before a b x why fs histories
    was-fed restored fs before a b x y p q why histories begun turn opened keys start goes closed = record {
      last = y;
      turn = goes-on fs a b x y p q turn;
      written = λ shard below. feeds-written m devices cache shard below fs a b x y p q (slice_index_or histories shard []) turn (closed shard below);
      faults = λ few. rises (devices.faults a) fs a b x y p q turn few (omega arith);
      crash = λ disk done few image left found stopped is well k place at.
          let shard : ℕ = shard_of cache.config.shards k in
          let below = shard-below k in
          let begins = start disk.image disk.sectors disk.told disk.crash disk.orderly in
          let at_p : GoesTo p (λ shard. slice_index_or histories shard []) = earlier p q (λ shard. slice_index_or histories shard []) goes (turn-starts fs a b x y p q turn) in
          let own : IsOwnPromise (opening begins.0) = ((record { list = refl; entries = refl }), tt) in
          let keeps = turn-keeps fs a b x y p q (λ shard. slice_index_or histories shard []) goes turn done few
          ((opening begins.0, begins.2, own), first-newest restored (ring_end_of (devices.size before)) x p (λ shard. slice_index_or histories shard []) at_p begun opened keys) in
          let same : ring_end_of (devices.size before) ≡ y.ring.end = sym (turn-ends fs a b x y p q turn ∙ opened.ends) in
          crashes_restore devices m cache.config q b y keeps.0 keeps.1 image left found stopped (subst (λ (end : ℕ). IsRebuilt end image found stopped) same is) well k place
          (places_go cache.config (seen_of cache.config shard q) (slice_index_or histories shard []) valid
          (goes-between (seen_of cache.config shard q) (slice_index_or histories shard []) (slice_index_or histories shard []) (closed shard below) ([], sym (append-nil (slice_index_or histories shard []))) (goes.legal shard below) (goes.numbers shard below)) k place at);
    }

    pub left-fed : (restored : List Restored) (fs : List FeedDone) (a b : Device D) (q : Place (Known C)) (histories : List (List Event)) → AreMadeSoFar m devices cache restored fs a b q → GoesTo q (λ shard. slice_index_or histories shard [])
        → ((shard : ℕ) → shard < cache.config.shards → SeesMore cache.config (seen_of cache.config shard q) (slice_index_or histories shard [])) → LeavesFed devices cache.config restored fs a b histories
    left-fed restored fs device.None device.None q histories so_far goes closed = so_far.turn
    left-fed restored fs (device.Short a) (device.Short b) q histories so_far goes closed = so_far.turn
    left-fed restored fs (device.Ready a) (device.Ready b) q histories so_far goes closed = λ before why opened keys start.
        was-fed restored fs before a.dev b.dev a.cursor b.cursor so_far.first q why histories so_far.begun so_far.turn opened keys start goes closed
    left-fed restored fs device.None (device.Short b) q histories so_far goes closed = absurd so_far.turn
    left-fed restored fs device.None (device.Ready b) q histories so_far goes closed = absurd so_far.turn
    left-fed restored fs (device.Short a) device.None q histories so_far goes closed = absurd so_far.turn
    left-fed restored fs (device.Short a) (device.Ready b) q histories so_far goes closed = absurd so_far.turn
    left-fed restored fs (device.Ready a) device.None q histories so_far goes closed = absurd so_far.turn
    left-fed restored fs (device.Ready a) (device.Short b) q histories so_far goes closed = absurd so_far.turn
