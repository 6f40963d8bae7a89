-- The places that keys have on the cache device, line by line: each of them stands in the ring, as long as memory was refused for taking none.
use Rattle.std.proofs.Common.{◌≡◌, ◌≢◌, ◌⊎◌, ℕ, IsTrue, List, [], ◌∷◌, Option, None, Some, inl, inr, refl, sym, ap, ◌∙◌, subst, append-nil, arith}
use Rattle.std.specs.List.{AllByRecursion}
use Rattle.blk_ptr.specs.Hash.{shard_of}
use Rattle.blk_ptr.specs.declared.key.Key.{Key}
use Rattle.arc_core.specs.Config.{IsConfig}
use Rattle.arc_core.specs.declared.config.Config.{Config}
use Rattle.arc_core.specs.declared.event.Event.{Event}
use Rattle.arc_core.specs.PlainShard.{PlainShard, place_of}
use Rattle.arc_core.specs.Replay.{is_legal_history, replay}
use Rattle.arc_core.specs.Sound.{IsSound}
use Rattle.arc_core.proofs.Stepping.{replay-append}
use Rattle.arc_table.specs.Telling.{opening_of}
use Rattle.arc_table.proofs.OpeningLaws.{opening_sound}
use Rattle.l2_ring.specs.declared.live.Written.{Written}
use Rattle.l2_dev.specs.Cursor.{CursorState}
use Rattle.l2_dev.specs.declared.report.FeedStop.TheVariants as stop
use Rattle.l2_feed.specs.Alone.{events_at}
use Rattle.l2_feed.specs.Plain.{all_after}
use Rattle.l2_feed.specs.Shape.{NoneRefused}
use Rattle.l2_feed.proofs.Stepped.{sound_front}
use Rattle.vdev_io.specs.declared.device.CacheDev.{Ghosts as Devices}
use Rattle.vdev_io.specs.declared.pool.Pool.{Ghosts}
use Rattle.trace_text.specs.declared.op.Op.{Op}
use Rattle.trace_text.specs.declared.op.Op.TheVariants as ops
use Rattle.trace_text.specs.declared.reply.Reply.{Reply}
use Rattle.trace_text.specs.declared.trace.Trace.{Trace}
use Rattle.trace_run.specs.FeedEvents.{events_of_made}
use Rattle.trace_run.specs.FeedSeries.{GoOn}
use Rattle.trace_run.specs.Feeds.{AreFedReplies, FeedDone, IsFeedOf}
use Rattle.trace_run.specs.dbufs.ObjectLines.{on_object}
use Rattle.trace_run.specs.dbufs.Objects.{Line, Work}
use Rattle.trace_run.specs.one_caller.Sequence.{BetweenLines, DoesAnyLine, DoesFeed, DoesOther, IsFeedHere, shard_behind}
use Rattle.run_laws.specs.Alike.{WantsMemory}
use Rattle.run_laws.proofs.feeds.FeedPlaces.{AllMay, PlacesLive, after-acts, fed-live}
use Rattle.run_laws.proofs.feeds.FeedRows.{plain-known}
use Rattle.run_laws.proofs.feeds.PlacesGo.{PlacesGo, cap-places, own-places, shard-below, sync-places}
use Rattle.run_laws.proofs.ShardsLegal.{AreLegalShards}

-- ---- a feed

-- These feeds made of the shards s just the shards t, by events that may be made.
pub record FedFrom (g : Config) (s t : ℕ → PlainShard) (feeds : List FeedDone) : Type 0 where
  pub leads : (shard : ℕ) → t shard ≡ replay (s shard) (events_of_made g shard feeds)
  pub sound : (k : Key) → IsSound (s (shard_of g.shards k))
  pub legal : (k : Key) → IsTrue (is_legal_history (s (shard_of g.shards k)) (events_of_made g (shard_of g.shards k) feeds))

module _ (g : Config) (s t : ℕ → PlainShard) (feed : FeedDone) (f : FedFrom g s t (feed ∷ [])) where
  pub feed-may : AllMay g g.callers s feed.acts
  feed-may k = record { sound = f.sound k; legal = subst (λ (es : List Event). IsTrue (is_legal_history (s (shard_of g.shards k)) es)) (append-nil (events_at g g.callers (shard_of g.shards k) feed.acts)) (f.legal k) }

  pub feed-leads : (k : Key) → t (shard_of g.shards k) ≡ all_after g g.callers s feed.acts (shard_of g.shards k)
  feed-leads k =
      let sh : ℕ = shard_of g.shards k in
      f.leads sh ∙ (ap (λ (es : List Event). replay (s sh) es) (append-nil (events_at g g.callers sh feed.acts)) ∙ sym (after-acts g g.callers k feed.acts s))

  -- behind a feed that memory was refused nowhere each place stands in its ring
  pub feed-live : IsFeedHere g s feed → IsFeedOf g.shards feed → (feed.report.end ≢ stop.NoMemory) × NoneRefused feed.acts → PlacesLive g s feed.before.ring.live → PlacesLive g t feed.after.ring.live
  feed-live here shape plain live k x at =
      fed-live g g.callers 0 g.shards feed.before feed.after feed.acts feed.calls feed.report.end shape.fed plain.0 plain.1 s here.of_shards feed-may live k x (sym (ap (place_of k) (feed-leads k)) ∙ at)

-- ---- lines

-- fewer places are live still
go-live : (g : Config) (s t : ℕ → PlainShard) (live : List Written) → PlacesGo g s t → PlacesLive g s live → PlacesLive g t live
go-live g s t live goes all k x at = all k x (goes k x at)

-- where no feed was made the ring is as it was
unfed-live : (g : Config) (t : ℕ → PlainShard) (here : List FeedDone) (a b : CursorState) → here ≡ [] → GoOn here a b → PlacesLive g t a.ring.live → PlacesLive g t b.ring.live
unfed-live g t here a b none on live = subst (λ (c : CursorState). PlacesLive g t c.ring.live) (sym (subst (λ (fs : List FeedDone). GoOn fs a b) none on)) live

module _ {P D : Type 0} (pools : Ghosts P) (devices : Devices D) (trace : Trace) (valid : IsConfig trace.config) where
  abbrev g : Config
  g = trace.config

  abbrev shards_at : BetweenLines P D → ℕ → PlainShard
  shards_at at = shard_behind g at.shards

  -- what a line `feed` makes of the shards
  pub line-fed : (reply : Reply) (feeds : List FeedDone) (from to : BetweenLines P D) → DoesFeed pools devices trace reply feeds from to → AreLegalShards trace to.shards → FedFrom g (shards_at from) (shards_at to) feeds
  line-fed reply feeds from to did legal = record {
    leads = λ shard. ap (replay (opening_of g)) (did.goes_on.shards shard) ∙ replay-append (opening_of g) (from.shards shard) (events_of_made g shard feeds);
    sound = λ k. (parts k).0;
    legal = λ k. (parts k).1;
  }
    where
      parts : (k : Key) → IsSound (shards_at from (shard_of g.shards k)) × IsTrue (is_legal_history (shards_at from (shard_of g.shards k)) (events_of_made g (shard_of g.shards k) feeds))
      parts k =
          let shard : ℕ = shard_of g.shards k in
          let some = valid.counts.shards.0 in
          let all : IsTrue (is_legal_history (opening_of g) (to.shards shard)) = legal shard (shard-below g.shards k (omega (arith, some))) in
          sound_front (opening_of g) (from.shards shard) (events_of_made g shard feeds) (opening_sound g.c g.mintime g.bounds valid.amounts.c)
          (subst (λ (es : List Event). IsTrue (is_legal_history (opening_of g) es)) (did.goes_on.shards shard) all)

  fed-any : (s t : ℕ → PlainShard) (was : Option D) (reply : Reply) (feeds : List FeedDone) (a b : CursorState) → FedFrom g s t feeds → AreFedReplies was (ops.Feed ∷ []) feeds (reply ∷ []) → AllByRecursion (IsFeedHere g s) feeds
      → AllByRecursion (IsFeedOf g.shards) feeds → GoOn feeds a b → PlacesLive g s a.ring.live → WantsMemory feeds ⊎ PlacesLive g t b.ring.live
  fed-any s t was reply [] a b fed answered here shapes on live = inr (unfed-live g t [] a b refl on (λ k x at. live k x (sym (ap (place_of k) (fed.leads (shard_of g.shards k))) ∙ at)))
  fed-any s t was reply (feed ∷ []) a b fed answered here shapes on live = elim (plain-known feed) [
    | inl wants ↦ inl wants
    | inr plain ↦
        let before : PlacesLive g s feed.before.ring.live = subst (λ (c : CursorState). PlacesLive g s c.ring.live) (sym on.0) live in
        inr (subst (λ (c : CursorState). PlacesLive g t c.ring.live) (sym on.1) (feed-live g s t feed fed here.0 shapes.0 plain before))
  ]
  fed-any s t None reply (feed ∷ more ∷ feeds) a b fed answered here shapes on live = let clash : ◌≡◌ {A = List FeedDone} (feed ∷ more ∷ feeds) [] = answered.0 in cc
  fed-any s t (Some was) reply (feed ∷ more ∷ feeds) a b fed answered here shapes on live = let many = answered.0 in absurd (omega (arith, many))

  other-live : (op : Op) (reply : Reply) (work : Work) (here : List FeedDone) (from to : BetweenLines P D) (a b : CursorState) → DoesOther pools devices trace op reply work here from to → AreLegalShards trace to.shards
      → AllByRecursion (IsFeedOf g.shards) here → GoOn here a b → PlacesLive g (shards_at from) a.ring.live → WantsMemory here ⊎ PlacesLive g (shards_at to) b.ring.live
  other-live ops.Feed reply work here from to a b does legal shapes on live =
      fed-any (shards_at from) (shards_at to) from.device reply here a b (line-fed reply here from to does legal) does.answered does.here shapes on live
  other-live (ops.Txg t) reply work here from to a b does legal shapes on live =
      inr (unfed-live g (shards_at to) here a b does.0 on (go-live g (shards_at from) (shards_at to) a.ring.live (sync-places pools devices trace valid t reply work from to does.1 legal) live))
  other-live (ops.Cap c) reply work here from to a b does legal shapes on live =
      inr (unfed-live g (shards_at to) here a b does.0 on (go-live g (shards_at from) (shards_at to) a.ring.live (cap-places pools devices trace valid c reply from to does.1 legal) live))
  other-live (ops.Read n t x window) reply work here from to a b does legal shapes on live = absurd does
  other-live (ops.Hold n t x) reply work here from to a b does legal shapes on live = absurd does
  other-live (ops.Drop n x) reply work here from to a b does legal shapes on live = absurd does
  other-live (ops.Get n t at window) reply work here from to a b does legal shapes on live = absurd does
  other-live (ops.Put n t at size fill) reply work here from to a b does legal shapes on live = absurd does
  other-live (ops.Patch n t at start bytes) reply work here from to a b does legal shapes on live = absurd does
  other-live (ops.Pin n t at) reply work here from to a b does legal shapes on live = absurd does
  other-live (ops.Unpin n at) reply work here from to a b does legal shapes on live = absurd does

  -- Behind each line each place that a key has stands in the ring, where it was so before; or a feed of the line wanted memory.
  pub line-live : (by : Option ℕ) (l : Line) (here : List FeedDone) (from to : BetweenLines P D) (a b : CursorState) → DoesAnyLine pools devices trace by l here from to → AreLegalShards trace to.shards
      → AllByRecursion (IsFeedOf g.shards) here → GoOn here a b → PlacesLive g (shards_at from) a.ring.live → WantsMemory here ⊎ PlacesLive g (shards_at to) b.ring.live
  line-live (Some n) l here from to a b does legal shapes on live =
      inr (unfed-live g (shards_at to) here a b does.0 on (go-live g (shards_at from) (shards_at to) a.ring.live (own-places pools devices trace valid (on_object l.op) l from to does.1.did legal) live))
  line-live None l here from to a b does legal shapes on live = other-live l.op l.reply l.work here from to a b does legal shapes on live
