-- The step of a line `feed` of two runs: with alike cursors before it, and the same calls of the device failed, both are answered the same, and what stands behind the line is alike again; or a feed picked two contents of one digest, or
-- wanted memory (l2arc_feed_thread for a single thread).
use Rattle.std.proofs.Common.{◌≡◌, ◌⊎◌, ℕ, List, [], ◌∷◌, ◌++◌, length, Option, Some, None, refl, sym, ap, ◌∙◌, subst, inl, inr, arith, append-nil}
use Rattle.std.specs.List.{AllByRecursion}
use Rattle.blk_ptr.specs.Hash.{shard_of}
use Rattle.blk_ptr.specs.declared.key.Key.{Key}
use Rattle.arc_core.specs.Config.{IsConfig}
use Rattle.arc_core.specs.declared.config.Config.{Config}
use Rattle.arc_core.specs.declared.event.Event.{Event}
use Rattle.arc_core.specs.PlainShard.{PlainShard, place_of}
use Rattle.vdev_io.specs.Calls.{Call, DeviceCall, MakesDeviceCalls}
use Rattle.vdev_io.specs.declared.device.CacheDev.{Ghosts as Devices}
use Rattle.vdev_io.specs.declared.pool.Pool.{Ghosts}
use Rattle.l2_dev.specs.Cursor.{CursorState}
use Rattle.l2_feed.specs.Alike.{AreCursorsAlike}
use Rattle.l2_feed.specs.Plain.{answers_of}
use Rattle.trace_text.specs.declared.op.Op.TheVariants as ops
use Rattle.trace_text.specs.declared.reply.Reply.{Reply}
use Rattle.trace_text.specs.declared.reply.Reply.TheVariants.{Fed}
use Rattle.trace_text.specs.declared.trace.Trace.{Trace}
use Rattle.l2_dev.specs.declared.report.FeedReport.{FeedReport}
use Rattle.trace_run.specs.FeedEvents.{events_of_made}
use Rattle.trace_run.specs.FeedSeries.{GoOn}
use Rattle.trace_run.specs.Feeds.{AreFedReplies, AsksForFeeds, AsksOfFeeds, FeedDone, IsFeedOf}
use Rattle.trace_run.specs.callers.Together.{BetweenGroups}
use Rattle.trace_run.specs.dbufs.Objects.{Line, Work, no_work}
use Rattle.trace_run.specs.one_caller.Sequence.{BetweenLines, DoesFeed, IsFeedHere, shard_behind}
use Rattle.run_laws.specs.Alike.{AreAlike, AreAlikeSoFar, AreDevicesAlike, FeedsPickTwo, WantsMemory, feed_answers, pool_answers_to}
use Rattle.run_laws.proofs.Behind.{goes-cell, goes-shard, same-shard}
use Rattle.run_laws.proofs.feeds.LinePlaces.{FedFrom, feed-leads, feed-live, feed-may, line-fed}
use Rattle.run_laws.proofs.feeds.FeedPlaces.{PlacesLive, acts-take}
use Rattle.run_laws.proofs.feeds.FeedRanges.{fed-beside, fed-wrote}
use Rattle.run_laws.proofs.feeds.FeedRows.{AreFedAlike, feeds-alike, told-at}
use Rattle.run_laws.proofs.feeds.FeedWrites.{SameIn, TellBoth, WroteIn, calls-keep, calls-tell}
use Rattle.run_laws.proofs.ShardsLegal.{AreLegalShards}
use Rattle.run_laws.proofs.Steps.{PartsAt, StepAlike, memory, picks}

-- ---- what calls leave of a device

module _ {D : Type 0} (devices : Devices D) where
  -- its length
  calls-size : (calls : List DeviceCall) (was now : D) → MakesDeviceCalls devices calls was now → devices.size now ≡ devices.size was
  calls-size [] was now made = ap devices.size made
  calls-size (call ∷ calls) was now made = calls-size calls made.0 now made.2 ∙ made.1.size

-- ---- the line

module _ {P D : Type 0} (pools : Ghosts P) (devices : Devices D) (trace : Trace) where
  abbrev g : Config
  g = trace.config

  -- what two lines `feed` come to
  record IsFedSame (t : ℕ → PlainShard) (here there : List FeedDone) (r q : Reply) (now other_now : Option D) (b d : CursorState) : Type 0 where
    pub reply : q ≡ r
    pub device : AreDevicesAlike pools devices trace t now other_now
    pub many : length there ≡ length here
    pub answers : feed_answers there ≡ feed_answers here
    pub events : (shard : ℕ) → events_of_made g shard there ≡ events_of_made g shard here
    pub cursors : AreCursorsAlike b d

  abbrev FedOrParts : (t : ℕ → PlainShard) (here there : List FeedDone) (r q : Reply) (now other_now : Option D) (b d : CursorState) → Type 0
  FedOrParts t here there r q now other_now b d = IsFedSame t here there r q now other_now b d ⊎ (FeedsPickTwo here there ⊎ (WantsMemory here ⊎ WantsMemory there))

  no-feeds : (feed : FeedDone) (feeds : List FeedDone) → feed ∷ feeds ≡ [] → ⊥
  no-feeds feed feeds is = let clash : ◌≡◌ {A = List FeedDone} (feed ∷ feeds) [] = is in cc

  -- over no device
  fed-none : (t : ℕ → PlainShard) (here there : List FeedDone) (r q : Reply) (now other_now : Option D) (a b c d : CursorState) → AreFedReplies {D = D} None (ops.Feed ∷ []) here (r ∷ []) → AreFedReplies {D = D} None (ops.Feed ∷ []) there (q ∷ [])
      → AsksOfFeeds devices here None now → AsksOfFeeds devices there None other_now → GoOn here a b → GoOn there c d → AreCursorsAlike a c → FedOrParts t here there r q now other_now b d
  fed-none t [] [] r q None None a b c d one other asks other_asks on other_on cursors =
      let same : q ∷ [] ≡ r ∷ [] = other.1 ∙ sym one.1 in
      inl (record {
        reply = cc;
        device = tt;
        many = refl;
        answers = refl;
        events = λ shard. refl;
        cursors = subst (λ (z : CursorState × CursorState). AreCursorsAlike z.0 z.1) (λ i. (sym on i, sym other_on i)) cursors;
      })
  fed-none t [] [] r q None (Some other_now) a b c d one other asks other_asks on other_on cursors = absurd other_asks
  fed-none t [] [] r q (Some now) other_now a b c d one other asks other_asks on other_on cursors = absurd asks
  fed-none t [] (fed ∷ feds) r q now other_now a b c d one other asks other_asks on other_on cursors = absurd (no-feeds fed feds other.0)
  fed-none t (feed ∷ feeds) there r q now other_now a b c d one other asks other_asks on other_on cursors = absurd (no-feeds feed feeds one.0)

  -- one feed of each device
  module _ (s t : ℕ → PlainShard) (was other_was now other_now : D) (like : AreDevicesAlike pools devices trace s (Some was) (Some other_was)) (feed fed : FeedDone) (r q : Reply) (a b c d : CursorState) (from : FedFrom g s t (feed ∷ []))
      (placed : PlacesLive g s a.ring.live) (one : r ∷ [] ≡ Fed feed.report ∷ []) (other : q ∷ [] ≡ Fed fed.report ∷ []) (asks : AsksForFeeds devices (feed ∷ []) was now) (other_asks : AsksForFeeds devices (fed ∷ []) other_was other_now)
      (fits : IsFeedHere g s feed) (other_fits : IsFeedHere g s fed) (shape : IsFeedOf g.shards feed) (other_shape : IsFeedOf g.shards fed) (on : GoOn (feed ∷ []) a b) (other_on : GoOn (fed ∷ []) c d) (cursors : AreCursorsAlike a c)
      (rows : AreAlikeSoFar (feed_answers (feed ∷ [])) (feed_answers (fed ∷ []))) where
    before : AreCursorsAlike feed.before fed.before
    before = subst (λ (z : CursorState × CursorState). AreCursorsAlike z.0 z.1) (λ i. (sym on.0 i, sym other_on.0 i)) cursors

    module _ (alike : AreFedAlike g feed fed) where
      made : MakesDeviceCalls devices feed.calls was now
      made = subst (MakesDeviceCalls devices feed.calls was) (sym asks.2) asks.1

      other_made : MakesDeviceCalls devices feed.calls other_was other_now
      other_made = subst (λ (z : List DeviceCall × D). MakesDeviceCalls devices z.0 other_was z.1) (λ i. (alike.calls i, sym other_asks.2 i)) other_asks.1

      abbrev both-tell : TellBoth devices was other_was
      both-tell = record { image = like.image; other_image = like.other_image; told = like.told; other_told = like.other_told; long = like.long }

      -- each place that a key has then stands in the ring
      live : PlacesLive g t feed.after.ring.live
      live = feed-live g s t feed from fits shape alike.plain (subst (λ (x : CursorState). PlacesLive g s x.ring.live) (sym on.0) placed)

      -- it was the key's before, or its block was written there
      was-same : (k : Key) (x : ℕ) → place_of k (t (shard_of g.shards k)) ≡ Some x → SameIn x k.size like.image like.other_image ⊎ WroteIn x k.size feed.calls
      was-same k x at = elim (acts-take g g.callers k feed.acts s (feed-may g s t feed from k) x (sym (ap (place_of k) (feed-leads g s t feed from k)) ∙ at)) [
        | inl had ↦ inl (like.places k x had)
        | inr given ↦ inr (fed-wrote 0 g.shards feed.before feed.after feed.acts feed.calls feed.report.end shape.fed k x given)
      ]

      device-same : AreDevicesAlike pools devices trace t (Some now) (Some other_now)
      device-same =
          let tell = calls-tell devices feed.calls was now other_was other_now made other_made both-tell in
          record {
            size = calls-size devices feed.calls other_was other_now other_made ∙ (like.size ∙ sym (calls-size devices feed.calls was now made));
            image = tell.image;
            other_image = tell.other_image;
            told = tell.told;
            other_told = tell.other_told;
            long = tell.long;
            places = λ k x at. calls-keep devices x k.size feed.calls was now other_was other_now made other_made
                (fed-beside 0 g.shards feed.before feed.after feed.acts feed.calls feed.report.end shape.fed k x (live k x at)) both-tell (was-same k x at) tell.image tell.other_image tell.told tell.other_told;
          }

      same-fed : IsFedSame t (feed ∷ []) (fed ∷ []) r q (Some now) (Some other_now) b d
      same-fed =
          let reports : Fed fed.report ∷ [] ≡ Fed feed.report ∷ [] = ap (λ (x : FeedReport). Fed x ∷ []) alike.used.report in
          let replies : q ∷ [] ≡ r ∷ [] = other ∙ (reports ∙ sym one) in
          record {
            reply = cc;
            device = device-same;
            many = refl;
            answers = ap (λ (x : List Call). x ++ []) alike.used.answers;
            events = λ shard. ap (λ (x : List Event). x ++ []) (told-at g g.callers shard fed.acts feed.acts alike.used.told);
            cursors = subst (λ (z : CursorState × CursorState). AreCursorsAlike z.0 z.1) (λ i. (sym on.1 i, sym other_on.1 i)) alike.cursors;
          }

    fed-one : FedOrParts t (feed ∷ []) (fed ∷ []) r q (Some now) (Some other_now) b d
    fed-one = elim (feeds-alike g s feed fed fits other_fits shape other_shape before (subst (λ (x : List Call × List Call). AreAlikeSoFar x.0 x.1) (λ i. (append-nil (answers_of feed.calls) i, append-nil (answers_of fed.calls) i)) rows)) [
      | inl alike ↦ inl (same-fed alike)
      | inr parts ↦ inr parts
    ]

  -- of each device, as the line asks
  fed-some : (s t : ℕ → PlainShard) (was other_was : D) (here there : List FeedDone) (r q : Reply) (now other_now : Option D) (a b c d : CursorState) → AreDevicesAlike pools devices trace s (Some was) (Some other_was) → FedFrom g s t here
      → PlacesLive g s a.ring.live → AreFedReplies (Some was) (ops.Feed ∷ []) here (r ∷ []) → AreFedReplies (Some other_was) (ops.Feed ∷ []) there (q ∷ []) → AsksOfFeeds devices here (Some was) now → AsksOfFeeds devices there (Some other_was) other_now
      → AllByRecursion (IsFeedHere g s) here → AllByRecursion (IsFeedHere g s) there → AllByRecursion (IsFeedOf g.shards) here → AllByRecursion (IsFeedOf g.shards) there → GoOn here a b → GoOn there c d → AreCursorsAlike a c → AreAlikeSoFar (feed_answers here) (feed_answers there)
      → FedOrParts t here there r q now other_now b d
  fed-some s t was other_was (feed ∷ []) (fed ∷ []) r q (Some now) (Some other_now) a b c d like from placed one other asks other_asks fits other_fits shapes other_shapes on other_on cursors rows =
      fed-one s t was other_was now other_now like feed fed r q a b c d from placed one.1 other.1 asks other_asks fits.0 other_fits.0 shapes.0 other_shapes.0 on other_on cursors rows
  fed-some s t was other_was (feed ∷ []) (fed ∷ []) r q (Some now) None a b c d like from placed one other asks other_asks fits other_fits shapes other_shapes on other_on cursors rows = absurd other_asks
  fed-some s t was other_was (feed ∷ []) (fed ∷ []) r q None other_now a b c d like from placed one other asks other_asks fits other_fits shapes other_shapes on other_on cursors rows = absurd asks
  fed-some s t was other_was (feed ∷ []) [] r q now other_now a b c d like from placed one other asks other_asks fits other_fits shapes other_shapes on other_on cursors rows = let many = other.0 in absurd (omega (arith, many))
  fed-some s t was other_was (feed ∷ []) (fed ∷ more ∷ feds) r q now other_now a b c d like from placed one other asks other_asks fits other_fits shapes other_shapes on other_on cursors rows = let many = other.0 in absurd (omega (arith, many))
  fed-some s t was other_was [] there r q now other_now a b c d like from placed one other asks other_asks fits other_fits shapes other_shapes on other_on cursors rows = let many = one.0 in absurd (omega (arith, many))
  fed-some s t was other_was (feed ∷ more ∷ feeds) there r q now other_now a b c d like from placed one other asks other_asks fits other_fits shapes other_shapes on other_on cursors rows = let many = one.0 in absurd (omega (arith, many))

  fed-any : (s t : ℕ → PlainShard) (was other_was : Option D) (here there : List FeedDone) (r q : Reply) (now other_now : Option D) (a b c d : CursorState) → AreDevicesAlike pools devices trace s was other_was → FedFrom g s t here
      → PlacesLive g s a.ring.live → AreFedReplies was (ops.Feed ∷ []) here (r ∷ []) → AreFedReplies other_was (ops.Feed ∷ []) there (q ∷ []) → AsksOfFeeds devices here was now → AsksOfFeeds devices there other_was other_now
      → AllByRecursion (IsFeedHere g s) here → AllByRecursion (IsFeedHere g s) there → AllByRecursion (IsFeedOf g.shards) here → AllByRecursion (IsFeedOf g.shards) there → GoOn here a b → GoOn there c d → AreCursorsAlike a c → AreAlikeSoFar (feed_answers here) (feed_answers there)
      → FedOrParts t here there r q now other_now b d
  fed-any s t None None here there r q now other_now a b c d like from placed one other asks other_asks fits other_fits shapes other_shapes on other_on cursors rows = fed-none t here there r q now other_now a b c d one other asks other_asks on other_on cursors
  fed-any s t None (Some other_was) here there r q now other_now a b c d like from placed one other asks other_asks fits other_fits shapes other_shapes on other_on cursors rows = absurd like
  fed-any s t (Some was) None here there r q now other_now a b c d like from placed one other asks other_asks fits other_fits shapes other_shapes on other_on cursors rows = absurd like
  fed-any s t (Some was) (Some other_was) here there r q now other_now a b c d like from placed one other asks other_asks fits other_fits shapes other_shapes on other_on cursors rows =
      fed-some s t was other_was here there r q now other_now a b c d like from placed one other asks other_asks fits other_fits shapes other_shapes on other_on cursors rows

  fed-then : (r q : Reply) (here there : List FeedDone) (from to other other_to : BetweenLines P D) → DoesFeed pools devices trace r here from to → DoesFeed pools devices trace q there other other_to → AreAlike pools devices trace from other
      → (b d : CursorState) → IsFedSame (shard_behind g to.shards) here there r q to.device other_to.device b d → AreAlike pools devices trace to other_to
  fed-then r q here there from to other other_to did other_did like b d same =
      let es : ℕ → List Event = λ shard. events_of_made g shard here in
      let fs : ℕ → List Event = λ shard. events_of_made g shard there in
      record {
        image = like.image;
        told = ap (λ (o : BetweenGroups P). pools.told o.pool) did.pool ∙ like.told;
        other_told = ap (λ (o : BetweenGroups P). pools.told o.pool) other_did.pool ∙ like.other_told;
        group = ap (λ (o : BetweenGroups P). o.group) other_did.pool ∙ (like.group ∙ sym (ap (λ (o : BetweenGroups P). o.group) did.pool));
        next = ap (λ (o : BetweenGroups P). o.next) other_did.pool ∙ (like.next ∙ sym (ap (λ (o : BetweenGroups P). o.next) did.pool));
        device = same.device;
        shards = λ shard. goes-shard g es fs [] [] from to other other_to did.goes_on other_did.goes_on shard (like.shards shard) (same.events shard);
        cells = λ i is_cell. goes-cell g es fs [] [] from to other other_to did.goes_on other_did.goes_on i is_cell (like.cells i is_cell) refl;
        kept = other_did.kept ∙ (like.kept ∙ sym did.kept);
      }

  abbrev pub fed_line : Reply → Work → Line
  fed_line r v = record { op = ops.Feed; reply = r; work = v }

  -- the next feed finds the same ring, too
  pub feed-step : (r q : Reply) (v w : Work) (here there : List FeedDone) (from to other other_to : BetweenLines P D) (did : DoesFeed pools devices trace r here from to) (other_did : DoesFeed pools devices trace q there other other_to)
      → v ≡ no_work → w ≡ no_work → IsConfig g → AreLegalShards trace to.shards → AreAlike pools devices trace from other → (a b c d : CursorState) → GoOn here a b → GoOn there c d → AllByRecursion (IsFeedOf g.shards) here → AllByRecursion (IsFeedOf g.shards) there → AreCursorsAlike a c
      → PlacesLive g (shard_behind g from.shards) a.ring.live → AreAlikeSoFar (feed_answers here) (feed_answers there)
      → (StepAlike pools devices trace (fed_line r v) (fed_line q w) here there from to other other_to did other_did × AreCursorsAlike b d) ⊎ PartsAt pools devices trace from.cells (fed_line r v) (fed_line q w) here there
  feed-step r q v w here there from to other other_to did other_did none other_none valid legal like a b c d on other_on shapes other_shapes cursors placed rows =
      let fits : AllByRecursion (IsFeedHere g (shard_behind g from.shards)) there =
      subst (λ (s : ℕ → PlainShard). AllByRecursion (IsFeedHere g s) there) (λ i shard. same-shard pools devices trace from other like shard i) other_did.here in
      let fed = fed-any (shard_behind g from.shards) (shard_behind g to.shards) from.device other.device here there r q to.device other_to.device a b c d like.device (line-fed pools devices trace valid r here from to did legal) placed
      did.answered other_did.answered did.asked other_did.asked did.here fits shapes other_shapes on other_on cursors rows in
      elim fed [
        | inl same ↦ inl (
          record {
            then = fed-then r q here there from to other other_to did other_did like b d same;
            reply = same.reply;
            pool = λ i. pool_answers_to (fed_line (same.reply i) ((other_none ∙ sym none) i));
            device = same.answers;
            many = same.many;
          },
          same.cursors,
        )
        | inr parts ↦ (elim parts [
          | inl two ↦ inr (picks two)
          | inr wants ↦ inr (memory wants)
        ])
      ]
