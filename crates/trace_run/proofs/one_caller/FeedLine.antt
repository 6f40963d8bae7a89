-- One caller's line `feed`: it is the feed of the shards as they were between the lines, and the parties stand level behind it.
use Rattle.std.proofs.Common.{◌≡◌, ℕ, ◌≤◌, List, [], ◌∷◌, ◌++◌, length, Ok, refl, sym, ap, ◌∙◌, subst, arith, append-nil}
use Rattle.std.specs.Prelude.{Option}
use Rattle.std.specs.List.{AllByRecursion}
use Rattle.vdev_io.specs.declared.device.CacheDev.{Ghosts as Devices}
use Rattle.vdev_io.specs.declared.pool.Pool.{Ghosts}
use Rattle.vdev_io.specs.Calls.{DeviceCall}
use Rattle.arc_core.specs.declared.config.Config.{Config}
use Rattle.arc_core.specs.declared.event.Event.{Event}
use Rattle.turn_table.specs.Places.{Place}
use Rattle.arc_table.specs.declared.view.Known.{Known}
use Rattle.arc_table.specs.Cache.{Cache}
use Rattle.arc_table.specs.Items.{Meanings}
use Rattle.arc_table.specs.Seen.{HasAll, seen_of}
use Rattle.dbuf_cells.specs.Turns.{OnHeap, dbuf_meanings}
use Rattle.l2_dev.specs.Cursor.{CursorState}
use Rattle.l2_feed.specs.Acts.{Act}
use Rattle.l2_feed.specs.Alone.{AreOfShards, shards_seen}
use Rattle.l2_feed.specs.Plain.{IsPlainFeed}
use Rattle.l2_feed.specs.Shape.{NoneRefused}
use Rattle.trace_text.specs.declared.op.Op.TheVariants as ops
use Rattle.trace_text.specs.declared.reply.Reply.{Reply}
use Rattle.trace_text.specs.declared.trace.Trace.{Trace}
use Rattle.trace_run.specs.declared.device.Device.{Device}
use Rattle.trace_run.specs.declared.device.Device.TheVariants as device
use Rattle.trace_run.specs.declared.groups.Crew.{Crew}
use Rattle.trace_run.specs.Devices.{lent_in}
use Rattle.trace_run.specs.FeedEvents.{FedJoined, events_of_made}
use Rattle.trace_run.specs.Feeds.{AreFedReplies, AsksOfFeeds, FeedDone, IsIdleFeeder, MadeFeeds, MadeFeedsOf}
use Rattle.trace_run.specs.dbufs.Objects.{no_work}
use Rattle.trace_run.specs.callers.Together.{BetweenGroups}
use Rattle.trace_run.specs.one_caller.InTurn.{DidFeed, GoInSequence, IsOfTrace, StandAt}
use Rattle.trace_run.specs.one_caller.Sequence.{BetweenLines, DoesFeed, IsFeedHere, shard_behind}
use Rattle.trace_run.proofs.feeds.FedLemmas.{asks-of}
use Rattle.trace_run.proofs.feeds.FeedLemmas.{few-fed}
use Rattle.trace_run.proofs.one_caller.StandLemmas.{front-there, stand-behind}

-- ---- a feed by a party that has every number

module _ {C D : Type 0} (m : Meanings C) (devices : Devices D) (cache : Cache) where
  -- one feed is that of the shards as the party has seen them
  feeds-here : (fs : List FeedDone) (was now : D) (old new : CursorState) (p q : Place (Known C)) → length fs ≤ 1 → p.number ≡ cache.config.callers → HasAll p → MadeFeeds m devices cache fs was now old new p q
      → AllByRecursion (IsFeedHere cache.config (shards_seen cache.config p)) fs
  feeds-here [] was now old new p q few number all made = tt
  feeds-here (f ∷ []) was now old new p q few number all made =
      let one = made.3 in (
        record {
          of_shards = subst (λ (x : ℕ × List Act). AreOfShards cache.config x.0 (shards_seen cache.config p) x.1) (λ i. (number i, one.acts i)) (one.made.fed.alone all).of_shards;
          plain = λ end none.
              subst (λ (x : ℕ × List Act × List DeviceCall). IsPlainFeed cache.config x.0 (shards_seen cache.config p) f.before.ring f.after.ring x.1 x.2 f.report) (λ i. (number i, one.acts i, one.calls i))
              (one.made.fed.plain all end (subst NoneRefused (sym one.acts) none));
        },
        tt,
      )
  feeds-here (f ∷ h ∷ fs) was now old new p q few number all made = absurd (omega (arith, few))

  none-here : (fs : List FeedDone) (p : Place (Known C)) → fs ≡ [] → AllByRecursion (IsFeedHere cache.config (shards_seen cache.config p)) fs
  none-here fs p none = subst (AllByRecursion (IsFeedHere cache.config (shards_seen cache.config p))) (sym none) tt

  made-here : (fs : List FeedDone) (a b : Device D) (p q : Place (Known C)) → length fs ≤ 1 → p.number ≡ cache.config.callers → HasAll p → MadeFeedsOf m devices cache fs a b p q → AllByRecursion (IsFeedHere cache.config (shards_seen cache.config p)) fs
  made-here fs device.None device.None p q few number all made = none-here fs p made.0
  made-here fs (device.Short a) (device.Short b) p q few number all made = none-here fs p made.0
  made-here fs (device.Ready a) (device.Ready b) p q few number all made = feeds-here fs a.dev b.dev a.cursor b.cursor p q few number all made.1
  made-here fs device.None (device.Short b) p q few number all made = absurd made
  made-here fs device.None (device.Ready b) p q few number all made = absurd made
  made-here fs (device.Short a) device.None p q few number all made = absurd made
  made-here fs (device.Short a) (device.Ready b) p q few number all made = absurd made
  made-here fs (device.Ready a) device.None p q few number all made = absurd made
  made-here fs (device.Ready a) (device.Short b) p q few number all made = absurd made

-- ---- the line

module _ {P D : Type 0} (cache : Cache) (pools : Ghosts P) (devices : Devices D) (reply : Reply) (was now : Device D) (old new : Crew OnHeap) (between : BetweenGroups P)
    (done : FedJoined dbuf_meanings devices cache reply was now old.feeder old.parties.items new.feeder new.parties.items) (kept : new.kept ≡ old.kept) where
  abbrev feeds : List FeedDone
  feeds = done.fed.feeds

  module _ (trace : Trace) (of : IsOfTrace cache trace old) (at : BetweenLines P D) (device_is : at.device ≡ lent_in was) (stood : StandAt trace.config at old) where
    stands : StandAt cache.config at old
    stands = subst (λ (g : Config). StandAt g at old) (sym of.config) stood

    abbrev next : BetweenLines P D
    next = record { outside = at.outside; device = lent_in now; shards = λ shard. at.shards shard ++ events_of_made trace.config shard feeds; cells = at.cells; kept = at.kept }

    -- the feeder has seen of each shard just what was done there by then
    sees : (shard : ℕ) → seen_of cache.config shard done.joined ≡ at.shards shard
    sees shard = done.met shard ∙ front-there cache (λ i. events_of_made cache.config i feeds) old new done.made at stands shard

    does : DoesFeed pools devices trace reply feeds at next
    does = record {
      answered = subst (λ (o : Option D). AreFedReplies o (ops.Feed ∷ []) feeds (reply ∷ [])) (sym device_is) done.fed.answered;
      asked = subst (λ (o : Option D). AsksOfFeeds devices feeds o (lent_in now)) (sym device_is) (asks-of dbuf_meanings devices cache feeds was now done.joined done.worked done.fed.made);
      here = subst (λ (x : Config × (ℕ → List Event)). AllByRecursion (IsFeedHere x.0 (shard_behind x.0 x.1)) feeds) (λ i. (of.config i, λ shard. sees shard i))
          (made-here dbuf_meanings devices cache feeds was now done.joined done.worked (few-fed (lent_in was) (ops.Feed ∷ []) feeds (reply ∷ []) done.fed.answered) done.number done.all done.fed.made);
      goes_on = record { shards = λ shard. refl; cells = λ i in_range. sym (append-nil (at.cells i)) };
      pool = refl;
      kept = refl;
    }

    stands-behind : StandAt trace.config next new
    stands-behind = subst (λ (g : Config). StandAt g next new) of.config
        (stand-behind cache (λ shard. events_of_made cache.config shard feeds) old new done.made at stands next (λ shard. ap (λ (g : Config). at.shards shard ++ events_of_made g shard feeds) (sym of.config)) (λ i in_range. refl) refl
        (ap (λ v. v.items) kept))

  sequence : (trace : Trace) → IsOfTrace cache trace old → GoInSequence pools devices trace (record { op = ops.Feed; reply = reply; work = no_work } ∷ []) feeds between between (lent_in was) (lent_in now) old new
  sequence trace of at pool device_is stood = (
    next trace of at device_is stood,
    pool,
    refl,
    stands-behind trace of at device_is stood,
    (next trace of at device_is stood, feeds, [], sym (append-nil feeds), does trace of at device_is stood, (refl, refl)),
  )

  pub did-feed : IsIdleFeeder cache old.feeder → DidFeed cache pools devices between between was now old new (Ok reply)
  did-feed idle = record {
    reply = reply;
    answer = refl;
    joined = done.joined;
    worked = done.worked;
    fed = done.fed;
    made = done.made;
    met = done.met;
    parted = done.parted;
    again = record { number = done.made.number ∙ idle.number; alone = done.made.alone; stands = done.made.stands; settled = done.made.settled idle.number idle.settled };
    kept = ap (λ v. v.items) kept;
    stays = refl;
    sequence = sequence;
  }
