-- The feeds of a run: what each did with the cache and with the cache device, and how the lines `feed` are answered.
use Rattle.std.specs.Prelude.{◌≡◌, ◌≤◌, ℕ, Bool, true, false, List, [], ◌∷◌, Option, None, Some, length, map}
use Rattle.vdev_io.specs.declared.device.CacheDev.{Ghosts}
use Rattle.vdev_io.specs.Calls.{DeviceCall, MakesDeviceCalls}
use Rattle.arc_core.specs.declared.config.Config.{Config}
use Rattle.arc_core.specs.declared.served.Restored.{Restored}
use Rattle.turn_table.specs.Places.{Place}
use Rattle.arc_table.specs.declared.view.Known.{Known}
use Rattle.arc_table.specs.Cache.{Cache}
use Rattle.arc_table.specs.Items.{Meanings}
use Rattle.arc_table.specs.feeder.Listing.{picks_of}
use Rattle.l2_dev.specs.declared.report.FeedReport.{FeedReport}
use Rattle.l2_dev.specs.Cursor.{CursorState}
use Rattle.l2_dev.specs.Rebuilding.{IsOpened, ring_end_of}
use Rattle.l2_feed.specs.Acts.{Act}
use Rattle.l2_feed.specs.Ready.{IsDeviceReady}
use Rattle.l2_feed.specs.Series.{IsFeed}
use Rattle.l2_feed.specs.Shape.{AreFed}
use Rattle.l2_feed.specs.Sums.{IsSummary}
use Rattle.trace_text.specs.declared.op.Op.{Op}
use Rattle.trace_text.specs.declared.op.Op.TheVariants as ops
use Rattle.trace_text.specs.declared.reply.Reply.{Reply}
use Rattle.trace_text.specs.declared.reply.Reply.TheVariants.{Fed, FedNone}
use Rattle.trace_run.specs.declared.device.Device.{Device}
use Rattle.trace_run.specs.declared.device.Device.TheVariants as device
use Rattle.trace_run.specs.Devices.{lent_in}
use Rattle.trace_run.specs.KeptBlocks.{Stands}

-- the line asks for a feed
abbrev pub is_feed : Op → Bool
is_feed (ops.Read n t x window) = false
is_feed (ops.Hold n t x) = false
is_feed (ops.Drop n x) = false
is_feed (ops.Get n t at window) = false
is_feed (ops.Put n t at size fill) = false
is_feed (ops.Patch n t at from bytes) = false
is_feed (ops.Pin n t at) = false
is_feed (ops.Unpin n at) = false
is_feed ops.Feed = true
is_feed (ops.Txg t) = false
is_feed (ops.Cap c) = false

-- a feed that was made: what it did with the cache, the calls of the device that it made, where the device was written before and behind it, and its report
pub record FeedDone : Type 0 where
  pub acts : List Act
  pub calls : List DeviceCall
  pub before : CursorState
  pub after : CursorState
  pub report : FeedReport

-- its acts and its calls are those of a feed of so many shards, shard by shard, and its report is that of the acts
pub record IsFeedOf (shards : ℕ) (feed : FeedDone) : Type 0 where
  pub fed : AreFed 0 shards feed.before feed.after feed.acts feed.calls feed.report.end
  pub sums : IsSummary feed.acts feed.report

-- The replies to these lines `feed`: one for each feed, with its report; and where there is no device there is no feed, and each line is told so.
abbrev pub AreFedReplies : {D : Type 0} → Option D → List Op → List FeedDone → List Reply → Type 0
AreFedReplies None lines feeds replies = (feeds ≡ []) × (replies ≡ map (λ line. FedNone) lines)
AreFedReplies (Some device) lines feeds replies = (length feeds ≡ length lines) × (replies ≡ map (λ feed. Fed feed.report) feeds)

module _ {D : Type 0} (devices : Ghosts D) where
  -- the device may be fed, where it was started
  abbrev pub MayBeFed : Config → Device D → Type 0
  MayBeFed g device.None = Unit {0}
  MayBeFed g (device.Short dev) = Unit {0}
  MayBeFed g (device.Ready l2) = IsDeviceReady g (devices.size l2.dev) l2.cursor

  -- a device of so many bytes that was started is written from where the start has found it, and these keys are live
  abbrev pub IsOpenedAt : (size : ℕ) → Device D → List Restored → Type 0
  IsOpenedAt size device.None restored = Unit {0}
  IsOpenedAt size (device.Short dev) restored = Unit {0}
  IsOpenedAt size (device.Ready l2) restored = IsOpened (ring_end_of size) l2.cursor restored × (devices.size l2.dev ≡ size)

  -- the device was asked for the calls of these feeds, one after another, and for nothing else
  abbrev pub AsksForFeeds : List FeedDone → (was now : D) → Type 0
  AsksForFeeds [] was now = now ≡ was
  AsksForFeeds (feed ∷ feeds) was now = (next : D) × MakesDeviceCalls devices feed.calls was next × AsksForFeeds feeds next now

  -- so it was, where there is a device
  abbrev pub AsksOfFeeds : List FeedDone → (was now : Option D) → Type 0
  AsksOfFeeds feeds None None = feeds ≡ []
  AsksOfFeeds feeds None (Some now) = ⊥
  AsksOfFeeds feeds (Some was) None = ⊥
  AsksOfFeeds feeds (Some was) (Some now) = AsksForFeeds feeds was now

-- The feeder's party between its lines: it keeps nothing, and has settled all that it picked. Others may have joined it.
pub record IsSettledFeeder {C : Type 0} (cache : Cache) (p : Place (Known C)) : Type 0 where
  pub number : p.number ≡ cache.config.callers
  pub stands : Stands cache p []
  pub settled : (i : ℕ) → picks_of i p ≡ []

-- so it is, and no other has joined it
pub record IsIdleFeeder {C : Type 0} (cache : Cache) (p : Place (Known C)) : Type 0 where
  pub number : p.number ≡ cache.config.callers
  pub alone : p.joined ≡ []
  pub stands : Stands cache p []
  pub settled : (i : ℕ) → picks_of i p ≡ []

module _ {C D : Type 0} (m : Meanings C) (devices : Ghosts D) (cache : Cache) where
  -- this feed was made: the feeder's party was p, and is q
  pub record MadeFeed (feed : FeedDone) (was now : D) (p q : Place (Known C)) : Type 0 where
    pub made : IsFeed m devices cache was now feed.before feed.after p q feed.report
    pub acts : made.fed.acts ≡ feed.acts
    pub calls : made.fed.calls ≡ feed.calls

  -- these were, one after another, and nothing else was done with the device or by the party meanwhile
  abbrev pub MadeFeeds : List FeedDone → (was now : D) → (old new : CursorState) → (p q : Place (Known C)) → Type 0
  MadeFeeds [] was now old new p q = (now ≡ was) × (new ≡ old) × (q ≡ p)
  MadeFeeds (feed ∷ feeds) was now old new p q = (next : D) × (r : Place (Known C)) × (feed.before ≡ old) × MadeFeed feed was next p r × MadeFeeds feeds next now feed.after new r q

  -- so it was of the device of a run; one that was not started is as it was, and so is the party then
  abbrev pub MadeFeedsOf : List FeedDone → (old new : Device D) → (p q : Place (Known C)) → Type 0
  MadeFeedsOf feeds device.None device.None p q = (feeds ≡ []) × (q ≡ p)
  MadeFeedsOf feeds (device.Short was) (device.Short now) p q = (feeds ≡ []) × (now ≡ was) × (q ≡ p)
  MadeFeedsOf feeds (device.Ready was) (device.Ready now) p q = (feeds ≡ [] → now ≡ was) × MadeFeeds feeds was.dev now.dev was.cursor now.cursor p q
  MadeFeedsOf feeds _ _ p q = ⊥

  -- The feeder tried these lines `feed`, and made no more feeds than there are lines.
  pub record TriesFeeds (lines : List Op) (old new : Device D) (p q : Place (Known C)) : Type 0 where
    pub feeds : List FeedDone
    pub few : length feeds ≤ length lines
    pub made : MadeFeedsOf feeds old new p q

  -- It did them, and they were answered so.
  pub record DoesFeeds (lines : List Op) (replies : List Reply) (old new : Device D) (p q : Place (Known C)) : Type 0 where
    pub feeds : List FeedDone
    pub answered : AreFedReplies (lent_in old) lines feeds replies
    pub made : MadeFeedsOf feeds old new p q
