-- The feeds of a run, one after another: where the ring stands between them, what the feeder has seen by then, and what they leave of the cache device.
use Rattle.std.specs.Prelude.{◌≡◌, ◌≢◌, ◌<◌, ◌≤◌, ◌+◌, ◌*◌, ◌^◌, ℕ, IsTrue, List, [], ◌∷◌, ◌++◌, Option, None, Some, length, map, slice_index_or}
use Rattle.std.specs.List.{AllByRecursion}
use Rattle.blk_ptr.specs.declared.key.Key.{Key}
use Rattle.blk_ptr.specs.Hash.{shard_of}
use Rattle.vdev_io.specs.declared.device.CacheDev.{Ghosts}
use Rattle.vdev_io.specs.Device.{LeavesOnly}
use Rattle.arc_core.specs.declared.config.Config.{Config}
use Rattle.arc_core.specs.declared.event.Event.{Event}
use Rattle.arc_core.specs.declared.served.Restored.{Restored}
use Rattle.arc_core.specs.Operations.{Moment, moments, own_events, own_moments}
use Rattle.arc_core.specs.PlainShard.{place_of}
use Rattle.arc_core.specs.Replay.{replay}
use Rattle.turn_table.specs.Places.{Place}
use Rattle.arc_table.specs.declared.view.Known.{Known}
use Rattle.arc_table.specs.Cache.{Cache}
use Rattle.arc_table.specs.Fronts.{StartsWith}
use Rattle.arc_table.specs.Items.{Meanings}
use Rattle.arc_table.specs.Seen.{seen_of}
use Rattle.arc_table.specs.Telling.{opening_of}
use Rattle.l2_ring.specs.Ring.{last_lap}
use Rattle.l2_dev.specs.declared.report.FeedReport.{FeedReport}
use Rattle.l2_dev.specs.declared.report.FeedStop.TheVariants as stop
use Rattle.l2_dev.specs.declared.stop.Stop.{Stop}
use Rattle.l2_dev.specs.declared.stop.Stop.TheVariants as stops
use Rattle.l2_dev.specs.Cursor.{CursorState}
use Rattle.l2_dev.specs.Rebuilding.{HaveKeys, IsOpened, ring_end_of}
use Rattle.l2_dev.specs.Restoring.{IsRebuilt}
use Rattle.l2_dev.specs.Starting.{IsOrderlyChain, StartKeeps}
use Rattle.l2_feed.specs.Series.{GivesNone, IsRestoredAt, WasLent, faults_in}
use Rattle.l2_feed.specs.Told.{TellActs, acts_at}
use Rattle.trace_text.specs.declared.rebuilt.Rebuilt.{Rebuilt}
use Rattle.trace_run.specs.declared.device.Device.{Device}
use Rattle.trace_run.specs.declared.device.Device.TheVariants as device
use Rattle.trace_run.specs.Feeds.{FeedDone, MadeFeed}
use Rattle.trace_run.specs.Restores.{restores_in}

-- ---- where the ring stands

-- each of these feeds goes on where the one before it left the ring
abbrev pub GoOn : List FeedDone → (old new : CursorState) → Type 0
GoOn [] old new = new ≡ old
GoOn (feed ∷ feeds) old new = (feed.before ≡ old) × GoOn feeds feed.after new

abbrev pub reports_of : List FeedDone → List FeedReport
reports_of = map (λ feed. feed.report)

-- each was done
abbrev pub AreAllDone : List FeedDone → Type 0
AreAllDone = AllByRecursion (λ feed. feed.report.end ≡ stop.Done)

-- ---- what the feeder has seen

-- Of a shard these events were seen, and now these. What came behind and has the feeder's own number gives no place.
pub record SeesMore (g : Config) (seen now : List Event) : Type 0 where
  pub rest : List Event
  pub whole : now ≡ seen ++ rest
  pub own : AllByRecursion GivesNone (own_events g.callers rest)

module _ {C D : Type 0} (m : Meanings C) (devices : Ghosts D) (cache : Cache) where
  -- between two feeds: the ring is as it was, the device was only lent, and the feeder has seen of each shard what it had and maybe more
  pub record StandsBetween (was now : D) (old new : CursorState) (p q : Place (Known C)) : Type 0 where
    pub cursor : new ≡ old
    pub lent : WasLent devices was now
    pub sees : (shard : ℕ) → shard < cache.config.shards → SeesMore cache.config (seen_of cache.config shard p) (seen_of cache.config shard q)

  -- a feed was made, behind which the feeder has seen what it had and maybe more
  pub record WasMade (feed : FeedDone) (was now : D) (p q : Place (Known C)) : Type 0 where
    pub made : MadeFeed m devices cache feed was now p q
    pub starts : (shard : ℕ) → shard < cache.config.shards → StartsWith (seen_of cache.config shard q) (seen_of cache.config shard p)

  -- these feeds were made one after another, with what others do before each and behind the last
  abbrev pub AreInTurn : List FeedDone → (was now : D) → (old new : CursorState) → (p q : Place (Known C)) → Type 0
  AreInTurn [] was now old new p q = StandsBetween was now old new p q
  AreInTurn (feed ∷ feeds) was now old new p q =
      (from to : D) × (r s : Place (Known C)) × StandsBetween was from old feed.before p r × WasMade feed from to r s × AreInTurn feeds to now feed.after new s q

  -- so it was of the device of a run; one that was not started is fed by none
  abbrev pub AreInTurnOf : List FeedDone → (old new : Device D) → (p q : Place (Known C)) → Type 0
  AreInTurnOf feeds device.None device.None p q = feeds ≡ []
  AreInTurnOf feeds (device.Short was) (device.Short now) p q = feeds ≡ []
  AreInTurnOf feeds (device.Ready was) (device.Ready now) p q = AreInTurn feeds was.dev now.dev was.cursor now.cursor p q
  AreInTurnOf feeds device.None (device.Short now) p q = ⊥
  AreInTurnOf feeds device.None (device.Ready now) p q = ⊥
  AreInTurnOf feeds (device.Short was) device.None p q = ⊥
  AreInTurnOf feeds (device.Short was) (device.Ready now) p q = ⊥
  AreInTurnOf feeds (device.Ready was) device.None p q = ⊥
  AreInTurnOf feeds (device.Ready was) (device.Short now) p q = ⊥

  -- The feeds of a run so far: the first found a feeder that had seen of each shard just that these keys were restored.
  pub record AreMadeSoFar (restored : List Restored) (feeds : List FeedDone) (old new : Device D) (q : Place (Known C)) : Type 0 where
    pub first : Place (Known C)
    pub begun : (shard : ℕ) → seen_of cache.config shard first ≡ restores_in cache.config restored shard
    pub turn : AreInTurnOf feeds old new first q

-- ---- what they wrote

-- Among these moments of the feeder in a shard are those of these feeds, one feed after another. Each place that a feed took was its key's then; and where it gave a key a place, it had written
-- the key's block there, as the entry was then.
abbrev pub TellFeeds : Config → (shard : ℕ) → List FeedDone → List Moment → Type 0
TellFeeds g shard [] ms = Unit {0}
TellFeeds g shard (feed ∷ feeds) ms =
    (others here rest : List Moment) × (ms ≡ others ++ (here ++ rest)) × TellActs g.callers feed.calls (acts_at g shard feed.acts) here × TellFeeds g shard feeds rest

-- So it is in the history of each shard.
abbrev pub AreWrittenSo : Config → List FeedDone → (histories : List (List Event)) → Type 0
AreWrittenSo g feeds histories = (shard : ℕ) → shard < g.shards → TellFeeds g shard feeds (own_moments g.callers (moments (opening_of g) (slice_index_or histories shard [])))

-- ---- what they leave

module _ {D : Type 0} (devices : Ghosts D) where
  -- a disk of sectors of which a crash leaves what a read gives, and on which the chain that a start walks, which ends so, is orderly: as this program leaves it
  pub record IsOrderlyDisk (end : ℕ) (dev : D) (why : Stop) : Type 0 where
    pub image : List ℕ
    pub sectors : IsTrue (devices.has_sectors dev)
    pub told : devices.told dev ≡ Some image
    pub crash : LeavesOnly image (devices.may_leave dev)
    pub orderly : IsOrderlyChain end image why

  -- each rebuild of what a crash leaves, if it meets no fault of the device, restores each key that has a place behind these histories, at that place
  abbrev pub RestorePlaces : Config → (end : ℕ) → D → (histories : List (List Event)) → Type 0
  RestorePlaces g end dev histories =
      (image : List ℕ) → devices.may_leave dev image → (restored : List Restored) (why : Stop) → IsRebuilt end image restored why → why ≢ stops.DevFault
      → (k : Key) (x : ℕ) → place_of k (replay (opening_of g) (slice_index_or histories (shard_of g.shards k) [])) ≡ Some x → IsRestoredAt k x restored

  -- What feeds left of a device, which was so before its start and behind it, where its ring was written from the one cursor on. Where they gave keys places they had written the keys' blocks.
  -- Its count of faults rose for each that ended with one. Where all were done, each crash restores what has a place in the end; the premise is that no lap comes to its last value.
  pub record WasFed (g : Config) (before started after : D) (first : CursorState) (why : Stop) (feeds : List FeedDone) (histories : List (List Event)) : Type 0 where
    pub last : CursorState
    pub turn : GoOn feeds first last
    pub written : AreWrittenSo g feeds histories
    pub faults : devices.faults started + length feeds < 2 ^ 64 → devices.faults started + faults_in (reports_of feeds) ≤ devices.faults after
    pub crash : IsOrderlyDisk (ring_end_of (devices.size before)) before why → AreAllDone feeds → first.ring.lap + g.shards * length feeds < last_lap → RestorePlaces g (ring_end_of (devices.size before)) after histories

  -- so it was of the device that was handed in, where it was started; else there was no feed
  abbrev pub WasFedFrom : Config → (before started after : Option D) → (first : Option CursorState) → Option Rebuilt → List FeedDone → (histories : List (List Event)) → Type 0
  WasFedFrom g before started after None rebuilt feeds histories = feeds ≡ []
  WasFedFrom g before started after (Some first) rebuilt feeds histories =
      (b s a : D) × (found : Rebuilt) × (before ≡ Some b) × (started ≡ Some s) × (after ≡ Some a) × (rebuilt ≡ Some found) × WasFed g b s a first found.stop feeds histories

  -- So it will be of these feeds of a run, which began with the one device and left the other, whatever start left that device so.
  abbrev pub LeavesFed : Config → List Restored → List FeedDone → (old new : Device D) → (histories : List (List Event)) → Type 0
  LeavesFed g restored feeds device.None device.None histories = feeds ≡ []
  LeavesFed g restored feeds (device.Short was) (device.Short now) histories = feeds ≡ []
  LeavesFed g restored feeds (device.Ready was) (device.Ready now) histories =
      (before : D) (why : Stop) → IsOpened (ring_end_of (devices.size before)) was.cursor restored → HaveKeys restored
      → StartKeeps devices.told devices.has_sectors devices.may_leave (ring_end_of (devices.size before)) before was.dev was.cursor restored why → WasFed g before was.dev now.dev was.cursor why feeds histories
  LeavesFed g restored feeds device.None (device.Short now) histories = ⊥
  LeavesFed g restored feeds device.None (device.Ready now) histories = ⊥
  LeavesFed g restored feeds (device.Short was) device.None histories = ⊥
  LeavesFed g restored feeds (device.Short was) (device.Ready now) histories = ⊥
  LeavesFed g restored feeds (device.Ready was) device.None histories = ⊥
  LeavesFed g restored feeds (device.Ready was) (device.Short now) histories = ⊥
