-- What one feed did.
use Rattle.std.specs.Prelude.{◌≡◌, ◌≢◌, List}
use Rattle.vdev_io.specs.declared.device.CacheDev.{Ghosts}
use Rattle.vdev_io.specs.Calls.{DeviceCall, MakesDeviceCalls}
use Rattle.arc_core.specs.declared.config.Config.{Config}
use Rattle.turn_table.specs.Places.{Place}
use Rattle.arc_table.specs.declared.view.Known.{Known}
use Rattle.arc_table.specs.Items.{Meanings}
use Rattle.arc_table.specs.Seen.{HasAll}
use Rattle.l2_dev.specs.declared.report.FeedReport.{FeedReport}
use Rattle.l2_dev.specs.declared.report.FeedStop.TheVariants as stop
use Rattle.l2_dev.specs.Cursor.{CursorState}
use Rattle.l2_feed.specs.Acts.{Act, DoesActs}
use Rattle.l2_feed.specs.Places.{GivesAgain, KeepsNewest, KeepsPlaces, TakesOwn}
use Rattle.l2_feed.specs.Told.{AreTold}
use Rattle.l2_feed.specs.Alone.{AreAlone, shards_seen}
use Rattle.l2_feed.specs.Plain.{IsPlainFeed}
use Rattle.l2_feed.specs.Shape.{AreFed, NoneRefused}
use Rattle.l2_feed.specs.Sums.{IsSummary}

-- The party p did these acts, one after another, and is q; the device, which had the one cursor and has the other, was asked for these calls, one after
-- another, and for nothing else. Both are those of shard by shard, up to the one where the feed ended, and the report is that of the acts. They stand in
-- what the party has seen of the shards, and where a key was given a place its block was written there. Where it has every number, the acts are what the
-- shards say and it has seen nothing else; and where memory was refused for none of them, the feed is the plain one. It holds the turns that it held, and
-- keeps the parties that it joined. A place that the feed found or gave, and that the key has, is live for it still, and is the newest one still where it
-- was. None was taken but such, and one that was taken is live again only behind a new pick.
pub record HasFed {C D : Type 0} (m : Meanings C) (g : Config) (device : Ghosts D) (was now : D) (old new : CursorState) (p q : Place (Known C)) (report : FeedReport) : Type 0 where
  pub acts : List Act
  pub calls : List DeviceCall
  pub did : DoesActs m g acts p q
  pub told : AreTold g calls acts p q
  pub alone : HasAll p → AreAlone g acts p q
  pub held : q.held ≡ p.held
  pub joined : q.joined ≡ p.joined
  pub made : MakesDeviceCalls device calls was now
  pub fed : AreFed 0 g.shards old new acts calls report.end
  pub plain : HasAll p → report.end ≢ stop.NoMemory → NoneRefused acts → IsPlainFeed g p.number (shards_seen g p) old.ring new.ring acts calls report
  pub sums : IsSummary acts report
  pub kept : KeepsPlaces g acts old.ring.live new.ring.live q
  pub newest : KeepsNewest g acts old.ring.live new.ring.live q
  pub own : TakesOwn acts old.ring.live
  pub again : GivesAgain acts new.ring.live
