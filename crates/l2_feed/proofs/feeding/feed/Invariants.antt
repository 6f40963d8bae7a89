use Rattle.std.proofs.Common.{◌≡◌, ◌<◌, ◌≤◌, List, vec_len}
use Rattle.vdev_io.specs.Calls.{DeviceCall, MakesDeviceCalls}
use Rattle.l2_dev.specs.declared.report.FeedStop.TheVariants as stop
use Rattle.l2_feed.specs.Acts.{Act, DoesActs}
use Rattle.l2_ring.specs.Ring.{last_lap}
use Rattle.l2_feed.specs.Crashes.{KeepsOwn}
use Rattle.l2_feed.specs.Ready.{IsDeviceReady, IsFeederReady}
use Rattle.l2_feed.specs.Shape.{AreFed}
use Rattle.l2_feed.specs.Sums.{HasRoom, IsSummary}
use Rattle.l2_feed.proofs.feeding.feed.Given as goal

abbrev pub invariant-loop-shard : goal.invariant-loop-shard
invariant-loop-shard g l = record {
  feeder : IsFeederReady l.arcs l.party;
  device : IsDeviceReady l.arcs.config (g.D.CacheDev.size l.l2.dev) l.l2.cursor;
  size : g.D.CacheDev.size l.l2.dev ≡ g.D.CacheDev.size l.fn.l2.dev;
  faults : g.D.CacheDev.faults l.fn.l2.dev ≤ g.D.CacheDev.faults l.l2.dev;
  crash : l.l2.cursor.ring.lap < last_lap → KeepsOwn g.D.CacheDev.told g.D.CacheDev.has_sectors g.D.CacheDev.may_leave l.fn.l2.dev l.l2.dev l.fn.l2.cursor l.l2.cursor;
  room : HasRoom l.shard (vec_len l.dropped) l.report;
  end : l.report.end ≡ stop.Done;
  few : l.shard ≤ l.arcs.config.shards;
  fed : (acts : List Act) × (calls : List DeviceCall) × DoesActs g.C.Keeps l.arcs.config acts l.fn.party l.party
      × IsSummary acts l.report × MakesDeviceCalls g.D.CacheDev calls l.fn.l2.dev l.l2.dev × AreFed 0 l.shard l.fn.l2.cursor l.l2.cursor acts calls stop.Done;
}
