use Rattle.std.proofs.Common.{take}
use Rattle.std.specs.Prelude.{filter}
use Rattle.trace_run.specs.Feeds.{DoesFeeds, IsIdleFeeder, MayBeFed, is_feed}
use Rattle.trace_run.proofs.feeder.feed_lines.Given as goal

abbrev pub invariant-loop-op : goal.invariant-loop-op
invariant-loop-op g l = record {
  feeder : IsIdleFeeder l.arcs l.party;
  device : MayBeFed g.D.CacheDev l.arcs.config l.device;
  done : DoesFeeds g.C.Keeps g.D.CacheDev l.arcs (filter is_feed (take l.op-index l.ops)) l.replies.items l.fn.device l.device l.fn.party l.party;
}
