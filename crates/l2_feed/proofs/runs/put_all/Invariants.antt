use Rattle.std.proofs.Common.{◌≡◌, ◌≤◌}
use Rattle.l2_feed.specs.Crashes.{KeepsOwn}
use Rattle.l2_feed.proofs.Asking.{PutsAsked}
use Rattle.l2_feed.proofs.Writing.{PutSo}
use Rattle.l2_feed.proofs.runs.put_all.Given as goal

abbrev pub invariant-loop-picked : goal.invariant-loop-picked
invariant-loop-picked g l = record {
  size : g.D.CacheDev.size l.l2.dev ≡ g.D.CacheDev.size l.fn.l2.dev;
  faults : g.D.CacheDev.faults l.fn.l2.dev ≤ g.D.CacheDev.faults l.l2.dev;
  asks : PutsAsked g.D.CacheDev l.run l.picked-index l.fn.l2.cursor l.l2.cursor l.fn.l2.dev l.l2.dev;
  crash : KeepsOwn g.D.CacheDev.told g.D.CacheDev.has_sectors g.D.CacheDev.may_leave l.fn.l2.dev l.l2.dev l.fn.l2.cursor l.l2.cursor;
  so : PutSo l.run l.picked-index l.fn.l2.cursor l.l2.cursor;
}
